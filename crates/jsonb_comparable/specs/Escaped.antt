-- Byte strings of any length, written so that none begins another.
use Rattle.std.specs.Prelude.{ℕ, ◌+◌, List, [], ◌∷◌, cond, nat_lt}

-- The bytes and then a terminator, 1. A byte below 3 is written as 2 and one more than itself: so
-- what is written for any byte is above the terminator, and bytes keep their order.
unfoldable pub escaped : List ℕ → List ℕ
escaped [] = 1 ∷ []
escaped (b ∷ bs) = cond (nat_lt b 3) (2 ∷ (b + 1) ∷ escaped bs) (b ∷ escaped bs)
