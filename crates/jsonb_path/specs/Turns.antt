-- Steps that are taken until one is the last.
use Rattle.std.specs.Prelude.{ℕ, zero, suc}

-- A step ends with a result, or goes on from another place.
pub data Turn (X Y : Type 0) : Type 0 where
  ends_with : Y → Turn X Y
  goes_on : X → Turn X Y

abbrev pub after_turn : {X Y : Type 0} → (X → Y) → Turn X Y → Y
after_turn go (ends_with y) = y
after_turn go (goes_on x) = go x

-- The result of at most so many steps; `none` if they do not end.
abbrev pub turns : {X Y : Type 0} → (X → Turn X Y) → Y → ℕ → X → Y
turns step none zero x = none
turns step none (suc n) x = after_turn (turns step none n) (step x)
