-- Hexadecimal digits, tested one by one.
use Rattle.std.proofs.Common.{◌≡◌, ℕ, ◌+◌, ◌*◌, ◌<◌, true, List, ◌∷◌, arith, Some, None}
use Rattle.std.specs.Prelude.{if◌then◌else◌, nat_le}
use Rattle.std.specs.Char.{digit_value, is_digit}
use Rattle.std.proofs.lemmas.Bool.{lt-ltb}
use Rattle.jsonb_value.specs.Json.Bind.{◌>>=◌}
use Rattle.jsonb_path.specs.Escape.{scalar, two_digits, with_digit}

some_digit : (c : ℕ) → digit_value c < 16 → is_digit c 16 ≡ true
some_digit c is = lt-ltb (digit_value c) 16 is

pub two_digits_give : (a b : ℕ) (s : List ℕ) → digit_value a < 16 → digit_value b < 16
    → two_digits (a ∷ b ∷ s)
    ≡ (scalar (digit_value a * 16 + digit_value b) >>= λ c. Some (c, s))
unfolding two_digits
two_digits_give a b s h k = grind (arith, some_digit)

pub with_digit_gives : (u c : ℕ) → digit_value c < 16
    → with_digit u c ≡ (if nat_le (u * 16 + digit_value c) 0x10ffff
    then Some (u * 16 + digit_value c) else None)
with_digit_gives u c h = grind (arith, some_digit)
