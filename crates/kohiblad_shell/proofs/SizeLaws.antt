-- Sizes in their units, and the digits of a number with a point.
use Rattle.std.proofs.Common.{◌≡◌, ◌+◌, ◌-◌, ◌*◌, ◌<◌, ◌^◌, inl, inr, ℕ, List, [], ◌∷◌, ◌++◌}
use Rattle.std.proofs.Common.{Option, None, Some, IfSome, arith, codes, true, false}
use Rattle.std.proofs.Common.{Bool, ◌⊎◌, lit<, SomeIff}
use Rattle.std.proofs.Math.Nat.{one-le-pow}
use Rattle.std.specs.Char.{is_ascii_digit}
use Rattle.kohiblad_shell.specs.Sizes.{EndsInLetter, HasUnit, IsCount, digits_value}

pub with_byte : (text count number : List ℕ) (factor : ℕ) → text ≡ count ++ codes "B"
    → IsCount count number factor → HasUnit text number factor
with_byte text count number factor parts is = inr (inl (count, (parts, is)))

pub without_byte : (text number : List ℕ) (factor : ℕ) → IsCount text number factor
    → HasUnit text number factor
without_byte text number factor is = inl is

pub with_binary_byte : (text count number : List ℕ) (factor : ℕ) → text ≡ count ++ codes "iB"
    → EndsInLetter count number factor → HasUnit text number factor
with_binary_byte text count number factor parts is = inr (inr (count, (parts, is)))

-- ---- a number with a point

pub power_some : (n : ℕ) → 0 < 10 ^ n
power_some n = one-le-pow n 10 (lit< tt)

pub power_is : (n : ℕ) (power : Option ℕ) → SomeIff power (10 ^ n < 2 ^ 128) (10 ^ n)
    → IfSome power (λ p. p ≡ 10 ^ n)
power_is n None above = tt
power_is n (Some p) (fits, is) = is

pub power_above_zero : (n : ℕ) (power : Option ℕ) → SomeIff power (10 ^ n < 2 ^ 128) (10 ^ n)
    → IfSome power (λ p. 0 < p)
power_above_zero n None above = tt
power_above_zero n (Some p) (fits, is) = let some = power_some n in rw is some

bool_cases : (b : Bool) → (b ≡ true) ⊎ (b ≡ false)
bool_cases b = grind arith

-- digits after digits
pub digits_join : (a b : List ℕ) (n m : ℕ) → digits_value n a ≡ Some m
    → digits_value n (a ++ b) ≡ digits_value m b
digits_join [] b n m is = grind (arith, is)
digits_join (d ∷ a) b n m is = elim (bool_cases (is_ascii_digit d)) [
  | inl is_digit ↦
      let rest : digits_value (n * 10 + (d - 48)) a ≡ Some m = grind (arith, is, is_digit) in
      let more = digits_join a b (n * 10 + (d - 48)) m rest in
      grind (arith, is_digit, more)
  | inr other ↦ absurd (grind (arith, is, other))
]
