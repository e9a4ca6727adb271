-- Numbers by their digits in a base, the lowest digit first.
use Rattle.std.specs.Prelude.{ℕ, zero, suc, ◌+◌, ◌*◌, ◌/◌, ◌%◌, List, [], ◌∷◌}

-- The number with these digits in the base.
abbrev pub number : ℕ → List ℕ → ℕ
number base [] = 0
number base (digit ∷ digits) = digit + base * number base digits

-- The lowest digits of a number in the base, so many.
abbrev pub digits : ℕ → ℕ → ℕ → List ℕ
digits base zero n = []
digits base (suc count) n = n % base ∷ digits base count (n / base)
