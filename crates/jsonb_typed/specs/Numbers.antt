-- Which number a value of a column is.
use Rattle.std.specs.Prelude.{◌≡◌, ℕ, ℤ, Some}
use Rattle.std.specs.declared.cmp.Ordering.TheVariants.{Equal}
use Rattle.jsonb_value.specs.declared.number.Number.{Number}
use Rattle.jsonb_value.specs.Fraction.{fraction_cmp}
use Rattle.jsonb_value.specs.Json.Numeral.{number_of}
use Rattle.jsonb_value.specs.Order.{fraction_of}
use Rattle.jsonb_typed.specs.declared.numbers.Fit.{Fit}
use Rattle.jsonb_typed.specs.declared.numbers.Fit.TheVariants.{Exact, ByValue}

-- The value / 10^scale is this number: with its kind and its digits, or as a number that it equals.
abbrev pub IsNumberAt : Fit → ℕ → ℤ → Number → Type 0
IsNumberAt Exact scale v x = number_of scale v ≡ Some x
IsNumberAt ByValue scale v x =
    fraction_cmp (fraction_of x) (record { value = v; scale = scale }) ≡ Equal
