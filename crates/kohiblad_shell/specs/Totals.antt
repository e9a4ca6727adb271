-- Sums of numbers, exact over decimals.
use Rattle.std.specs.Prelude.{List, [], ◌∷◌, Option, None, Some, Result, Ok, Err}
use Rattle.jsonb_value.specs.declared.number.Number.{Number}
use Rattle.jsonb_value.specs.declared.number.Number.TheVariants.{UInt64}
use Rattle.jsonb_value.specs.Order.{fraction_of}
use Rattle.jsonb_path.specs.Arithmetic.{number_within, sum}
use Rattle.jsonb_path.specs.declared.number.NumberError.{NumberError}
use Rattle.kohiblad_shell.specs.declared.total.Total.{Total}
use Rattle.kohiblad_shell.specs.declared.total.Total.TheVariants.{Exact, OutOfRange}

-- A sum, or that it is out of range.
abbrev pub total_of : Result Number NumberError → Total
total_of (Ok n) = Exact n
total_of (Err e) = OutOfRange

-- The sum of no numbers.
abbrev pub no_total : Total
no_total = Exact (UInt64 0)

-- A sum with one more number, if there is one.
abbrev pub with_amount : Total → Option Number → Total
with_amount (Exact n) (Some m) = total_of (number_within (sum (fraction_of n) (fraction_of m)))
with_amount (Exact n) None = Exact n
with_amount OutOfRange amount = OutOfRange

-- Sums with one more number each, if there is one.
abbrev pub with_amounts : List Total → List (Option Number) → List Total
with_amounts ts [] = ts
with_amounts [] (a ∷ amounts) = []
with_amounts (t ∷ ts) (a ∷ amounts) = with_amount t a ∷ with_amounts ts amounts
