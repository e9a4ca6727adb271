-- Chaining steps that may fail.
use Rattle.std.specs.Prelude.{Result, Ok, Err}
use Rattle.jsonb_value.specs.declared.error.Error.{Error}

-- The second step applied to the result of the first, or the error of the first.
infixl 10 ◌>>=◌
abbrev pub ◌>>=◌ : {A B : Type 0} → Result A Error → (A → Result B Error) → Result B Error
Ok x >>= f = f x
Err e >>= f = Err e
