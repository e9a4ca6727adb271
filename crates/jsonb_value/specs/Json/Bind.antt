-- Chaining steps that may have no result.
use Rattle.std.specs.Prelude.{Option, Some, None}

-- The second step applied to the result of the first; no result if the first has none.
infixl 10 ◌>>=◌
abbrev pub ◌>>=◌ : {A B : Type 0} → Option A → (A → Option B) → Option B
(Some x) >>= f = f x
None >>= f = None
