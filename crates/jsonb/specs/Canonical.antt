-- What bringing bytes to canonical form returns.
use Rattle.std.specs.Prelude.{◌≡◌, ℕ, List, Result, Ok, Err}
use Rattle.jsonb_value.specs.declared.error.Error.{Error}
use Rattle.jsonb_value.specs.declared.error.Error.TheVariants.{InvalidJsonb, OutOfMemory}
use Rattle.jsonb_value.specs.Tree.{Tree}
use Rattle.jsonb_codec.specs.Canon.{canon, Fits}
use Rattle.jsonb_codec.specs.Doc.{Doc}

-- The result of bringing bytes to canonical form: the canonical document of the tree that they
-- mean, or why there is none. Memory is asked for only if there is one.
abbrev pub RewritesTo : List ℕ → Result (List ℕ) Error → Type 0
RewritesTo bytes (Ok answer) = (t : Tree) × (Doc bytes t × (Fits t × (answer ≡ canon t)))
RewritesTo bytes (Err InvalidJsonb) = (t : Tree) → Doc bytes t → Fits t → ⊥
RewritesTo bytes (Err OutOfMemory) = (t : Tree) × (Doc bytes t × Fits t)
RewritesTo bytes (Err e) = ⊥
