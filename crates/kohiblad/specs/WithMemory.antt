-- The results of calls that need memory for the work, as C receives them.
use Rattle.std.specs.Prelude.{◌≡◌, ◌⊎◌, ⊤, ℕ, List, Result, Ok, Err}
use Rattle.jsonb_value.specs.declared.error.Error.{Error}
use Rattle.jsonb_value.specs.declared.error.Error.TheVariants.{InvalidJsonb, OutOfMemory}
use Rattle.jsonb_value.specs.Meaning.{Meaning, document}
use Rattle.jsonb_value.specs.Tree.{Tree}
use Rattle.jsonb_codec.specs.Canon.{canon, Fits}
use Rattle.jsonb_functions.specs.ArraySets.{overlaps}
use Rattle.kohiblad.specs.Scalars.{no_truth, truth_answer}
use Rattle.kohiblad.specs.Status.{code}
use Rattle.kohiblad.specs.declared.scalar.KohibladTruth.{KohibladTruth}

-- The result of writing a tree: its canonical document, or why there is none. `OutOfMemory` leaves
-- open whether there is one.
abbrev pub WritesWithMemory : Tree → Result (List ℕ) Error → Type 0
WritesWithMemory t (Ok answer) = Fits t × (answer ≡ canon t)
WritesWithMemory t (Err InvalidJsonb) = Fits t → ⊥
WritesWithMemory t (Err OutOfMemory) = ⊤
WritesWithMemory t (Err e) = ⊥

-- Whether two arrays have an item that is equal, or there is not enough memory; bytes that are not
-- a document are refused.
abbrev pub IsOverlapAnswer : Meaning → Meaning → KohibladTruth → Type 0
IsOverlapAnswer (document t) (document u) answer =
    (answer ≡ truth_answer (overlaps t u)) ⊎ (answer ≡ no_truth (code OutOfMemory))
IsOverlapAnswer m n answer = answer ≡ no_truth (code InvalidJsonb)
