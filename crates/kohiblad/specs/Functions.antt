-- The results of the functions over documents, as C receives them.
use Rattle.std.specs.Prelude.{◌≡◌, ◌⊎◌, ◌<◌, ◌≤◌, ◌+◌, ◌*◌, ℕ, zero, suc, true, List, length, map}
use Rattle.std.specs.Prelude.{Option, None, Some, Result, Ok, Err}
use Rattle.jsonb_value.specs.declared.error.Error.{Error}
use Rattle.jsonb_value.specs.declared.error.Error.TheVariants.{InvalidJsonb}
use Rattle.jsonb_value.specs.declared.error.Error.TheVariants.{OutOfMemory}
use Rattle.jsonb_value.specs.Meaning.{Meaning, document, other_bytes}
use Rattle.jsonb_value.specs.Tree.{Tree}
use Rattle.jsonb_codec.specs.Canon.{canon, Fits}
use Rattle.jsonb_functions.specs.Contains.{contains_whole, has_top_key}
use Rattle.jsonb_functions.specs.ContainSteps.{contains_work}
use Rattle.jsonb_functions.specs.Edited.{Operation, create, edited_whole, insert, put, remove}
use Rattle.jsonb_functions.specs.EditSource.{edit_operation}
use Rattle.kohiblad.specs.Scalars.{no_truth, truth_answer}
use Rattle.jsonb_functions.specs.StoredPath.{StepView, path_in, step_view}
use Rattle.jsonb_functions.specs.Weight.{weight}
use Rattle.jsonb_functions.specs.declared.edit.Edit.{Edit}
use Rattle.jsonb_functions.specs.declared.path.Step.{Step}
use Rattle.kohiblad.specs.Status.{code, other_kind, too_many_steps, IsHandedOver, IsOneAnswered}
use Rattle.kohiblad.specs.Status.{IsRefused}
use Rattle.kohiblad.specs.declared.scalar.KohibladTruth.{KohibladTruth}

-- Whether the first document contains the second, exactly if that takes at most so many steps,
-- which never are more than the product of the weights of both trees; or there is not enough
-- memory, where it sorts. Bytes that are not a document are refused.
abbrev pub IsContainedAnswer : ℕ → Meaning → Meaning → KohibladTruth → Type 0
IsContainedAnswer steps (document t) (document u) answer =
    ((contains_work t u).steps ≤ weight t * weight u)
    × (((answer ≡ truth_answer (contains_whole t u)) × ((contains_work t u).steps ≤ steps))
    ⊎ (((answer ≡ no_truth too_many_steps) × (steps < (contains_work t u).steps))
    ⊎ ((answer ≡ no_truth (code OutOfMemory)) × ((contains_work t u).sorts ≡ true))))
IsContainedAnswer steps m n answer = answer ≡ no_truth (code InvalidJsonb)

-- Whether the document has the key; bytes that are not a document are refused.
abbrev pub exists_answer : Meaning → List ℕ → KohibladTruth
exists_answer (document t) key = truth_answer (has_top_key key t)
exists_answer (other_bytes b) key = no_truth (code InvalidJsonb)

-- The result of writing a tree: its canonical document, or why there is none. Memory is asked for
-- only where there is one.
abbrev pub WritesTo : Tree → Result (List ℕ) Error → Type 0
WritesTo t (Ok answer) = Fits t × (answer ≡ canon t)
WritesTo t (Err InvalidJsonb) = Fits t → ⊥
WritesTo t (Err OutOfMemory) = Fits t
WritesTo t (Err e) = ⊥

-- The result of making a document of another one, by what its writer does; bytes that are not a
-- document are refused.
abbrev pub MakesOfOne : (Tree → Result (List ℕ) Error → Type 0) → (Tree → Tree) → Meaning
    → Result (List ℕ) Error → Type 0
MakesOfOne Writes f (document t) r = Writes (f t) r
MakesOfOne Writes f (other_bytes b) r = r ≡ Err InvalidJsonb

-- The result of making a document of two, by what its writer does; bytes that are not a document
-- are refused.
abbrev pub MakesOfTwo : (Tree → Result (List ℕ) Error → Type 0) → (Tree → Tree → Tree) → Meaning
    → Meaning → Result (List ℕ) Error → Type 0
MakesOfTwo Writes f (document t) (document u) r = Writes (f t u) r
MakesOfTwo Writes f m n r = r ≡ Err InvalidJsonb

-- The index keys of a document are handed over, or there is not enough memory; bytes that are not a
-- document are refused.
abbrev pub AreKeysWritten : (Tree → List ℕ) → Meaning → List ℕ → List ℕ → ℕ → ℕ → Type 0
AreKeysWritten keys (document t) before after size status =
    IsHandedOver (keys t) before after size status
    ⊎ IsRefused (code OutOfMemory) before after size status
AreKeysWritten keys (other_bytes b) before after size status =
    IsRefused (code InvalidJsonb) before after size status

-- What an edit does, by its number and the meaning of the value: 0 puts it, 1 inserts it, 2
-- removes, 3 puts it and makes what the path lacks. Or the status that refuses it.
abbrev pub operation_asked : ℕ → Meaning → Result Operation ℕ
operation_asked zero (document u) = Ok (put u)
operation_asked zero (other_bytes b) = Err (code InvalidJsonb)
operation_asked (suc zero) (document u) = Ok (insert u)
operation_asked (suc zero) (other_bytes b) = Err (code InvalidJsonb)
operation_asked (suc (suc zero)) m = Ok remove
operation_asked (suc (suc (suc zero))) (document u) = Ok (create u)
operation_asked (suc (suc (suc zero))) (other_bytes b) = Err (code InvalidJsonb)
operation_asked (suc (suc (suc (suc n)))) m = Err other_kind

-- The tree is edited at the end of a path, if there is one, or the edit is refused.
abbrev pub IsTreeEdited : Tree → Option (List StepView) → Result Operation ℕ → List ℕ → List ℕ → ℕ
    → ℕ → Type 0
IsTreeEdited t path (Err refusal) before after size status =
    IsRefused refusal before after size status
IsTreeEdited t None (Ok operation) before after size status =
    IsRefused other_kind before after size status
IsTreeEdited t (Some path) (Ok operation) before after size status =
    (steps : List Step) × ((map step_view steps ≡ path)
    × IsOneAnswered (WritesTo (edited_whole steps operation t)) before after size status)

-- The document is edited at the end of the path that another one gives, or there is not enough
-- memory; bytes that are not a document are refused.
abbrev pub IsEdited : Meaning → Meaning → Result Operation ℕ → List ℕ → List ℕ → ℕ → ℕ → Type 0
IsEdited (document t) (document p) operation before after size status =
    IsTreeEdited t (path_in p) operation before after size status
    ⊎ IsRefused (code OutOfMemory) before after size status
IsEdited m n operation before after size status =
    IsRefused (code InvalidJsonb) before after size status

-- The result of an edit is at most a quarter longer than the document and the value together, and
-- three times the path and 2 bytes more.
abbrev pub IsEditLength : List ℕ → List ℕ → List ℕ → ℕ → Type 0
IsEditLength bytes path value size =
    4 * size ≤ 5 * (length bytes + length value) + 12 * length path + 8

-- Two documents put together are at most a quarter longer than both, and 14 bytes more.
abbrev pub IsConcatLength : List ℕ → List ℕ → ℕ → Type 0
IsConcatLength left right size = 4 * size ≤ 5 * (length left + length right) + 56

-- What an edit does, or the status that refuses it.
abbrev pub operation_in : Result Edit ℕ → Result Operation ℕ
operation_in (Ok edit) = Ok (edit_operation edit)
operation_in (Err refusal) = Err refusal
