-- What paths of SQL/JSON give of documents, as C receives it.
use Rattle.std.specs.Prelude.{◌≡◌, ◌⊎◌, ℕ, Bool, true, false, List, [], ◌∷◌, chars, map}
use Rattle.std.specs.Prelude.{Option, None, Some, Result, Ok, Err, if◌then◌else◌}
use Rattle.std.specs.Str.{IsUtf8}
use Rattle.jsonb_value.specs.declared.error.Error.TheVariants.{InvalidJsonb, InvalidUtf8}
use Rattle.jsonb_value.specs.declared.error.Error.TheVariants.{OutOfMemory}
use Rattle.jsonb_value.specs.Meaning.{Meaning, document}
use Rattle.jsonb_value.specs.Tree.{Tree, object, no_pairs}
use Rattle.jsonb.specs.declared.document.Document.{Document}
use Rattle.jsonb.specs.Document.{document_tree}
use Rattle.jsonb.specs.Node.{array_of, member_tree, members_of}
use Rattle.jsonb.specs.Within.{meaning_within}
use Rattle.jsonb_path.specs.declared.compare.Truth.{Truth}
use Rattle.jsonb_path.specs.declared.compare.Truth.TheVariants as truths
use Rattle.jsonb_path.specs.declared.path.PathError.{PathError}
use Rattle.jsonb_path.specs.declared.path.PathError.TheVariants as errors
use Rattle.jsonb_path.specs.Grammar.{path_of_text}
use Rattle.jsonb_path.specs.Meaning.{Outcome, Query, exists_in, is_hidden, lone_truth}
use Rattle.jsonb_path.specs.Meaning.{match_in, path_gives}
use Rattle.jsonb_path.specs.PathTree.{query_of}
use Rattle.kohiblad.specs.declared.path_queries.Asks.{Asks}
use Rattle.kohiblad.specs.declared.path_queries.Asks.TheVariants as asks
use Rattle.kohiblad.specs.declared.path_queries.Question.{Question}
use Rattle.kohiblad.specs.Functions.{WritesTo}
use Rattle.kohiblad.specs.Scalars.{no_truth, truth_answer}
use Rattle.kohiblad.specs.Status.{IsOneAnswered, IsRefused, code, none, other_kind}
use Rattle.kohiblad.specs.declared.scalar.KohibladTruth.{KohibladTruth}

-- The status of an error that gives a path up.
abbrev pub error_status : PathError → ℕ
error_status errors.MemberNotFound = 25
error_status errors.ObjectNotFound = 26
error_status errors.ArrayNotFound = 27
error_status errors.InvalidSubscript = 28
error_status errors.NonNumericItem = 29
error_status errors.SingletonRequired = 30
error_status errors.NumberNotFound = 31
error_status errors.DivisionByZero = 32
error_status errors.OutOfRange = 33
error_status errors.UndefinedVariable = 34
error_status errors.BooleanRequired = 35

-- The error that is shown: a silent call hides all but that of a variable that is not given.
abbrev pub unless_hidden : Bool → PathError → Option PathError
unless_hidden silent e = if silent then (if is_hidden e then None else Some e) else Some e

abbrev pub shown_error : Bool → Option PathError → Option PathError
shown_error silent None = None
shown_error silent (Some e) = unless_hidden silent e

-- The variables of a call, with its path.
abbrev pub Variables : Type 0
Variables = List (List ℕ × Tree)

-- What is asked: a path, and its variables, if both are there.
abbrev pub asked_by : Option Query → Option Variables → Option (Query × Variables)
asked_by (Some query) (Some variables) = Some (query, variables)
asked_by query variables = None

-- What bytes for variables mean: no bytes are an object without members.
abbrev pub variables_within : ℕ → List ℕ → Meaning
variables_within depth [] = document (object no_pairs)
variables_within depth (b ∷ bytes) = meaning_within depth (b ∷ bytes)

-- The tree of a document of variables; without one, an object without members.
abbrev pub variables_tree : Option Document → Tree
variables_tree None = object no_pairs
variables_tree (Some d) = document_tree d

-- What is asked by a path and its variables.
abbrev pub question_in : Question → Query × Variables
question_in q = (query_of q.path, map member_tree q.variables.items)

-- The array of the values that an outcome has, or the status of the error that is shown.
abbrev pub AreValuesWritten : Option PathError → List Tree → List ℕ → List ℕ → ℕ → ℕ → Type 0
AreValuesWritten None values before after size status =
    IsOneAnswered (WritesTo (array_of values)) before after size status
AreValuesWritten (Some e) values before after size status =
    IsRefused (error_status e) before after size status

-- What is asked is answered by what the path gives of the document; else it is of another kind.
abbrev pub IsQueryWritten : Bool → Option (Query × Variables) → Tree → List ℕ → List ℕ → ℕ → ℕ
    → Type 0
IsQueryWritten silent None t before after size status =
    IsRefused other_kind before after size status
IsQueryWritten silent (Some asked) t before after size status =
    AreValuesWritten (shown_error silent (path_gives asked.0 asked.1 t).error)
    (path_gives asked.0 asked.1 t).values before after size status

-- A path of a UTF-8 text is asked of a document, or there is not enough memory; bytes that are not
-- a document are refused.
abbrev pub IsQueryOf : Bool → Option Query → Meaning → Meaning → List ℕ → List ℕ → ℕ → ℕ → Type 0
IsQueryOf silent query (document t) (document v) before after size status =
    IsQueryWritten silent (asked_by query (members_of v)) t before after size status
    ⊎ IsRefused (code OutOfMemory) before after size status
IsQueryOf silent query m n before after size status =
    IsRefused (code InvalidJsonb) before after size status

-- A text that is not UTF-8 is refused first.
abbrev pub IsQueried : ℕ → Bool → List ℕ → List ℕ → List ℕ → List ℕ → List ℕ → ℕ → ℕ → Type 0
IsQueried depth silent bytes text variables before after size status =
    ((IsUtf8 text → ⊥) × IsRefused (code InvalidUtf8) before after size status)
    ⊎ (IsUtf8 text × IsQueryOf silent (path_of_text (chars text)) (meaning_within depth bytes)
    (variables_within depth variables) before after size status)

-- ---- truths

-- The status of an error, or that of no answer if it is hidden.
abbrev pub unknown_status : Option PathError → ℕ
unknown_status None = none
unknown_status (Some e) = error_status e

-- A truth as C receives it; of an unknown one the error that is shown.
abbrev pub shown_truth : Truth → Option PathError → KohibladTruth
shown_truth truths.True shown = truth_answer true
shown_truth truths.False shown = truth_answer false
shown_truth truths.Unknown shown = no_truth (unknown_status shown)

-- Whether what is asked gives a value.
abbrev pub exists_of : Bool → Option (Query × Variables) → Tree → KohibladTruth
exists_of silent None t = no_truth other_kind
exists_of silent (Some asked) t =
    shown_truth (exists_in asked.0.mode (path_gives asked.0 asked.1 t))
    (shown_error silent (path_gives asked.0 asked.1 t).error)

-- The truth that is the one value, and of null no answer. A hidden error leaves the one value before
-- it, if there is one.
abbrev pub lone_answer : Option Truth → KohibladTruth
lone_answer None = no_truth none
lone_answer (Some t) = shown_truth t None

abbrev pub error_or : Option PathError → Option Truth → KohibladTruth
error_or (Some e) truth = no_truth (error_status e)
error_or None truth = lone_answer truth

abbrev pub matched_as : Bool → Option Truth → Result Truth PathError → KohibladTruth
matched_as silent truth (Ok t) = shown_truth t None
matched_as silent truth (Err e) = error_or (unless_hidden silent e) truth

abbrev pub matched : Bool → Outcome → KohibladTruth
matched silent o = matched_as silent (lone_truth o.values) (match_in o)

-- The truth that what is asked gives.
abbrev pub match_of : Bool → Option (Query × Variables) → Tree → KohibladTruth
match_of silent None t = no_truth other_kind
match_of silent (Some asked) t = matched silent (path_gives asked.0 asked.1 t)

-- The truth that is asked for.
abbrev pub wanted_truth : Asks → Bool → Option (Query × Variables) → Tree → KohibladTruth
wanted_truth asks.Existence = exists_of
wanted_truth asks.Match = match_of

-- A truth that is asked of a document with a path of a UTF-8 text, or there is not enough memory;
-- bytes that are not a document are refused.
abbrev pub IsTruthOf : (Option (Query × Variables) → Tree → KohibladTruth) → Option Query → Meaning
    → Meaning → KohibladTruth → Type 0
IsTruthOf truth query (document t) (document v) answer =
    (answer ≡ truth (asked_by query (members_of v)) t) ⊎ (answer ≡ no_truth (code OutOfMemory))
IsTruthOf truth query m n answer = answer ≡ no_truth (code InvalidJsonb)

-- A text that is not UTF-8 is refused first.
abbrev pub IsTruthAsked : (Option (Query × Variables) → Tree → KohibladTruth) → ℕ → List ℕ → List ℕ
    → List ℕ → KohibladTruth → Type 0
IsTruthAsked truth depth bytes text variables answer =
    ((IsUtf8 text → ⊥) × (answer ≡ no_truth (code InvalidUtf8)))
    ⊎ (IsUtf8 text × IsTruthOf truth (path_of_text (chars text)) (meaning_within depth bytes)
    (variables_within depth variables) answer)
