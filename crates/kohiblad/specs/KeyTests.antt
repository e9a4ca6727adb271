-- The results of testing documents for several keys, as C receives them.
use Rattle.std.specs.Prelude.{◌≡◌, ◌⊎◌, ℕ, List, Bool, Option, None, Some}
use Rattle.std.specs.List.{list_all, list_any}
use Rattle.jsonb_value.specs.declared.error.Error.TheVariants.{InvalidJsonb, OutOfMemory}
use Rattle.jsonb_value.specs.Meaning.{Meaning, document}
use Rattle.jsonb_value.specs.Tree.{Tree}
use Rattle.jsonb_functions.specs.Contains.{has_top_key}
use Rattle.kohiblad.specs.Names.{names_in}
use Rattle.kohiblad.specs.Scalars.{no_truth, truth_answer}
use Rattle.kohiblad.specs.Status.{code, other_kind}
use Rattle.kohiblad.specs.declared.scalar.KohibladTruth.{KohibladTruth}

-- Some of the keys is there.
abbrev pub has_some_key : List (List ℕ) → Tree → Bool
has_some_key keys t = list_any (λ k. has_top_key k t) keys

-- All of the keys are there.
abbrev pub has_all_keys : List (List ℕ) → Tree → Bool
has_all_keys keys t = list_all (λ k. has_top_key k t) keys

-- The answer of a test for keys, if there are keys.
abbrev pub keys_answer : (List (List ℕ) → Tree → Bool) → Tree → Option (List (List ℕ))
    → KohibladTruth
keys_answer has t None = no_truth other_kind
keys_answer has t (Some keys) = truth_answer (has keys t)

-- A document is tested for the keys that another gives, or there is not enough memory; bytes that
-- are not a document are refused.
abbrev pub AreKeysAnswered : (List (List ℕ) → Tree → Bool) → Meaning → Meaning → KohibladTruth
    → Type 0
AreKeysAnswered has (document t) (document u) answer =
    (answer ≡ keys_answer has t (names_in u)) ⊎ (answer ≡ no_truth (code OutOfMemory))
AreKeysAnswered has m n answer = answer ≡ no_truth (code InvalidJsonb)
