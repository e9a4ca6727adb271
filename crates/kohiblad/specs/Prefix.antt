-- Look-ups in a prefix of the bytes, and their results as C receives them.
use Rattle.std.specs.Prelude.{◌≡◌, ℕ, ◌+◌, ◌<◌, ◌≤◌, max, List, ◌++◌, length, Some, None, Result}
use Rattle.std.specs.Prelude.{Ok, Err}
use Rattle.jsonb_value.specs.declared.error.Error.{Error}
use Rattle.jsonb_value.specs.declared.error.Error.TheVariants.{InvalidEOF}
use Rattle.jsonb_value.specs.Tree.{Tree}
use Rattle.jsonb_codec.specs.Doc.{Doc}
use Rattle.jsonb.specs.declared.lookup.prefix.Progress.{Progress}
use Rattle.jsonb.specs.declared.lookup.prefix.Progress.TheVariants.{Needs, Found, Absent}
use Rattle.jsonb.specs.Prefix.{AsksAtMost, IsFoundInDocument, IsIndexProgress, IsKeyProgress}
use Rattle.jsonb.specs.Prefix.{index_stops, key_stops}
use Rattle.kohiblad.specs.declared.places.KohibladPlace.{KohibladPlace}
use Rattle.kohiblad.specs.Places.{IsItemPlace, place_answer}
use Rattle.kohiblad.specs.Status.{code}

-- How far a look-up came, as C receives it: the end that is needed stands where a length does.
abbrev pub prefix_answer : Result Progress Error → KohibladPlace
prefix_answer (Ok (Needs end)) =
    record { status = code InvalidEOF; type_code = 0; offset = 0; length = end }
prefix_answer (Ok (Found entry)) = place_answer (Ok (Some entry))
prefix_answer (Ok Absent) = place_answer (Ok None)
prefix_answer (Err e) = place_answer (Err e)

-- These bytes follow the prefix in so many bytes; in fewer than the prefix has, none do.
abbrev pub Follow : List ℕ → List ℕ → ℕ → Type 0
Follow prefix rest size = length prefix + length rest ≡ max size (length prefix)

-- The answer is how far a look-up of the name comes in the prefix, whatever bytes follow it.
pub record IsKeySought (name prefix : List ℕ) (size : ℕ) (answer : KohibladPlace) : Type 0 where
  pub progress : Result Progress Error
  pub is : answer ≡ prefix_answer progress
  pub bytes : (rest : List ℕ) → Follow prefix rest size
      → IsKeyProgress name (prefix ++ rest) (length prefix) progress
  pub asks : (rest : List ℕ) → Follow prefix rest size
      → AsksAtMost 3 (length prefix) (max size (length prefix)) (key_stops (prefix ++ rest))
  pub document : (rest : List ℕ) (t : Tree) → Follow prefix rest size → Doc (prefix ++ rest) t
      → IsFoundInDocument name (prefix ++ rest) t (length prefix) progress

-- In a document the entry is that of the item at the index, or there is none; or bytes are needed
-- that are not at hand and not past the end.
abbrev pub IsItemInDocument : ℕ → List ℕ → Tree → ℕ → Result Progress Error → Type 0
IsItemInDocument index b t hand (Ok (Needs end)) = (hand < end) × (end ≤ length b)
IsItemInDocument index b t hand (Ok (Found entry)) = IsItemPlace b t index (Ok (Some entry))
IsItemInDocument index b t hand (Ok Absent) = IsItemPlace b t index (Ok None)
IsItemInDocument index b t hand (Err e) = ⊥

-- The answer is how far a look-up of the index comes in the prefix, whatever bytes follow it.
pub record IsIndexSought (index : ℕ) (prefix : List ℕ) (size : ℕ) (answer : KohibladPlace) :
    Type 0 where
  pub progress : Result Progress Error
  pub is : answer ≡ prefix_answer progress
  pub bytes : (rest : List ℕ) → Follow prefix rest size
      → IsIndexProgress index (prefix ++ rest) (length prefix) progress
  pub asks : (rest : List ℕ) → Follow prefix rest size
      → AsksAtMost 2 (length prefix) (max size (length prefix)) (index_stops index (prefix ++ rest))
  pub document : (rest : List ℕ) (t : Tree) → Follow prefix rest size → Doc (prefix ++ rest) t
      → IsItemInDocument index (prefix ++ rest) t (length prefix) progress
