-- The results of the iterators, on any bytes.
use Rattle.std.specs.Prelude.{◌≡◌, ◌≤◌, ⊤, ℕ, ◌==◌, if◌then◌else◌, List, [], ◌∷◌, length, map}
use Rattle.std.specs.Prelude.{Option, Some, None, Result, Ok, Err, IfSome, IfErr}
use Rattle.std.specs.Iterator.{MakesProgress, YieldsFirstBy, item_count}
use Rattle.std.specs.List.{zip}
use Rattle.jsonb_value.specs.declared.error.Error.{Error}
use Rattle.jsonb_value.specs.declared.error.Error.TheVariants.{InvalidJsonb, InvalidUtf8}
use Rattle.jsonb_codec.specs.declared.constants.TheConstants.{ARRAY_CONTAINER_TAG}
use Rattle.jsonb_codec.specs.declared.constants.TheConstants.{OBJECT_CONTAINER_TAG, STRING_TAG}
use Rattle.jsonb_codec.specs.WordBytes.{header_at}
use Rattle.jsonb.specs.declared.iterator.ChildKind.{ChildKind}
use Rattle.jsonb.specs.declared.iterator.ChildKind.TheVariants.{ArrayItem, ObjectKey, ObjectValue}
use Rattle.jsonb.specs.Steps.{◌>>=◌}
use Rattle.jsonb.specs.Payloads.{is_text}
use Rattle.jsonb.specs.ItemView.{ItemView}
use Rattle.jsonb.specs.Entry.{Code}
use Rattle.jsonb.specs.Item.{item_of}
use Rattle.jsonb.specs.Entries.{Run, entries_of, until_error, item_run, key_run, value_run}

-- An iterator: the header's count, and the results that are left.
pub record Walk (A : Type 0) : Type 0 where
  pub count : ℕ
  pub rest : List (Result A Error)

-- One call of `next`: it returns the first result that is left and takes it away, so that the end
-- comes nearer. The count stays the header's, and after an error nothing is left.
pub record Advances {A B : Type 0} (view : Result B Error → Result A Error) (old : Walk A)
    (result : Option (Result B Error)) (new : Walk A) : Type 0 where
  pub steps : YieldsFirstBy view (λ (it : Walk A). it.rest) old result new
  pub goes : MakesProgress (λ (it : Walk A). Unit {0}) (item_count (λ (it : Walk A). it.rest))
      old result new
  pub count : new.count ≡ old.count
  pub ended : IfSome result (λ item. IfErr item (λ _. new.rest ≡ []))

-- The item of an entry that was read.
abbrev pub item_read : Result Code Error → Result ItemView Error
item_read read = read >>= λ entry. item_of entry.type entry.payload

-- The items of entries, up to the first error.
abbrev pub items_read : List (Result Code Error) → List (Result ItemView Error)
items_read entries = until_error (map item_read entries)

-- The key of an entry, which must be a string of UTF-8.
abbrev pub key_of : Code → Result (List ℕ) Error
key_of entry = if entry.type == STRING_TAG
    then (if is_text entry.payload then Ok entry.payload else Err InvalidUtf8) else Err InvalidJsonb

-- The key of one entry that was read, and the item of another.
abbrev pub pair_read : Result Code Error × Result Code Error → Result (List ℕ × ItemView) Error
pair_read read = do
  key ← read.0 >>= key_of
  value ← item_read read.1
  Ok (key, value)

-- The pairs of keys and values, up to the first error.
abbrev pub pair_items : List (Result Code Error) → List (Result Code Error)
    → List (Result (List ℕ × ItemView) Error)
pair_items keys values = until_error (map pair_read (zip keys values))

-- The count in a header of this kind; none for any other kind.
abbrev pub count_if : ℕ → ℕ × ℕ → Option ℕ
count_if tag header = if header.0 == tag then Some header.1 else None

-- The count of children in the header of the bytes, if it is of this kind.
unfoldable pub count_under : List ℕ → ℕ → Result (Option ℕ) Error
count_under bytes tag = header_at bytes 0 >>= λ header. Ok (count_if tag header)

-- The iterator over the items of a run of n entries.
abbrev pub item_walk : ℕ → Run → Walk ItemView
item_walk n run = record { count = n; rest = items_read (entries_of run) }

-- The tag in the header of the containers that have children of this kind.
abbrev pub container_tag : ChildKind → ℕ
container_tag ArrayItem = ARRAY_CONTAINER_TAG
container_tag ObjectKey = OBJECT_CONTAINER_TAG
container_tag ObjectValue = OBJECT_CONTAINER_TAG

-- The run of the entries of these children in a container with this count.
abbrev pub child_run : ChildKind → List ℕ → ℕ → Result Run Error
child_run ArrayItem bytes n = Ok (item_run bytes n)
child_run ObjectKey bytes n = Ok (key_run bytes n)
child_run ObjectValue bytes n = value_run bytes n

-- The iterator over these children of a container with this count.
abbrev pub walk_of_children : ChildKind → List ℕ → Option ℕ → Result (Option (Walk ItemView)) Error
walk_of_children kind bytes None = Ok None
walk_of_children kind bytes (Some n) =
    child_run kind bytes n >>= λ run. Ok (Some (item_walk n run))

-- The iterator over these children of an array or an object.
abbrev pub children_walk : ChildKind → List ℕ → Result (Option (Walk ItemView)) Error
children_walk kind bytes = count_under bytes (container_tag kind) >>= walk_of_children kind bytes

-- The iterator over the pairs of n keys and values.
abbrev pub pair_walk : ℕ → Run → Run → Walk (List ℕ × ItemView)
pair_walk n keys values =
    record { count = n; rest = pair_items (entries_of keys) (entries_of values) }

-- The iterator over the pairs of an object with this count.
abbrev pub pairs_iterator : List ℕ → Option ℕ → Result (Option (Walk (List ℕ × ItemView))) Error
pairs_iterator bytes None = Ok None
pairs_iterator bytes (Some n) =
    value_run bytes n >>= λ values. Ok (Some (pair_walk n (key_run bytes n) values))

-- The iterator over the pairs of an object.
abbrev pub pairs_walk : List ℕ → Result (Option (Walk (List ℕ × ItemView))) Error
pairs_walk bytes = count_under bytes OBJECT_CONTAINER_TAG >>= pairs_iterator bytes

-- An error can only be the last result.
abbrev pub ErrsLast : {A : Type 0} → List (Result A Error) → Type 0
ErrsLast [] = ⊤
ErrsLast (Ok x ∷ xs) = ErrsLast xs
ErrsLast (Err e ∷ xs) = xs ≡ []

-- There are at most as many results as the header counts, and nothing follows an error.
pub record IsBounded {A : Type 0} (walk : Walk A) : Type 0 where
  pub few : length walk.rest ≤ walk.count
  pub last : ErrsLast walk.rest
