-- The result of looking up a key by name. `answers key b` means that the closure can return b for
-- the key; `size` is the name's length.
use Rattle.std.specs.Prelude.{◌≡◌, ℕ, zero, suc, ◌+◌, ◌-◌, ◌==◌, ◌&&◌, if◌then◌else◌, Bool, true}
use Rattle.std.specs.Prelude.{false, List, length, slice_get, Option, Some, None, option_map}
use Rattle.std.specs.Prelude.{Result, Ok, Err, ⊤}
use Rattle.std.specs.Map.{values_of}
use Rattle.jsonb_value.specs.declared.error.Error.{Error}
use Rattle.jsonb_value.specs.declared.error.Error.TheVariants.{InvalidEOF, InvalidJsonb}
use Rattle.jsonb_value.specs.declared.error.Error.TheVariants.{InvalidUtf8, InvalidJsonbNumber}
use Rattle.jsonb_value.specs.declared.error.Error.TheVariants.{InvalidJsonbExtension}
use Rattle.jsonb_value.specs.Tree.{Tree, object, Pairs, no_pairs, pair, pair_count}
use Rattle.jsonb_codec.specs.declared.constants.TheConstants.{OBJECT_CONTAINER_TAG}
use Rattle.jsonb_codec.specs.WordBytes.{header_at}
use Rattle.jsonb.specs.declared.entries.Entry.{Entry}
use Rattle.jsonb.specs.declared.item.JsonbItem.{JsonbItem}
use Rattle.jsonb.specs.declared.lookup.Accepted.{Accepted}
use Rattle.jsonb.specs.declared.lookup.FoundValue.{FoundValue}
use Rattle.jsonb.specs.declared.lookup.ValueWord.{ValueWord}
use Rattle.jsonb.specs.ItemView.{ItemView, item_view}
use Rattle.jsonb.specs.Steps.{◌>>=◌}
use Rattle.jsonb.specs.Entry.{Code, entry_there}
use Rattle.jsonb.specs.Parts.{part_start, value_entry, PassedBefore, IsAccepted, IsNoneFound}
use Rattle.jsonb.specs.Parts.{IsKeyUnread, IsPlaceOf, IsUnreadable, IsValueFound, IsWordFound}
use Rattle.jsonb.specs.StoredEntries.{IsObjectOfEntries, entry_item}
use Rattle.jsonb.specs.Walk.{count_under}
use Rattle.jsonb.specs.DocumentWalk.{IsItemOf}

-- The key is passed over: it has another length, or the closure rejects it.
abbrev pub IsPassed : (List ℕ → Bool → Type 0) → ℕ → List ℕ → Type 0
IsPassed answers size key = length key ≡ size → answers key false

-- No key of these pairs is accepted.
abbrev pub NoneAccepted : (List ℕ → Bool → Type 0) → ℕ → Pairs → Type 0
NoneAccepted answers size no_pairs = ⊤
NoneAccepted answers size (pair k t ps) = IsPassed answers size k × NoneAccepted answers size ps

-- The pair at this index is the first whose key is accepted, and this is its value.
abbrev pub IsFirstAccepted : (List ℕ → Bool → Type 0) → ℕ → Pairs → ℕ → Tree → Type 0
IsFirstAccepted answers size no_pairs index value = ⊥
IsFirstAccepted answers size (pair k t ps) zero value =
    (length k ≡ size) × (answers k true × (value ≡ t))
IsFirstAccepted answers size (pair k t ps) (suc index) value =
    IsPassed answers size k × IsFirstAccepted answers size ps index value

-- The item is that of the entry of the first accepted pair in b. The words read are the header,
-- each key's entry, and the values' entries up to the one found.
pub record IsFound (answers : List ℕ → Bool → Type 0) (size : ℕ) (b : List ℕ) (ps : Pairs)
    (x : ItemView) (reads : ℕ) : Type 0 where
  pub index : ℕ
  pub value : Tree
  pub first : IsFirstAccepted answers size ps index value
  pub item : IsItemOf value x
  pub members : List (List ℕ × Code)
  pub stored : IsObjectOfEntries b ps members
  pub entry : option_map entry_item (slice_get (values_of members) index) ≡ Some (Ok x)
  pub cost : reads ≡ pair_count ps + index + 2

-- No key is accepted. The words read are the header and each key's entry.
pub record IsNotFound (answers : List ℕ → Bool → Type 0) (size : ℕ) (ps : Pairs)
    (reads : ℕ) : Type 0 where
  pub none : NoneAccepted answers size ps
  pub cost : reads ≡ pair_count ps + 1

-- What is found among these pairs in the document b, and the number of words read.
abbrev pub LooksUpPairs : (List ℕ → Bool → Type 0) → ℕ → List ℕ → Pairs → Option ItemView → ℕ
    → Type 0
LooksUpPairs answers size b ps (Some x) reads = IsFound answers size b ps x reads
LooksUpPairs answers size b ps None reads = IsNotFound answers size ps reads

-- What is found in the document b of the tree, and the number of words read; in any tree but an
-- object nothing is found, and only the header is read.
abbrev pub LooksUp : (List ℕ → Bool → Type 0) → ℕ → List ℕ → Tree → Option ItemView → ℕ → Type 0
LooksUp answers size b (object ps) found reads = LooksUpPairs answers size b ps found reads
LooksUp answers size b t found reads = (found ≡ None) × (reads ≡ 1)

-- What is found in the document b of the tree, with any number of words read.
abbrev pub LooksUpIn : (List ℕ → Bool → Type 0) → ℕ → List ℕ → Tree → Option ItemView → Type 0
LooksUpIn answers size b t found = (reads : ℕ) × LooksUp answers size b t found reads

-- The value of the first pair whose key has the size and is accepted.
abbrev pub find_pair : (List ℕ → Bool) → ℕ → Pairs → Option Tree
find_pair accepts size no_pairs = None
find_pair accepts size (pair k t ps) =
    if (length k == size) && accepts k then Some t else find_pair accepts size ps

-- The value at the first accepted key of an object; in any other tree nothing is found.
abbrev pub find : (List ℕ → Bool) → ℕ → Tree → Option Tree
find accepts size (object ps) = find_pair accepts size ps
find accepts size t = None

-- the index of that pair
abbrev pub find_index : (List ℕ → Bool) → ℕ → Pairs → Option ℕ
find_index accepts size no_pairs = None
find_index accepts size (pair k t ps) =
    if (length k == size) && accepts k then Some 0 else option_map suc (find_index accepts size ps)

-- how many values there are up to the one at an index, none where nothing is found
abbrev pub values_up_to : Option ℕ → ℕ
values_up_to None = 0
values_up_to (Some index) = suc index

-- how many words a look-up reads: the header, and of an object each key's entry and the values'
-- entries up to the wanted one
abbrev pub words_read : (List ℕ → Bool) → ℕ → Tree → ℕ
words_read accepts size (object ps) =
    1 + pair_count ps + values_up_to (find_index accepts size ps)
words_read accepts size t = 1

-- how many pairs an object has; anything else has none
abbrev pub pair_count_in : Tree → ℕ
pair_count_in (object ps) = pair_count ps
pair_count_in t = 0

-- For keys of this size the closure returns what the predicate does.
abbrev pub AnswersBy : (List ℕ → Bool) → (List ℕ → Bool → Type 0) → ℕ → Type 0
AnswersBy accepts answers size =
    (key : List ℕ) (b : Bool) → length key ≡ size → answers key b → b ≡ accepts key

-- The item is that of the tree, and there is one exactly if there is a tree.
abbrev pub IsItemFound : Option Tree → Option ItemView → Type 0
IsItemFound (Some t) (Some x) = IsItemOf t x
IsItemFound (Some t) None = ⊥
IsItemFound None (Some x) = ⊥
IsItemFound None None = ⊤

-- The result of searching n keys for the first that is accepted, with the number of words read.
abbrev pub FindsKey : (List ℕ → Bool → Type 0) → ℕ → List ℕ → ℕ → Result (Option Accepted) Error
    → ℕ → Type 0
FindsKey answers size b n (Ok None) reads = IsNoneFound answers size b n reads
FindsKey answers size b n (Ok (Some key)) reads = IsAccepted answers size b n key.pair
    × ((key.end ≡ part_start b n (key.pair + 1)) × (reads ≡ key.pair + 1))
FindsKey answers size b n (Err e) reads = IsKeyUnread answers size b n e

-- The result of searching n pairs up to the accepted key's value, with the number of words read: the
-- entry word of that value, nothing if all keys are passed over, or the first error of a key.
abbrev pub FindsWord : (List ℕ → Bool → Type 0) → ℕ → List ℕ → ℕ
    → Result (Option ValueWord) Error → ℕ → Type 0
FindsWord answers size b n (Ok None) reads = IsNoneFound answers size b n reads
FindsWord answers size b n (Ok (Some value)) reads =
    IsWordFound answers size b n value.jentry value.start reads
FindsWord answers size b n (Err e) reads = IsKeyUnread answers size b n e

-- The result of searching n pairs, with the number of words read: the entry of the accepted key's
-- value and where its payload begins, nothing if all keys are passed over, or the first error.
abbrev pub FindsEntry : (List ℕ → Bool → Type 0) → ℕ → List ℕ → ℕ
    → Result (Option Entry) Error → ℕ → Type 0
FindsEntry answers size b n (Ok None) reads = IsNoneFound answers size b n reads
FindsEntry answers size b n (Ok (Some entry)) reads =
    IsValueFound answers size b n (entry_there b entry) reads
    × IsPlaceOf b n (reads - 1) entry
FindsEntry answers size b n (Err e) reads = IsUnreadable answers size b n e

-- The result of a look-up on any bytes, with the number of words read: the header's error; nothing
-- under a header of another kind; the first error of a key, or that of the accepted key's value;
-- nothing if all keys are passed over; or the item of the accepted value's entry or the error of
-- its payload.
pub data LooksUpBytes (answers : List ℕ → Bool → Type 0) (size : ℕ) (b : List ℕ)
    (r : Result (Option ItemView) Error) (reads : ℕ) : Type 0 where
  no_header : (e : Error) → count_under b OBJECT_CONTAINER_TAG ≡ Err e → r ≡ Err e
      → LooksUpBytes answers size b r reads
  other_header : count_under b OBJECT_CONTAINER_TAG ≡ Ok None → r ≡ Ok None → reads ≡ 1
      → LooksUpBytes answers size b r reads
  unread : (n : ℕ) (e : Error) → count_under b OBJECT_CONTAINER_TAG ≡ Ok (Some n)
      → IsUnreadable answers size b n e → r ≡ Err e → LooksUpBytes answers size b r reads
  all_passed : (n : ℕ) → count_under b OBJECT_CONTAINER_TAG ≡ Ok (Some n)
      → PassedBefore answers size b n n → r ≡ Ok None → reads ≡ n + 1
      → LooksUpBytes answers size b r reads
  one_accepted : (n pair : ℕ) (entry : Code) → count_under b OBJECT_CONTAINER_TAG ≡ Ok (Some n)
      → IsAccepted answers size b n pair → value_entry b n pair ≡ Ok entry
      → r ≡ (entry_item entry >>= λ x. Ok (Some x)) → reads ≡ n + pair + 2
      → LooksUpBytes answers size b r reads

-- The result of a look-up on any bytes, with any number of words read.
abbrev pub LooksUpInBytes : (List ℕ → Bool → Type 0) → ℕ → List ℕ → Result (Option ItemView) Error
    → Type 0
LooksUpInBytes answers size b r = (reads : ℕ) × LooksUpBytes answers size b r reads

-- The contents of the item in a look-up's result.
abbrev pub value_view : Result (Option JsonbItem) Error → Result (Option ItemView) Error
value_view (Ok item) = Ok (option_map item_view item)
value_view (Err e) = Err e

-- The contents of the item that a look-up found.
abbrev pub found_view : Result (Option FoundValue) Error → Result (Option ItemView) Error
found_view (Ok found) = Ok (option_map (λ (f : FoundValue). item_view f.item) found)
found_view (Err e) = Err e

-- The count in a header that was read; 0 for an error.
abbrev pub count_or_zero : Result (ℕ × ℕ) Error → ℕ
count_or_zero (Ok header) = header.1
count_or_zero (Err e) = 0

-- The count in the header of the bytes; 0 if it cannot be read.
unfoldable pub count_in_header : List ℕ → ℕ
count_in_header bytes = count_or_zero (header_at bytes 0)

-- A look-up can return this error.
abbrev pub IsRefusal : Error → Type 0
IsRefusal InvalidEOF = ⊤
IsRefusal InvalidJsonb = ⊤
IsRefusal InvalidUtf8 = ⊤
IsRefusal InvalidJsonbNumber = ⊤
IsRefusal InvalidJsonbExtension = ⊤
IsRefusal e = ⊥
