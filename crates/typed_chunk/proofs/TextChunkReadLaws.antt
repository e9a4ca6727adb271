-- The laws of reading a chunk of texts.
use Rattle.std.proofs.Common.{◌≡◌, ℕ, zero, suc, ◌+◌, ◌-◌, ◌<◌, ◌≤◌, Bool, true, false, List, []}
use Rattle.std.proofs.Common.{◌∷◌, ◌++◌, None, Some, fold, length, get_or, map, pos, sum, replicate}
use Rattle.std.proofs.Common.{take, drop, refl, sym, ap, ap₂, ◌∙◌, arith, inl, inr, subst}
use Rattle.std.proofs.Common.{append-nil, take-append-drop, take-take}
use Rattle.std.specs.List.{list_all}
use Rattle.std.specs.Prelude.{◌==◌, Err, IfOk, Ok, Option, Result, if◌then◌else◌, nat_lt}
use Rattle.std.proofs.Math.Seq.{take-append_seam}
use Rattle.std.proofs.lemmas.Bool.{cases_Bool, eqb-true, false≢true}
use Rattle.std.proofs.lemmas.List.{get_or-map, length-map}
use Rattle.std.proofs.lemmas.List.Elements.{All-contains}
use Rattle.typed_chunk.specs.Dictionary.{dictionary_bytes, dictionary_fault, entry_bytes}
use Rattle.typed_chunk.specs.Entries.{IsDictionaryOf, texts_at}
use Rattle.typed_chunk.specs.Flags.{some_has}
use Rattle.typed_chunk.specs.Frame.{frame, unsigned_word}
use Rattle.typed_chunk.specs.Packed.{least_width, packed_len}
use Rattle.typed_chunk.specs.Places.{places_fault}
use Rattle.typed_chunk.specs.TextChunk.{coded_bytes, dictionary_shorter, places_among}
use Rattle.typed_chunk.specs.TextChunk.{kind_bytes, row_entries, text_kind}
use Rattle.typed_chunk.specs.TextChunkReading.{IfRead, IsCodedFault, IsFaultBehind, IsKindFault}
use Rattle.typed_chunk.specs.TextChunkReading.{IsPlainFault, IsTextsFault, coded_fault, placed}
use Rattle.typed_chunk.specs.TextChunkReading.{whole_fault}
use Rattle.typed_chunk.specs.TextReading.{AreBegun, are_blank, texts_fault, with_beginning}
use Rattle.typed_chunk.specs.Texts.{beginning, common, shared, tails, text_bytes}
use Rattle.typed_chunk.specs.declared.fault.ChunkFault.{ChunkFault}
use Rattle.typed_chunk.specs.declared.fault.ChunkFault.TheVariants.{NotShortestKind}
use Rattle.typed_chunk.specs.declared.fault.ChunkFault.TheVariants.{WrongLength}
use Rattle.typed_chunk.specs.declared.fault.ReadError.{ReadError}
use Rattle.typed_chunk.specs.declared.fault.ReadError.TheVariants.{OutOfMemory, Refused}
use Rattle.typed_chunk.proofs.BeginningLaws.{common_short}
use Rattle.typed_chunk.proofs.DictionaryLaws.{all_blank, all_with, places_front}
use Rattle.typed_chunk.proofs.EntryLaws.{Has, fold_has, fold_only}
use Rattle.typed_chunk.proofs.FlagLaws.{some-true}
use Rattle.typed_chunk.proofs.FoundLaws.{are_places, below_count, below_rest, contains_has}
use Rattle.typed_chunk.proofs.FoundLaws.{inside_set, one_dictionary, some_entries}
use Rattle.typed_chunk.proofs.HeadedLaws.{some_not_none}
use Rattle.typed_chunk.proofs.SharedLaws.{BeginsWith, all_begin, beginning_is, set-with}
use Rattle.typed_chunk.proofs.SharedLaws.{shared-front, some_set, tails-with}
use Rattle.typed_chunk.proofs.TextChunkLaws.{dictionary_is, dictionary_long, never_shorter}
use Rattle.typed_chunk.proofs.TextChunkLaws.{row_dictionary, shorter_as, texts_long}
use Rattle.typed_chunk.proofs.TextReadLaws.{no_length, rows_kept, rows_passed}
use Rattle.typed_chunk.proofs.WholeLaws.{length-with}
use Rattle.typed_vector.specs.ZoneMap.{set_values}

-- What all of some texts begin with, their common beginning begins with.
apart : (start text : List ℕ) → BeginsWith start text → start ++ drop (length start) text ≡ text
apart start text begin =
    ap (λ (xs : List ℕ). xs ++ drop (length start) text) (sym begin)
    ∙ take-append-drop (length start) text

begins_shared : (start text other : List ℕ) → BeginsWith start text → BeginsWith start other
    → BeginsWith start (shared text other)
begins_shared start text other one two =
    let n = length start in
    ap (take n) (sym (ap₂ shared (apart start text one) (apart start other two))
    ∙ shared-front start (drop n text) (drop n other))
    ∙ take-append_seam start (shared (drop n text) (drop n other))

begins_fold : (start text : List ℕ) (texts : List (List ℕ)) → BeginsWith start text
    → ((other : List ℕ) → Has texts other → BeginsWith start other)
    → BeginsWith start (fold shared text texts)
begins_fold start text [] first each = first
begins_fold start text (other ∷ texts) first each =
    begins_fold start (shared text other) texts
    (begins_shared start text other first (each other (inl refl)))
    (λ t there. each t (inr there))

take_nothing : (n : ℕ) → take {A = ℕ} n [] ≡ []
take_nothing zero = refl
take_nothing (suc n) = refl

-- Of more texts the common beginning is no longer.
common_more : (most : ℕ) (few many : List (List ℕ)) → 0 < length few
    → ((text : List ℕ) → Has few text → Has many text) → common most few ≡ []
    → common most many ≡ []
common_more most [] many some inside none = absurd (omega (arith, some))
common_more most (text ∷ few) many some inside none =
    let start = common most many in
    let n = length start in
    let each : (other : List ℕ) → Has (text ∷ few) other → BeginsWith start other =
    λ other there.
    All-contains (BeginsWith start) many other (all_begin most many)
    (contains_has many other (inside other there)) in
    let first : BeginsWith start (take most text) =
    take-take n most text (common_short most many) ∙ each text (inl refl) in
    let all : BeginsWith start (common most (text ∷ few)) =
    begins_fold start (take most text) (text ∷ few) first each in
    sym all ∙ ap (take n) none ∙ take_nothing n

-- A dictionary of what is behind a beginning is one of the whole texts.
at_front : (start : List ℕ) (entries : List (List ℕ)) (places : List ℕ)
    → list_all (λ place. nat_lt place (length entries)) places ≡ true
    → map (λ text. start ++ text) (texts_at entries places)
    ≡ texts_at (map (λ text. start ++ text) entries) places
at_front start entries [] inside = refl
at_front start entries (place ∷ places) inside =
    ap₂ (λ (t : List ℕ) (ts : List (List ℕ)). t ∷ ts)
    (sym (get_or-map (λ text. start ++ text) entries place [] []
    (below_count entries place places inside)))
    (at_front start entries places (below_rest entries place places inside))

front_fault : (start : List ℕ) (entries : List (List ℕ)) (places : List ℕ) (has : List Bool)
    → places_fault entries places has
    ≡ places_fault (map (λ text. start ++ text) entries) places has
front_fault start entries places has =
    places_front start entries places has (length entries) refl
    ∙ ap (λ (es : List (List ℕ)). places_fault es places has) (all_with start entries)

pub front_dictionary : (start : List ℕ) (tails entries : List (List ℕ)) (places : List ℕ)
    (has : List Bool) → IsDictionaryOf tails has entries places
    → IsDictionaryOf (with_beginning start tails has) has (map (λ text. start ++ text) entries)
    places
front_dictionary start tails entries places has is =
    let are = are_places entries places has is.form in
    record {
      many = is.many;
      each = set-with start tails has
          ∙ ap (map (λ text. start ++ text)) is.each
          ∙ at_front start entries (set_values places has)
          (inside_set entries places has are.inside);
      form = sym (front_fault start entries places has) ∙ is.form;
    }

-- Texts by the places of their entries.
pub length-placed : (entries : List (List ℕ)) (places : List ℕ) (has : List Bool)
    → length places ≡ length has → length (placed entries places has) ≡ length has
length-placed entries [] [] many = refl
length-placed entries [] (flag ∷ has) many = absurd (omega (arith, many))
length-placed entries (place ∷ places) [] many = absurd (omega (arith, many))
length-placed entries (place ∷ places) (true ∷ has) many =
    ap suc (length-placed entries places has (omega (arith, many)))
length-placed entries (place ∷ places) (false ∷ has) many =
    ap suc (length-placed entries places has (omega (arith, many)))

pub blank-placed : (entries : List (List ℕ)) (places : List ℕ) (has : List Bool)
    → are_blank (placed entries places has) has ≡ true
blank-placed entries [] has = refl
blank-placed entries (place ∷ places) [] = refl
blank-placed entries (place ∷ places) (true ∷ has) = blank-placed entries places has
blank-placed entries (place ∷ places) (false ∷ has) = blank-placed entries places has

set-placed : (entries : List (List ℕ)) (places : List ℕ) (has : List Bool)
    → set_values (placed entries places has) has ≡ texts_at entries (set_values places has)
set-placed entries [] has = refl
set-placed entries (place ∷ places) [] = refl
set-placed entries (place ∷ places) (true ∷ has) =
    ap (λ (ts : List (List ℕ)). get_or entries place [] ∷ ts) (set-placed entries places has)
set-placed entries (place ∷ places) (false ∷ has) = set-placed entries places has

pub placed_dictionary : (entries : List (List ℕ)) (places : List ℕ) (has : List Bool)
    → length places ≡ length has → places_fault entries places has ≡ None
    → IsDictionaryOf (placed entries places has) has entries places
placed_dictionary entries places has many none =
    record { many = many; each = set-placed entries places has; form = none }

same_placed : (texts entries : List (List ℕ)) (places : List ℕ) (has : List Bool)
    → length texts ≡ length has → length places ≡ length has → are_blank texts has ≡ true
    → set_values texts has ≡ texts_at entries (set_values places has)
    → placed entries places has ≡ texts
same_placed [] entries [] [] long many blank is = refl
same_placed [] entries [] (flag ∷ has) long many blank is = absurd (omega (arith, long))
same_placed [] entries (place ∷ places) [] long many blank is = refl
same_placed [] entries (place ∷ places) (flag ∷ has) long many blank is =
    absurd (omega (arith, long))
same_placed (text ∷ texts) entries places [] long many blank is = absurd (omega (arith, long))
same_placed (text ∷ texts) entries [] (flag ∷ has) long many blank is =
    absurd (omega (arith, many))
same_placed (text ∷ texts) entries (place ∷ places) (true ∷ has) long many blank is =
    ap₂ (λ (t : List ℕ) (ts : List (List ℕ)). t ∷ ts)
    (sym (ap (λ (ts : List (List ℕ)). get_or ts 0 []) is))
    (same_placed texts entries places has (omega (arith, long)) (omega (arith, many)) blank
    (ap (drop 1) is))
same_placed ([] ∷ texts) entries (place ∷ places) (false ∷ has) long many blank is =
    ap (λ (ts : List (List ℕ)). [] ∷ ts)
    (same_placed texts entries places has (omega (arith, long)) (omega (arith, many)) blank is)
same_placed ((byte ∷ text) ∷ texts) entries (place ∷ places) (false ∷ has) long many blank is =
    absurd (false≢true blank)

pub placed_is : (texts entries : List (List ℕ)) (places : List ℕ) (has : List Bool)
    → length texts ≡ length has → are_blank texts has ≡ true
    → IsDictionaryOf texts has entries places → placed entries places has ≡ texts
placed_is texts entries places has long blank is =
    same_placed texts entries places has long is.many blank is.each

front_placed : (start : List ℕ) (entries : List (List ℕ)) (places : List ℕ) (has : List Bool)
    → list_all (λ place. nat_lt place (length entries)) places ≡ true
    → placed (map (λ text. start ++ text) entries) places has
    ≡ with_beginning start (placed entries places has) has
front_placed start entries [] has inside = refl
front_placed start entries (place ∷ places) [] inside = refl
front_placed start entries (place ∷ places) (true ∷ has) inside =
    ap₂ (λ (t : List ℕ) (ts : List (List ℕ)). t ∷ ts)
    (get_or-map (λ text. start ++ text) entries place [] []
    (below_count entries place places inside))
    (front_placed start entries places has (below_rest entries place places inside))
front_placed start entries (place ∷ places) (false ∷ has) inside =
    ap (λ (ts : List (List ℕ)). [] ∷ ts)
    (front_placed start entries places has (below_rest entries place places inside))

-- Entries all have a text.
all_set : (texts : List (List ℕ)) → set_values texts (replicate (length texts) true) ≡ texts
all_set [] = refl
all_set (text ∷ texts) = ap (λ (ts : List (List ℕ)). text ∷ ts) (all_set texts)

all_many : (texts : List (List ℕ)) → length texts ≡ length (replicate (length texts) true)
all_many [] = refl
all_many (text ∷ texts) = ap suc (all_many texts)

-- Entries and rows have the same beginning.
pub begun_entries : (start : List ℕ) (tails entries : List (List ℕ)) (places : List ℕ)
    (has : List Bool) → length tails ≡ length has → some_has has ≡ true
    → AreBegun start tails has → IsDictionaryOf tails has entries places
    → AreBegun start entries (replicate (length entries) true)
begun_entries start tails entries places has many some begun is =
    let most = 255 - length start in
    let set = set_values tails has in
    let passed = rows_passed (length start) tails has begun.form in
    let least : common most entries ≡ [] =
    common_more most set entries (some_set tails has many some)
    (λ text there.
    subst (λ (es : List (List ℕ)). Has es text) (sym (one_dictionary tails entries places has is))
    (fold_has [] set text there)) passed.least in
    record {
      low = begun.low;
      form = rows_kept (length start) entries (replicate (length entries) true)
          (all_blank entries (length entries)) (ap (common most) (all_set entries) ∙ least);
    }

begun_placed : (start : List ℕ) (entries : List (List ℕ)) (places : List ℕ) (has : List Bool)
    → 0 < length entries → AreBegun start entries (replicate (length entries) true)
    → length places ≡ length has → places_fault entries places has ≡ None
    → AreBegun start (placed entries places has) has
begun_placed start entries places has some begun many none =
    let most = 255 - length start in
    let texts = placed entries places has in
    let set = set_values texts has in
    let passed = rows_passed (length start) entries (replicate (length entries) true) begun.form in
    let same = one_dictionary texts entries places has
    (placed_dictionary entries places has many none) in
    let inside : (text : List ℕ) → Has entries text → Has set text =
    λ text there.
    elim (fold_only [] set text (subst (λ (es : List (List ℕ)). Has es text) same there)) [
      | inl absent ↦ absurd absent
      | inr among ↦ among
    ] in
    let least : common most set ≡ [] =
    common_more most entries set some inside
    (sym (ap (common most) (all_set entries)) ∙ passed.least) in
    record {
      low = begun.low;
      form = rows_kept (length start) texts has (blank-placed entries places has) least;
    }

-- How many bytes texts take that have such a beginning.
pub begun_long : (start : List ℕ) (texts : List (List ℕ)) (has : List Bool) (lengths : List ℕ)
    → length texts ≡ length has → some_has has ≡ true → AreBegun start texts has
    → lengths ≡ map length texts
    → 1 + length start + length (frame (unsigned_word 4) (map pos lengths)) + sum lengths
    ≡ length (text_bytes (with_beginning start texts has) has)
begun_long start texts has lengths many some begun are =
    let whole = with_beginning start texts has in
    let passed = rows_passed (length start) texts has begun.form in
    let first : beginning whole has ≡ start =
    beginning_is start texts has begun.low many some passed.least in
    texts_long whole has start lengths (sym first)
    (are ∙ ap (map length) (sym (tails-with start texts has many passed.blank)))

no_tails : (texts : List (List ℕ)) → tails 0 texts ≡ texts
no_tails [] = refl
no_tails (text ∷ texts) = ap (λ (ts : List (List ℕ)). text ∷ ts) (no_tails texts)

pub coded_long : (start : List ℕ) (entries : List (List ℕ)) (codes lengths : List ℕ)
    (count width size places : ℕ) → length entries ≡ count → 0 < count
    → AreBegun start entries (replicate (length entries) true)
    → lengths ≡ map length (tails 0 entries) → width ≡ least_width (count - 1)
    → size ≡ 1 + length start + length (frame (unsigned_word 4) (map pos lengths)) + sum lengths
    → places ≡ packed_len width (length codes)
    → 1 + size + places ≡ length (dictionary_bytes (map (λ text. start ++ text) entries) codes)
coded_long start entries codes lengths count width size places many some begun are is long wide =
    let all = replicate (length entries) true in
    let texts = map (λ text. start ++ text) entries in
    let has : some_has all ≡ true = some-true (length entries) (omega (arith, many, some)) in
    let sizes : lengths ≡ map length entries = are ∙ ap (map length) (no_tails entries) in
    let whole : size ≡ length (text_bytes texts all) =
    long ∙ begun_long start entries all lengths (all_many entries) has begun sizes
    ∙ ap (λ (ts : List (List ℕ)). length (text_bytes ts all)) (all_with start entries) in
    dictionary_long texts codes all count width size places
    (length-map entries (λ text. start ++ text) ∙ many)
    (ap (λ (n : ℕ). replicate n true) many) is whole wide

-- Whether texts with such a beginning take fewer bytes as a dictionary.
pub front_never : (start : List ℕ) (texts : List (List ℕ)) (has : List Bool)
    → length texts ≡ length has → some_has has ≡ true → 256 < length (row_entries texts has)
    → dictionary_shorter (with_beginning start texts has) has ≡ false
front_never start texts has many some more =
    let whole = with_beginning start texts has in
    let entries = row_entries texts has in
    let places = places_among entries texts has in
    let is = front_dictionary start texts entries places has (row_dictionary texts has many some) in
    let same = dictionary_is whole (map (λ text. start ++ text) entries) places has
    (length-with start texts has many) some is in
    never_shorter whole has (omega (
      arith,
      more,
      ap length same.0,
      length-map entries (λ text. start ++ text),
    ))

pub front_shorter : (start : List ℕ) (texts entries : List (List ℕ)) (places : List ℕ)
    (has : List Bool) (one two : ℕ) → length texts ≡ length has → some_has has ≡ true
    → IsDictionaryOf texts has entries places → length entries ≤ 256
    → one ≡ length (dictionary_bytes (map (λ text. start ++ text) entries) places)
    → two ≡ length (text_bytes (with_beginning start texts has) has)
    → nat_lt one two ≡ dictionary_shorter (with_beginning start texts has) has
front_shorter start texts entries places has one two many some is most first second =
    shorter_as (with_beginning start texts has) (map (λ text. start ++ text) entries) places has
    one two (length-with start texts has many) some
    (front_dictionary start texts entries places has is)
    (omega (arith, most, length-map entries (λ text. start ++ text))) first second

-- The fault of texts that were read as they are.
pub plain_fault : (has : List Bool) (bytes : List ℕ) (whole : List (List ℕ)) (rest : List ℕ)
    (fault : Option ChunkFault) → None ≡ texts_fault has bytes
    → ((texts : List (List ℕ)) (behind : List ℕ) → length texts ≡ length has
    → are_blank texts has ≡ true → bytes ≡ text_bytes texts has ++ behind
    → (whole ≡ texts) × (rest ≡ behind))
    → fault ≡ whole_fault whole has rest → IsPlainFault has bytes fault
plain_fault has bytes whole rest fault none back is = record {
  texts = λ first e. absurd (some_not_none (sym (none ∙ e)));
  whole = λ texts behind many blank same.
      let p = back texts behind many blank same in
      is ∙ ap₂ (λ (ts : List (List ℕ)) (bs : List ℕ). whole_fault ts has bs) p.0 p.1;
}

pub more_fault : (texts : List (List ℕ)) (has : List Bool) (rest : List ℕ) → 0 < length rest
    → whole_fault texts has rest ≡ Some WrongLength
more_fault texts has [] some = absurd (omega (arith, some))
more_fault texts has (byte ∷ rest) some = refl

pub empty_bytes : (bytes : List ℕ) (empty : Bool) → empty ≡ (length bytes == 0) → empty ≡ true
    → bytes ≡ []
empty_bytes bytes empty is test = no_length bytes (eqb-true (length bytes) 0 (sym is ∙ test))

pub short_fault : (texts : List (List ℕ)) (has : List Bool) (rest : List ℕ) (shorter : Bool)
    → rest ≡ [] → shorter ≡ dictionary_shorter texts has → shorter ≡ true
    → Some NotShortestKind ≡ whole_fault texts has rest
short_fault texts has rest shorter none is holds =
    sym (ap (λ (bs : List ℕ). whole_fault texts has bs) none
    ∙ ap (λ (b : Bool). if b then Some NotShortestKind else None) (sym is ∙ holds))

pub no_fault : (texts : List (List ℕ)) (has : List Bool) (rest : List ℕ) (shorter : Bool)
    → rest ≡ [] → shorter ≡ dictionary_shorter texts has → shorter ≡ false
    → None ≡ whole_fault texts has rest
no_fault texts has rest shorter none is fails =
    sym (ap (λ (bs : List ℕ). whole_fault texts has bs) none
    ∙ ap (λ (b : Bool). if b then Some NotShortestKind else None) (sym is ∙ fails))

-- The two kinds.
kind_of_2 : (texts : List (List ℕ)) (has : List Bool) → dictionary_shorter texts has ≡ true
    → text_kind texts has ≡ 2 ∷ coded_bytes texts has
kind_of_2 texts has is =
    ap (λ (b : Bool). if b then 2 ∷ coded_bytes texts has else 0 ∷ text_bytes texts has) is

kind_of_0 : (texts : List (List ℕ)) (has : List Bool) → dictionary_shorter texts has ≡ false
    → text_kind texts has ≡ 0 ∷ text_bytes texts has
kind_of_0 texts has is =
    ap (λ (b : Bool). if b then 2 ∷ coded_bytes texts has else 0 ∷ text_bytes texts has) is

pub plain_kind : (texts : List (List ℕ)) (has : List Bool) (bytes rest : List ℕ) (shorter : Bool)
    → rest ≡ [] → bytes ≡ text_bytes texts has ++ rest → shorter ≡ dictionary_shorter texts has
    → shorter ≡ false → 0 ∷ bytes ≡ text_kind texts has
plain_kind texts has bytes rest shorter none same is fails =
    ap (λ (bs : List ℕ). 0 ∷ bs)
    (same ∙ ap (λ (bs : List ℕ). text_bytes texts has ++ bs) none
    ∙ append-nil (text_bytes texts has))
    ∙ sym (kind_of_0 texts has (sym is ∙ fails))

first_byte : (x y : ℕ) (xs ys : List ℕ) → x ∷ xs ≡ y ∷ ys → x ≡ y
first_byte x y xs ys is = ap (λ (ns : List ℕ). get_or ns 0 0) is

pub from_plain : (texts : List (List ℕ)) (has : List Bool) (kind : ℕ) (bytes : List ℕ)
    → kind ≡ 0 → kind ∷ bytes ≡ text_kind texts has
    → (dictionary_shorter texts has ≡ false) × (bytes ≡ text_bytes texts has ++ [])
from_plain texts has kind bytes none is = elim (cases_Bool (dictionary_shorter texts has)) [
  | inl holds ↦ absurd (omega (
    arith,
    none,
    first_byte kind 2 bytes (coded_bytes texts has) (is ∙ kind_of_2 texts has holds),
  ))
  | inr fails ↦ (
    fails,
    ap (drop 1) (is ∙ kind_of_0 texts has fails) ∙ sym (append-nil (text_bytes texts has)),
  )
]

pub from_coded : (texts : List (List ℕ)) (has : List Bool) (kind : ℕ) (bytes : List ℕ)
    → (kind ≡ 0 → ⊥) → kind ∷ bytes ≡ text_kind texts has
    → (dictionary_shorter texts has ≡ true) × (bytes ≡ coded_bytes texts has) × (kind ≡ 2)
from_coded texts has kind bytes some is = elim (cases_Bool (dictionary_shorter texts has)) [
  | inl holds ↦ (
    holds,
    ap (drop 1) (is ∙ kind_of_2 texts has holds),
    first_byte kind 2 bytes (coded_bytes texts has) (is ∙ kind_of_2 texts has holds),
  )
  | inr fails ↦
      absurd (some (first_byte kind 0 bytes (text_bytes texts has)
      (is ∙ kind_of_0 texts has fails)))
]

-- A dictionary that was read, and how its bytes compare with those of the texts.
pub record CodedParts (has : List Bool) (bytes : List ℕ) (entries : List (List ℕ))
    (places : List ℕ) (size : ℕ) : Type 0 where
  pub is : IsDictionaryOf (placed entries places has) has entries places
  pub many : length (placed entries places has) ≡ length has
  pub shorter : nat_lt (length bytes) size
      ≡ dictionary_shorter (placed entries places has) has

pub coded_parts : (has : List Bool) (bytes start : List ℕ) (tails : List (List ℕ))
    (places lengths : List ℕ) (count size : ℕ) → length tails ≡ count → 0 < count → count ≤ 256
    → length places ≡ length has → some_has has ≡ true
    → AreBegun start tails (replicate count true) → places_fault tails places has ≡ None
    → bytes ≡ dictionary_bytes (with_beginning start tails (replicate count true)) places
    → lengths ≡ map length (placed tails places has)
    → size ≡ 1 + length start + length (frame (unsigned_word 4) (map pos lengths)) + sum lengths
    → CodedParts has bytes (with_beginning start tails (replicate count true)) places size
coded_parts has bytes start tails places lengths count size many some most rows set begun none same
    are long =
    let entries = with_beginning start tails (replicate count true) in
    let front : entries ≡ map (λ text. start ++ text) tails =
    ap (λ (n : ℕ). with_beginning start tails (replicate n true)) (sym many)
    ∙ all_with start tails in
    let form : places_fault entries places has ≡ None =
    sym (places_front start tails places has count many) ∙ none in
    let is = placed_dictionary entries places has rows form in
    let inside = (are_places tails places has none).inside in
    let behind = placed tails places has in
    let texts : placed entries places has ≡ with_beginning start behind has =
    ap (λ (es : List (List ℕ)). placed es places has) front
    ∙ front_placed start tails places has inside in
    let begun_too = begun_placed start tails places has (omega (arith, many, some))
    (subst (λ (n : ℕ). AreBegun start tails (replicate n true)) (sym many) begun) rows none in
    let whole : size ≡ length (text_bytes (placed entries places has) has) =
    long ∙ begun_long start behind has lengths (length-placed tails places has rows) set begun_too
    are ∙ ap (λ (ts : List (List ℕ)). length (text_bytes ts has)) (sym texts) in
    let size_of : length entries ≡ count =
    ap length front ∙ length-map tails (λ text. start ++ text) ∙ many in
    record {
      is = is;
      many = length-placed entries places has rows;
      shorter = shorter_as (placed entries places has) entries places has (length bytes) size
          (length-placed entries places has rows) set is (omega (arith, size_of, most))
          (ap length same) whole;
    }

-- The fault of a dictionary that was refused, and of one that was read.
pub coded_refused : (has : List Bool) (bytes : List ℕ) (count : ℕ) (one : ChunkFault)
    → 0 < length bytes → count ≡ get_or bytes 0 0 + 1
    → ((fault : ChunkFault) → texts_fault (replicate count true) (drop 1 bytes) ≡ Some fault
    → Some one ≡ Some fault)
    → ((entries : List (List ℕ)) (rest : List ℕ) → length entries ≡ count
    → drop 1 bytes ≡ entry_bytes entries ++ rest
    → Some one ≡ dictionary_fault entries has rest)
    → ((entries : List (List ℕ)) (items : List ℕ) → length entries ≡ count
    → length items ≡ length has → places_fault entries items has ≡ None
    → bytes ≡ dictionary_bytes entries items → ⊥)
    → IsCodedFault has bytes (Some one)
coded_refused has bytes count one some is texts behind never = record {
  empty = λ none. absurd (omega (arith, some, ap length none));
  texts = λ first long e.
      texts first (ap (λ (n : ℕ). texts_fault (replicate n true) (drop 1 bytes)) is ∙ e);
  places = λ first entries rest more same e.
      behind entries rest
      (omega (arith, is, more, ap (λ (bs : List ℕ). get_or bs 0 0) same)) (ap (drop 1) same) ∙ e;
  whole = λ entries places more rows none same.
      absurd (never entries places
      (omega (arith, is, more, ap (λ (bs : List ℕ). get_or bs 0 0) same)) rows none same);
}

pub coded_found : (has : List Bool) (bytes : List ℕ) (count : ℕ) (found : List (List ℕ))
    (places : List ℕ) (one : Option ChunkFault) → 0 < length bytes → count ≡ get_or bytes 0 0 + 1
    → ((fault : ChunkFault) → texts_fault (replicate count true) (drop 1 bytes) ≡ Some fault
    → None ≡ Some fault)
    → ((entries : List (List ℕ)) (rest : List ℕ) → length entries ≡ count
    → drop 1 bytes ≡ entry_bytes entries ++ rest → None ≡ dictionary_fault entries has rest)
    → ((entries : List (List ℕ)) (items : List ℕ) → length entries ≡ count
    → length items ≡ length has → places_fault entries items has ≡ None
    → bytes ≡ dictionary_bytes entries items → (places ≡ items) × (found ≡ entries))
    → one ≡ coded_fault (placed found places has) has → IsCodedFault has bytes one
coded_found has bytes count found places one some is texts behind back fault = record {
  empty = λ none. absurd (omega (arith, some, ap length none));
  texts = λ first long e.
      absurd (some_not_none (sym (texts first
      (ap (λ (n : ℕ). texts_fault (replicate n true) (drop 1 bytes)) is ∙ e))));
  places = λ first entries rest more same e.
      absurd (some_not_none (sym (behind entries rest
      (omega (arith, is, more, ap (λ (bs : List ℕ). get_or bs 0 0) same)) (ap (drop 1) same) ∙ e)));
  whole = λ entries items more rows none same.
      let p = back entries items
      (omega (arith, is, more, ap (λ (bs : List ℕ). get_or bs 0 0) same)) rows none same in
      fault ∙ ap₂ (λ (es : List (List ℕ)) (ps : List ℕ). coded_fault (placed es ps has) has)
      p.1 p.0;
}

pub coded_shortest : (texts : List (List ℕ)) (has : List Bool) (shorter : Bool)
    → shorter ≡ dictionary_shorter texts has → shorter ≡ true → None ≡ coded_fault texts has
coded_shortest texts has shorter is holds =
    sym (ap (λ (b : Bool). if b then None else Some NotShortestKind) (sym is ∙ holds))

pub coded_longer : (texts : List (List ℕ)) (has : List Bool) (shorter : Bool)
    → shorter ≡ dictionary_shorter texts has → shorter ≡ false
    → Some NotShortestKind ≡ coded_fault texts has
coded_longer texts has shorter is fails =
    sym (ap (λ (b : Bool). if b then None else Some NotShortestKind) (sym is ∙ fails))

-- What a dictionary that was written says of the rows.
pub record CodedRows (texts : List (List ℕ)) (has : List Bool) (bytes : List ℕ) (count : ℕ)
    : Type 0 where
  pub is : IsDictionaryOf texts has (row_entries texts has)
      (places_among (row_entries texts has) texts has)
  pub size : length (row_entries texts has) ≡ count
  pub same : bytes ≡ dictionary_bytes (row_entries texts has)
      (places_among (row_entries texts has) texts has)
  pub shorter : dictionary_shorter texts has ≡ true

pub coded_rows : (texts : List (List ℕ)) (has : List Bool) (bytes : List ℕ) (count : ℕ)
    → length texts ≡ length has → some_has has ≡ true → count ≡ get_or bytes 0 0 + 1
    → 2 ∷ bytes ≡ text_kind texts has → CodedRows texts has bytes count
coded_rows texts has bytes count many some is same =
    let p = from_coded texts has 2 bytes (λ e. omega (arith, e)) same in
    record {
      is = row_dictionary texts has many some;
      size = omega (
        arith,
        is,
        ap (λ (bs : List ℕ). get_or bs 0 0) p.1,
        some_entries texts has many some,
      );
      same = p.1;
      shorter = p.0;
    }

-- The text of a row's entry.
pub placed_set : (entries : List (List ℕ)) (places : List ℕ) (has : List Bool) (i : ℕ)
    → i < length has → length places ≡ length has → get_or has i false ≡ true
    → get_or (placed entries places has) i [] ≡ get_or entries (get_or places i 0) []
placed_set entries places [] i low many set = absurd (omega (arith, low))
placed_set entries [] (flag ∷ has) i low many set = absurd (omega (arith, many))
placed_set entries (place ∷ places) (true ∷ has) zero low many set = refl
placed_set entries (place ∷ places) (false ∷ has) zero low many set = absurd (false≢true set)
placed_set entries (place ∷ places) (true ∷ has) (suc i) low many set =
    placed_set entries places has i (omega (arith, low)) (omega (arith, many)) set
placed_set entries (place ∷ places) (false ∷ has) (suc i) low many set =
    placed_set entries places has i (omega (arith, low)) (omega (arith, many)) set

pub placed_unset : (entries : List (List ℕ)) (places : List ℕ) (has : List Bool) (i : ℕ)
    → i < length has → length places ≡ length has → get_or has i false ≡ false
    → length (get_or (placed entries places has) i []) ≡ 0
placed_unset entries places [] i low many set = absurd (omega (arith, low))
placed_unset entries [] (flag ∷ has) i low many set = absurd (omega (arith, many))
placed_unset entries (place ∷ places) (true ∷ has) zero low many set =
    absurd (false≢true (sym set))
placed_unset entries (place ∷ places) (false ∷ has) zero low many set = refl
placed_unset entries (place ∷ places) (true ∷ has) (suc i) low many set =
    placed_unset entries places has i (omega (arith, low)) (omega (arith, many)) set
placed_unset entries (place ∷ places) (false ∷ has) (suc i) low many set =
    placed_unset entries places has i (omega (arith, low)) (omega (arith, many)) set

pub ruleset placed_steps = (placed_set, placed_unset)

-- Rows of which none has a text.
pub blank_none : (has : List Bool) → are_blank (map (λ flag. []) has) has ≡ true
blank_none [] = refl
blank_none (true ∷ has) = blank_none has
blank_none (false ∷ has) = blank_none has

pub texts_none : (texts : List (List ℕ)) (has : List Bool) → length texts ≡ length has
    → are_blank texts has ≡ true → some_has has ≡ false → map (λ flag. []) has ≡ texts
texts_none [] [] many blank none = refl
texts_none [] (flag ∷ has) many blank none = absurd (omega (arith, many))
texts_none (text ∷ texts) [] many blank none = absurd (omega (arith, many))
texts_none (text ∷ texts) (true ∷ has) many blank none = absurd (false≢true (sym none))
texts_none ([] ∷ texts) (false ∷ has) many blank none =
    ap (λ (ts : List (List ℕ)). [] ∷ ts) (texts_none texts has (omega (arith, many)) blank none)
texts_none ((byte ∷ text) ∷ texts) (false ∷ has) many blank none = absurd (false≢true blank)

pub kind_bytes_some : (texts : List (List ℕ)) (has : List Bool) → some_has has ≡ true
    → kind_bytes texts has ≡ text_kind texts has
kind_bytes_some texts has is = ap (λ (b : Bool). if b then text_kind texts has else []) is

pub kind_bytes_none : (texts : List (List ℕ)) (has : List Bool) → some_has has ≡ false
    → kind_bytes texts has ≡ []
kind_bytes_none texts has is = ap (λ (b : Bool). if b then text_kind texts has else []) is

pub no_kind : (texts : List (List ℕ)) (has : List Bool) → text_kind texts has ≡ [] → ⊥
no_kind texts has none = elim (cases_Bool (dictionary_shorter texts has)) [
  | inl holds ↦ omega (arith, ap length (sym (kind_of_2 texts has holds) ∙ none))
  | inr fails ↦ omega (arith, ap length (sym (kind_of_0 texts has fails) ∙ none))
]

-- The fault of bytes behind flags.
pub behind_blank : (has : List Bool) (bytes : List ℕ) → some_has has ≡ false → bytes ≡ []
    → IsTextsFault has bytes None
behind_blank has bytes none is =
    subst (λ (bs : List ℕ). IsTextsFault has bs None) (sym is)
    (subst (λ (b : Bool). IsFaultBehind b has [] None) (sym none) refl)

more_behind : (has : List Bool) (bytes : List ℕ) → 0 < length bytes
    → IsFaultBehind false has bytes (Some WrongLength)
more_behind has [] some = absurd (omega (arith, some))
more_behind has (byte ∷ bytes) some = refl

pub behind_more : (has : List Bool) (bytes : List ℕ) → some_has has ≡ false → 0 < length bytes
    → IsTextsFault has bytes (Some WrongLength)
behind_more has bytes none some =
    subst (λ (b : Bool). IsFaultBehind b has bytes (Some WrongLength)) (sym none)
    (more_behind has bytes some)

pub behind_empty : (has : List Bool) (bytes : List ℕ) → some_has has ≡ true → bytes ≡ []
    → IsTextsFault has bytes (Some WrongLength)
behind_empty has bytes some is =
    subst (λ (bs : List ℕ). IsTextsFault has bs (Some WrongLength)) (sym is)
    (subst (λ (b : Bool). IsFaultBehind b has [] (Some WrongLength)) (sym some) refl)

pub behind_kind : (has : List Bool) (kind : ℕ) (bytes whole : List ℕ)
    (fault : Option ChunkFault) → some_has has ≡ true → kind ∷ bytes ≡ whole
    → IsKindFault has kind bytes fault → IsTextsFault has whole fault
behind_kind has kind bytes whole fault some is so =
    subst (λ (bs : List ℕ). IsTextsFault has bs fault) is
    (subst (λ (b : Bool). IsFaultBehind b has (kind ∷ bytes) fault) (sym some) so)

-- The fault of a kind.
pub kind_plain : (has : List Bool) (kind : ℕ) (bytes : List ℕ) (fault : Option ChunkFault)
    → kind ≡ 0 → IsPlainFault has bytes fault → IsKindFault has kind bytes fault
kind_plain has kind bytes fault is so = record {
  plain = λ _. so;
  coded = λ two. absurd (omega (arith, is, two));
  other = λ not_0 not_2. absurd (not_0 is);
}

pub kind_coded : (has : List Bool) (kind : ℕ) (bytes : List ℕ) (fault : Option ChunkFault)
    → kind ≡ 2 → IsCodedFault has bytes fault → IsKindFault has kind bytes fault
kind_coded has kind bytes fault is so = record {
  plain = λ zero_is. absurd (omega (arith, is, zero_is));
  coded = λ _. so;
  other = λ not_0 not_2. absurd (not_2 is);
}

-- What is known of a reading, from what else is.
pub if_read : {T : Type 0} (result : Result T ReadError) (P Q : Option ChunkFault → Type 0)
    → ((fault : Option ChunkFault) → P fault → Q fault) → IfRead result P → IfRead result Q
if_read (Ok read) P Q so is = so None is
if_read (Err (Refused fault)) P Q so is = so (Some fault) is
if_read (Err OutOfMemory) P Q so is = tt

pub if_not_read : (T U : Type 0) (error : ReadError) (P Q : Option ChunkFault → Type 0)
    → ((fault : Option ChunkFault) → P fault → Q fault)
    → IfRead {T = T} (Err error) P → IfRead {T = U} (Err error) Q
if_not_read T U (Refused fault) P Q so is = so (Some fault) is
if_not_read T U OutOfMemory P Q so is = tt

pub if_ok : {T E : Type 0} (result : Result T E) (P Q : T → Type 0)
    → ((read : T) → P read → Q read) → IfOk result P → IfOk result Q
if_ok (Ok read) P Q so is = so read is
if_ok (Err error) P Q so is = tt

-- What is in front of more.
pub cut_front : (n : ℕ) (front rest : List ℕ) → length front ≡ n → take n (front ++ rest) ≡ front
cut_front n front rest is =
    ap (λ (k : ℕ). take k (front ++ rest)) (sym is) ∙ take-append_seam front rest

pub blank-with : (start : List ℕ) (tails : List (List ℕ)) (has : List Bool)
    → are_blank (with_beginning start tails has) has ≡ true
blank-with start [] has = refl
blank-with start (tail ∷ tails) [] = refl
blank-with start (tail ∷ tails) (true ∷ has) = blank-with start tails has
blank-with start (tail ∷ tails) (false ∷ has) = blank-with start tails has
