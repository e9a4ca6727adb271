-- The places of members are written, name by name and row by row.
use Rattle.std.proofs.Common.{◌≡◌, ℕ, ◌+◌, ◌-◌, ◌*◌, ◌<◌, ◌≤◌, List, [], ◌∷◌, ◌++◌, length, drop}
use Rattle.std.proofs.Common.{take, map, refl, sym, ap, ap₂, subst, ◌∙◌, arith, inl, inr}
use Rattle.std.proofs.Common.{append_assoc, length-append, length-drop, zero-add, zero, suc, Bor}
use Rattle.std.proofs.Common.{◌⊎◌, ◌≢◌, Option, nat_le, None, Some}
use Rattle.std.proofs.Common.{Result, Ok, option_map}
use Rattle.std.specs.Prelude.{Bool, true, false, IfSome, ⊤, slice_index_or, slice_set, ◌&&◌}
use Rattle.std.specs.List.{AllZip}
use Rattle.std.specs.Cmp.Lexicographic.{slice_cmp}
use Rattle.std.specs.declared.cmp.Ordering.{Ordering}
use Rattle.std.specs.declared.cmp.Ordering.TheVariants.{Less, Equal, Greater}
use Rattle.std.specs.Ordering.{is_lt, nat_cmp}
use Rattle.std.proofs.lemmas.Bool.{leb-false, leb-true}
use Rattle.std.proofs.lemmas.Grind.{flat_map-append}
use Rattle.std.proofs.lemmas.List.{append-nil, drop-drop, drop-take, drop_more, length-take}
use Rattle.std.proofs.lemmas.List.{take-take}
use Rattle.std.proofs.lemmas.Slice.Zip.{all_zipped_more}
use Rattle.std.proofs.Math.Nat.{suc-mul}
use Rattle.std.proofs.Math.Numerals.{add-one}
use Rattle.std.proofs.Math.Seq.{take-length}
use Rattle.jsonb_value.specs.Meaning.{Meaning, document}
use Rattle.jsonb_value.specs.Tree as trees
use Rattle.jsonb_value.specs.Tree.{Tree, array, object, pair_count}
use Rattle.jsonb_value.specs.declared.error.Error.{Error}
use Rattle.jsonb_value.specs.declared.error.Error.TheVariants.{OutOfMemory}
use Rattle.jsonb_codec.specs.Doc.{Doc, Payload}
use Rattle.jsonb_codec.specs.Parts.{IsPayloadOf}
use Rattle.jsonb_codec.specs.WordBytes.{header_at}
use Rattle.jsonb.specs.Entry.{IsEntryIn}
use Rattle.jsonb.specs.declared.entries.Entry.{Entry}
use Rattle.jsonb.proofs.KindLaws.{container_cases, header_at-Scalar, header_at-array}
use Rattle.jsonb.proofs.KindLaws.{header_at-object}
use Rattle.jsonb_functions.specs.Found.{found_at}
use Rattle.jsonb_functions.specs.PathPlaces.{HoldsFound, at_place, header_or_none, moved}
use Rattle.jsonb_functions.specs.PathPlaces.{path_place}
use Rattle.jsonb_functions.specs.PathPlaces.{path_place_in, step_entry, whole_place, whole_under}
use Rattle.jsonb_functions.specs.declared.path.Step.TheVariants.{Key}
use Rattle.jsonb_functions.proofs.KeyOrder.{below_trans}
use Rattle.jsonb_functions.proofs.PathPlaceLaws.{place_holds}
use Rattle.jsonb_typed.specs.Surveys.{member_cell}
use Rattle.kohiblad.specs.declared.places.KohibladPlace.{KohibladPlace}
use Rattle.kohiblad.specs.declared.row_walk.RowWalk.{RowWalk}
use Rattle.kohiblad.specs.declared.taking.Reading.{Reading}
use Rattle.kohiblad.specs.declared.taking.Reading.TheVariants.{Checked, Unchecked}
use Rattle.kohiblad.specs.Located.{IsCellPlace}
use Rattle.kohiblad.specs.Locating.{AreNamesLocated, ArePutBehind, IsInRow, IsKnownRow}
use Rattle.kohiblad.specs.Locating.{IsLocated, IsLocatedIn, IsMemberPlace, IsSomePlace}
use Rattle.kohiblad.specs.Locating.{IsValueOfName}
use Rattle.kohiblad.specs.Locating.{WithNames, WithNamesOf, joined_places, placed_answer, row_at}
use Rattle.kohiblad.specs.Locating.{spans_from}
use Rattle.kohiblad.specs.Names.{names_in}
use Rattle.kohiblad.specs.PlacedMembers.{name_place, name_under, names_ascend}
use Rattle.kohiblad.specs.Places.{place_answer}
use Rattle.kohiblad.specs.RowCells.{meaning_cell}
use Rattle.kohiblad.specs.RowWalks.{IsSoughtIn}
use Rattle.kohiblad.specs.Rows.{are_offsets}
use Rattle.kohiblad.specs.Status.{code, other_kind}
use Rattle.kohiblad.proofs.TakingLaws.{one_more_in}
use Rattle.kohiblad.proofs.UncheckedLaws.{no_document}

-- The place of a name in a document holds the value.
unmoved : (o : Option Entry) → at_place (option_map (moved 0) o) (λ child. Some child) ≡ o
unmoved None = refl
unmoved (Some entry) =
    ap
    (λ (n : ℕ).
    Some record { type_code = entry.type_code; start = n; length = entry.length })
    (zero-add entry.start)

object_named : (b : List ℕ) (name : Bor (List ℕ)) (n : ℕ) → header_at b 0 ≡ Ok (1073741824, n)
    → path_place (Key name ∷ []) b ≡ name_place name.now b
object_named b name n header =
    let whole : Entry = record { type_code = 1342177280; start = 0; length = length b } in
    let there : whole_place b ≡ Ok whole = ap (whole_under b) header in
    ap (path_place_in (Key name ∷ []) b) there
    ∙ ap (λ (p : List ℕ). at_place (option_map (moved 0) (step_entry (Key name) p
    (header_or_none (header_at p 0)))) (λ child. Some child)) (take-length b)
    ∙ unmoved (step_entry (Key name) b (header_or_none (header_at b 0)))
    ∙ ap (λ (r : Result (ℕ × ℕ) Error). step_entry (Key name) b (header_or_none r)) header
    ∙ sym (ap (name_under name.now b) header)

pub name_holds : (b : List ℕ) (t : Tree) (name : Bor (List ℕ)) → Doc b t
    → HoldsFound b (name_place name.now b) (found_at (Key name ∷ []) t)
name_holds b t name (inr (is, h)) =
    container_cases
    (λ (u : Tree). Payload u b → HoldsFound b (name_place name.now b) (found_at (Key name ∷ []) u))
    t is
    (λ ts h.
    let none : name_place name.now b ≡ None =
    ap (name_under name.now b) (header_at-array b ts h) in
    rw none tt)
    (λ ps h.
    subst (λ (o : Option Entry). HoldsFound b o (found_at (Key name ∷ []) (object ps)))
    (object_named b name (pair_count ps) (header_at-object b ps h))
    (place_holds b (object ps) (Key name ∷ []) (inr (refl, h)))) h
name_holds b (array ts) name (inl (other, h)) = absurd (other refl)
name_holds b (object ps) name (inl (other, h)) = absurd (other refl)
name_holds b trees.null name (inl (other, h)) =
    rw (ap (name_under name.now b) (header_at-Scalar b trees.null h)) tt
name_holds b (trees.boolean v) name (inl (other, h)) =
    rw (ap (name_under name.now b) (header_at-Scalar b (trees.boolean v) h)) tt
name_holds b (trees.number x) name (inl (other, h)) =
    rw (ap (name_under name.now b) (header_at-Scalar b (trees.number x) h)) tt
name_holds b (trees.text s) name (inl (other, h)) =
    rw (ap (name_under name.now b) (header_at-Scalar b (trees.text s) h)) tt
name_holds b (trees.extension e) name (inl (other, h)) =
    rw (ap (name_under name.now b) (header_at-Scalar b (trees.extension e) h)) tt

-- The payload of an entry of a row is at its place in all bytes.
payload_moved : (bytes : List ℕ) (s l c k : ℕ) → c + k ≤ length (take l (drop s bytes))
    → take k (drop c (take l (drop s bytes))) ≡ take k (drop (s + c) bytes)
payload_moved bytes s l c k inside =
    let n = length-take l (drop s bytes) in
    let whole : l ≡ c + (l - c) = omega arith in
    ap (λ (m : ℕ). take k (drop c (take m (drop s bytes)))) whole
    ∙ ap (take k) (drop-take c (l - c) (drop s bytes))
    ∙ take-take k (l - c) (drop c (drop s bytes)) (omega arith)
    ∙ ap (take k) (drop-drop c s bytes)

-- The place of what was found in a row.
module _ (bytes row : List ℕ) (start end : ℕ) (is : row ≡ take (end - start) (drop start bytes))
    (order : start ≤ end) (inside : end ≤ length bytes) (some : row ≡ [] → ⊥) where
  long : length row ≡ end - start
  long =
      let n = length-take (end - start) (drop start bytes) in
      let m = length-drop start bytes in
      ap length is ∙ omega (arith, n, m)

  held_place : (o : Option Tree) (found : Option Entry) → HoldsFound row found o
      → IfSome found (IsEntryIn row) → IsCellPlace bytes (member_cell o) (placed_answer start found)
  held_place None None holds within = refl
  held_place None (Some entry) holds within = absurd holds
  held_place (Some t) None holds within = absurd holds
  held_place (Some t) (Some entry) holds within =
      let size = long in
      let inner : entry.start + entry.length ≤ length row = within.0 in
      let payload : take entry.length (drop entry.start row)
      ≡ take entry.length (drop (start + entry.start) bytes) =
      ap (λ (r : List ℕ). take entry.length (drop entry.start r)) is
      ∙ payload_moved bytes start (end - start) entry.start entry.length
      (subst (λ (r : List ℕ). entry.start + entry.length ≤ length r) is inner) in (
        refl,
        (
          omega (arith, size, inner),
          subst (λ (p : List ℕ). IsPayloadOf entry.type_code p t) payload holds,
        ),
      )

  some_place : (found : Option Entry) → IfSome found (IsEntryIn row)
      → IsSomePlace bytes (placed_answer start found)
  some_place None within = inl refl
  some_place (Some entry) within =
      let size = long in
      let inner : entry.start + entry.length ≤ length row = within.0 in
      inr (refl, omega (arith, size, inner))

  member_located : (name : Bor (List ℕ)) (place : KohibladPlace)
      → IsMemberPlace start row name place → IsLocated Unchecked bytes row name place
  member_located name place (found, (same, (within, named))) = (
    λ t document.
        subst (IsCellPlace bytes (member_cell (found_at (Key name ∷ []) t))) (sym same)
        (held_place (found_at (Key name ∷ []) t) found
        (subst (λ (o : Option Entry). HoldsFound row o (found_at (Key name ∷ []) t))
        (sym (named t document)) (name_holds row t name document)) within),
    (
      λ none. absurd (some none),
      subst (IsSomePlace bytes) (sym same) (some_place found within),
    ),
  )

  known_located : (reading : Reading) → IsKnownRow reading row → (name : Bor (List ℕ))
      (place : KohibladPlace) → IsMemberPlace start row name place
      → IsLocated reading bytes row name place
  known_located Unchecked known name place is_member = member_located name place is_member
  known_located (Checked depth) (t, (document_is, means)) name place is_member =
      subst
      (λ (m : Meaning). IsCellPlace bytes (meaning_cell (Key name ∷ []) m) place) (sym means)
      ((member_located name place is_member).0 t document_is)

  in_row : (name : Bor (List ℕ)) (place : KohibladPlace) → IsMemberPlace start row name place
      → IsInRow (start, end) place
  in_row name place (found, (same, (within, named))) =
      subst (IsInRow (start, end)) (sym same) (entry_in_row found within)
    where
      entry_in_row : (found : Option Entry) → IfSome found (IsEntryIn row)
          → IsInRow (start, end) (placed_answer start found)
      entry_in_row None within there = absurd cc
      entry_in_row (Some entry) within there =
          let size = long in
          let inner : entry.start + entry.length ≤ length row = within.0 in
          (omega arith, omega (arith, size, inner))

  value_of_name : (reading : Reading) → IsKnownRow reading row → (name : Bor (List ℕ))
      (place : KohibladPlace) → IsMemberPlace start row name place
      → IsValueOfName reading start row name place
  value_of_name Unchecked known name place (found, (same, (within, named))) =
      λ t document_is. same ∙ ap (placed_answer start) (named t document_is)
  value_of_name (Checked depth) (u, (document_is, means)) name place
      (found, (same, (within, named))) =
      λ t is. same ∙ ap (placed_answer start) (named u document_is)

  pub names_located : (reading : Reading) → IsKnownRow reading row
      → (names : List (Bor (List ℕ))) (places : List KohibladPlace)
      → AllZip (IsMemberPlace start row) names places
      → AreNamesLocated reading bytes names (start, end) places
  names_located reading known [] [] are = tt
  names_located reading known [] (place ∷ places) are = absurd are
  names_located reading known (name ∷ names) [] are = absurd are
  names_located reading known (name ∷ names) (place ∷ places) are = (
    (
      subst (λ (r : List ℕ). IsLocated reading bytes r name place) is
          (known_located reading known name place are.0),
      (
        in_row name place are.0,
        subst (λ (r : List ℕ). IsValueOfName reading start r name place) is
            (value_of_name reading known name place are.0),
      ),
    ),
    names_located reading known names places are.1,
  )

-- A row of no bytes, which is not checked, has no members.
pub empty_located : (row : List ℕ) (place : KohibladPlace) → row ≡ []
    → place ≡ place_answer (Ok None) → (bytes : List ℕ) (name : Bor (List ℕ))
    → IsLocated Unchecked bytes row name place
empty_located row place empty same bytes name =
    (λ t document. absurd (no_document row t document empty), (λ none. same, inl same))

-- One place for all names.
pub same_located : (reading : Reading) (bytes : List ℕ) (span : ℕ × ℕ) (same : KohibladPlace)
    (names : List (Bor (List ℕ))) (places : List KohibladPlace)
    → ((bytes_now : List ℕ) (name : Bor (List ℕ))
    → IsLocated reading bytes_now (row_at bytes span) name same)
    → ((start : ℕ) (name : Bor (List ℕ))
    → IsValueOfName reading start (row_at bytes span) name same)
    → same.status ≢ 0
    → AllZip (λ (name : Bor (List ℕ)) one. one ≡ same) names places
    → AreNamesLocated reading bytes names span places
same_located reading bytes span same [] [] each value none are = tt
same_located reading bytes span same [] (place ∷ places) each value none are = absurd are
same_located reading bytes span same (name ∷ names) [] each value none are = absurd are
same_located reading bytes span same (name ∷ names) (place ∷ places) each value none are = (
  subst (IsLocatedIn reading bytes span name) (sym are.0)
      (each bytes name, ((λ there. absurd (none there)), value span.0 name)),
  same_located reading bytes span same names places each value none are.1,
)

-- The places of the names that are left are still to be found in the walk.
abbrev pub AreFound : RowWalk → List (Bor (List ℕ)) → Type 0
AreFound walk [] = ⊤
AreFound walk (name ∷ names) = IsSoughtIn name.now walk × AreFound walk names

pub all_found : (walk : RowWalk) (names : List (Bor (List ℕ)))
    → ((name : List ℕ) → IsSoughtIn name walk) → AreFound walk names
all_found walk [] each = tt
all_found walk (name ∷ names) each = (each name.now, all_found walk names each)

abbrev texts : List (Bor (List ℕ)) → List (List ℕ)
texts names = map (λ name. name.now) names

is_less : (o : Ordering) (others : Bool) → is_lt o && others ≡ true → (o ≡ Less) × (others ≡ true)
is_less Less others is = (refl, is)
is_less Equal others is = absurd cc
is_less Greater others is = absurd cc

later_found : (walk after : RowWalk) (name : List ℕ) (names : List (Bor (List ℕ)))
    → ((k : List ℕ) → slice_cmp nat_cmp name k ≡ Less → IsSoughtIn k walk → IsSoughtIn k after)
    → names_ascend (Some name) (texts names) ≡ true → AreFound walk names → AreFound after names
later_found walk after name [] later order found = tt
later_found walk after name (next ∷ names) later order found =
    let both = is_less (slice_cmp nat_cmp name next.now)
    (names_ascend (Some next.now) (texts names)) order in (
      later next.now both.0 found.0,
      later_found walk after next.now names
          (λ k above. later k (below_trans name next.now k both.0 above)) both.1 found.1,
    )

ascend_later : (name : List ℕ) (names : List (List ℕ)) → names_ascend (Some name) names ≡ true
    → names_ascend None names ≡ true
ascend_later name [] order = refl
ascend_later name (next ∷ names) order =
    (is_less (slice_cmp nat_cmp name next) (names_ascend (Some next) names) order).1

-- The element at an index, and those behind it.
drop_cut : {A : Type 0} (xs : List A) (i : ℕ) → i < length xs
    → (x : A) × (drop i xs ≡ x ∷ drop (suc i) xs)
drop_cut [] i low = absurd (omega (arith, low))
drop_cut (x ∷ xs) zero low = (x, refl)
drop_cut (x ∷ xs) (suc i) low = drop_cut xs i (omega (arith, low))

pub cut_at : {A : Type 0} (xs : List A) (i : ℕ) → i < length xs
    → (x : A) × (drop i xs ≡ x ∷ drop (i + 1) xs)
cut_at {A} xs i low =
    let (x, is) = drop_cut xs i low in
    (x, is ∙ ap (λ (n : ℕ). x ∷ drop n xs) (sym (add-one i)))

pub name_at : (names : List (Bor (List ℕ))) (i : ℕ) (d : Bor (List ℕ)) (text : List ℕ)
    → i < length names → text ≡ (slice_index_or names i d).now
    → (name : Bor (List ℕ)) × ((drop i names ≡ name ∷ drop (i + 1) names) × (text ≡ name.now))
name_at names i d text low is = (slice_index_or names i d, (drop_more names i d low, is))

-- The places that are written so far for names.
pub record PutSoFar (IsAt : Bor (List ℕ) → KohibladPlace → Type 0)
    (names left : List (Bor (List ℕ))) (at number : ℕ) (places places_now : List KohibladPlace)
    : Type 0 where
  pub done : List (Bor (List ℕ))
  pub found : List KohibladPlace
  pub whole : names ≡ done ++ left
  pub each : AllZip IsAt done found
  pub many : length found ≡ length done
  pub counted : number ≡ at + length found
  pub put : ArePutBehind at found places places_now

pub none_put : (IsAt : Bor (List ℕ) → KohibladPlace → Type 0) (names : List (Bor (List ℕ)))
    (at : ℕ) (places : List KohibladPlace) → PutSoFar IsAt names names at at places places
none_put IsAt names at places = record {
  done = [];
  found = [];
  whole = refl;
  each = tt;
  many = refl;
  counted = omega arith;
  put = λ front old long is.
      is
      ∙ ap₂ (λ (xs : List KohibladPlace) (n : ℕ). xs ++ drop n old) (sym (append-nil front))
      (omega arith);
}

pub one_more_put : (IsAt : Bor (List ℕ) → KohibladPlace → Type 0)
    (names left later : List (Bor (List ℕ))) (name : Bor (List ℕ)) (at number : ℕ)
    (places places_now : List KohibladPlace) (place : KohibladPlace)
    → PutSoFar IsAt names left at number places places_now
    → left ≡ name ∷ later → IsAt name place → at + length names ≤ length places
    → PutSoFar IsAt names later at (number + 1) places (slice_set places_now number place)
one_more_put IsAt names left later name at number places places_now place so_far cut is room =
    let found = so_far.found in
    let many = so_far.many in
    let counted = so_far.counted in
    let shorter : length left ≡ length later + 1 = ap length cut ∙ omega arith in
    let parts : length names ≡ length so_far.done + length left =
    ap length so_far.whole ∙ length-append so_far.done left in
    let longer : length (found ++ place ∷ []) ≡ length found + 1 =
    length-append found (place ∷ []) in
    let longer_done : length (so_far.done ++ name ∷ []) ≡ length so_far.done + 1 =
    length-append so_far.done (name ∷ []) in
    record {
      done = so_far.done ++ name ∷ [];
      found = found ++ place ∷ [];
      whole =
          so_far.whole
          ∙ ap (λ (xs : List (Bor (List ℕ))). so_far.done ++ xs) cut
          ∙ sym (append_assoc so_far.done (name ∷ []) later);
      each = all_zipped_more IsAt so_far.done found name place so_far.each is;
      many = omega (arith, many, longer, longer_done);
      counted = omega (arith, counted, longer);
      put = λ front old long before.
          let size : length places ≡ length front + (length old - at) =
          ap length before ∙ length-append front (drop at old)
          ∙ ap (λ (n : ℕ). length front + n) (length-drop at old) in
          let behind : length (front ++ found) ≡ number =
          length-append front found ∙ omega (arith, long, counted) in
          let low : number < length old =
          omega (arith, size, long, counted, many, parts, shorter, room) in
          one_more_in (front ++ found) old places_now number place behind low
          (so_far.put front old long before
          ∙ ap (λ (n : ℕ). (front ++ found) ++ drop n old) (sym counted))
          ∙ ap₂ (λ (xs : List KohibladPlace) (n : ℕ). xs ++ drop n old)
          (append_assoc front found (place ∷ [])) (omega (arith, counted, longer));
    }

pub all_put : (IsAt : Bor (List ℕ) → KohibladPlace → Type 0) (names left : List (Bor (List ℕ)))
    (at number : ℕ) (places places_now : List KohibladPlace)
    → PutSoFar IsAt names left at number places places_now → left ≡ []
    → (found : List KohibladPlace)
    × (AllZip IsAt names found × ArePutBehind at found places places_now)
all_put IsAt names left at number places places_now so_far none =
    let whole : names ≡ so_far.done =
    so_far.whole ∙ ap (λ (xs : List (Bor (List ℕ))). so_far.done ++ xs) none
    ∙ append-nil so_far.done in (
      so_far.found,
      (
        subst (λ (xs : List (Bor (List ℕ))). AllZip IsAt xs so_far.found) (sym whole) so_far.each,
        so_far.put,
      ),
    )

-- The walk over the names of a row.
pub record NamesSoFar (start : ℕ) (row : List ℕ) (names left : List (Bor (List ℕ)))
    (walk : RowWalk) (at number : ℕ) (places places_now : List KohibladPlace) : Type 0 where
  pub put : PutSoFar (IsMemberPlace start row) names left at number places places_now
  pub found : AreFound walk left
  pub order : names_ascend None (texts left) ≡ true

pub later_names : (walk after : RowWalk) (left later : List (Bor (List ℕ)))
    (name : Bor (List ℕ)) → left ≡ name ∷ later
    → ((k : List ℕ) → slice_cmp nat_cmp name.now k ≡ Less → IsSoughtIn k walk → IsSoughtIn k after)
    → names_ascend None (texts left) ≡ true → AreFound walk left
    → AreFound after later × (names_ascend None (texts later) ≡ true)
later_names walk after left later name cut keeps order found =
    let first : names_ascend (Some name.now) (texts later) ≡ true =
    ap (λ (xs : List (Bor (List ℕ))). names_ascend None (texts xs)) (sym cut) ∙ order in
    let all = subst (AreFound walk) cut found in (
      later_found walk after name.now later keeps first all.1,
      ascend_later name.now (texts later) first,
    )

pub first_found : (walk : RowWalk) (left later : List (Bor (List ℕ))) (name : Bor (List ℕ))
    → left ≡ name ∷ later → AreFound walk left → IsSoughtIn name.now walk
first_found walk left later name cut found = (subst (AreFound walk) cut found).0

-- The offsets that are left, and the room for their rows.
both_true : (a b : Bool) → a && b ≡ true → (a ≡ true) × (b ≡ true)
both_true true b is = (refl, is)
both_true false b is = absurd cc

pub later_offsets : (size start end : ℕ) (left later : List ℕ) → left ≡ end ∷ later
    → are_offsets size start left ≡ true → are_offsets size end later ≡ true
later_offsets size start end left later cut good =
    let all : nat_le start end && (nat_le end size && are_offsets size end later) ≡ true =
    ap (are_offsets size start) (sym cut) ∙ good in
    (both_true (nat_le end size) (are_offsets size end later)
    (both_true (nat_le start end) (nat_le end size && are_offsets size end later) all).1).1

sum_left : (at m size p q : ℕ) → p ≡ q + m → at + p ≤ size → (at + m) + q ≤ size
sum_left at m size p q is room = omega (arith, is, room)

pub room_left : (at m size end : ℕ) (left later : List ℕ) → left ≡ end ∷ later
    → at + length left * m ≤ size → (at + m) + length later * m ≤ size
room_left at m size end left later cut room =
    sum_left at m size (length left * m) (length later * m)
    (ap (λ (xs : List ℕ). length xs * m) cut ∙ suc-mul (length later) m) room

-- What is written, if there is room.
less_by : (n m : ℕ) → nat_le n m ≡ false → m < n
less_by n m short = leb-false n m short

span_count : (start : ℕ) (ends : List ℕ) → length (spans_from start ends) ≡ length ends
span_count start [] = refl
span_count start (end ∷ ends) = ap suc (span_count end ends)

pub no_place_for : (ends : List ℕ) (start m : ℕ) (places : List KohibladPlace) (test : Bool)
    → test ≡ nat_le (length ends * m) (length places) → test ≡ false
    → length places < length (spans_from start ends) * m
no_place_for ends start m places test is short =
    subst (λ (n : ℕ). length places < n * m) (sym (span_count start ends))
    (less_by (length ends * m) (length places) (sym is ∙ short))

pub place_for : (ends : List ℕ) (start m : ℕ) (places : List KohibladPlace) (test : Bool)
    → test ≡ nat_le (length ends * m) (length places) → test ≡ true
    → length (spans_from start ends) * m ≤ length places
place_for ends start m places test is enough =
    subst (λ (n : ℕ). n * m ≤ length places) (sym (span_count start ends))
    (leb-true (length ends * m) (length places) (sym is ∙ enough))

-- The places that are written so far for rows.
pub record LocatedSoFar (reading : Reading) (bytes : List ℕ) (names : List (Bor (List ℕ)))
    (rows left : List (ℕ × ℕ)) (at : ℕ) (places places_now : List KohibladPlace) : Type 0 where
  pub done : List (ℕ × ℕ)
  pub found : List (List KohibladPlace)
  pub whole : rows ≡ done ++ left
  pub each : AllZip (AreNamesLocated reading bytes names) done found
  pub many : length (joined_places found) ≡ at
  pub places_are : places_now ≡ joined_places found ++ drop at places

pub none_located : (reading : Reading) (bytes : List ℕ) (names : List (Bor (List ℕ)))
    (rows : List (ℕ × ℕ)) (places : List KohibladPlace)
    → LocatedSoFar reading bytes names rows rows 0 places places
none_located reading bytes names rows places = record {
  done = [];
  found = [];
  whole = refl;
  each = tt;
  many = refl;
  places_are = refl;
}

all_zip_long : {A B : Type 0} (R : A → B → Type 0) (xs : List A) (ys : List B) → AllZip R xs ys
    → length ys ≡ length xs
all_zip_long R [] [] are = refl
all_zip_long R [] (y ∷ ys) are = absurd are
all_zip_long R (x ∷ xs) [] are = absurd are
all_zip_long R (x ∷ xs) (y ∷ ys) are =
    let rest = all_zip_long R xs ys are.1 in omega (arith, rest)

pub one_more_located : (reading : Reading) (bytes : List ℕ) (names : List (Bor (List ℕ)))
    (rows left later : List (ℕ × ℕ)) (row : ℕ × ℕ) (at : ℕ)
    (places places_now places_after : List KohibladPlace) (found : List KohibladPlace)
    → LocatedSoFar reading bytes names rows left at places places_now
    → left ≡ row ∷ later → AreNamesLocated reading bytes names row found
    → ArePutBehind at found places_now places_after
    → LocatedSoFar reading bytes names rows later (at + length names) places places_after
one_more_located reading bytes names rows left later row at places places_now places_after found
    so_far cut are put =
    let before = so_far.found in
    let long : length found ≡ length names = all_zip_long (IsLocatedIn reading bytes row) names
    found are in
    let joined : joined_places (before ++ found ∷ []) ≡ joined_places before ++ found =
    flat_map-append (λ places. places) before (found ∷ [])
    ∙ ap (λ (xs : List KohibladPlace). joined_places before ++ xs) (append-nil found) in
    let many = so_far.many in
    record {
      done = so_far.done ++ row ∷ [];
      found = before ++ found ∷ [];
      whole =
          so_far.whole
          ∙ ap (λ (xs : List (ℕ × ℕ)). so_far.done ++ xs) cut
          ∙ sym (append_assoc so_far.done (row ∷ []) later);
      each = all_zipped_more (AreNamesLocated reading bytes names) so_far.done before row found
          so_far.each are;
      many = ap length joined ∙ length-append (joined_places before) found
          ∙ omega (arith, many, long);
      places_are =
          put (joined_places before) places many so_far.places_are
          ∙ ap₂ (λ (xs : List KohibladPlace) (n : ℕ). xs ++ drop n places) (sym joined)
          (omega (arith, long));
    }

-- A call with the names that a document gives.
module _ (Refused : ℕ → Type 0) (Done : List (Bor (List ℕ)) → Type 0)
    (names : List (Bor (List ℕ)))
    (refuse : names_ascend None (texts names) ≡ false → Refused other_kind)
    (perform : names_ascend None (texts names) ≡ true
    → Done names ⊎ Refused (code OutOfMemory)) where
  made : names_ascend None (texts names) ≡ true → Done names ⊎ Refused (code OutOfMemory)
      → WithNames Refused Done (Some (texts names)) ⊎ Refused (code OutOfMemory)
  made order (inl done) = inl (inr (order, (names, (refl, done))))
  made order (inr refused) = inr refused

  by_order : (test : Bool) → names_ascend None (texts names) ≡ test
      → WithNames Refused Done (Some (texts names)) ⊎ Refused (code OutOfMemory)
  by_order true order = made order (perform order)
  by_order false order = inl (inl (order, refuse order))

  pub with_names : (t : Tree) (m : Meaning) → m ≡ document t → Some (texts names) ≡ names_in t
      → WithNamesOf Refused Done m
  with_names t m means are =
      subst (WithNamesOf Refused Done) (sym means)
      (subst
      (λ (o : Option (List (List ℕ))). WithNames Refused Done o ⊎ Refused (code OutOfMemory)) are
      (by_order (names_ascend None (texts names)) refl))
