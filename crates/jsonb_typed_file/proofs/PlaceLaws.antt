-- Where sections lie.
use Rattle.std.proofs.Common.{◌≡◌, ℕ, ◌+◌, ◌-◌, ◌<◌, ◌≤◌, List, [], ◌∷◌, ◌++◌, map, length}
use Rattle.std.proofs.Common.{take, drop, slice_index_or, refl, sym, ap, ap₂, subst, arith, ◌∙◌}
use Rattle.std.proofs.Common.{append_assoc}
use Rattle.std.specs.Int.{w64, to_be_bytes}
use Rattle.std.specs.List.{AllZip}
use Rattle.std.proofs.Math.Seq.{drop-append_seam, take-append_seam}
use Rattle.std.proofs.lemmas.List.{append-nil, length-append}
use Rattle.jsonb.specs.StoredRow.{row_bytes}
use Rattle.jsonb_typed_file.specs.declared.buffers.Buffers.{Buffers}
use Rattle.jsonb_typed_file.specs.declared.places.ColumnPlaces.{ColumnPlaces}
use Rattle.jsonb_typed_file.specs.declared.places.SectionPlace.{SectionPlace}
use Rattle.jsonb_typed_file.specs.Layout.{Contents, IsLayout, Parts, column_bytes, columns_bytes}
use Rattle.jsonb_typed_file.specs.Layout.{header}
use Rattle.jsonb_typed.specs.Scalars.{type_bytes}
use Rattle.jsonb_typed_file.specs.Places.{IsColumnAt, LiesAt}
use Rattle.jsonb_typed_file.specs.Views.{buffers_view}
use Rattle.jsonb_typed_file.proofs.FormLaws.{later_is}
use Rattle.jsonb_typed_file.proofs.LayoutLaws.{column_parts, columns-append, length-type_bytes}

-- The place of so many bytes behind others.
abbrev pub behind : ℕ → ℕ → SectionPlace
behind start size = record { offset = start + 8; length = size }

abbrev pub place_end : SectionPlace → ℕ
place_end place = place.offset + place.length

-- Bytes lie behind those before them.
lies : (front section later bytes : List ℕ) (offset : ℕ) → offset ≡ length front
    → bytes ≡ front ++ (section ++ later)
    → LiesAt bytes section (record { offset = offset; length = length section })
lies front section later bytes offset at is = record {
  within = omega (
    arith,
    at,
    ap length is,
    length-append front (section ++ later),
    length-append section later,
  );
  is = ap₂ (λ (n : ℕ) (b : List ℕ). take (length section) (drop n b)) at is
      ∙ ap (take (length section)) (drop-append_seam front (section ++ later))
      ∙ take-append_seam section later;
}

-- A section lies behind its length, and others behind it.
pub record Lies (bytes section later : List ℕ) (start : ℕ) : Type 0 where
  pub at : LiesAt bytes section (behind start (length section))
  pub front : List ℕ
  pub end : start + 8 + length section ≡ length front
  pub rest : bytes ≡ front ++ later

row_length : (section : List ℕ) → length (row_bytes section) ≡ 8 + length section
row_length section = omega arith

section_lies : (front section later bytes : List ℕ) (start : ℕ) → start ≡ length front
    → bytes ≡ front ++ (row_bytes section ++ later) → Lies bytes section later start
section_lies front section later bytes start at is =
    let size = to_be_bytes w64 (length section) in
    let eight : length size ≡ 8 = refl in
    let split : bytes ≡ (front ++ size) ++ (section ++ later) =
    is ∙ ap (λ s. front ++ s) (append_assoc size section later)
    ∙ sym (append_assoc front size (section ++ later)) in
    record {
      at = lies (front ++ size) section later bytes (start + 8)
          (omega (arith, at, eight, length-append front size)) split;
      front = front ++ row_bytes section;
      end = omega (arith, at, length-append front (row_bytes section), row_length section);
      rest = is ∙ sym (append_assoc front (row_bytes section) later);
    }

-- A name lies behind the bytes of its type.
name_lies : (front type name later bytes : List ℕ) (start : ℕ) → start ≡ length front
    → length type ≡ 2 → bytes ≡ front ++ (row_bytes (type ++ name) ++ later)
    → LiesAt bytes name (behind (start + 2) (length name))
name_lies front type name later bytes start at two is =
    let size = to_be_bytes w64 (length (type ++ name)) in
    let eight : length size ≡ 8 = refl in
    let before = front ++ (size ++ type) in
    let inner : row_bytes (type ++ name) ++ later ≡ (size ++ type) ++ (name ++ later) =
    append_assoc size (type ++ name) later
    ∙ ap (λ s. size ++ s) (append_assoc type name later)
    ∙ sym (append_assoc size type (name ++ later)) in
    let split : bytes ≡ before ++ (name ++ later) =
    is ∙ ap (λ s. front ++ s) inner
    ∙ sym (append_assoc front (size ++ type) (name ++ later)) in
    lies before name later bytes (start + 2 + 8)
    (omega (arith, at, two, eight, length-append front (size ++ type), length-append size type))
    split

-- The place of a column.
pub column_lies : (p : Parts) (front later bytes : List ℕ) (start a b c : ℕ)
    (rows : ℕ) (places : ColumnPlaces) → places.rows ≡ rows → places.column_type ≡ p.type
    → length front ≡ start
    → bytes ≡ front ++ (column_bytes p ++ later)
    → places.name ≡ behind (start + 2) (length p.name) → a ≡ place_end places.name
    → places.flags ≡ behind a (length p.flags) → b ≡ place_end places.flags
    → places.numbers ≡ behind b (length p.numbers) → c ≡ place_end places.numbers
    → places.texts ≡ behind c (length p.texts)
    → IsColumnAt bytes rows p places
column_lies p front later bytes start a b c rows places count type at is name first flags second
    numbers third texts =
    let head = type_bytes p.type ++ p.name in
    let parts = column_parts p later in
    let whole = is ∙ ap (λ s. front ++ s) parts in
    let begin = section_lies front head _ bytes start (sym at) whole in
    let size : length head ≡ 2 + length p.name =
    omega (arith, length-append (type_bytes p.type) p.name, length-type_bytes p.type) in
    let one : a ≡ length begin.front =
    first ∙ ap place_end name ∙ omega (arith, begin.end, size) in
    let next = section_lies begin.front p.flags _ bytes a one begin.rest in
    let two : b ≡ length next.front = second ∙ ap place_end flags ∙ omega (arith, next.end) in
    let then = section_lies next.front p.numbers _ bytes b two next.rest in
    let three : c ≡ length then.front = third ∙ ap place_end numbers ∙ omega (arith, then.end) in
    let last = section_lies then.front p.texts later bytes c three then.rest in
    record {
      rows_are = count;
      type = type;
      name = subst (LiesAt bytes p.name) (sym name)
          (name_lies front (type_bytes p.type) p.name _ bytes start (sym at)
          (length-type_bytes p.type) whole);
      flags = subst (LiesAt bytes p.flags) (sym flags) next.at;
      numbers = subst (LiesAt bytes p.numbers) (sym numbers) then.at;
      texts = subst (LiesAt bytes p.texts) (sym texts) last.at;
    }

-- One more pair of two lists.
zip_push : {A B : Type 0} (R : A → B → Type 0) (xs : List A) (ys : List B) (x : A) (y : B)
    → AllZip R xs ys → R x y → AllZip R (xs ++ x ∷ []) (ys ++ y ∷ [])
zip_push R [] [] x y all one = (one, tt)
zip_push R [] (b ∷ ys) x y all one = absurd all
zip_push R (a ∷ xs) [] x y all one = absurd all
zip_push R (a ∷ xs) (b ∷ ys) x y all one = (all.0, zip_push R xs ys x y all.1 one)

-- The places so far are those of the columns that were passed.
pub record PlacedSoFar (columns left : List Buffers) (rows first start : ℕ)
    (places : List ColumnPlaces) : Type 0 where
  pub done : List Parts
  pub parts : map buffers_view columns ≡ done ++ map buffers_view left
  pub reached : start ≡ first + length (columns_bytes done)
  pub placed : (front bytes : List ℕ) → length front ≡ first
      → bytes ≡ front ++ columns_bytes (map buffers_view columns)
      → AllZip (IsColumnAt bytes rows) done places

-- The column that is next takes no more than there is.
pub next_fits : (columns left : List Buffers) (d : Buffers) (rows first start limit : ℕ)
    (places : List ColumnPlaces) → 1 ≤ length left
    → PlacedSoFar columns left rows first start places
    → first + length (columns_bytes (map buffers_view columns)) < limit
    → start + length (column_bytes (buffers_view (slice_index_or left 0 d))) < limit
next_fits columns [] d rows first start limit places some so_far few = absurd (omega (arith, some))
next_fits columns (b ∷ bs) d rows first start limit places some so_far few =
    let all = map buffers_view (b ∷ bs) in
    let size : length (columns_bytes (map buffers_view columns))
    ≡ length (columns_bytes so_far.done) + length (columns_bytes all) =
    ap (λ ps. length (columns_bytes ps)) so_far.parts
    ∙ ap length (columns-append so_far.done all)
    ∙ length-append (columns_bytes so_far.done) (columns_bytes all) in
    omega (
      arith,
      few,
      size,
      so_far.reached,
      length-append (column_bytes (buffers_view b))
          (columns_bytes (map buffers_view bs)),
    )

pub one_more_placed : (columns left : List Buffers) (d : Buffers) (rows first start end : ℕ)
    (places more : List ColumnPlaces) (place : ColumnPlaces) → 1 ≤ length left
    → PlacedSoFar columns left rows first start places
    → ((front later bytes : List ℕ) → length front ≡ start
    → bytes ≡ front ++ (column_bytes (buffers_view (slice_index_or left 0 d)) ++ later)
    → IsColumnAt bytes rows (buffers_view (slice_index_or left 0 d)) place)
    → end ≡ start + length (column_bytes (buffers_view (slice_index_or left 0 d)))
    → more ≡ places ++ place ∷ []
    → PlacedSoFar columns (take (length left - 1) (drop 1 left)) rows first end more
one_more_placed columns [] d rows first start end places more place some so_far at ends pushed =
    absurd (omega (arith, some))
one_more_placed columns (b ∷ bs) d rows first start end places more place some so_far at ends
    pushed =
    let p = buffers_view b in let later = map buffers_view bs in
    let done = so_far.done in
    let now : map buffers_view columns ≡ (done ++ p ∷ []) ++ later =
    so_far.parts ∙ sym (append_assoc done (p ∷ []) later) in
    let one : columns_bytes (p ∷ []) ≡ column_bytes p = append-nil (column_bytes p) in
    record {
      done = done ++ p ∷ [];
      parts = now ∙ ap (λ bs. (done ++ p ∷ []) ++ map buffers_view bs) (sym (later_is b bs));
      reached = ends ∙ omega (
        arith,
        so_far.reached,
        ap length (columns-append done (p ∷ [])),
        ap length one,
        length-append (columns_bytes done) (columns_bytes (p ∷ [])),
      );
      placed = λ front bytes begins is. subst (AllZip (IsColumnAt bytes rows) (done ++ p ∷ []))
          (sym pushed)
          (zip_push (IsColumnAt bytes rows) done places p place
          (so_far.placed front bytes begins is)
          (at (front ++ columns_bytes done) (columns_bytes later) bytes
          (omega (arith, begins, so_far.reached, length-append front (columns_bytes done)))
          (is ∙ ap (λ ps. front ++ columns_bytes ps) so_far.parts
          ∙ ap (λ s. front ++ s) (columns-append done (p ∷ later))
          ∙ sym (append_assoc front (columns_bytes done)
          (column_bytes p ++ columns_bytes later)))));
    }

-- What is before the columns of a file.
abbrev pub before_columns : Contents → List ℕ
before_columns f = header (length f.columns) ++ (row_bytes f.offsets ++ row_bytes f.documents)

pub before_length : (f : Contents)
    → length (before_columns f) ≡ 32 + length f.offsets + length f.documents
before_length f =
    let head : length (header (length f.columns)) ≡ 16 = refl in
    omega (
      arith,
      head,
      length-append (header (length f.columns))
          (row_bytes f.offsets ++ row_bytes f.documents),
      length-append (row_bytes f.offsets) (row_bytes f.documents),
      row_length f.offsets,
      row_length f.documents,
    )

pub behind_columns : (f : Contents) (bytes : List ℕ) → IsLayout f bytes
    → bytes ≡ before_columns f ++ columns_bytes f.columns
behind_columns f bytes layout =
    let head = header (length f.columns) in let a = row_bytes f.offsets in
    let b = row_bytes f.documents in let c = columns_bytes f.columns in
    layout.written ∙ ap (λ s. head ++ s) (sym (append_assoc a b c))
    ∙ sym (append_assoc head (a ++ b) c)
