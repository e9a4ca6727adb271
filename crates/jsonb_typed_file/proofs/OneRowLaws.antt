-- One row of a file alone has what the row has.
use Rattle.std.proofs.Common.{◌≡◌, ℕ, zero, suc, ◌+◌, ◌-◌, ◌*◌, ◌/◌, ◌%◌, ◌<◌, ◌≤◌, Bool, true}
use Rattle.std.proofs.Common.{false}
use Rattle.std.proofs.Common.{List, [], ◌∷◌, map, length, take, drop, get_or, not, ◌==◌}
use Rattle.std.proofs.Common.{refl, sym, ap, ap₂, subst, arith, ◌∙◌, Option, None, Some}
use Rattle.std.specs.Prelude.{if◌then◌else◌, option_map, slice_index}
use Rattle.std.specs.Int.{w32, w64, w128, cast_signed}
use Rattle.std.specs.Str.{IsUtf8}
use Rattle.std.proofs.Common.{pos}
use Rattle.std.proofs.lemmas.List.{get_or-drop, get_or-take, length-drop}
use Rattle.std.proofs.lemmas.List.{length-take-le}
use Rattle.byteorder.specs.Endian.{big_from, big_number}
use Rattle.jsonb_value.specs.Json.Numeral.{number_of}
use Rattle.jsonb_value.specs.Tree.{Tree, binary, boolean, date, extension, interval}
use Rattle.jsonb_value.specs.Tree.{number, text, timestamp, timestamp_tz}
use Rattle.jsonb_codec.specs.Depth.{IsDocumentWithin}
use Rattle.jsonb_codec.specs.Doc.{IsDocument}
use Rattle.jsonb.specs.Document.{tree_in}
use Rattle.jsonb_typed.specs.declared.scalar.ScalarType.{ScalarType}
use Rattle.jsonb_typed.specs.declared.scalar.ScalarType.TheVariants as types
use Rattle.jsonb_typed_file.specs.File.{AscendNames, HaveRows, HaveTexts, IsFile, IsRestAt}
use Rattle.jsonb_typed_file.specs.File.{LengthsFit, NestWithin, row_count}
use Rattle.jsonb_typed_file.specs.Layout.{Contents, Parts}
use Rattle.jsonb_typed_file.specs.OneRow.{IsRowInForm, IsRowOf, IsRowWithin, column_of_row}
use Rattle.jsonb_typed_file.specs.OneRow.{file_of_row, span_of}
use Rattle.jsonb_typed_file.specs.Rows.{column_members, with_fields, with_stored}
use Rattle.jsonb_typed_file.specs.Values.{HasRows, IsSpanAt, IsTextOfRow, column_cell, is_set}
use Rattle.jsonb_typed_file.specs.Values.{number_at, number_size, string_at, value_tree}

-- The bytes that are span_of out are among those of a column.
pub numbers_within : (t : ScalarType) (rows index : ℕ) → index < rows
    → ((number_size t 0 ≤ number_size t index)
    × (number_size t index - number_size t 0 ≤ number_size t (index + 1)))
    × (number_size t (index + 1) ≤ number_size t rows)
numbers_within types.Boolean rows index low =
    ((omega (arith, low), omega (arith, low)), omega (arith, low))
numbers_within types.Int64 rows index low =
    ((omega (arith, low), omega (arith, low)), omega (arith, low))
numbers_within types.UInt64 rows index low =
    ((omega (arith, low), omega (arith, low)), omega (arith, low))
numbers_within (types.Decimal scale) rows index low =
    ((omega (arith, low), omega (arith, low)), omega (arith, low))
numbers_within types.Text rows index low =
    ((omega (arith, low), omega (arith, low)), omega (arith, low))
numbers_within types.Date rows index low =
    ((omega (arith, low), omega (arith, low)), omega (arith, low))
numbers_within types.Timestamp rows index low =
    ((omega (arith, low), omega (arith, low)), omega (arith, low))
numbers_within types.ZonedTimestamp rows index low =
    ((omega (arith, low), omega (arith, low)), omega (arith, low))
numbers_within types.Interval rows index low =
    ((omega (arith, low), omega (arith, low)), omega (arith, low))
numbers_within types.Binary rows index low =
    ((omega (arith, low), omega (arith, low)), omega (arith, low))

-- Bytes that begin alike begin with the same number.
same_big : (i n : ℕ) (xs ys : List ℕ)
    → ((j : ℕ) → j < i + n → slice_index xs j ≡ slice_index ys j)
    → big_from i n xs ≡ big_from i n ys
same_big i zero xs ys alike = refl
same_big i (suc n) xs ys alike =
    rw (alike i (omega arith), same_big (suc i) n xs ys (λ j low. alike j (omega (arith, low))))
    refl

-- A byte of bytes that are span_of out.
cut_byte : (start end k j : ℕ) (bytes : List ℕ) → k + j < end - start
    → get_or (drop k (span_of start end bytes)) j 0 ≡ get_or (drop (start + k) bytes) j 0
cut_byte start end k j bytes within =
    let sums : start + (k + j) ≡ start + k + j = omega arith in
    get_or-drop k (span_of start end bytes) j 0
    ∙ get_or-take (end - start) (drop start bytes) (k + j) 0 within
    ∙ get_or-drop start bytes (k + j) 0
    ∙ ap (λ n. get_or bytes n 0) sums
    ∙ sym (get_or-drop (start + k) bytes j 0)

-- A number of bytes that are span_of out.
cut_number : (size start end k : ℕ) (bytes : List ℕ) → k + size ≤ end - start
    → big_number size (drop k (span_of start end bytes)) ≡ big_number size (drop (start + k) bytes)
cut_number size start end k bytes within =
    same_big 0 size (drop k (span_of start end bytes)) (drop (start + k) bytes)
    (λ j low. cut_byte start end k j bytes (omega (arith, within, low)))

number_alone : (size start end place : ℕ) (bytes : List ℕ) → start ≡ place → start + size ≤ end
    → big_number size (drop 0 (span_of start end bytes)) ≡ big_number size (drop place bytes)
number_alone size start end place bytes begins room =
    let is : start + 0 ≡ place = omega (arith, begins) in
    cut_number size start end 0 bytes (omega (arith, room))
    ∙ ap (λ n. big_number size (drop n bytes)) is

-- The same of a number behind so many bytes.
later_alone : (size skip start end place : ℕ) (bytes : List ℕ) → start ≡ place
    → start + (skip + size) ≤ end
    → big_number size (drop skip (drop 0 (span_of start end bytes)))
    ≡ big_number size (drop skip (drop place bytes))
later_alone size skip start end place bytes begins room =
    let is : start + 0 ≡ place = omega (arith, begins) in
    same_big 0 size (drop skip (drop 0 (span_of start end bytes))) (drop skip (drop place bytes))
    (λ j low. get_or-drop skip (drop 0 (span_of start end bytes)) j 0
    ∙ cut_byte start end 0 (skip + j) bytes (omega (arith, room, low))
    ∙ ap (λ n. get_or (drop n bytes) (skip + j) 0) is
    ∙ sym (get_or-drop skip (drop place bytes) j 0))

-- The two offsets of a string that are span_of out.
start_alone : (start end index : ℕ) (offsets : List ℕ) → start ≡ 8 * index → end ≡ 8 * index + 16
    → number_at 8 0 (span_of start end offsets) ≡ number_at 8 index offsets
start_alone start end index offsets begins ends =
    number_alone 8 start end (8 * index) offsets begins (omega (arith, begins, ends))

end_alone : (start end index : ℕ) (offsets : List ℕ) → start ≡ 8 * index → end ≡ 8 * index + 16
    → number_at 8 1 (span_of start end offsets) ≡ number_at 8 (index + 1) offsets
end_alone start end index offsets begins ends =
    let is : start + 8 ≡ 8 * (index + 1) = omega (arith, begins) in
    cut_number 8 start end 8 offsets (omega (arith, begins, ends))
    ∙ ap (λ n. big_number 8 (drop n offsets)) is

string_alone : (start end index : ℕ) (offsets bytes : List ℕ) → start ≡ 8 * index
    → end ≡ 8 * index + 16
    → string_at (span_of start end offsets) bytes 0 ≡ string_at offsets bytes index
string_alone start end index offsets bytes begins ends =
    ap₂ (λ (a b : ℕ). take (b - a) (drop a bytes))
    (start_alone start end index offsets begins ends)
    (end_alone start end index offsets begins ends)

within_alone : (start end index : ℕ) (offsets bytes : List ℕ) → start ≡ 8 * index
    → end ≡ 8 * index + 16
    → IsSpanAt (span_of start end offsets) bytes 0 ≡ IsSpanAt offsets bytes index
within_alone start end index offsets bytes begins ends =
    ap₂ (λ (a b : ℕ). (a ≤ b) × (b ≤ length bytes))
    (start_alone start end index offsets begins ends)
    (end_alone start end index offsets begins ends)

-- The place of the offsets of a text.
text_start : (index : ℕ) → number_size types.Text index - number_size types.Text 0 ≡ 8 * index
text_start index = omega arith

text_end : (index : ℕ) → number_size types.Text (index + 1) ≡ 8 * index + 16
text_end index = omega arith

-- The values of which numbers are parts.
abbrev zoned_of : ℕ → ℕ → Option Tree
zoned_of offset value = Some (extension (timestamp_tz (record {
  offset = cast_signed w32 offset;
  value = cast_signed w64 value;
})))

abbrev interval_of : ℕ → ℕ → ℕ → Option Tree
interval_of months days micros = Some (extension (interval (record {
  months = cast_signed w32 months;
  days = cast_signed w32 days;
  micros = cast_signed w64 micros;
})))

-- The value of the row.
value_alone : (t : ScalarType) (numbers texts : List ℕ) (index : ℕ)
    → value_tree t
    (span_of (number_size t index - number_size t 0) (number_size t (index + 1)) numbers) texts 0
    ≡ value_tree t numbers texts index
value_alone types.Boolean numbers texts index =
    let start = 1 * index - 1 * 0 in let end = 1 * (index + 1) in
    let byte : get_or (drop 0 (span_of start end numbers)) 0 0
    ≡ get_or (drop (1 * index) numbers) 0 0 =
    cut_byte start end 0 0 numbers (omega arith)
    ∙ ap (λ n. get_or (drop n numbers) 0 0) (omega arith) in
    ap (λ b. Some (boolean (not (b == 0)))) byte
value_alone types.Int64 numbers texts index =
    ap (λ n. option_map number (number_of 0 (cast_signed w64 n)))
    (number_alone 8 (8 * index - 8 * 0) (8 * (index + 1)) (8 * index) numbers (omega arith)
    (omega arith))
value_alone types.UInt64 numbers texts index =
    ap (λ n. option_map number (number_of 0 (pos n)))
    (number_alone 8 (8 * index - 8 * 0) (8 * (index + 1)) (8 * index) numbers (omega arith)
    (omega arith))
value_alone (types.Decimal scale) numbers texts index =
    ap (λ n. option_map number (number_of scale (cast_signed w128 n)))
    (number_alone 16 (16 * index - 16 * 0) (16 * (index + 1)) (16 * index) numbers (omega arith)
    (omega arith))
value_alone types.Text numbers texts index =
    ap (λ s. Some (text s))
    (string_alone (number_size types.Text index - number_size types.Text 0)
    (number_size types.Text (index + 1)) index numbers texts (text_start index)
    (text_end index))
value_alone types.Date numbers texts index =
    ap (λ n. Some (extension (date (record { value = cast_signed w32 n }))))
    (number_alone 4 (4 * index - 4 * 0) (4 * (index + 1)) (4 * index) numbers (omega arith)
    (omega arith))
value_alone types.Timestamp numbers texts index =
    ap (λ n. Some (extension (timestamp (record { value = cast_signed w64 n }))))
    (number_alone 8 (8 * index - 8 * 0) (8 * (index + 1)) (8 * index) numbers (omega arith)
    (omega arith))
value_alone types.ZonedTimestamp numbers texts index =
    let start = 12 * index - 12 * 0 in let end = 12 * (index + 1) in
    ap₂ zoned_of
    (later_alone 4 8 start end (12 * index) numbers (omega arith) (omega arith))
    (number_alone 8 start end (12 * index) numbers (omega arith) (omega arith))
value_alone types.Interval numbers texts index =
    let start = 16 * index - 16 * 0 in let end = 16 * (index + 1) in
    let row = drop 0 (span_of start end numbers) in
    let place = drop (16 * index) numbers in
    ap₂ (λ (m d : ℕ). interval_of m d (big_number 8 (drop 8 row)))
    (number_alone 4 start end (16 * index) numbers (omega arith) (omega arith))
    (later_alone 4 4 start end (16 * index) numbers (omega arith) (omega arith))
    ∙ ap (interval_of (big_number 4 place) (big_number 4 (drop 4 place)))
    (later_alone 8 8 start end (16 * index) numbers (omega arith) (omega arith))
value_alone types.Binary numbers texts index =
    ap (λ s. Some (extension (binary s)))
    (string_alone (number_size types.Binary index - number_size types.Binary 0)
    (number_size types.Binary (index + 1)) index numbers texts (text_start index)
    (text_end index))

-- The flag of the row.
set_flag : (b : Bool) → is_set (if b then 1 ∷ [] else 0 ∷ []) 0 ≡ b
set_flag true = refl
set_flag false = refl

flag_length : (b : Bool) → length {A = ℕ} (if b then 1 ∷ [] else 0 ∷ []) ≡ 1
flag_length true = refl
flag_length false = refl

-- What the row has in a column.
cell_alone : (p : Parts) (index : ℕ) → column_cell (column_of_row p index) 0 ≡ column_cell p index
cell_alone p index =
    ap₂ (λ (b : Bool) (o : Option Tree). if b then o else None)
    (set_flag (is_set p.flags index)) (value_alone p.type p.numbers p.texts index)

-- What it has in all of them.
members_alone : (ps : List Parts) (index : ℕ)
    → column_members (map (λ p. column_of_row p index) ps) 0 ≡ column_members ps index
members_alone [] index = refl
members_alone (p ∷ ps) index =
    ap₂ (with_stored p.name) (cell_alone p index) (members_alone ps index)

-- How long the buffers are.
cut_length : (start end : ℕ) (bytes : List ℕ) → end ≤ length bytes
    → length (span_of start end bytes) ≡ end - start
cut_length start end bytes within =
    length-take-le (end - start) (drop start bytes)
    (omega (arith, within, length-drop start bytes))

numbers_alone : (t : ScalarType) (rows index : ℕ) (numbers : List ℕ) → index < rows
    → length numbers ≡ number_size t rows
    → length (span_of (number_size t index - number_size t 0) (number_size t (index + 1)) numbers)
    ≡ number_size t 1
numbers_alone t rows index numbers low size =
    cut_length (number_size t index - number_size t 0) (number_size t (index + 1)) numbers
    (subst (λ n. number_size t (index + 1) ≤ n) (sym size) (numbers_within t rows index low).1)
    ∙ sizes t index
  where
    sizes : (t : ScalarType) (index : ℕ)
        → number_size t (index + 1) - (number_size t index - number_size t 0) ≡ number_size t 1
    sizes types.Boolean index = omega arith
    sizes types.Int64 index = omega arith
    sizes types.UInt64 index = omega arith
    sizes (types.Decimal scale) index = omega arith
    sizes types.Text index = omega arith
    sizes types.Date index = omega arith
    sizes types.Timestamp index = omega arith
    sizes types.ZonedTimestamp index = omega arith
    sizes types.Interval index = omega arith
    sizes types.Binary index = omega arith

has_row : (p : Parts) (rows index : ℕ) → index < rows → HasRows rows p
    → HasRows 1 (column_of_row p index)
has_row p rows index low has = record {
  flags = flag_length (is_set p.flags index);
  numbers = numbers_alone p.type rows index p.numbers low has.numbers;
  texts = has.texts;
}

have_row : (ps : List Parts) (rows index : ℕ) → index < rows → HaveRows rows ps
    → HaveRows 1 (map (λ p. column_of_row p index) ps)
have_row [] rows index low have = tt
have_row (p ∷ ps) rows index low have =
    (has_row p rows index low have.0, have_row ps rows index low have.1)

-- The offsets of the row.
offsets_alone : (f : Contents) (index : ℕ) → LengthsFit f → index < row_count f
    → length (span_of (8 * index) (8 * index + 16) f.offsets) ≡ 16
offsets_alone f index fit low =
    cut_length (8 * index) (8 * index + 16) f.offsets
    (omega (arith, fit.some, fit.whole, low))
    ∙ omega arith

count_alone : (f : Contents) (index : ℕ) → LengthsFit f → index < row_count f
    → row_count (file_of_row f index) ≡ 1
count_alone f index fit low = ap (λ n. n / 8 - 1) (offsets_alone f index fit low)

pub row_fits : (f : Contents) (index : ℕ) → LengthsFit f → index < row_count f
    → LengthsFit (file_of_row f index)
row_fits f index fit low = record {
  some = omega (arith, offsets_alone f index fit low);
  whole = ap (λ n. n % 8) (offsets_alone f index fit low);
  columns = subst (λ n. HaveRows n (map (λ p. column_of_row p index) f.columns))
      (sym (count_alone f index fit low))
      (have_row f.columns (row_count f) index low fit.columns);
}

pub row_of : (f : Contents) (index : ℕ) → LengthsFit f → index < row_count f
    → IsRowOf f index (file_of_row f index)
row_of f index fit low =
    let rest = string_alone (8 * index) (8 * index + 16) index f.offsets f.documents refl refl in
    record {
      count = count_alone f index fit low;
      rest = rest;
      tree = ap₂ (λ (s : List ℕ) qs. with_fields (tree_in s) qs) rest
          (members_alone f.columns index);
    }

-- Only the first index is below one.
first_alone : (P : ℕ → Type 0) (n : ℕ) → n ≡ 1 → P 0 → (i : ℕ) → i < n → P i
first_alone P n one first i low =
    let is : i ≡ 0 = omega (arith, one, low) in subst P (sym is) first

-- The names of the columns.
names_alone : (before : Option (List ℕ)) (ps : List Parts) (index : ℕ) → AscendNames before ps
    → AscendNames before (map (λ p. column_of_row p index) ps)
names_alone before [] index names = tt
names_alone before (p ∷ ps) index names = (names.0, names_alone (Some p.name) ps index names.1)

-- The texts of the columns.
text_alone : (t : ScalarType) (numbers texts : List ℕ) (index : ℕ)
    → IsTextOfRow t numbers texts index
    → IsTextOfRow t
    (span_of (number_size t index - number_size t 0) (number_size t (index + 1)) numbers) texts 0
text_alone types.Boolean numbers texts index is = tt
text_alone types.Int64 numbers texts index is = tt
text_alone types.UInt64 numbers texts index is = tt
text_alone (types.Decimal scale) numbers texts index is = tt
text_alone types.Text numbers texts index is =
    let start = number_size types.Text index - number_size types.Text 0 in
    let end = number_size types.Text (index + 1) in (
      subst (λ A. A) (sym (within_alone start end index numbers texts (text_start index)
          (text_end index))) is.0,
      subst IsUtf8 (sym (string_alone start end index numbers texts (text_start index)
          (text_end index))) is.1,
    )
text_alone types.Date numbers texts index is = tt
text_alone types.Timestamp numbers texts index is = tt
text_alone types.ZonedTimestamp numbers texts index is = tt
text_alone types.Interval numbers texts index is = tt
text_alone types.Binary numbers texts index is =
    subst (λ A. A)
    (sym (within_alone (number_size types.Binary index - number_size types.Binary 0)
    (number_size types.Binary (index + 1)) index numbers texts (text_start index)
    (text_end index)))
    is

texts_alone : (ps : List Parts) (rows index : ℕ) → index < rows → HaveTexts rows ps
    → HaveTexts 1 (map (λ p. column_of_row p index) ps)
texts_alone [] rows index low have = tt
texts_alone (p ∷ ps) rows index low have = (
  first_alone (IsTextOfRow p.type (column_of_row p index).numbers p.texts) 1 refl
      (text_alone p.type p.numbers p.texts index (have.0 index low)),
  texts_alone ps rows index low have.1,
)

-- The rest of the row.
rest_alone : (f : Contents) (index : ℕ) → IsRestAt f.offsets f.documents index
    → IsRestAt (span_of (8 * index) (8 * index + 16) f.offsets) f.documents 0
rest_alone f index is = (
  subst (λ A. A) (sym (within_alone (8 * index) (8 * index + 16) index f.offsets f.documents refl
      refl)) is.0,
  subst IsDocument
      (sym (string_alone (8 * index) (8 * index + 16) index f.offsets f.documents refl refl))
      is.1,
)

-- Each row of a file is in form.
pub form_of_row : (f : Contents) (bytes : List ℕ) (index : ℕ) → IsFile f bytes
    → IsRowInForm f index
form_of_row f bytes index file low =
    let form = file.form in
    let one = count_alone f index file.lengths low in
    record {
      names = names_alone None f.columns index form.names;
      texts = subst (λ n. HaveTexts n (map (λ p. column_of_row p index) f.columns)) (sym one)
          (texts_alone f.columns (row_count f) index low form.texts);
      rests = first_alone
          (IsRestAt (span_of (8 * index) (8 * index + 16) f.offsets) f.documents)
          (row_count (file_of_row f index)) one (rest_alone f index (form.rests index low));
    }

-- Its rest nests as deep.
pub row_within : (depth : ℕ) (f : Contents) (index : ℕ) → LengthsFit f → index < row_count f
    → IsRowWithin depth f index → NestWithin (Some depth) (file_of_row f index)
row_within depth f index fit low within =
    first_alone
    (λ i. IsDocumentWithin depth
    (string_at (span_of (8 * index) (8 * index + 16) f.offsets) f.documents i))
    (row_count (file_of_row f index)) (count_alone f index fit low)
    (subst (IsDocumentWithin depth)
    (sym (string_alone (8 * index) (8 * index + 16) index f.offsets f.documents refl refl))
    (within low))
