-- The bytes of a file determine what it is made of.
use Rattle.std.proofs.Common.{◌≡◌, ◌⊎◌, ℕ, true, false, Result, Ok, Err, ◌<◌, inl, inr}
use Rattle.std.proofs.Common.{◌≤◌, ◌^◌, List, [], ◌∷◌, ◌++◌, length, take, drop}
use Rattle.std.proofs.Common.{refl, sym, ap, ap₂, subst, ◌∙◌, arith, append_assoc}
use Rattle.std.specs.Prelude.{◌==◌, All, IfErr, IsErrAnd, if◌then◌else◌}
use Rattle.std.specs.Int.{w32, w64, to_be_bytes, from_be_bytes}
use Rattle.std.proofs.lemmas.Bool.{iff_false}
use Rattle.std.proofs.Math.Seq.{drop-append_seam, take-append_seam}
use Rattle.std.proofs.lemmas.List.{append-nil, length-append}
use Rattle.std.proofs.lemmas.List.Elements.{All-head, All-tail}
use Rattle.std.proofs.lemmas.Nat.{from_be_bytes-to_be_bytes_4, from_be_bytes-to_be_bytes_8}
use Rattle.jsonb.specs.StoredRow.{row_bytes}
use Rattle.jsonb_typed_file.specs.declared.error.FileError.{FileError}
use Rattle.jsonb_typed_file.specs.declared.error.FileError.TheVariants as errors
use Rattle.jsonb_typed.specs.declared.scalar.ScalarType.{ScalarType}
use Rattle.jsonb_typed.specs.declared.scalar.ScalarType.TheVariants as types
use Rattle.jsonb_typed_file.specs.Layout.{Contents, IsColumn, IsLayout, Parts, column_bytes}
use Rattle.jsonb_typed_file.specs.Layout.{columns_bytes, file_bytes, header}
use Rattle.jsonb_typed_file.specs.Layout.{EndsEarly, HasOtherVersion, HasTrailingData, IsCutOff}
use Rattle.jsonb_typed_file.specs.Layout.{magic}
use Rattle.jsonb_typed.specs.Scalars.{type_bytes}

-- Equal concatenations whose first parts have equal lengths have equal parts.
pub same_parts : (a b x y : List ℕ) → length a ≡ length b → a ++ x ≡ b ++ y → (a ≡ b) × (x ≡ y)
same_parts a b x y size same = (
  sym (take-append_seam a x) ∙ ap₂ (λ (n : ℕ) (s : List ℕ). take n s) size same
      ∙ take-append_seam b y,
  sym (drop-append_seam a x) ∙ ap₂ (λ (n : ℕ) (s : List ℕ). drop n s) size same
      ∙ drop-append_seam b y,
)

-- A section followed by other bytes is determined by its length.
pub same_row : (f r x y : List ℕ) → length f < 2 ^ 64 → length r < 2 ^ 64
    → row_bytes f ++ x ≡ row_bytes r ++ y → (f ≡ r) × (x ≡ y)
same_row f r x y few short same =
    let lengths = to_be_bytes w64 (length f) in let others = to_be_bytes w64 (length r) in
    let parted : lengths ++ (f ++ x) ≡ others ++ (r ++ y) =
    sym (append_assoc lengths f x) ∙ same ∙ append_assoc others r y in
    let (be, later) = same_parts lengths others (f ++ x) (r ++ y) refl parted in
    let size : length f ≡ length r = sym (from_be_bytes-to_be_bytes_8 (length f) few)
    ∙ ap (from_be_bytes w64) be ∙ from_be_bytes-to_be_bytes_8 (length r) short in
    same_parts f r x y size later

-- The bytes of a column's head.
abbrev pub head : Parts → List ℕ
head p = type_bytes p.type ++ p.name

-- The sections of a column one by one, and what is behind them.
pub column_parts : (p : Parts) (later : List ℕ) → column_bytes p ++ later
    ≡ row_bytes (head p)
    ++ (row_bytes p.flags ++ (row_bytes p.numbers ++ (row_bytes p.texts ++ later)))
column_parts p later =
    let a = row_bytes (head p) in let b = row_bytes p.flags in let c = row_bytes p.numbers in
    let d = row_bytes p.texts in
    append_assoc a (b ++ (c ++ d)) later
    ∙ ap (λ s. a ++ s)
    (append_assoc b (c ++ d) later ∙ ap (λ s. b ++ s) (append_assoc c d later))

-- What is behind the head of a column that begins the bytes.
pub after_head : (p : Parts) (later bytes h x : List ℕ) → IsColumn p
    → bytes ≡ column_bytes p ++ later → length h < 2 ^ 64 → bytes ≡ row_bytes h ++ x
    → (h ≡ head p)
    × (x ≡ row_bytes p.flags ++ (row_bytes p.numbers ++ (row_bytes p.texts ++ later)))
after_head p later bytes h x column written short split =
    same_row h (head p) x _ short column.head (sym split ∙ written ∙ column_parts p later)

-- The type of a code and a scale.
abbrev type_of_code : ℕ → ℕ → ScalarType
type_of_code code scale =
    if code == 0 then types.Boolean
    else if code == 1 then types.Int64
    else if code == 2 then types.UInt64
    else if code == 3 then types.Decimal scale
    else if code == 4 then types.Text
    else if code == 5 then types.Date
    else if code == 6 then types.Timestamp
    else if code == 7 then types.ZonedTimestamp
    else if code == 8 then types.Interval
    else types.Binary

-- The type that two bytes name.
abbrev type_named : List ℕ → ScalarType
type_named (code ∷ scale ∷ xs) = type_of_code code scale
type_named xs = types.Binary

type_named-type_bytes : (t : ScalarType) (xs : List ℕ) → type_named (type_bytes t ++ xs) ≡ t
type_named-type_bytes types.Boolean xs = refl
type_named-type_bytes types.Int64 xs = refl
type_named-type_bytes types.UInt64 xs = refl
type_named-type_bytes (types.Decimal s) xs = refl
type_named-type_bytes types.Text xs = refl
type_named-type_bytes types.Date xs = refl
type_named-type_bytes types.Timestamp xs = refl
type_named-type_bytes types.ZonedTimestamp xs = refl
type_named-type_bytes types.Interval xs = refl
type_named-type_bytes types.Binary xs = refl

pub length-type_bytes : (t : ScalarType) → length (type_bytes t) ≡ 2
length-type_bytes types.Boolean = refl
length-type_bytes types.Int64 = refl
length-type_bytes types.UInt64 = refl
length-type_bytes (types.Decimal s) = refl
length-type_bytes types.Text = refl
length-type_bytes types.Date = refl
length-type_bytes types.Timestamp = refl
length-type_bytes types.ZonedTimestamp = refl
length-type_bytes types.Interval = refl
length-type_bytes types.Binary = refl

pub same_head : (t u : ScalarType) (x y : List ℕ) → type_bytes t ++ x ≡ type_bytes u ++ y
    → (t ≡ u) × (x ≡ y)
same_head t u x y same = (
  sym (type_named-type_bytes t x) ∙ ap type_named same ∙ type_named-type_bytes u y,
  (same_parts (type_bytes t) (type_bytes u) x y (length-type_bytes t ∙ sym (length-type_bytes u))
      same).1,
)

same_record : (f p : Parts) → f.name ≡ p.name → f.type ≡ p.type → f.flags ≡ p.flags
    → f.numbers ≡ p.numbers → f.texts ≡ p.texts → f ≡ p
same_record f p name type flags numbers texts = rw (name, type, flags, numbers, texts) refl

-- A column followed by other bytes is determined by the bytes.
pub same_column : (f p : Parts) (x y : List ℕ) → IsColumn f → IsColumn p
    → column_bytes f ++ x ≡ column_bytes p ++ y → (f ≡ p) × (x ≡ y)
same_column f p x y first second same =
    let (heads, a) = after_head p y (column_bytes f ++ x) (head f) _ second same first.head
    (column_parts f x) in
    let (flags, b) = same_row f.flags p.flags _ _ first.flags second.flags a in
    let (numbers, c) = same_row f.numbers p.numbers _ _ first.numbers second.numbers b in
    let (texts, d) = same_row f.texts p.texts _ _ first.texts second.texts c in
    let (type, name) = same_head f.type p.type f.name p.name heads in
    (same_record f p name type flags numbers texts, d)

-- Columns that were read before the rest are the first of all the columns.
pub record GoesOn (front ps : List Parts) (rest more : List ℕ) : Type 0 where
  pub tail : List Parts
  pub columns : ps ≡ front ++ tail
  pub each : All IsColumn tail
  pub rest_is : rest ≡ columns_bytes tail ++ more

pub columns_front : (front ps : List Parts) (rest more : List ℕ) → All IsColumn front
    → All IsColumn ps → length front ≤ length ps
    → columns_bytes front ++ rest ≡ columns_bytes ps ++ more
    → GoesOn front ps rest more
columns_front [] ps rest more first all few same =
    record { tail = ps; columns = refl; each = all; rest_is = same }
columns_front (f ∷ front) [] rest more first all few same = absurd (omega (arith, few))
columns_front (f ∷ front) (p ∷ ps) rest more first all few same =
    let (is, later) = same_column f p (columns_bytes front ++ rest) (columns_bytes ps ++ more)
    (All-head IsColumn f front first) (All-head IsColumn p ps all)
    (sym (append_assoc (column_bytes f) (columns_bytes front) rest) ∙ same
    ∙ append_assoc (column_bytes p) (columns_bytes ps) more) in
    let on = columns_front front ps rest more (All-tail IsColumn f front first)
    (All-tail IsColumn p ps all) (omega (arith, few)) later in
    record {
      tail = on.tail;
      columns = ap₂ (λ (x : Parts) (xs : List Parts). x ∷ xs) (sym is) on.columns;
      each = on.each;
      rest_is = on.rest_is;
    }

-- One more column after others.
pub columns-append : (xs ys : List Parts)
    → columns_bytes (xs ++ ys) ≡ columns_bytes xs ++ columns_bytes ys
columns-append [] ys = refl
columns-append (x ∷ xs) ys = ap (λ b. column_bytes x ++ b) (columns-append xs ys)
    ∙ sym (append_assoc (column_bytes x) (columns_bytes xs) (columns_bytes ys))

pub columns-push : (ps : List Parts) (p : Parts) (bytes rest later : List ℕ)
    → bytes ≡ columns_bytes ps ++ rest → rest ≡ column_bytes p ++ later
    → bytes ≡ columns_bytes (ps ++ p ∷ []) ++ later
columns-push ps p bytes rest later was split =
    was ∙ ap (λ b. columns_bytes ps ++ b) split
    ∙ sym (append_assoc (columns_bytes ps) (column_bytes p) later)
    ∙ ap (λ b. b ++ later)
    (sym (columns-append ps (p ∷ [])
    ∙ ap (λ b. columns_bytes ps ++ b) (append-nil (column_bytes p))))

-- Columns that go on do not end where one is read.
pub goes_on : (ps front : List Parts) (bytes rest more : List ℕ) → All IsColumn front
    → All IsColumn ps → bytes ≡ columns_bytes front ++ rest → length front ≤ length ps
    → bytes ≡ columns_bytes ps ++ more → GoesOn front ps rest more
goes_on ps front bytes rest more first all was few written =
    columns_front front ps rest more first all few (sym was ∙ written)

-- The next column, if fewer were read than there are.
pub next_column : (ps front : List Parts) (bytes rest more : List ℕ) → All IsColumn front
    → All IsColumn ps → bytes ≡ columns_bytes front ++ rest → length front < length ps
    → bytes ≡ columns_bytes ps ++ more
    → (p : Parts) × (IsColumn p × ((later : List ℕ) × (rest ≡ column_bytes p ++ later)))
next_column ps front bytes rest more first all was few written =
    let on = goes_on ps front bytes rest more first all was (omega (arith, few)) written in
    begun on.tail on.columns on.each on.rest_is
  where
    begun : (tail : List Parts) → ps ≡ front ++ tail → All IsColumn tail
        → rest ≡ columns_bytes tail ++ more
        → (p : Parts) × (IsColumn p × ((later : List ℕ) × (rest ≡ column_bytes p ++ later)))
    begun [] columns each is =
        absurd (omega (arith, few, ap length (columns ∙ append-nil front)))
    begun (p ∷ tail) columns each is = (
      p,
      (
        All-head IsColumn p tail each,
        (
          columns_bytes tail ++ more,
          is ∙ append_assoc (column_bytes p) (columns_bytes tail) more,
        ),
      ),
    )

-- All columns were read.
pub all_columns : (ps front : List Parts) (bytes rest more : List ℕ) → All IsColumn front
    → All IsColumn ps → bytes ≡ columns_bytes front ++ rest → length front ≡ length ps
    → bytes ≡ columns_bytes ps ++ more → (front ≡ ps) × (rest ≡ more)
all_columns ps front bytes rest more first all was size written =
    let on = goes_on ps front bytes rest more first all was (omega (arith, size)) written in
    ended on.tail on.columns on.rest_is
  where
    ended : (tail : List Parts) → ps ≡ front ++ tail → rest ≡ columns_bytes tail ++ more
        → (front ≡ ps) × (rest ≡ more)
    ended [] columns is = (sym (columns ∙ append-nil front), is)
    ended (p ∷ tail) columns is =
        absurd (omega (arith, size, ap length columns, length-append front (p ∷ tail)))

-- A header followed by other bytes says its number of columns.
pub same_header : (n m : ℕ) (x y : List ℕ) → n < 2 ^ 32 → m < 2 ^ 32
    → header n ++ x ≡ header m ++ y → (n ≡ m) × (x ≡ y)
same_header n m x y few small same =
    let (heads, later) = same_parts (header n) (header m) x y refl same in
    let counts : to_be_bytes w32 n ≡ to_be_bytes w32 m = ap (λ b. drop 12 b) heads in (
      sym (from_be_bytes-to_be_bytes_4 n few) ∙ ap (from_be_bytes w32) counts
          ∙ from_be_bytes-to_be_bytes_4 m small,
      later,
    )

-- No is not yes.
pub no_true : false ≡ true → ⊥
no_true is = iff_false {b = false} {P = false ≡ true} (λ x. x, λ x. x) refl is

-- No bytes.
pub no_bytes : (b : List ℕ) → length b ≡ 0 → b ≡ []
no_bytes [] none = refl
no_bytes (x ∷ b) none = absurd (omega (arith, none))

-- A refusal is told by the error that it was.
pub told : {T E : Type 0} (r : Result T E) (e : E) (P : E → Type 0) → IsErrAnd r (λ x. x ≡ e)
    → P e → IfErr r P
told (Ok x) e P is p = absurd is
told (Err x) e P is p = subst P (sym is) p

pub told_refusal : {T E : Type 0} (r : Result T E) (e : E) (P : E → Type 0)
    → IsErrAnd r (λ x. x ≡ e) → P e → IsErrAnd r P
told_refusal (Ok x) e P is p = absurd is
told_refusal (Err x) e P is p = subst P (sym is) p

pub told_error : {T E : Type 0} (r : Result T E) (e f : E) → IsErrAnd r (λ x. x ≡ e) → r ≡ Err f
    → e ≡ f
told_error {T = T} {E = E} r e f is refused = sym (subst (λ x. IsErrAnd x (λ y. y ≡ e)) refused is)

-- The parts of a file one by one, and what is behind them.
pub file_parts : (f : Contents) (more : List ℕ) → file_bytes f ++ more
    ≡ header (length f.columns)
    ++ (row_bytes f.offsets ++ (row_bytes f.documents ++ (columns_bytes f.columns ++ more)))
file_parts f more =
    let a = header (length f.columns) in let b = row_bytes f.offsets in
    let c = row_bytes f.documents in let d = columns_bytes f.columns in
    append_assoc a (b ++ (c ++ d)) more
    ∙ ap (λ s. a ++ s)
    (append_assoc b (c ++ d) more ∙ ap (λ s. b ++ s) (append_assoc c d more))

pub layout_parts : (f : Contents) (front more bytes : List ℕ) → IsLayout f front
    → bytes ≡ front ++ more → bytes ≡ header (length f.columns)
    ++ (row_bytes f.offsets ++ (row_bytes f.documents ++ (columns_bytes f.columns ++ more)))
layout_parts f front more bytes layout is =
    is ∙ ap (λ s. s ++ more) layout.written ∙ file_parts f more

pub same_contents : (f g : Contents) → f.offsets ≡ g.offsets → f.documents ≡ g.documents
    → f.columns ≡ g.columns → f ≡ g
same_contents f g offsets documents columns = rw (offsets, documents, columns) refl

-- What is behind the header, the offsets and the documents of a file that begins the bytes.
pub record BehindHeader (f : Contents) (more : List ℕ) (n : ℕ) (x : List ℕ) : Type 0 where
  pub count : n ≡ length f.columns
  pub later : x
      ≡ row_bytes f.offsets ++ (row_bytes f.documents ++ (columns_bytes f.columns ++ more))

pub behind_header : (f : Contents) (front more bytes x : List ℕ) (n : ℕ) → IsLayout f front
    → bytes ≡ front ++ more → n < 2 ^ 32 → bytes ≡ header n ++ x → BehindHeader f more n x
behind_header f front more bytes x n layout is few split =
    let (count, later) = same_header n (length f.columns) x _ few layout.few
    (sym split ∙ layout_parts f front more bytes layout is) in
    record { count = count; later = later }

pub behind_offsets : (f : Contents) (front more x o y : List ℕ) (n : ℕ) → IsLayout f front
    → BehindHeader f more n x → length o < 2 ^ 64 → x ≡ row_bytes o ++ y
    → (o ≡ f.offsets) × (y ≡ row_bytes f.documents ++ (columns_bytes f.columns ++ more))
behind_offsets f front more x o y n layout behind short split =
    same_row o f.offsets y _ short layout.offsets (sym split ∙ behind.later)

pub behind_documents : (f : Contents) (front more y d z : List ℕ) → IsLayout f front
    → y ≡ row_bytes f.documents ++ (columns_bytes f.columns ++ more) → length d < 2 ^ 64
    → y ≡ row_bytes d ++ z → (d ≡ f.documents) × (z ≡ columns_bytes f.columns ++ more)
behind_documents f front more y d z layout behind short split =
    same_row d f.documents z _ short layout.documents (sym split ∙ behind)

-- Bytes that begin with a part go on with what is behind it.
pub goes_behind : (front later bytes more : List ℕ) → bytes ≡ front ++ later
    → bytes ++ more ≡ front ++ (later ++ more)
goes_behind front later bytes more split =
    ap (λ b. b ++ more) split ∙ append_assoc front later more

-- More bytes after none are these.
pub none_more : (rest more : List ℕ) → rest ++ more ≡ [] → more ≡ []
none_more [] more is = is
none_more (x ∷ rest) more is = absurd cc

-- A file that was cut off has no other version.
pub not_other_version : (bytes : List ℕ) → IsCutOff bytes → HasOtherVersion bytes → ⊥
not_other_version bytes cut other =
    let count = length cut.file.columns in
    let later = row_bytes cut.file.offsets ++ (row_bytes cut.file.documents
    ++ columns_bytes cut.file.columns) in
    let here : bytes ++ cut.more
    ≡ magic ++ ((to_be_bytes w32 other.version ++ other.later) ++ cut.more) =
    goes_behind magic (to_be_bytes w32 other.version ++ other.later) bytes cut.more
    other.written in
    let there : bytes ++ cut.more
    ≡ magic ++ ((to_be_bytes w32 1 ++ to_be_bytes w32 count) ++ later) =
    cut.layout.written ∙ append_assoc magic (to_be_bytes w32 1 ++ to_be_bytes w32 count) later in
    let (_, versions) = same_parts magic magic _ _ refl (sym here ∙ there) in
    let (is, _) = same_parts (to_be_bytes w32 other.version) (to_be_bytes w32 1) _ _ refl
    (sym (append_assoc (to_be_bytes w32 other.version) other.later cut.more) ∙ versions
    ∙ append_assoc (to_be_bytes w32 1) (to_be_bytes w32 count) later) in
    other.other (sym (from_be_bytes-to_be_bytes_4 other.version other.few)
    ∙ ap (from_be_bytes w32) is)

-- With what error a header is refused that was cut off.
pub header_cut : (bytes : List ℕ) (e : FileError) → IsCutOff bytes
    → (e ≡ errors.BadMagic) ⊎ ((e ≡ errors.UnknownVersion) ⊎ (e ≡ errors.Cut))
    → (e ≡ errors.UnknownVersion → HasOtherVersion bytes)
    → (e ≡ errors.BadMagic) ⊎ ((e ≡ errors.Cut) ⊎ (e ≡ errors.OutOfMemory))
header_cut bytes e cut (inl is) version = inl is
header_cut bytes e cut (inr (inl is)) version =
    absurd (not_other_version bytes cut (version is))
header_cut bytes e cut (inr (inr is)) version = inr (inl is)

-- The columns of a file that was cut off are cut off.
pub columns_cut : (bytes x o y d z : List ℕ) (n : ℕ) (cut : IsCutOff bytes) → n < 2 ^ 32
    → bytes ≡ header n ++ x → length o < 2 ^ 64 → x ≡ row_bytes o ++ y → length d < 2 ^ 64
    → y ≡ row_bytes d ++ z
    → (length cut.file.columns ≡ n) × (z ++ cut.more ≡ columns_bytes cut.file.columns)
columns_cut bytes x o y d z n cut few head short split small next =
    let whole = bytes ++ cut.more in
    let behind = behind_header cut.file whole [] whole (x ++ cut.more) n cut.layout
    (sym (append-nil whole)) few (goes_behind (header n) x bytes cut.more head) in
    let (_, documents) = behind_offsets cut.file whole [] (x ++ cut.more) o (y ++ cut.more) n
    cut.layout behind short (goes_behind (row_bytes o) y x cut.more split) in
    let (_, columns) = behind_documents cut.file whole [] (y ++ cut.more) d (z ++ cut.more)
    cut.layout documents small (goes_behind (row_bytes d) z y cut.more next) in
    (sym behind.count, columns ∙ append-nil (columns_bytes cut.file.columns))

-- Bytes after the columns that a header says are bytes after a file.
pub trailing : (n : ℕ) (bytes x o y d z : List ℕ) → n < 2 ^ 32 → bytes ≡ header n ++ x
    → length o < 2 ^ 64 → x ≡ row_bytes o ++ y → length d < 2 ^ 64 → y ≡ row_bytes d ++ z
    → EndsEarly n z → HasTrailingData bytes
trailing n bytes x o y d z few head short split small next early =
    let f : Contents = record { offsets = o; documents = d; columns = early.columns } in
    record {
      file = f;
      front = file_bytes f;
      more = early.more;
      layout = record {
        few = omega (arith, few, early.size);
        offsets = short;
        documents = small;
        columns = early.each;
        written = refl;
      };
      parts = head ∙ ap (λ m. header m ++ x) (sym early.size)
          ∙ ap (λ s. header (length early.columns) ++ s)
          (split ∙ ap (λ s. row_bytes o ++ s)
          (next ∙ ap (λ s. row_bytes d ++ s) early.parts))
          ∙ sym (file_parts f early.more);
      some = early.some;
    }
