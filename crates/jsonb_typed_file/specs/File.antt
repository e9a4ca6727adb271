-- Which bytes are a file of typed columns.
use Rattle.std.specs.Prelude.{◌≡◌, ◌<◌, ◌≤◌, ◌-◌, ◌/◌, ◌%◌, ◌↔◌, ◌⊎◌, ◌++◌, ⊤, ℕ, nat_lt, List}
use Rattle.std.specs.Prelude.{[], ◌∷◌, IfSome, IsSomeAnd, Option, None, Some, bytes_eq}
use Rattle.std.specs.Prelude.{if◌then◌else◌, length}
use Rattle.std.specs.Cmp.Lexicographic.{slice_cmp}
use Rattle.std.specs.Ordering.{nat_cmp}
use Rattle.std.specs.declared.cmp.Ordering.TheVariants.{Less}
use Rattle.jsonb_codec.specs.Depth.{IsDocumentWithin}
use Rattle.jsonb_codec.specs.Doc.{IsDocument}
use Rattle.jsonb_typed_file.specs.declared.error.FileError.{FileError}
use Rattle.jsonb_typed_file.specs.declared.error.FileError.TheVariants as errors
use Rattle.jsonb_typed_file.specs.Layout.{Contents, HasNoMagic, HasOtherVersion, HasTrailingData}
use Rattle.jsonb_typed_file.specs.Layout.{IsCutOff, IsLayout, Parts}
use Rattle.jsonb_typed_file.specs.Values.{AreColumnTexts, HasRows, IsSpanAt, string_at}

-- The number of rows, one fewer than there are offsets of eight bytes.
abbrev pub row_count : Contents → ℕ
row_count f = length f.offsets / 8 - 1

-- The lengths of the columns' buffers fit so many rows.
abbrev pub HaveRows : ℕ → List Parts → Type 0
HaveRows rows [] = ⊤
HaveRows rows (p ∷ ps) = HasRows rows p × HaveRows rows ps

-- Their texts are UTF-8, and their binary values within their bytes.
abbrev pub HaveTexts : ℕ → List Parts → Type 0
HaveTexts rows [] = ⊤
HaveTexts rows (p ∷ ps) = AreColumnTexts rows p × HaveTexts rows ps

-- The length of each buffer fits the number of rows.
pub record LengthsFit (f : Contents) : Type 0 where
  pub some : 8 ≤ length f.offsets
  pub whole : length f.offsets % 8 ≡ 0
  pub columns : HaveRows (row_count f) f.columns

-- The error that is told of the bytes, if one is, says the truth of how they are laid out.
pub record IsLayoutTold (bytes : List ℕ) (error : Option FileError) : Type 0 where
  pub magic : error ≡ Some errors.BadMagic ↔ HasNoMagic bytes
  pub version : error ≡ Some errors.UnknownVersion ↔ HasOtherVersion bytes
  pub cut : error ≡ Some errors.Cut → (f : Contents) (front more : List ℕ) → IsLayout f front
      → bytes ≡ front ++ more → ⊥
  pub cut_refused : IsCutOff bytes → IsSomeAnd error (λ e. (e ≡ errors.BadMagic)
      ⊎ ((e ≡ errors.Cut) ⊎ (e ≡ errors.OutOfMemory)))
  pub trailing : error ≡ Some errors.TrailingData → HasTrailingData bytes
  pub trailing_refused : HasTrailingData bytes
      → IsSomeAnd error (λ e. (e ≡ errors.TrailingData) ⊎ (e ≡ errors.OutOfMemory))
  pub lengths : error ≡ Some errors.WrongLength → (f : Contents) → IsLayout f bytes
      → LengthsFit f → ⊥
  pub lengths_refused : (f : Contents) → IsLayout f bytes → (LengthsFit f → ⊥)
      → IsSomeAnd error (λ e. (e ≡ errors.WrongLength) ⊎ (e ≡ errors.OutOfMemory))

-- The names ascend strictly by their bytes.
abbrev pub AscendNames : Option (List ℕ) → List Parts → Type 0
AscendNames before [] = ⊤
AscendNames before (p ∷ ps) =
    IfSome before (λ b. slice_cmp nat_cmp b p.name ≡ Less) × AscendNames (Some p.name) ps

-- The rest of a row is a document.
abbrev pub IsRestAt : List ℕ → List ℕ → ℕ → Type 0
IsRestAt offsets documents index =
    IsSpanAt offsets documents index × IsDocument (string_at offsets documents index)

-- The names ascend, the texts are UTF-8, the binary values are within their bytes, and the rest of
-- each row is a document.
pub record IsInForm (f : Contents) : Type 0 where
  pub names : AscendNames None f.columns
  pub texts : HaveTexts (row_count f) f.columns
  pub rests : (index : ℕ) → index < row_count f → IsRestAt f.offsets f.documents index

-- The bytes are this file.
pub record IsFile (f : Contents) (bytes : List ℕ) : Type 0 where
  pub layout : IsLayout f bytes
  pub lengths : LengthsFit f
  pub form : IsInForm f

-- The rests of all rows nest at most so deep, if there is a limit.
abbrev pub NestWithin : Option ℕ → Contents → Type 0
NestWithin None f = ⊤
NestWithin (Some depth) f = (index : ℕ) → index < row_count f
    → IsDocumentWithin depth (string_at f.offsets f.documents index)

-- The bytes are this file, whose rests nest at most so deep, if there is a limit.
pub record IsFileWithin (depth : Option ℕ) (f : Contents) (bytes : List ℕ) : Type 0 where
  pub file : IsFile f bytes
  pub shallow : NestWithin depth f

-- The column with this name.
abbrev pub column_named : List ℕ → List Parts → Option Parts
column_named name [] = None
column_named name (p ∷ ps) = if bytes_eq p.name name then Some p else column_named name ps

-- The bytes of the rest of the row at an index, if there is such a row.
abbrev pub rest_at : Contents → ℕ → Option (List ℕ)
rest_at f index =
    if nat_lt index (row_count f) then Some (string_at f.offsets f.documents index) else None
