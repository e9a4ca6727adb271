-- Files of typed columns, as C receives what is read of them.
use Rattle.std.specs.Prelude.{◌≡◌, ◌≢◌, ◌<◌, ◌≤◌, ◌⊎◌, ℕ, List, length, get_or}
use Rattle.std.specs.Prelude.{Result, Ok, Err, IfErr, IfOk, Some}
use Rattle.std.specs.List.{AllZip}
use Rattle.std.specs.Result.{result_err}
use Rattle.jsonb_value.specs.declared.error.Error.TheVariants.{InvalidEOF, OutOfMemory}
use Rattle.jsonb_typed_file.specs.declared.error.FileError.{FileError}
use Rattle.jsonb_typed_file.specs.declared.error.FileError.TheVariants as errors
use Rattle.jsonb_typed_file.specs.declared.places.ColumnPlaces.{ColumnPlaces}
use Rattle.jsonb_typed_file.specs.File.{IsFile, IsFileWithin, IsLayoutTold, LengthsFit}
use Rattle.jsonb_typed_file.specs.File.{NestWithin, row_count}
use Rattle.jsonb_typed_file.specs.Layout.{Contents, IsLayout, Parts}
use Rattle.jsonb_typed.specs.Scalars.{type_bytes}
use Rattle.jsonb_typed_file.specs.OneRow.{IsRowInForm, IsRowWithin}
use Rattle.jsonb_typed_file.specs.Places.{LiesAt}
use Rattle.jsonb_typed_file.specs.Rows.{row_tree}
use Rattle.kohiblad.specs.declared.typed_files.KohibladTypedColumn.{KohibladTypedColumn}
use Rattle.kohiblad.specs.declared.typed_files.KohibladTypedFile.{KohibladTypedFile}
use Rattle.kohiblad.specs.Status.{IsHandedOver, IsOneAnswered, IsRefused, bad_magic, code, none}
use Rattle.kohiblad.specs.Status.{out_of_form, too_deep, trailing_data, unknown_version}
use Rattle.kohiblad.specs.Status.{wrong_length}
use Rattle.kohiblad.specs.WithMemory.{WritesWithMemory}

-- The status of the error of a file.
abbrev pub file_code : FileError → ℕ
file_code errors.BadMagic = bad_magic
file_code errors.UnknownVersion = unknown_version
file_code errors.Cut = code InvalidEOF
file_code errors.TrailingData = trailing_data
file_code errors.WrongLength = wrong_length
file_code errors.TooDeep = too_deep
file_code errors.OutOfForm = out_of_form
file_code errors.OutOfMemory = code OutOfMemory

-- The number of rows and of columns of a file, or the status of the error.
abbrev pub file_answer : Result Contents FileError → KohibladTypedFile
file_answer (Ok f) = record { status = 0; rows = row_count f; columns = length f.columns }
file_answer (Err e) = record { status = file_code e; rows = 0; columns = 0 }

-- The bytes are read as a file whose rests nest at most so deep, or refused with an error, which
-- says the truth.
pub record IsFileRead (depth : ℕ) (bytes : List ℕ) (read : Result Contents FileError)
    : Type 0 where
  pub file : IfOk read (λ f. IsFileWithin (Some depth) f bytes)
  pub memory : (f : Contents) → IsFileWithin (Some depth) f bytes
      → IfErr read (λ e. e ≡ errors.OutOfMemory)
  pub layout : IsLayoutTold bytes (result_err read)
  pub form : read ≡ Err errors.OutOfForm → (f : Contents) → IsFile f bytes → ⊥
  pub deep : read ≡ Err errors.TooDeep → (f : Contents) → IsLayout f bytes → LengthsFit f
      → NestWithin (Some depth) f → ⊥
  pub refused : (f : Contents) → IsFile f bytes
      → IfErr read (λ e. (e ≡ errors.TooDeep) ⊎ (e ≡ errors.OutOfMemory))

-- The bytes are checked as a file.
abbrev pub IsFileChecked : ℕ → List ℕ → KohibladTypedFile → Type 0
IsFileChecked depth bytes answer = (read : Result Contents FileError)
    × (IsFileRead depth bytes read × (answer ≡ file_answer read))

-- The places of a column in the struct in which C receives it.
abbrev pub column_struct : ColumnPlaces → KohibladTypedColumn
column_struct c = record {
  type_code = get_or (type_bytes c.column_type) 0 0;
  scale = get_or (type_bytes c.column_type) 1 0;
  rows = c.rows;
  name = c.name.offset;
  name_length = c.name.length;
  flags = c.flags.offset;
  flags_length = c.flags.length;
  numbers = c.numbers.offset;
  numbers_length = c.numbers.length;
  texts = c.texts.offset;
  texts_length = c.texts.length;
}

-- The struct has the type of the column and the number of rows, and says where its name and its
-- buffers lie in the bytes.
pub record IsColumnPlaced (bytes : List ℕ) (rows : ℕ) (p : Parts) (column : KohibladTypedColumn)
    : Type 0 where
  pub type_code : column.type_code ≡ get_or (type_bytes p.type) 0 0
  pub scale : column.scale ≡ get_or (type_bytes p.type) 1 0
  pub rows_are : column.rows ≡ rows
  pub name : LiesAt bytes p.name (record { offset = column.name; length = column.name_length })
  pub flags : LiesAt bytes p.flags
      (record { offset = column.flags; length = column.flags_length })
  pub numbers : LiesAt bytes p.numbers
      (record { offset = column.numbers; length = column.numbers_length })
  pub texts : LiesAt bytes p.texts
      (record { offset = column.texts; length = column.texts_length })

-- The columns are those of bytes laid out as a file whose lengths fit.
abbrev pub AreColumnsOf : List ℕ → List KohibladTypedColumn → Type 0
AreColumnsOf bytes columns = (f : Contents) × (IsLayout f bytes
    × (LengthsFit f × AllZip (IsColumnPlaced bytes (row_count f)) f.columns columns))

-- The bytes are refused with an error, which says the truth.
pub record IsLayoutRefused (bytes : List ℕ) (error : FileError) : Type 0 where
  pub memory : (f : Contents) → IsLayout f bytes → LengthsFit f → error ≡ errors.OutOfMemory
  pub layout : IsLayoutTold bytes (Some error)
  pub shallow : error ≢ errors.TooDeep

-- The columns of the file are handed over, or the bytes are refused.
abbrev pub AreColumnsWritten : List ℕ → List KohibladTypedColumn → List KohibladTypedColumn → ℕ
    → ℕ → Type 0
AreColumnsWritten bytes before after count status =
    ((columns : List KohibladTypedColumn)
    × (AreColumnsOf bytes columns × IsHandedOver columns before after count status))
    ⊎ ((error : FileError)
    × (IsLayoutRefused bytes error × IsRefused (file_code error) before after count status))

-- The bytes are handed over, or a status is returned.
abbrev pub IsStatusAnswered : Result (List ℕ) ℕ → List ℕ → List ℕ → ℕ → ℕ → Type 0
IsStatusAnswered (Ok answer) before after size status =
    IsHandedOver answer before after size status
IsStatusAnswered (Err reason) before after size status =
    IsRefused reason before after size status

-- The bytes, or what is read of them for the row, are refused with an error, which says the truth.
pub record IsRowRefused (depth index : ℕ) (bytes : List ℕ) (error : FileError) : Type 0 where
  pub layout : IsLayoutTold bytes (Some error)
  pub form : (f : Contents) → IsLayout f bytes → LengthsFit f → IsRowInForm f index
      → (error ≡ errors.TooDeep) ⊎ (error ≡ errors.OutOfMemory)
  pub deep : error ≡ errors.TooDeep → (f : Contents) → IsLayout f bytes → LengthsFit f
      → IsRowWithin depth f index → ⊥

-- The canonical document of a row is handed over, or there is no such row.
abbrev pub IsFileRow : Contents → ℕ → List ℕ → List ℕ → ℕ → ℕ → Type 0
IsFileRow f index before after size status =
    ((row_count f ≤ index) × IsRefused none before after size status)
    ⊎ ((index < row_count f)
    × IsOneAnswered (WritesWithMemory (row_tree f index)) before after size status)

-- The same of a row of bytes laid out as a file: it is well formed and nests at most so deep.
abbrev pub IsLaidOutRow : ℕ → ℕ → List ℕ → List ℕ → List ℕ → ℕ → ℕ → Type 0
IsLaidOutRow depth index bytes before after size status =
    (f : Contents) × ((IsLayout f bytes × LengthsFit f)
    × ((IsRowInForm f index × IsRowWithin depth f index)
    × IsFileRow f index before after size status))

-- A row of the file is handed over if it is well formed and its rest nests at most so deep, and
-- otherwise it is refused, whatever the other rows are.
pub record IsRowCopied (depth index : ℕ) (bytes before after : List ℕ) (size status : ℕ)
    : Type 0 where
  pub answered : IsLaidOutRow depth index bytes before after size status
      ⊎ ((error : FileError) × (IsRowRefused depth index bytes error
      × IsRefused (file_code error) before after size status))
  pub each : (f : Contents) → IsFile f bytes → IsRowInForm f index
  pub row : (f : Contents) → IsLayout f bytes → LengthsFit f → IsRowInForm f index
      → IsRowWithin depth f index → IsFileRow f index before after size status
      ⊎ IsRefused (code OutOfMemory) before after size status
  pub deep : (f : Contents) → IsLayout f bytes → LengthsFit f → IsRowInForm f index
      → (IsRowWithin depth f index → ⊥)
      → IsRefused too_deep before after size status
      ⊎ IsRefused (code OutOfMemory) before after size status
