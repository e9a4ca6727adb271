-- What a file of typed columns is made of, and its bytes.
use Rattle.std.specs.Prelude.{◌≡◌, ◌≢◌, ◌<◌, ◌^◌, ℕ, List, [], ◌∷◌, ◌++◌, All, codes, length}
use Rattle.std.specs.Int.{w32, to_be_bytes}
use Rattle.std.specs.Str.{IsUtf8}
use Rattle.jsonb.specs.StoredRow.{row_bytes}
use Rattle.jsonb_typed.specs.declared.scalar.ScalarType.{ScalarType}
use Rattle.jsonb_typed.specs.Scalars.{type_bytes}

-- The first bytes of each file.
abbrev pub magic : List ℕ
magic = codes "KOHITYPE"

-- The header of a file of version 1 and of so many columns.
abbrev pub header : ℕ → List ℕ
header n = magic ++ (to_be_bytes w32 1 ++ to_be_bytes w32 n)

-- A column as it is stored.
pub record Parts : Type 0 where
  pub name : List ℕ
  pub type : ScalarType
  pub flags : List ℕ
  pub numbers : List ℕ
  pub texts : List ℕ

-- Its bytes: four sections, each stored as a row of a column of documents is.
abbrev pub column_bytes : Parts → List ℕ
column_bytes p =
    row_bytes (type_bytes p.type ++ p.name)
    ++ (row_bytes p.flags ++ (row_bytes p.numbers ++ row_bytes p.texts))

-- The bytes of columns.
abbrev pub columns_bytes : List Parts → List ℕ
columns_bytes [] = []
columns_bytes (p ∷ ps) = column_bytes p ++ columns_bytes ps

-- A file as it is stored: the offsets and the bytes of the rests of the rows, and the columns.
pub record Contents : Type 0 where
  pub offsets : List ℕ
  pub documents : List ℕ
  pub columns : List Parts

-- The bytes of a file.
abbrev pub file_bytes : Contents → List ℕ
file_bytes f =
    header (length f.columns)
    ++ (row_bytes f.offsets ++ (row_bytes f.documents ++ columns_bytes f.columns))

-- The name is UTF-8, and each length fits eight bytes.
pub record IsColumn (p : Parts) : Type 0 where
  pub name : IsUtf8 p.name
  pub head : length (type_bytes p.type ++ p.name) < 2 ^ 64
  pub flags : length p.flags < 2 ^ 64
  pub numbers : length p.numbers < 2 ^ 64
  pub texts : length p.texts < 2 ^ 64

-- The bytes are those of this file, and the number of columns and each length fit theirs.
pub record IsLayout (f : Contents) (bytes : List ℕ) : Type 0 where
  pub few : length f.columns < 2 ^ 32
  pub offsets : length f.offsets < 2 ^ 64
  pub documents : length f.documents < 2 ^ 64
  pub columns : All IsColumn f.columns
  pub written : bytes ≡ file_bytes f

-- The bytes do not begin as a file does.
abbrev pub HasNoMagic : List ℕ → Type 0
HasNoMagic bytes = (later : List ℕ) → bytes ≡ magic ++ later → ⊥

-- The bytes begin as a file does, of another version.
pub record HasOtherVersion (bytes : List ℕ) : Type 0 where
  pub version : ℕ
  pub later : List ℕ
  pub written : bytes ≡ magic ++ (to_be_bytes w32 version ++ later)
  pub few : version < 2 ^ 32
  pub other : version ≢ 1

-- The bytes are the first ones of a file, which goes on after them.
pub record IsCutOff (bytes : List ℕ) : Type 0 where
  pub file : Contents
  pub more : List ℕ
  pub layout : IsLayout file (bytes ++ more)
  pub some : more ≢ []

-- There are bytes after so many columns.
pub record EndsEarly (count : ℕ) (bytes : List ℕ) : Type 0 where
  pub columns : List Parts
  pub more : List ℕ
  pub size : length columns ≡ count
  pub each : All IsColumn columns
  pub parts : bytes ≡ columns_bytes columns ++ more
  pub some : more ≢ []

-- There are bytes after those of a file.
pub record HasTrailingData (bytes : List ℕ) : Type 0 where
  pub file : Contents
  pub front : List ℕ
  pub more : List ℕ
  pub layout : IsLayout file front
  pub parts : bytes ≡ front ++ more
  pub some : more ≢ []
