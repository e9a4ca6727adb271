-- What an input is that has no rows in the form in which they are read.
use Rattle.std.specs.Prelude.{◌==◌, ◌&&◌, ◌||◌, ℕ, Bool, false, List, [], ◌∷◌, codes}
use Rattle.std.specs.Prelude.{Option, None, Some, if◌then◌else◌}
use Rattle.std.specs.Int.{is_in_range}
use Rattle.std.specs.List.{starts_with}
use Rattle.kohiblad_shell.specs.declared.input.Form.{Form}
use Rattle.kohiblad_shell.specs.declared.input.Form.TheVariants.{Lines, Documents}
use Rattle.kohiblad_shell.specs.declared.kind.InputKind.{InputKind}
use Rattle.kohiblad_shell.specs.declared.kind.InputKind.TheVariants as kinds

-- What is said of a kind of input.
abbrev pub kind_words : InputKind → List ℕ
kind_words kinds.Marked = codes "the file begins with a byte order mark"
kind_words kinds.Gzip = codes "the file is compressed by gzip"
kind_words kinds.Zstd = codes "the file is compressed by zstd"
kind_words kinds.Xz = codes "the file is compressed by xz"
kind_words kinds.Documents = codes "the file is of documents, which `--documents` reads"
kind_words kinds.Text = codes "the file is a text; `encode` makes documents of JSON lines"

-- The bytes begin with these.
abbrev pub begins_with : List ℕ → List ℕ → Bool
begins_with start bytes = starts_with (λ a b. a == b) bytes start

-- What compressed an input that begins so: gzip, zstd and xz write these bytes first.
abbrev pub compressed_kind : List ℕ → Option InputKind
compressed_kind bytes =
    if begins_with (31 ∷ 139 ∷ []) bytes then Some kinds.Gzip
    else if begins_with (40 ∷ 181 ∷ 47 ∷ 253 ∷ []) bytes then Some kinds.Zstd
    else if begins_with (253 ∷ 55 ∷ 122 ∷ 88 ∷ 90 ∷ 0 ∷ []) bytes then Some kinds.Xz
    else None

-- Whether a byte is the first of some document: of a scalar or an object, or of an array.
abbrev pub is_header : ℕ → Bool
is_header byte = is_in_range 32 95 byte || is_in_range 128 159 byte

-- Whether the bytes begin with a length below 2 to the power of 32 in eight bytes, and the first
-- byte of a document.
abbrev pub is_document_start : List ℕ → Bool
is_document_start (a ∷ b ∷ c ∷ d ∷ e ∷ f ∷ g ∷ h ∷ first ∷ bytes) =
    a == 0 && b == 0 && c == 0 && d == 0 && is_header first
is_document_start bytes = false

-- Whether a byte begins a text: white space, a character that is printed, or a byte order mark.
abbrev pub is_text_byte : ℕ → Bool
is_text_byte byte =
    byte == 9 || byte == 10 || byte == 13 || is_in_range 32 126 byte || byte == 239

-- Whether the first byte begins a text. The length of a document begins with a zero.
abbrev pub is_text_start : List ℕ → Bool
is_text_start [] = false
is_text_start (first ∷ bytes) = is_text_byte first

-- What an input is that begins so, by the form in which rows are read.
abbrev pub foreign_kind : Form → List ℕ → Option InputKind
foreign_kind (Lines reading) bytes =
    if begins_with (239 ∷ 187 ∷ 191 ∷ []) bytes then Some kinds.Marked
    else if is_document_start bytes then Some kinds.Documents
    else None
foreign_kind Documents bytes = if is_text_start bytes then Some kinds.Text else None

-- The first kind, or else the second.
abbrev pub kind_or : Option InputKind → Option InputKind → Option InputKind
kind_or None other = other
kind_or (Some kind) other = Some kind

-- What an input that begins so is, if it has no rows in this form.
abbrev pub input_kind : Form → List ℕ → Option InputKind
input_kind form bytes = kind_or (compressed_kind bytes) (foreign_kind form bytes)
