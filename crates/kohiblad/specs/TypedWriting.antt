-- Writing a file of typed columns, as C receives it.
use Rattle.std.specs.Prelude.{◌≡◌, ◌⊎◌, ◌≤◌, ◌^◌, ℕ, true, false, List, length, map, Option}
use Rattle.std.specs.Prelude.{None, Some, Result, Ok, Err}
use Rattle.std.specs.List.{flat_map}
use Rattle.std.specs.Global.{Vec}
use Rattle.jsonb_value.specs.declared.error.Error.TheVariants.{InvalidEOF, InvalidJsonb}
use Rattle.jsonb_value.specs.declared.error.Error.TheVariants.{OutOfMemory}
use Rattle.jsonb_value.specs.Meaning.{Meaning, document, other_bytes}
use Rattle.jsonb.specs.declared.document.Document.{Document}
use Rattle.jsonb.specs.Document.{document_bytes}
use Rattle.jsonb_typed_file.specs.declared.error.WriteError.{WriteError}
use Rattle.jsonb_typed_file.specs.declared.error.WriteError.TheVariants as errors
use Rattle.jsonb_typed_file.specs.declared.write.ColumnPlan.{ColumnPlan}
use Rattle.jsonb_typed.specs.Scalars.{type_bytes}
use Rattle.jsonb_typed_file.specs.Written.{AllFit, AscendPlans, IsFileOf}
use Rattle.kohiblad.specs.Names.{names_in}
use Rattle.kohiblad.specs.Results.{AreWithin}
use Rattle.kohiblad.specs.Rows.{are_offsets}
use Rattle.typed_vector.specs.Cells.{rows}
use Rattle.kohiblad.specs.Status.{code, not_read_back, other_kind}
use Rattle.kohiblad.specs.TypedFiles.{IsStatusAnswered}

-- The status of an error of writing.
abbrev pub write_code : WriteError → ℕ
write_code errors.NamesNotAscending = other_kind
write_code errors.TooManyColumns = code InvalidJsonb
write_code errors.RowTooLarge = code InvalidJsonb
write_code errors.NotReadBack = not_read_back
write_code errors.OutOfMemory = code OutOfMemory

-- The bytes that were made, or the status.
abbrev pub file_result : Result (Vec ℕ) ℕ → Result (List ℕ) ℕ
file_result (Ok file) = Ok file.items
file_result (Err status) = Err status

-- The plans have these names, and types with these bytes, one after another.
abbrev pub ArePlans : List (List ℕ) → List ℕ → List ColumnPlan → Type 0
ArePlans names types plans = (map (λ q. q.name.now) plans ≡ names)
    × (flat_map (λ q. type_bytes q.column_type) plans ≡ types)

-- The documents have the bytes of the rows.
abbrev pub AreRowsOf : List (List ℕ) → List Document → Type 0
AreRowsOf rows documents = map document_bytes documents ≡ rows

-- A file of documents with these columns, or why there is none: the names do not ascend, a document
-- exceeds a limit of the format or there are too many columns, the file was not read back, or there
-- is not enough memory. Names that do not ascend are refused first.
abbrev pub BuildsDocuments : List Document → List ColumnPlan → Result (List ℕ) ℕ → Type 0
BuildsDocuments documents plans (Ok file) = IsFileOf documents plans file
BuildsDocuments documents plans (Err status) =
    ((AscendPlans None plans → ⊥) → status ≡ other_kind)
    × (((status ≡ other_kind) × (AscendPlans None plans → ⊥))
    ⊎ (((status ≡ code InvalidJsonb)
    × ((AllFit documents → ⊥) ⊎ (2 ^ 32 ≤ length plans)))
    ⊎ ((status ≡ not_read_back) ⊎ (status ≡ code OutOfMemory))))

-- The same of rows, which are refused if one is not a document of at most this depth.
abbrev pub BuildsRows : ℕ → List (List ℕ) → List ColumnPlan → Result (List ℕ) ℕ → Type 0
BuildsRows depth rows plans made =
    ((AreWithin depth rows → ⊥) × (made ≡ Err (code InvalidJsonb)))
    ⊎ ((AreWithin depth rows
    × ((documents : List Document)
    × (AreRowsOf rows documents × BuildsDocuments documents plans made)))
    ⊎ (made ≡ Err (code OutOfMemory)))

-- The same with columns of these names and types, which are refused if there are no such columns.
abbrev pub BuildsPlanned : ℕ → List (List ℕ) → List (List ℕ) → List ℕ → Result (List ℕ) ℕ
    → Type 0
BuildsPlanned depth rows names types made =
    ((plans : List ColumnPlan) × (ArePlans names types plans × BuildsRows depth rows plans made))
    ⊎ ((((plans : List ColumnPlan) → ArePlans names types plans → ⊥) × (made ≡ Err other_kind))
    ⊎ (made ≡ Err (code OutOfMemory)))

-- The same with the names that a document gives, if it gives names.
abbrev pub BuildsNamed : ℕ → List (List ℕ) → Option (List (List ℕ)) → List ℕ
    → Result (List ℕ) ℕ → Type 0
BuildsNamed depth rows None types made = made ≡ Err other_kind
BuildsNamed depth rows (Some names) types made = BuildsPlanned depth rows names types made

-- The same with what a caller gives as names; bytes that are not a document are refused.
abbrev pub BuildsMeant : ℕ → List (List ℕ) → Meaning → List ℕ → Result (List ℕ) ℕ → Type 0
BuildsMeant depth rows (document t) types made =
    BuildsNamed depth rows (names_in t) types made ⊎ (made ≡ Err (code OutOfMemory))
BuildsMeant depth rows (other_bytes b) types made = made ≡ Err (code InvalidJsonb)

-- The file of the rows, or the status with which they are refused: offsets that are below the
-- previous one or beyond the bytes first.
abbrev pub BuildsFile : ℕ → List ℕ → List ℕ → Meaning → List ℕ → Result (List ℕ) ℕ → Type 0
BuildsFile depth bytes offsets names types made =
    ((are_offsets (length bytes) 0 offsets ≡ false) × (made ≡ Err (code InvalidEOF)))
    ⊎ ((are_offsets (length bytes) 0 offsets ≡ true)
    × BuildsMeant depth (rows bytes offsets) names types made)

-- The file is handed over, or the rows are refused.
abbrev pub IsTypedFileBuilt : ℕ → List ℕ → List ℕ → Meaning → List ℕ → List ℕ → List ℕ → ℕ → ℕ
    → Type 0
IsTypedFileBuilt depth bytes offsets names types before after size status =
    (made : Result (List ℕ) ℕ) × (BuildsFile depth bytes offsets names types made
    × IsStatusAnswered made before after size status)
