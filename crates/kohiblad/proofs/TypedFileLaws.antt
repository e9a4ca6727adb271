-- What C receives of files of typed columns.
use Rattle.std.proofs.Common.{◌≡◌, ◌⊎◌, inl, inr, ℕ, ◌<◌, ◌≤◌, List, [], ◌∷◌, map}
use Rattle.std.proofs.Common.{get_or, sym, ap, subst}
use Rattle.std.proofs.Common.{arith, Result, Ok, Err}
use Rattle.std.specs.List.{AllZip}
use Rattle.jsonb_value.specs.declared.error.Error.{Error}
use Rattle.jsonb_value.specs.declared.error.Error.TheVariants.{InvalidJsonb, OutOfMemory}
use Rattle.jsonb_value.specs.Tree.{Tree}
use Rattle.jsonb_codec.specs.Depth.{IsDocumentWithin}
use Rattle.jsonb.specs.declared.owned.OwnedJsonb.{OwnedJsonb}
use Rattle.jsonb.specs.Owned.{result_bytes}
use Rattle.jsonb_typed_file.specs.declared.error.FileError.{FileError}
use Rattle.jsonb_typed_file.specs.declared.error.FileError.TheVariants as errors
use Rattle.jsonb_typed_file.specs.declared.places.ColumnPlaces.{ColumnPlaces}
use Rattle.jsonb_typed_file.specs.File.{row_count}
use Rattle.jsonb_typed_file.specs.Layout.{Contents, Parts}
use Rattle.jsonb_typed.specs.Scalars.{type_bytes}
use Rattle.jsonb_typed_file.specs.OneRow.{IsRowOf, IsRowWithin}
use Rattle.jsonb_typed_file.specs.Places.{IsColumnAt}
use Rattle.jsonb_typed_file.specs.Rows.{IsMadeRow, row_tree}
use Rattle.kohiblad.specs.Status.{IsAnswered, IsRefused, code, too_deep}
use Rattle.kohiblad.specs.TypedFiles.{IsColumnPlaced, IsFileRow, column_struct, file_code}
use Rattle.kohiblad.specs.WithMemory.{WritesWithMemory}

-- The structs of columns lie where the columns do.
struct_placed : (bytes : List ℕ) (rows : ℕ) (p : Parts) (c : ColumnPlaces)
    → IsColumnAt bytes rows p c → IsColumnPlaced bytes rows p (column_struct c)
struct_placed bytes rows p c at = record {
  type_code = ap (λ t. get_or (type_bytes t) 0 0) at.type;
  scale = ap (λ t. get_or (type_bytes t) 1 0) at.type;
  rows_are = at.rows_are;
  name = at.name;
  flags = at.flags;
  numbers = at.numbers;
  texts = at.texts;
}

pub structs_placed : (bytes : List ℕ) (rows : ℕ) (ps : List Parts) (cs : List ColumnPlaces)
    → AllZip (IsColumnAt bytes rows) ps cs
    → AllZip (IsColumnPlaced bytes rows) ps (map column_struct cs)
structs_placed bytes rows [] [] all = tt
structs_placed bytes rows [] (c ∷ cs) all = absurd all
structs_placed bytes rows (p ∷ ps) [] all = absurd all
structs_placed bytes rows (p ∷ ps) (c ∷ cs) all =
    (struct_placed bytes rows p c all.0, structs_placed bytes rows ps cs all.1)

-- A row that is made is written.
made_writes : (t : Tree) (r : Result OwnedJsonb Error) → IsMadeRow t r
    → WritesWithMemory t (result_bytes r)
made_writes t (Ok owned) made = (made.limits.fits, made.document)
made_writes t (Err e) made = refused made.limits.only
  where
    named : (f : Error) → e ≡ f → ◌≡◌ {A = Result OwnedJsonb Error} (Err e) (Err f)
    named f is = ap Err is

    refused : (e ≡ InvalidJsonb) ⊎ (e ≡ OutOfMemory) → WritesWithMemory t (Err e)
    refused (inl is) =
        subst (λ x. WritesWithMemory t (Err x)) (sym is) (made.limits.past (named InvalidJsonb is))
    refused (inr is) = subst (λ x. WritesWithMemory t (Err x)) (sym is) tt

-- The row of a file.
pub row_handed : (f g : Contents) (index : ℕ) (r : Result OwnedJsonb Error)
    (before after : List ℕ) (size status : ℕ) → index < row_count f → IsRowOf f index g
    → IsMadeRow (row_tree g 0) r → IsAnswered (result_bytes r) before after size status
    → IsFileRow f index before after size status
row_handed f g index r before after size status low one made handed =
    inr (
      low,
      (
        result_bytes r,
        (
          made_writes (row_tree f index) r (subst (λ t. IsMadeRow t r) one.tree made),
          handed,
        ),
      ),
    )

-- What is refused for want of memory.
pub no_memory : (e : FileError) (before after : List ℕ) (size status : ℕ)
    → e ≡ errors.OutOfMemory → IsRefused (file_code e) before after size status
    → IsRefused (code OutOfMemory) before after size status
no_memory e before after size status is refused =
    subst (λ x. IsRefused (file_code x) before after size status) is refused

pub has_a_row : (f g : Contents) (index : ℕ) → IsRowOf f index g → row_count g ≤ 0 → ⊥
has_a_row f g index one few = omega (arith, few, one.count)

-- The row alone nests as deep.
pub nests_alike : (depth index : ℕ) (f g : Contents) → IsRowOf f index g
    → IsRowWithin depth g 0 → IsRowWithin depth f index
nests_alike depth index f g one within low =
    subst (IsDocumentWithin depth) one.rest (within (omega (arith, one.count)))

-- A row that is none does not nest too deep.
pub none_within : (depth index : ℕ) (f : Contents) → row_count f ≤ index
    → IsRowWithin depth f index
none_within depth index f past low = absurd (omega (arith, past, low))

-- Anything is told of a row that nests too deep and does not.
pub not_deep : (depth index : ℕ) (f : Contents) (before after : List ℕ) (size status : ℕ)
    → IsRowWithin depth f index → (IsRowWithin depth f index → ⊥)
    → IsRefused too_deep before after size status
    ⊎ IsRefused (code OutOfMemory) before after size status
not_deep depth index f before after size status within deeper = absurd (deeper within)

-- What is refused of a file whose row nests too deep.
pub deep_refused : (e : FileError) (before after : List ℕ) (size status : ℕ)
    → (e ≡ errors.TooDeep) ⊎ (e ≡ errors.OutOfMemory)
    → IsRefused (file_code e) before after size status
    → IsRefused too_deep before after size status
    ⊎ IsRefused (code OutOfMemory) before after size status
deep_refused e before after size status (inl is) refused =
    inl (subst (λ x. IsRefused (file_code x) before after size status) is refused)
deep_refused e before after size status (inr is) refused =
    inr (subst (λ x. IsRefused (file_code x) before after size status) is refused)

-- Other errors than that of memory.
abbrev is_memory : FileError → ℕ
is_memory errors.OutOfMemory = 1
is_memory e = 0

pub not_memory : (e : FileError) → errors.OutOfMemory ≡ e → is_memory e ≡ 0 → ⊥
not_memory e is other = omega (arith, ap is_memory is, other)
