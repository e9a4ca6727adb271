-- Lines of a table with one field more.
use Rattle.std.proofs.Common.{◌≡◌, ℕ, ◌+◌, ◌<◌, List, [], ◌∷◌, ◌++◌, length, take, sym, ap, ◌∙◌}
use Rattle.std.proofs.Common.{refl, append_assoc, arith, map, subst}
use Rattle.std.specs.Prelude.{slice_index_or, Option, Some, cond, nat_eq}
use Rattle.std.specs.List.{AllZip, join_with_byte}
use Rattle.std.proofs.Math.Dec.{eqb-suc-zero}
use Rattle.std.proofs.lemmas.List.{length-map, length-take-le, map-append, take_more}
use Rattle.std.proofs.lemmas.Slice.Zip.{AllZip-long}
use Rattle.jsonb_value.specs.Tree.{Tree}
use Rattle.jsonb_typed.proofs.RowLaws.{more_rows}
use Rattle.kohiblad_shell.specs.Extracts.{IsCsvLine, IsFieldAt, IsTableLine}
use Rattle.kohiblad_shell.specs.TableTexts.{separator, text_field}
use Rattle.kohiblad_shell.specs.declared.extract.TypedPath.{TypedPath}
use Rattle.kohiblad_shell.specs.declared.table_text.TableLayout.{TableLayout}
use Rattle.kohiblad_shell.specs.declared.table_text.TableLayout.TheVariants.{Csv}

-- Each field is that of its column.
abbrev AreFields : TableLayout → Tree → List TypedPath → List (List ℕ) → Type 0
AreFields layout t columns fields =
    AllZip (λ column field. IsFieldAt layout t column (Some field)) columns fields

-- a field after others
joined_later : (b : ℕ) (x : List ℕ) (fields : List (List ℕ)) (field : List ℕ)
    → join_with_byte b ((x ∷ fields) ++ field ∷ [])
    ≡ join_with_byte b (x ∷ fields) ++ b ∷ field
joined_later b x [] field = refl
joined_later b x (y ∷ fields) field =
    ap (λ (bytes : List ℕ). x ++ (b ∷ bytes)) (joined_later b y fields field)
    ∙ sym (append_assoc x (b ∷ join_with_byte b (y ∷ fields)) (b ∷ field))

-- a field after so many others
pub joined_more : (b : ℕ) (fields : List (List ℕ)) (field : List ℕ) (i : ℕ) → length fields ≡ i
    → join_with_byte b (fields ++ field ∷ [])
    ≡ join_with_byte b fields ++ cond (nat_eq i 0) field (b ∷ field)
joined_more b [] field i many = rw (sym many) refl
joined_more b (x ∷ fields) field i many =
    rw (sym many, eqb-suc-zero (length fields)) (joined_later b x fields field)

-- the line has the field of one column more
pub line_more : (layout : TableLayout) (t : Tree) (columns : List TypedPath) (i : ℕ)
    (column : TypedPath) (old new field : List ℕ)
    → i < length columns → column ≡ slice_index_or columns i column
    → IsFieldAt layout t column (Some field)
    → (fields : List (List ℕ)) × (AreFields layout t (take i columns) fields
    × (old ≡ join_with_byte (separator layout) fields))
    → new ≡ old ++ cond (nat_eq i 0) field (separator layout ∷ field)
    → (fields : List (List ℕ)) × (AreFields layout t (take (i + 1) columns) fields
    × (new ≡ join_with_byte (separator layout) fields))
line_more layout t columns i column old new field low is one (fields, (so_far, joined)) grown =
    let many : length fields ≡ i =
    AllZip-long (λ c f. IsFieldAt layout t c (Some f)) (take i columns) fields so_far
    ∙ length-take-le i columns (omega arith) in (
      fields ++ field ∷ [],
      (
        more_rows (λ c f. IsFieldAt layout t c (Some f)) columns i fields (fields ++ field ∷ [])
            field column low is refl so_far one,
        grown
            ∙ ap (λ (b : List ℕ). b ++ cond (nat_eq i 0) field (separator layout ∷ field)) joined
            ∙ sym (joined_more (separator layout) fields field i many),
      ),
    )

-- a line in the layout of CSV
pub as_csv : (layout : TableLayout) (columns : List TypedPath) (t : Tree)
    (line : Option (List ℕ)) → IsTableLine layout columns t line → layout ≡ Csv
    → IsCsvLine columns t line
as_csv layout columns t line whole is = subst (λ l. IsTableLine l columns t line) is whole

-- The names of columns as fields.
abbrev name_fields : TableLayout → List TypedPath → List (List ℕ)
name_fields layout columns = map (λ column. text_field layout column.name.now) columns

-- the heading has the name of one column more
pub heading_more : (layout : TableLayout) (columns : List TypedPath) (i : ℕ)
    (column : TypedPath) (old new field : List ℕ)
    → i < length columns → column ≡ slice_index_or columns i column
    → field ≡ text_field layout column.name.now
    → old ≡ join_with_byte (separator layout) (name_fields layout (take i columns))
    → new ≡ old ++ cond (nat_eq i 0) field (separator layout ∷ field)
    → new ≡ join_with_byte (separator layout) (name_fields layout (take (i + 1) columns))
heading_more layout columns i column old new field low is one so_far grown =
    let f : TypedPath → List ℕ = λ c. text_field layout c.name.now in
    let many : length (map f (take i columns)) ≡ i =
    length-map (take i columns) f ∙ length-take-le i columns (omega arith) in
    let more : map f (take (i + 1) columns) ≡ map f (take i columns) ++ f column ∷ [] =
    ap (map f) (take_more columns i column low ∙ ap (λ c. take i columns ++ c ∷ []) (sym is))
    ∙ map-append f (take i columns) (column ∷ []) in
    grown
    ∙ ap (λ (b : List ℕ). b ++ cond (nat_eq i 0) field (separator layout ∷ field)) so_far
    ∙ ap (λ x. join_with_byte (separator layout) (map f (take i columns))
    ++ cond (nat_eq i 0) x (separator layout ∷ x)) one
    ∙ sym (ap (join_with_byte (separator layout)) more
    ∙ joined_more (separator layout) (map f (take i columns)) (f column) i many)
