-- Groups of rows with one key.
use Rattle.std.specs.Prelude.{Bool, ℕ, List, [], ◌∷◌, Option, Vec, ⊤, cond, map, nat_eq}
use Rattle.std.specs.Cmp.Lexicographic.{pointwise}
use Rattle.std.specs.declared.alloc.Global.{Global}
use Rattle.jsonb.specs.Document.{document_bytes}
use Rattle.jsonb_codec.specs.Doc.{IsDocument}
use Rattle.jsonb_value.specs.declared.number.Number.{Number}
use Rattle.kohiblad_shell.specs.declared.groups.Kept.{Kept}
use Rattle.kohiblad_shell.specs.declared.groups.SeenGroup.{SeenGroup}
use Rattle.kohiblad_shell.specs.declared.total.Total.{Total}
use Rattle.kohiblad_shell.specs.Totals.{no_total, with_amount, with_amounts}

-- A group: the key of its rows, the document of its first row, and its sums.
pub record Group : Type 0 where
  pub key : List ℕ
  pub first : List ℕ
  pub totals : List Total

-- What is kept of a group, with its key.
abbrev pub kept_group : (Vec ℕ Global × Kept) → Group
kept_group kept = record {
  key = kept.0.items;
  first = kept.1.first.items;
  totals = kept.1.totals.items;
}

abbrev pub seen_group : SeenGroup → Group
seen_group seen = record {
  key = seen.key.now;
  first = document_bytes seen.first;
  totals = seen.totals.now;
}

-- What each group has of its first row is a document.
abbrev pub HoldDocuments : List Group → Type 0
HoldDocuments [] = ⊤
HoldDocuments (g ∷ gs) = IsDocument g.first × HoldDocuments gs

-- Whether two keys are one.
abbrev pub is_key : List ℕ → List ℕ → Bool
is_key k l = pointwise nat_eq k l

-- The sums of one row.
abbrev pub first_totals : List (Option Number) → List Total
first_totals amounts = map (with_amount no_total) amounts

-- A group of one row.
abbrev pub lone_group : List ℕ → List ℕ → List (Option Number) → Group
lone_group key document amounts = record {
  key = key;
  first = document;
  totals = first_totals amounts;
}

-- A group with one more row.
abbrev pub with_member : Group → List (Option Number) → Group
with_member g amounts = record {
  key = g.key;
  first = g.first;
  totals = with_amounts g.totals amounts;
}

-- The groups with one more row: it joins the group of its key, or is a new one after the others.
abbrev pub with_entry : List ℕ → List ℕ → List (Option Number) → List Group → List Group
with_entry key document amounts [] = lone_group key document amounts ∷ []
with_entry key document amounts (g ∷ gs) =
    cond (is_key key g.key) (with_member g amounts ∷ gs)
    (g ∷ with_entry key document amounts gs)
