-- Groups of documents: which there are, and what each of them has.
use Rattle.std.specs.Prelude.{ℕ, List, [], ◌∷◌, Option, filter, fold, map, not}
use Rattle.jsonb_value.specs.declared.number.Number.{Number}
use Rattle.kohiblad_shell.specs.Groups.{Group, is_key}
use Rattle.kohiblad_shell.specs.Totals.{no_total, with_amount}
use Rattle.kohiblad_shell.specs.declared.total.Total.{Total}

-- Keys without those that stand before.
abbrev pub first_keys : List (List ℕ) → List (List ℕ)
first_keys [] = []
first_keys (k ∷ ks) = k ∷ filter (λ l. not (is_key k l)) (first_keys ks)

-- The first document.
abbrev pub first_document : List (List ℕ) → List ℕ
first_document [] = []
first_document (d ∷ ds) = d

-- The sum of these numbers, in order, as far as there are any.
abbrev pub total : List (Option Number) → Total
total amounts = fold with_amount no_total amounts

module _ {A : Type 0} (key : List ℕ → List ℕ) (amount : A → List ℕ → Option Number) (named : List A)
  where
    -- The documents with this key.
    abbrev pub documents_with : List (List ℕ) → List ℕ → List (List ℕ)
    documents_with documents k = filter (λ d. is_key k (key d)) documents

    -- The group of the documents with this key: the first of them, and the sum of what each adds to
    -- each aggregate.
    abbrev pub group_in : List (List ℕ) → List ℕ → Group
    group_in documents k = record {
      key = k;
      first = first_document (documents_with documents k);
      totals = map (λ a. total (map (amount a) (documents_with documents k))) named;
    }

    -- A group for each key, in the order in which the keys first appear.
    abbrev pub groups_in : List (List ℕ) → List Group
    groups_in documents = map (group_in documents) (first_keys (map key documents))
