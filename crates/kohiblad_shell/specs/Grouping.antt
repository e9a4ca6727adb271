-- Rows that are grouped by the values at paths.
use Rattle.std.specs.Prelude.{◌≡◌, ◌⊎◌, ℕ, true, false, List, [], ◌∷◌, Ok, Err}
use Rattle.jsonb.specs.Document.{tree_in}
use Rattle.kohiblad_shell.specs.Aggregates.{amount_of, amounts_of, are_fit}
use Rattle.kohiblad_shell.specs.Faults.{plain_fault}
use Rattle.kohiblad_shell.specs.Grouped.{groups_in}
use Rattle.kohiblad_shell.specs.Groups.{Group, with_entry}
use Rattle.kohiblad_shell.specs.Inputs.{is_passed_over}
use Rattle.kohiblad_shell.specs.Keys.{path_keys}
use Rattle.kohiblad_shell.specs.Outcomes.{IsUnlessPassed, LineRule, Outcome, after_all}
use Rattle.kohiblad_shell.specs.Rows.{IsRow, IsRowFault}
use Rattle.kohiblad_shell.specs.declared.group.Grouper.{Grouper}
use Rattle.kohiblad_shell.specs.declared.group.NamedAggregate.{NamedAggregate}
use Rattle.kohiblad_shell.specs.declared.input.Form.{Form}
use Rattle.kohiblad_shell.specs.declared.outcome.LineFault.{LineFault}
use Rattle.kohiblad_shell.specs.declared.outcome.Reason.TheVariants.{NotOfType}
use Rattle.kohiblad_shell.specs.declared.sort_path.SortPath.{SortPath}

-- The row has a document, and a value of it is none that its aggregate takes.
abbrev pub IsUnfitRow : List NamedAggregate → Form → List ℕ → LineFault → Type 0
IsUnfitRow named form row fault = (document : List ℕ) × IsRow form row document
    × (are_fit named (tree_in document) ≡ false) × (fault ≡ plain_fault 0 NotOfType)

-- A row that is not passed over gives its document, or its fault, which may be a value that its
-- aggregate does not take.
abbrev pub read_group_rule : List NamedAggregate → Form → LineRule
read_group_rule named form row (Ok document) =
    IsRow form row document × (are_fit named (tree_in document) ≡ true)
read_group_rule named form row (Err fault) =
    IsRowFault form row fault ⊎ IsUnfitRow named form row fault

-- What a row gives.
abbrev pub group_rule : List NamedAggregate → Form → LineRule
group_rule named form row outcome =
    IsUnlessPassed (is_passed_over form row) (read_group_rule named form row) outcome

-- The groups with the row of one more document. No bytes are no document, and change nothing.
abbrev pub with_document : List SortPath → List NamedAggregate → List Group → List ℕ → List Group
with_document by named groups [] = groups
with_document by named groups (byte ∷ bytes) =
    with_entry (path_keys by (tree_in (byte ∷ bytes))) (byte ∷ bytes)
    (amounts_of named (tree_in (byte ∷ bytes))) groups

-- What groups rows after a row gave this document.
abbrev pub with_row : Grouper → List ℕ → Grouper
with_row grouper document = record {
  by = grouper.by;
  aggregates = grouper.aggregates;
  form = grouper.form;
  groups = with_document grouper.by.now grouper.aggregates.now grouper.groups document;
}

-- ---- all rows

-- The groups of documents: those with the same keys at the paths, and what they add to aggregates.
abbrev pub groups_of : List SortPath → List NamedAggregate → List (List ℕ) → List Group
groups_of by named documents =
    groups_in (λ d. path_keys by (tree_in d)) (λ a d. amount_of (tree_in d) a.aggregate) named
    documents

-- The documents of the rows that gave one.
abbrev pub documents_of : List Outcome → List (List ℕ)
documents_of [] = []
documents_of (Ok [] ∷ outcomes) = documents_of outcomes
documents_of (Ok (byte ∷ bytes) ∷ outcomes) = (byte ∷ bytes) ∷ documents_of outcomes
documents_of (Err fault ∷ outcomes) = documents_of outcomes

-- The groups are those of the documents of all rows since there were none.
abbrev pub AreOfAll : Grouper → Type 0
AreOfAll grouper = (before : Grouper) (outcomes : List Outcome) → before.groups ≡ []
    → grouper ≡ after_all with_row before outcomes
    → grouper.groups
    ≡ groups_of grouper.by.now grouper.aggregates.now (documents_of outcomes)
