-- Rows that join groups, and those that are refused.
use Rattle.std.proofs.Common.{◌≡◌, ◌&&◌, ◌++◌, ◌∙◌, ℕ, Bool, true, false, List, [], ◌∷◌, Ok, Err}
use Rattle.std.proofs.Common.{append_assoc, inl, inr, refl, sym, ap, arith}
use Rattle.std.proofs.lemmas.List.{append-nil}
use Rattle.jsonb.specs.Document.{tree_in}
use Rattle.jsonb_codec.specs.Doc.{IsDocument}
use Rattle.jsonb_codec.proofs.Steps.{document_room}
use Rattle.kohiblad_shell.proofs.GroupedLaws.{grouped_more}
use Rattle.kohiblad_shell.specs.Aggregates.{RefusesUnfit, amount_of, amounts_of, are_fit}
use Rattle.kohiblad_shell.specs.Grouping.{AreOfAll, documents_of, groups_of, read_group_rule}
use Rattle.kohiblad_shell.specs.Grouping.{with_row}
use Rattle.kohiblad_shell.specs.Groups.{Group, with_entry}
use Rattle.kohiblad_shell.specs.Keys.{path_keys}
use Rattle.kohiblad_shell.specs.Outcomes.{IsOutcome, IsUnlessPassed, Outcome, after_all}
use Rattle.kohiblad_shell.specs.Rows.{IsRefusedRow, IsRow}
use Rattle.kohiblad_shell.specs.declared.group.Grouper.{Grouper}
use Rattle.kohiblad_shell.specs.declared.group.NamedAggregate.{NamedAggregate}
use Rattle.kohiblad_shell.specs.declared.input.Form.{Form}
use Rattle.kohiblad_shell.specs.declared.outcome.Unanswered.{Unanswered}
use Rattle.kohiblad_shell.specs.declared.outcome.Unanswered.TheVariants.{Wrong, OutOfMemory}

-- one more aggregate takes its value, or does not
pub unfit_more : (fits one others : Bool) (u : Unanswered) → fits ≡ (one && others)
    → RefusesUnfit one u → RefusesUnfit fits u
unfit_more fits one others (Wrong fault) same (not, is) =
    (same ∙ ap (λ b. b && others) not, is)
unfit_more fits one others OutOfMemory same is = tt

module _ (named : List NamedAggregate) (form : Form) (row : List ℕ) (is_passed : Bool) where
  pub fit_gives : (document : List ℕ) → is_passed ≡ false → IsRow form row document
      → are_fit named (tree_in document) ≡ true
      → IsUnlessPassed is_passed (read_group_rule named form row) (Ok document)
  fit_gives document not is fits = rw not (is, fits)

  pub refused_row_gives : (u : Unanswered) → is_passed ≡ false → IsRefusedRow form row u
      → IsOutcome (λ outcome. IsUnlessPassed is_passed (read_group_rule named form row) outcome)
      (Err u)
  refused_row_gives (Wrong fault) not is = rw not (inl is)
  refused_row_gives OutOfMemory not is = tt

  pub unfit_gives : (document : List ℕ) (u : Unanswered) → is_passed ≡ false
      → IsRow form row document → RefusesUnfit (are_fit named (tree_in document)) u
      → IsOutcome (λ outcome. IsUnlessPassed is_passed (read_group_rule named form row) outcome)
      (Err u)
  unfit_gives document (Wrong fault) not is (unfit, same) =
      rw not (inr (document, is, unfit, same))
  unfit_gives document OutOfMemory not is same = tt

-- ---- the groups

pub passed_joins_none : (grouper : Grouper) (rows : List ℕ) → rows ≡ []
    → grouper ≡ with_row grouper rows
passed_joins_none grouper rows none = rw none refl

pub row_joins_group : (grouper : Grouper) (groups : List Group) (bytes : List ℕ)
    → IsDocument bytes
    → groups ≡ with_entry (path_keys grouper.by.now (tree_in bytes)) bytes
    (amounts_of grouper.aggregates.now (tree_in bytes)) grouper.groups
    → record grouper { groups = groups } ≡ with_row grouper bytes
row_joins_group grouper groups [] document is =
    absurd (omega (arith, document_room document.0 [] document.1))
row_joins_group grouper groups (byte ∷ bytes) document is = rw is refl

-- ---- all rows

groups_grow : (before : Grouper) (outcomes : List Outcome) (done : List (List ℕ))
    → before.groups ≡ groups_of before.by.now before.aggregates.now done
    → (after_all with_row before outcomes).groups
    ≡ groups_of before.by.now before.aggregates.now (done ++ documents_of outcomes)
groups_grow before [] done is =
    is ∙ ap (groups_of before.by.now before.aggregates.now) (sym (append-nil done))
groups_grow before (Ok [] ∷ outcomes) done is =
    groups_grow (with_row before []) outcomes done is
groups_grow before (Ok (byte ∷ bytes) ∷ outcomes) done is =
    let key : List ℕ → List ℕ = λ d. path_keys before.by.now (tree_in d) in
    let more : with_entry (key (byte ∷ bytes)) (byte ∷ bytes)
    (amounts_of before.aggregates.now (tree_in (byte ∷ bytes))) before.groups
    ≡ groups_of before.by.now before.aggregates.now (done ++ (byte ∷ bytes) ∷ []) =
    ap
    (λ groups. with_entry (key (byte ∷ bytes)) (byte ∷ bytes)
    (amounts_of before.aggregates.now (tree_in (byte ∷ bytes))) groups) is
    ∙ sym (grouped_more key (λ a d. amount_of (tree_in d) a.aggregate) before.aggregates.now
    done (byte ∷ bytes)) in
    groups_grow (with_row before (byte ∷ bytes)) outcomes (done ++ (byte ∷ bytes) ∷ []) more
    ∙ ap (groups_of before.by.now before.aggregates.now)
    (append_assoc done ((byte ∷ bytes) ∷ []) (documents_of outcomes))
groups_grow before (Err fault ∷ outcomes) done is = groups_grow before outcomes done is

keeps_words : (before : Grouper) (outcomes : List Outcome)
    → ((after_all with_row before outcomes).by ≡ before.by)
    × ((after_all with_row before outcomes).aggregates ≡ before.aggregates)
keeps_words before [] = (refl, refl)
keeps_words before (Ok [] ∷ outcomes) = keeps_words (with_row before []) outcomes
keeps_words before (Ok (byte ∷ bytes) ∷ outcomes) =
    keeps_words (with_row before (byte ∷ bytes)) outcomes
keeps_words before (Err fault ∷ outcomes) = keeps_words before outcomes

pub groups_of_all : (grouper : Grouper) → AreOfAll grouper
groups_of_all grouper before outcomes none is =
    let kept = keeps_words before outcomes in
    let by = ap (λ (g : Grouper). g.by) is ∙ kept.0 in
    let named = ap (λ (g : Grouper). g.aggregates) is ∙ kept.1 in
    ap (λ (g : Grouper). g.groups) is ∙ groups_grow before outcomes [] none
    ∙ rw (by, named) refl
