use Rattle.std.proofs.Common.{List, ℕ, length, arith, ap, sym, ◌∙◌}
use Rattle.jsonb_value.specs.Tree.{text}
use Rattle.jsonb_codec.specs.Doc.{Doc}
use Rattle.jsonb_value.proofs.Codes.{IfNone-from}
use Rattle.jsonb_codec.proofs.Words.{length-word-append}
use Rattle.jsonb_codec.proofs.Steps.{reading}
use Rattle.jsonb_codec.proofs.TextDocuments.{text_room, text_header, text_entry}
use Rattle.jsonb_codec.proofs.document.document_text.Goals as goal
use Rattle.jsonb_codec.proofs.document.document_text.Goals.{then-header-ne-SCALAR_CONTAINER_TAG-via-then-header-ne-SCALAR_CONTAINER_TAG}
use Rattle.jsonb_codec.proofs.document.document_text.Goals.{then-header-ne-SCALAR_CONTAINER_TAG-via-else-header-ne-SCALAR_CONTAINER_TAG+then-entry-ne-STRING_TAG}
use Rattle.jsonb_codec.proofs.document.document_text.Goals.{then-header-ne-SCALAR_CONTAINER_TAG-via-else-header-ne-SCALAR_CONTAINER_TAG+else-entry-ne-STRING_TAG+then-entry}

pub returns-in_err-header-clause-none : goal.returns-in_err-header-clause-none
returns-in_err-header-clause-none c =
    let none : (s : List ℕ) → Doc _ (text s) → ⊥ =
    λ s d. omega (arith, text_room s _ d, c.in_err-header.ensures.none) in
    IfNone-from _ _ none

pub returns-in_err-entry-clause-none : goal.returns-in_err-entry-clause-none
returns-in_err-entry-clause-none c =
    let h = c.in_ok-header in
    let none : (s : List ℕ) → Doc _ (text s) → ⊥ =
    λ s d. omega (
      arith,
      text_room s _ d,
      ap length h.ensures.found ∙ length-word-append h.header h.body.now,
      c.in_err-entry.ensures.none,
    ) in
    IfNone-from _ _ none

pub returns-then-header-ne-SCALAR_CONTAINER_TAG-clause-none :
    goal.returns-then-header-ne-SCALAR_CONTAINER_TAG-clause-none
returns-then-header-ne-SCALAR_CONTAINER_TAG-clause-none c = λ s d.
    let h = c.in_ok-header.ensures in
    let header = text_header h.found h.small s d in
    let entry = text_entry h.found h.small s d (reading c.in_ok-entry.ensures) in
    elim c.then-header-ne-SCALAR_CONTAINER_TAG.branch [
      | then-header-ne-SCALAR_CONTAINER_TAG-via-then-header-ne-SCALAR_CONTAINER_TAG
          w ↦ w.if-header-ne-SCALAR_CONTAINER_TAG.true (sym header.0)
      | then-header-ne-SCALAR_CONTAINER_TAG-via-else-header-ne-SCALAR_CONTAINER_TAG+then-entry-ne-STRING_TAG
          w ↦ w.if-entry-ne-STRING_TAG.true (sym entry.0)
      | then-header-ne-SCALAR_CONTAINER_TAG-via-else-header-ne-SCALAR_CONTAINER_TAG+else-entry-ne-STRING_TAG+then-entry
          w ↦ w.if-entry.true entry.1.0
    ]

pub returns-in-Err-clause-none : goal.returns-in-Err-clause-none
returns-in-Err-clause-none c = λ s d.
    let h = c.in_ok-header.ensures in
    c.in-Err.ensures (text_entry h.found h.small s d (reading c.in_ok-entry.ensures)).1.1
