use Rattle.std.proofs.Common.{length, sym, subst}
use Rattle.std.specs.Prelude.{All, List, ℕ}
use Rattle.typed_vector.specs.Cells.{Cell, rows}
use Rattle.typed_vector.specs.Contents.{rests}
use Rattle.typed_vector.specs.Texts.{AreTextRows, HoldsText}
use Rattle.typed_vector.proofs.TextLaws.{utf8_values}
use Rattle.typed_vector.proofs.texts.Texts.parts.Goals as goal

pub returns-clause-alike : goal.returns-clause-alike
returns-clause-alike c =
    let parts = c.parts-stored.result in
    let stored = c.parts-stored.ensures.alike in
    let texts : AreTextRows parts.values.now parts.value_offsets.now parts.is_set.now
    (rests (length c.self.inside.binaries) parts.rest) = record {
      stored = stored;
      utf8 = utf8_values (rows parts.values.now parts.value_offsets.now) parts.is_set.now
          (rests (length c.self.inside.binaries) parts.rest) stored.alike.counted stored.blank
          (subst (λ (cs : List (Cell (List ℕ))). All HoldsText cs)
          (sym c.parts-stored.ensures.cells) c.self.invariant);
    } in
    subst (λ (column : List (Cell (List ℕ))). AreTextRows parts.values.now parts.value_offsets.now
    parts.is_set.now (rests (length column) parts.rest)) c.self.view_is texts
