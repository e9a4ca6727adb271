use Rattle.std.proofs.Common.{length, ap, sym, ◌∙◌, rules, ◌≡◌}
use Rattle.typed_vector.specs.Cells.{rows}
use Rattle.typed_vector.proofs.CellLaws.{length-cells}
use Rattle.typed_vector.proofs.binaries.Binaries.len.Goals as goal

pub returns : goal.returns
returns c =
    let column = c.self.inside in
    let alike = c.self.invariant.alike in
    let count : c.len.result ≡ length column.is_set.items = search rules in
    count ∙ alike.flags
    ∙ sym (length-cells (rows column.values.items column.value_offsets.items) column.is_set.items
    column.rest alike.flags alike.counted)
    ∙ ap length c.self.view_is
