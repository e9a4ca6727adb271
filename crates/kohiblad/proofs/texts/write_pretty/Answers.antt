use Rattle.std.proofs.Common.{arith, length, ◌≡◌, ◌≤◌}
use Rattle.jsonb_value.specs.Text.{length_64, pretty}
use Rattle.jsonb.specs.Node.{node_tree}
use Rattle.kohiblad.proofs.LongTexts.{is_counted, written_out}
use Rattle.kohiblad.proofs.texts.write_pretty.Goals as goal

pub returns : goal.returns
returns c =
    let lines = pretty (node_tree c.args.value) in
    let counted = c.pretty_len.ensures in
    let whole : length_64 lines ≡ length lines =
    is_counted lines _ counted c.if-length-eq18446744073709551615.false in
    let room = c.if-out-length.false in
    let fits : length lines ≤ length c.args.out.now = omega (arith, counted, whole, room) in
    let made = c.pretty_text in
    let over = c.hand_over_items in
    written_out lines c.args.out.now over.new.out over.new.size over.result whole fits made.result
    made.ensures.text made.ensures.memory over.ensures.ok over.ensures.err
