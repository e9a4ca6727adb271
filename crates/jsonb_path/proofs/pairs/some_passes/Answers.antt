use Rattle.std.proofs.Common.{◌∙◌, map, sym}
use Rattle.jsonb.specs.Node.{node_tree}
use Rattle.jsonb_path.proofs.PairLaws.{table_slice, truth_settled}
use Rattle.jsonb_path.proofs.pairs.some_passes.Goals as goal

pub loop-rows-preserved : goal.loop-rows-preserved
loop-rows-preserved c =
    table_slice c.args.mode c.args.check (map node_tree c.args.right.now) c.loop-rows.rows.now
    c.value-item.result c.in-len1-up.len_at_least c.value-item.is c.passes_with.result
    c.loop-rows.truth c.either_in-truth.result _ c.passes_with.ensures c.either_in-truth.ensures
    c.loop-rows.invariant

pub returns-then-settles : goal.returns-then-settles
returns-then-settles c =
    truth_settled c.args.mode c.either_in-truth.result _ _
    (sym c.settles.ensures ∙ c.if-settles.true)
    (table_slice c.args.mode c.args.check (map node_tree c.args.right.now) c.loop-rows.rows.now
    c.value-item.result c.in-len1-up.len_at_least c.value-item.is c.passes_with.result
    c.loop-rows.truth c.either_in-truth.result _ c.passes_with.ensures c.either_in-truth.ensures
    c.loop-rows.invariant)
