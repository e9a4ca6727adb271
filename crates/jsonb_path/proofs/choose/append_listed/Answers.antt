use Rattle.std.proofs.Common.{◌∙◌, map, sym}
use Rattle.std.proofs.lemmas.Int.{to_z-of_z}
use Rattle.jsonb.specs.Node.{node_tree}
use Rattle.jsonb_path.proofs.TakenLaws.{listed_from, taken_past}
use Rattle.jsonb_path.proofs.choose.append_listed.Goals as goal

pub loop-left-init : goal.loop-left-init
loop-left-init c =
    let first = c.ranges.first in
    let last = c.ranges.last in
    let same = simp to_z-of_z at c.start_of-start.ensures.same in
    record {
      found = simp to_z-of_z (listed_from c.args.found.now.items c.start_of-start.result
          c.args.first c.args.last c.args.items.now c.start_of-start.ensures.within
          (same c.args.last));
      most = c.start_of-start.ensures.least;
    }

pub returns-then-is_past : goal.returns-then-is_past
returns-then-is_past c =
    let first = c.ranges.first in
    let last = c.ranges.last in
    let so_far = simp to_z-of_z at c.loop-left.invariant.found in
    let test = simp to_z-of_z at c.is_past.ensures.test in
    taken_past c.loop-left.at c.args.first c.args.last (map node_tree c.loop-left.left.now)
    (sym test ∙ c.if-is_past.true) c.loop-left.found.items c.args.found.now.items tt _ so_far
