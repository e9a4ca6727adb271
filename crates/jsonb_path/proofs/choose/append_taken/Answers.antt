use Rattle.std.proofs.Common.{◌∙◌, arith, refl, sym}
use Rattle.std.proofs.lemmas.Int.{to_z-of_z}
use Rattle.jsonb.specs.Node.{node_tree}
use Rattle.jsonb_path.specs.Found.{left_of}
use Rattle.jsonb_path.proofs.TakenLaws.{taken_on, taken_past}
use Rattle.jsonb_path.proofs.choose.append_taken.Goals as goal

pub loop-item-preserved : goal.loop-item-preserved
loop-item-preserved c =
    let first = c.ranges.first in
    let last = c.ranges.last in
    let less = c.is_past.ensures.before c.if-is_past.false in
    let so_far = simp to_z-of_z at c.loop-item.invariant.found in
    let one = simp to_z-of_z at c.in_ok-append_if_between.ensures in
    record {
      found = simp to_z-of_z (taken_on c.loop-item.at c.args.first c.args.last
          (node_tree c.in-Some.item) (left_of c.loop-item.left) (left_of c.next_unit.new.self)
          c.in-Some.ensures c.loop-item.found.items c.append_if_between.new.found.items
          c.in_ok-append_if_between.field-0 _ _ refl so_far one);
      most = omega (arith, less);
    }

pub returns-then-is_past : goal.returns-then-is_past
returns-then-is_past c =
    let first = c.ranges.first in
    let last = c.ranges.last in
    let so_far = simp to_z-of_z at c.loop-item.invariant.found in
    let test = simp to_z-of_z at c.is_past.ensures.test in
    taken_past c.loop-item.at c.args.first c.args.last (left_of c.loop-item.left)
    (sym test ∙ c.if-is_past.true) c.loop-item.found.items c.args.found.now.items tt _ so_far
