use Rattle.std.proofs.Common.{◌≡◌, ◌+◌, ◌∙◌, ap, length, map, rules}
use Rattle.jsonb.specs.Node.{node_tree}
use Rattle.jsonb_path.specs.Found.{found_then}
use Rattle.jsonb_path.specs.Meaning.{gives, meant}
use Rattle.jsonb_path.specs.Visits.{children_left, stack_below}
use Rattle.jsonb_path.proofs.FoundLaws.{onward}
use Rattle.jsonb_path.proofs.VisitLaws.{fewer_after, started, taken_off, turn, turn_fewer}
use Rattle.jsonb_path.proofs.descend.append_below.Goals as goal

pub loop-children-init : goal.loop-children-init
loop-children-init c =
    ap (λ ts. found_then c.args.found.now.items (gives ts))
    (started c.args.first c.args.last c.push_children.new.stack.items c.new-stack.result.items
    (node_tree c.args.node) c.new-stack.ensures.items c.in_ok-push_children.ensures.pushed)

pub loop-children-smaller-in-Continue-branch-4 : goal.loop-children-smaller-in-Continue-branch-4
loop-children-smaller-in-Continue-branch-4 c =
    turn_fewer c.pop.new.self.items c.loop-children.stack.items c.push.new.stack.items
    c.push_children-in-Some-next_child.new.stack.items c.in-Some.children c.next_child.new.self
    (node_tree c.in-Some-next_child.child) c.in-Some.ensures.items c.in-Some-next_child.ensures
    c.in_ok-push.ensures.pushed c.in_ok-push_children-2.ensures.pushed

pub loop-children-preserved-in-Continue-branch-4 :
    goal.loop-children-preserved-in-Continue-branch-4
loop-children-preserved-in-Continue-branch-4 c =
    let t = node_tree c.in-Some-next_child.child in
    let deep : c.len-level.result + 1 ≡ length c.pop.new.self.items + 1 = search rules in
    onward c.loop-children.found.items c.append_if_meant.new.found.items
    c.in_ok-append_if_meant.field-0
    (gives (meant c.args.first c.args.last (c.len-level.result + 1) t))
    (gives (stack_below c.args.first c.args.last 0
    (map children_left c.push_children-in-Some-next_child.new.stack.items))) _
    (ap (λ ts. found_then c.loop-children.found.items (gives ts))
    (turn c.pop.new.self.items c.loop-children.stack.items c.push.new.stack.items
    c.push_children-in-Some-next_child.new.stack.items c.in-Some.children c.next_child.new.self
    t c.in-Some.ensures.items c.in-Some-next_child.ensures c.in_ok-push.ensures.pushed
    c.in_ok-push_children-2.ensures.pushed c.args.first c.args.last (c.len-level.result + 1) deep)
    ∙ c.loop-children.invariant)
    c.in_ok-append_if_meant.ensures

pub loop-children-smaller : goal.loop-children-smaller
loop-children-smaller c =
    fewer_after c.pop.new.self.items c.loop-children.stack.items c.in-Some.children
    c.in-Some.ensures.items

pub loop-children-preserved : goal.loop-children-preserved
loop-children-preserved c =
    ap (λ ts. found_then c.loop-children.found.items (gives ts))
    (taken_off c.pop.new.self.items c.loop-children.stack.items c.in-Some.children
    c.in-Some.ensures.items c.args.first c.args.last c.in_default-next_child.ensures.0)
    ∙ c.loop-children.invariant
