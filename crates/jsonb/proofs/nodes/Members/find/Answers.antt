use Rattle.std.proofs.Common.{◌≡◌, true, false, nat_eq, sym, subst, ◌∙◌}
use Rattle.std.specs.Cmp.Lexicographic.{pointwise}
use Rattle.jsonb.specs.EntryTrees.{entry_of_part}
use Rattle.jsonb.proofs.NodeLaws.{first_left, first_member, passed, met}
use Rattle.jsonb.proofs.nodes.Members.find.Goals as goal

pub returns-then-eq : goal.returns-then-eq
returns-then-eq c members are =
    let key = entry_of_part c.in-Some.key in
    let value = entry_of_part c.in-Some-next_part.value in
    let name = c.args.name.now in
    let (later, (left, same)) = c.loop-key.invariant.same members are in
    let first = first_member later _ _ _ _ key value c.in-Some.ensures.steps
    c.in-Some-next_part.ensures.steps left in
    sym (same ∙ met name key value later first.left first.are
    (subst (λ k. true ≡ pointwise nat_eq name k) c.text.ensures.bytes c.if-eq.ensures))

pub loop-key-preserved : goal.loop-key-preserved
loop-key-preserved c =
    let key = entry_of_part c.in-Some.key in
    let value = entry_of_part c.in-Some-next_part.value in
    let name = c.args.name.now in
    record {
      readable = (first_left _ _ _ _ key value c.in-Some.ensures.steps
          c.in-Some-next_part.ensures.steps c.loop-key.invariant.readable).1;
      same = λ members are.
          let (later, (left, same)) = c.loop-key.invariant.same members are in
          let first = first_member later _ _ _ _ key value c.in-Some.ensures.steps
          c.in-Some-next_part.ensures.steps left in (
            first.left,
            (
              first.read,
              same ∙ passed name key value later first.left first.are
                  (subst (λ k. false ≡ pointwise nat_eq name k) c.text.ensures.bytes
                  c.if-eq.ensures),
            ),
          );
    }
