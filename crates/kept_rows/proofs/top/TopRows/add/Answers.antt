use Rattle.std.proofs.Common.{◌≡◌, ◌∙◌, ◌+◌, ◌∷◌, [], ap, arith, is_some, length}
use Rattle.std.proofs.Common.{length-append, rules, subst, sym}
use Rattle.kept_rows.specs.TopRows.{AreNumberedBelow}
use Rattle.kept_rows.proofs.TopLaws.{all_kept, dropped_last, first_kept, numbered_front}
use Rattle.kept_rows.proofs.TopLaws.{numbered_inserted, one_at_most}
use Rattle.kept_rows.proofs.top.TopRows.add.Goals as goal

pub invariant_of-self-then-len-self : goal.invariant_of-self-then-len-self
invariant_of-self-then-len-self c =
    let next : c.in-Some.next ≡ c.self.inside.next + 1 = search rules in
    let some = dropped_last c.pop_last.result c.pop_last.new.self.entries
    c.insert.new.self.entries c.pop_last.ensures.removal
    (c.pop_last.ensures.variant.1 (omega (arith, c.if-len-self.true, c.len.ensures.len))) in
    let lens : length c.insert.new.self.entries ≡ length c.pop_last.new.self.entries + 1 =
    ap length some.1 ∙ length-append c.pop_last.new.self.entries (some.0 ∷ []) in (
      subst (λ n. AreNumberedBelow n c.pop_last.new.self.entries) (sym next)
          (numbered_front (c.self.inside.next + 1) c.pop_last.new.self.entries (some.0 ∷ [])
          (subst (AreNumberedBelow (c.self.inside.next + 1))
          (sym c.in_ok-insert.ensures.entries ∙ some.1)
          (numbered_inserted (c.in_ok-to_vec.field-0, c.self.inside.next) c.in_ok-to_vec-2.field-0
          c.self.inside.kept.entries c.self.invariant.0))),
      omega (
        arith,
        lens,
        c.in_ok-insert.ensures.len,
        one_at_most (is_some c.in_ok-insert.field-0),
        c.self.invariant.1,
      ),
    )

pub invariant_of-self-else-len-self : goal.invariant_of-self-else-len-self
invariant_of-self-else-len-self c =
    let next : c.in-Some.next ≡ c.self.inside.next + 1 = search rules in (
      subst (λ n. AreNumberedBelow n c.insert.new.self.entries) (sym next)
          (subst (AreNumberedBelow (c.self.inside.next + 1)) (sym c.in_ok-insert.ensures.entries)
          (numbered_inserted (c.in_ok-to_vec.field-0, c.self.inside.next) c.in_ok-to_vec-2.field-0
          c.self.inside.kept.entries c.self.invariant.0)),
      omega arith,
    )

pub returns-then-len-self-clause-ok : goal.returns-then-len-self-clause-ok
returns-then-len-self-clause-ok c =
    let key : c.in_ok-to_vec.field-0.items ≡ c.args.key.now = search rules in
    let line : c.in_ok-to_vec-2.field-0.items ≡ c.args.line.now = search rules in
    let some = dropped_last c.pop_last.result c.pop_last.new.self.entries
    c.insert.new.self.entries c.pop_last.ensures.removal
    (c.pop_last.ensures.variant.1 (omega (arith, c.if-len-self.true, c.len.ensures.len))) in
    let lens : length c.insert.new.self.entries ≡ length c.pop_last.new.self.entries + 1 =
    ap length some.1 ∙ length-append c.pop_last.new.self.entries (some.0 ∷ []) in
    first_kept (c.in_ok-to_vec.field-0, c.self.inside.next) c.in_ok-to_vec-2.field-0
    c.self.inside.kept.entries c.insert.new.self.entries c.pop_last.new.self.entries some.0
    c.args.self.now c.self.inside.limit c.args.key.now c.args.line.now c.self.invariant.0
    c.in_ok-insert.ensures.entries key line c.self.view_is some.1
    (omega (
      arith,
      lens,
      c.in_ok-insert.ensures.len,
      one_at_most (is_some c.in_ok-insert.field-0),
      c.self.invariant.1,
      c.if-len-self.true,
      c.len.ensures.len,
    ))

pub returns-else-len-self-clause-ok : goal.returns-else-len-self-clause-ok
returns-else-len-self-clause-ok c =
    let key : c.in_ok-to_vec.field-0.items ≡ c.args.key.now = search rules in
    let line : c.in_ok-to_vec-2.field-0.items ≡ c.args.line.now = search rules in
    all_kept (c.in_ok-to_vec.field-0, c.self.inside.next) c.in_ok-to_vec-2.field-0
    c.self.inside.kept.entries c.insert.new.self.entries c.args.self.now c.self.inside.limit
    c.args.key.now c.args.line.now c.self.invariant.0 c.in_ok-insert.ensures.entries key line
    c.self.view_is (omega arith)
