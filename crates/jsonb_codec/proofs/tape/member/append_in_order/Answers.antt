use Rattle.std.proofs.Common.{sym, ap, subst, ◌∙◌, ◌≡◌, ◌<◌, ◌+◌, ◌++◌, ◌∷◌, [], arith}
use Rattle.std.proofs.Common.{get_or, length, length-append, take}
use Rattle.std.proofs.lemmas.List.{append_assoc, take_all, take_more}
use Rattle.jsonb_codec.specs.Tape.{ArePicked}
use Rattle.jsonb_codec.proofs.OnTape.Closing.{at_same}
use Rattle.jsonb_codec.proofs.OnTape.Ordering.{at_front, pick_at, picked_snoc}
use Rattle.jsonb_codec.proofs.tape.member.append_in_order.Goals.{At-loop-index}
use Rattle.jsonb_codec.proofs.tape.member.append_in_order.Goals as goal

-- the number is that of a member
low : (c : At-loop-index) → c.loop-index.index-index < length c.args.order.now → c.args.first
    + get_or c.args.order.now c.loop-index.index-index 0 < length c.args.members.now.items
low c more =
    let (read, (es, (picks, count))) = c.requires in
    let order = c.args.order.now in
    let j = c.loop-index.index-index in
    let pick = pick_at read order es j (get_or order j 0) picks more (at_same order j 0 more) in
    omega (arith, pick.low, count)

pub overflow_add-first : goal.overflow_add-first
overflow_add-first c = omega (
  arith,
  low (goal.at.overflow_add-first c).At-loop-index c.loop-index-test.true,
  c.args.members.now.ok,
  c.args.members.now.small,
)

pub index-member-requires : goal.index-member-requires
index-member-requires c =
    let (picked, (grown, (are, room))) = c.loop-index.invariant in
    omega (
      arith,
      low (goal.at.index-member-requires c).At-loop-index c.loop-index-test.true,
      ap length grown,
      length-append c.args.members.now.items picked,
      c.loop-index.members.ok,
    )

pub push_reserved-requires : goal.push_reserved-requires
push_reserved-requires c =
    let (picked, (grown, (are, room))) = c.loop-index.invariant in
    omega (arith, room, c.loop-index-test.true)

pub loop-index-preserved : goal.loop-index-preserved
loop-index-preserved c =
    let (picked, (grown, (are, room))) = c.loop-index.invariant in
    let order = c.args.order.now in
    let j = c.loop-index.index-index in
    let i = get_or order j 0 in
    let old = c.args.members.now.items in
    let m = c.index-member.result.now in
    let at : m ≡ get_or old (c.args.first + i) m =
    c.index-member.ensures ∙ ap (λ xs. get_or xs (c.args.first + i) m) grown
    ∙ at_front old picked (c.args.first + i) m
    (low (goal.at.loop-index-preserved c).At-loop-index c.loop-index-test.true) in
    let pushed = c.push_reserved.ensures in (
      picked ++ m ∷ [],
      (
        pushed.items ∙ ap (λ xs. xs ++ m ∷ []) grown ∙ append_assoc old picked (m ∷ []),
        (
          subst (λ xs. ArePicked old c.args.first xs (picked ++ m ∷ []))
              (sym (take_more order j 0 c.loop-index-test.true))
              (picked_snoc old c.args.first (take j order) picked i m are at),
          omega (arith, room, pushed.len, pushed.capacity),
        ),
      ),
    )

pub returns-clause-ok : goal.returns-clause-ok
returns-clause-ok c =
    let (picked, (grown, (are, room))) = c.loop-index.invariant in (
      picked,
      (
        grown,
        subst (λ xs. ArePicked c.args.members.now.items c.args.first xs picked)
            (take_all c.loop-index.index-index c.args.order.now c.loop-index-test.false) are,
      ),
    )
