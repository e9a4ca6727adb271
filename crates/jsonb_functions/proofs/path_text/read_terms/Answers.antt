use Rattle.std.proofs.Common.{arith, rules, Bool, ℕ}
use Rattle.jsonb_functions.specs.PathText.{term_view}
use Rattle.jsonb_functions.proofs.TermLaws.{all_read, first_read, none_placed, none_read}
use Rattle.jsonb_functions.proofs.TermLaws.{read_on, state_deeper, term_shorter}
use Rattle.jsonb_functions.proofs.path_text.read_terms.Goals as goal

pub loop-rest-init : goal.loop-rest-init
loop-rest-init c = (
  search rules,
  (rw c.new-terms.ensures.items (first_read c.args.text.now), omega arith),
)

pub returns-in-Some : goal.returns-in-Some
returns-in-Some c =
    all_read c.args.text.now c.loop-rest.left.now c.loop-rest.wants_value c.loop-rest.depth
    c.loop-rest.terms c.in-Some.rest c.in-Some.ensures c.loop-rest.invariant.1.0

pub returns-in_default-2 : goal.returns-in_default-2
returns-in_default-2 c =
    none_read c.loop-rest.left.now c.loop-rest.wants_value c.loop-rest.depth
    c.in_default.ensures c.args.text.now c.loop-rest.terms.items
    (rw c.in_default-2.is at c.in_ok-term.ensures) c.loop-rest.invariant.1.0

pub returns-in_default-state_after : goal.returns-in_default-state_after
returns-in_default-state_after c =
    none_placed c.loop-rest.left.now c.loop-rest.wants_value c.loop-rest.depth
    c.in_default.ensures c.args.text.now c.loop-rest.terms.items c.in-Some-2.term
    c.in-Some-2.rest (rw c.in-Some-2.is at c.in_ok-term.ensures)
    c.in_default-state_after.ensures c.loop-rest.invariant.1.0

pub loop-rest-preserved : goal.loop-rest-preserved
loop-rest-preserved c =
    let state : Bool × ℕ = (c.in-Some-state_after.wants_next, c.in-Some-state_after.depth_next) in
    let step = rw c.in-Some-2.is at c.in_ok-term.ensures in
    let view = term_view c.in-Some-2.term in (
      search rules,
      (
        read_on c.loop-rest.left.now c.loop-rest.wants_value c.loop-rest.depth
            c.in_default.ensures c.args.text.now c.in-Some-2.term c.in-Some-2.rest state
            c.loop-rest.terms.items c.push.new.self.items step c.in-Some-state_after.ensures
            c.in_ok-push.ensures.items c.loop-rest.invariant.1.0,
        omega (
          arith,
          c.loop-rest.invariant.1.1,
          state_deeper c.loop-rest.wants_value c.loop-rest.depth view state
              c.in-Some-state_after.ensures,
          term_shorter c.loop-rest.left.now view c.in-Some-2.rest.now step.is,
        ),
      ),
    )

pub loop-rest-smaller : goal.loop-rest-smaller
loop-rest-smaller c =
    let step = rw c.in-Some-2.is at c.in_ok-term.ensures in
    omega (
      arith,
      term_shorter c.loop-rest.left.now (term_view c.in-Some-2.term) c.in-Some-2.rest.now step.is,
    )
