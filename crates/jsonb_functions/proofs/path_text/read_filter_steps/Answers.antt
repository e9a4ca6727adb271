use Rattle.std.proofs.Common.{rules, sym, true}
use Rattle.jsonb_functions.specs.PathText.{StepBegins}
use Rattle.jsonb_functions.proofs.PathLaws.{filter_steps_none, filter_steps_read, going_on}
use Rattle.jsonb_functions.proofs.PathLaws.{path_begins, read_on}
use Rattle.jsonb_functions.proofs.path_text.read_filter_steps.Goals as goal

pub returns-in_default : goal.returns-in_default
returns-in_default c =
    filter_steps_none c.args.text.now c.loop-alloc.left.now c.loop-alloc.steps.items
    (sym c.loop-alloc-test.ensures) (rw c.in_default.is at c.in_ok-selector.ensures)
    c.loop-alloc.invariant.1

pub loop-alloc-preserved : goal.loop-alloc-preserved
loop-alloc-preserved c = (
  search rules,
  read_on (StepBegins true) true path_begins c.args.text.now c.loop-alloc.left.now
      c.in-Some.rest c.loop-alloc.steps.items c.push.new.self.items c.in-Some.selector
      (going_on c.loop-alloc.left.now (sym c.loop-alloc-test.ensures))
      (rw c.in-Some.is at c.in_ok-selector.ensures) c.in_ok-push.ensures.items
      c.loop-alloc.invariant.1,
)

pub returns : goal.returns
returns c =
    filter_steps_read c.args.text.now c.loop-alloc.left c.loop-alloc.steps
    (sym c.loop-alloc-test.ensures) c.loop-alloc.invariant.1
