use Rattle.std.proofs.Common.{arith, false, rules}
use Rattle.jsonb_functions.specs.PathText.{BeginsWithStep}
use Rattle.jsonb_functions.specs.PathText.{selector_view}
use Rattle.jsonb_functions.proofs.TermLaws.{step_shorter}
use Rattle.jsonb_functions.proofs.PathLaws.{all_read, first_read, none_text, read_on}
use Rattle.jsonb_functions.proofs.PathLaws.{step_begins}
use Rattle.jsonb_functions.proofs.PathStepLaws.{no_bytes, all_bytes}
use Rattle.jsonb_functions.proofs.path_text.read_steps.Goals as goal

pub loop-left-init : goal.loop-left-init
loop-left-init c = (
  search rules,
  (
    c.in-Some.start.now,
    c.in-Some.ensures,
    rw c.new-path.ensures.items (first_read BeginsWithStep false step_begins c.in-Some.start.now),
  ),
)

pub returns-in_default-2 : goal.returns-in_default-2
returns-in_default-2 c =
    let read = c.loop-left.invariant.1 in
    none_text c.args.text.now read.0 c.loop-left.left.now c.loop-left.path.items read.1
    (no_bytes c.loop-left.left.now c.loop-left-test.ensures)
    (rw c.in_default-2.is at c.in_ok-selector.ensures) read.2

pub loop-left-preserved : goal.loop-left-preserved
loop-left-preserved c =
    let read = c.loop-left.invariant.1 in (
      search rules,
      (
        read.0,
        read.1,
        read_on BeginsWithStep false step_begins read.0 c.loop-left.left.now c.in-Some-2.rest
            c.loop-left.path.items c.push.new.self.items c.in-Some-2.selector
            (no_bytes c.loop-left.left.now c.loop-left-test.ensures)
            (rw c.in-Some-2.is at c.in_ok-selector.ensures) c.in_ok-push.ensures.items read.2,
      ),
    )

pub returns : goal.returns
returns c =
    let read = c.loop-left.invariant.1 in
    all_read c.args.text.now read.0 c.loop-left.left.now c.loop-left.path.items read.1
    (all_bytes c.loop-left.left.now c.loop-left-test.ensures) read.2

pub loop-left-smaller : goal.loop-left-smaller
loop-left-smaller c =
    let step = rw c.in-Some-2.is at c.in_ok-selector.ensures in
    omega (
      arith,
      step_shorter c.loop-left.left.now (selector_view c.in-Some-2.selector) c.in-Some-2.rest.now
          step.is,
    )
