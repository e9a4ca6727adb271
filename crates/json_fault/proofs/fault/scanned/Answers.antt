use Rattle.std.proofs.Common.{rules, ◌≡◌, sym, ap, ◌∙◌, None, arith}
use Rattle.json_fault.specs.Scan.{followed}
use Rattle.json_fault.proofs.Offsets.{at_next, count_within, stops_here, stops_at_end}
use Rattle.json_fault.proofs.fault.scanned.Goals as goal

pub followed-requires : goal.followed-requires
followed-requires c =
    count_within c.args.exponents c.args.text.now _ _ _ _ c.scan.expected _ c.in-Some.character
    c.scan.invariant.1.1 c.in-Some.ensures.steps.1 c.scan.invariant.0

pub scan-preserved : goal.scan-preserved
scan-preserved c = (
  search rules,
  (
    tt,
    rw c.in_ok-change.ensures
        (at_next c.args.exponents c.args.text.now _ _ _ _ c.scan.expected _
        (c.in-Some-followed.follows, c.in-Some-followed.bracket) c.in-Some.character
        c.scan.invariant.1.1 c.in-Some.ensures.steps.1 c.in-Some.ensures.steps.2 cc),
  ),
)

pub returns-in_default : goal.returns-in_default
returns-in_default c =
    let none : followed c.args.exponents c.scan.expected c.innermost-top.result
    c.in-Some.character ≡ None = sym c.followed.ensures ∙ c.in_default.is in
    rw (c.innermost-top.ensures, c.in-Some.ensures.steps.0)
    (stops_here c.args.exponents c.args.text.now _ _ _ c.scan.expected _ c.in-Some.character
    c.utf8.text c.scan.invariant.1.1 c.in-Some.ensures.steps.1
    (ap (λ top. followed c.args.exponents c.scan.expected top c.in-Some.character)
    (sym c.innermost-top.ensures) ∙ none)
    (count_within c.args.exponents c.args.text.now _ _ _ _ c.scan.expected _ c.in-Some.character
    c.scan.invariant.1.1 c.in-Some.ensures.steps.1 c.scan.invariant.0))

pub returns : goal.returns
returns c =
    rw c.innermost.ensures
    (stops_at_end c.args.exponents c.args.text.now _ _ c.scan.expected _ c.utf8.text
    c.scan.invariant.1.1 c.in-None.ensures.steps.0 (omega arith))
