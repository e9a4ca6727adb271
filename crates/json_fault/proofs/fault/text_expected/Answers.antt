use Rattle.std.proofs.Common.{◌≡◌, ◌↔◌, ◌∙◌, ℕ, List, true, ap, subst, take, chars}
use Rattle.std.proofs.Math.Nat.{sub-zero}
use Rattle.json_fault.specs.Classes.{followed_by}
use Rattle.json_fault.specs.Fault.{IsJsonUnder}
use Rattle.json_fault.proofs.fault.text_expected.Goals as goal

pub returns-clause-ok : goal.returns-clause-ok
returns-clause-ok c =
    let at = c.in_ok-stop.ensures in
    let offset = c.in_ok-stop.stop.offset in
    let text = c.args.text.now in
    let cut : c.range.result.now ≡ take offset text =
    c.range.ensures.value ∙ ap (λ k. take k text) (sub-zero offset) in
    record {
      front = at.front;
      back = at.back;
      is_split = at.is_split;
      is_fault = at.is_fault;
      may = followed_by c.in_ok-stop.stop.next;
      is_may = at.is_next;
      ends = c.in_ok-ends.ends;
      is_end =
          subst
          (λ (s : List ℕ). (c.in_ok-ends.ends ≡ true) ↔ IsJsonUnder c.args.exponents s)
          (ap chars cut ∙ at.is_front) c.in_ok-ends.ensures.ok;
      is = c.classes.ensures;
    }
