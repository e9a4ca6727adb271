use Rattle.std.proofs.Common.{rules, ◌≡◌, ◌≤◌, sym, ap, ◌∙◌, arith}
use Rattle.std.specs.Cmp.{tied_itself}
use Rattle.jsonb_value.specs.Meaning.{meaning_cmp}
use Rattle.jsonb_value.specs.Tree.{text}
use Rattle.jsonb_value.proofs.MeaningLaws.{meaning_cmp_total}
use Rattle.jsonb.specs.Within.{meaning_within}
use Rattle.jsonb.proofs.WithinLaws.{document_within}
use Rattle.jsonb.proofs.order.cmp_within.Goals as goal

pub returns-in-Some-Some : goal.returns-in-Some-Some
returns-in-Some-Some c =
    let s = c.in-Some-Some in
    let d = c.args.depth in
    let scalar : 0 ≤ d = omega arith in
    c.cmp.ensures ∙ sym
    (λ i. meaning_cmp (document_within _ (text s.left.now) d s.ensures.some scalar i)
    (document_within _ (text s.right.now) d s.ensures'.some scalar i))

pub returns-then-eq : goal.returns-then-eq
returns-then-eq c =
    let same : c.args.left.now ≡ c.args.right.now = search rules in
    let means = meaning_within c.args.depth c.args.left.now in
    sym (ap (λ b. meaning_cmp means (meaning_within c.args.depth b)) (sym same)
    ∙ tied_itself meaning_cmp_total means)
