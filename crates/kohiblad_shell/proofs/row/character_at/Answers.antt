use Rattle.std.proofs.Common.{◌≡◌, length, ◌-◌, ap, ◌∙◌, arith}
use Rattle.std.proofs.lemmas.Str.{IsCharBoundary-end}
use Rattle.std.proofs.lemmas.List.{take_all, length-drop}
use Rattle.std.specs.Prelude.{chars, slice_get, drop}
use Rattle.kohiblad_shell.proofs.FoundLaws.{split_at}
use Rattle.kohiblad_shell.proofs.row.character_at.Goals as goal

pub returns-in-Some : goal.returns-in-Some
returns-in-Some c front back split is =
    let at = split_at c.args.text.now front back c.utf8.text split in
    let rest : c.in-Some.rest.now ≡ drop c.args.offset c.args.text.now =
    c.in-Some.ensures.cases.0 ∙ take_all (length c.args.text.now - c.args.offset)
    (drop c.args.offset c.args.text.now)
    (omega (arith, length-drop c.args.offset c.args.text.now)) in
    c.next.ensures.steps.2
    ∙ ap (λ b. slice_get (chars b) 0) (c.chars.ensures.rest ∙ rest)
    ∙ rw is (ap (λ cs. slice_get cs 0) at.is_rest)

pub returns-in-None : goal.returns-in-None
returns-in-None c front back split is =
    let at = split_at c.args.text.now front back c.utf8.text split in
    absurd
    (c.in-None.ensures.cases (rw is at.is_within) (rw is at.is_cut)
    (IsCharBoundary-end c.args.text.now))
