use Rattle.std.proofs.Common.{◌≡◌, sym, ◌∙◌, get_or, arith}
use Rattle.std.proofs.lemmas.List.{get_or_default}
use Rattle.kohiblad_shell.specs.SortedRuns.{IsFirst}
use Rattle.kohiblad_shell.specs.declared.sorted_run.RunHead.{RunHead}
use Rattle.kohiblad_shell.proofs.SortedRunLaws.{first_moves}
use Rattle.kohiblad_shell.proofs.sorted_run.first_with.Goals as goal

pub returns-in_default : goal.returns-in_default
returns-in_default c =
    let so_far : IsFirst c.args.heads.now c.args.is_reversed c.args.input c.in-Some.best =
    rw c.in-Some.is at c.requires.so_far in
    let here : (h : RunHead) → get_or c.args.heads.now c.args.input h ≡ c.index-heads-input.result =
    λ h. get_or_default c.args.heads.now c.args.input h c.index-heads-input.result c.requires.input
    ∙ sym c.index-heads-input.is in
    let best : (h : RunHead) → get_or c.args.heads.now c.in-Some.best h ≡ c.index-heads-best.result =
    λ h. get_or_default c.args.heads.now c.in-Some.best h c.index-heads-best.result
    (omega (arith, so_far.low, c.requires.input)) ∙ sym c.index-heads-best.is in
    first_moves c.args.heads.now c.args.is_reversed c.args.input c.in-Some.best so_far
    (λ h. rw (here h) c.if-not-head.false)
    (λ h. rw (here h, best h) (sym c.comes_before.ensures ∙ c.if-not-comes_before.false))
