use Rattle.std.proofs.Common.{map}
use Rattle.std.proofs.lemmas.Result.{IfOk-weaker}
use Rattle.jsonb_functions.specs.PathText.{selector_view}
use Rattle.kohiblad.proofs.PathCallLaws.{gives_none, gives_steps, same_views}
use Rattle.kohiblad.proofs.paths.steps_of_text.Goals as goal

pub returns-in-Some-clause-ok : goal.returns-in-Some-clause-ok
returns-in-Some-clause-ok c =
    let reads = rw c.in-Some.is at c.in_ok-path.ensures.ok in
    IfOk-weaker c.steps_of_path.result _ _
    (λ steps is. gives_steps c.args.text.now (map selector_view c.deref.result.now)
    (same_views c.args.text.now c.in-Some.path.items c.deref.result.now c.deref.ensures.value reads)
    _ is) c.steps_of_path.ensures.ok

pub returns-in-None-clause-ok : goal.returns-in-None-clause-ok
returns-in-None-clause-ok c =
    let reads = rw c.in-None.is at c.in_ok-path.ensures.ok in gives_none c.args.text.now reads
