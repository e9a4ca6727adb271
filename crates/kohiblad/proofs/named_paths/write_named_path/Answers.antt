use Rattle.std.proofs.Common.{List, ap, map, subst, ◌∙◌}
use Rattle.std.specs.Prelude.{string_bytes}
use Rattle.jsonb_functions.specs.StoredPath.{StepView, step_view}
use Rattle.kohiblad.specs.NamedPaths.{IsPathMade}
use Rattle.kohiblad.proofs.NamedPathLaws.{path_made}
use Rattle.kohiblad.proofs.named_paths.write_named_path.Goals as goal

pub returns-in-Ok : goal.returns-in-Ok
returns-in-Ok c =
    let made = c.document_of_path in
    let over = c.hand_over_made in
    let path = map step_view c.deref.result.now in
    let names = map string_bytes c.args.names.now in
    subst
    (λ (x : List StepView). IsPathMade x c.args.out.now over.new.out over.new.size over.result)
    (ap (map step_view) c.deref.ensures.value ∙ c.in-Ok.ensures.ok)
    (path_made c.args.out.now over.new.out over.new.size over.result path made.result
    made.ensures.ok made.ensures.fits made.ensures.past made.ensures.only over.ensures)
