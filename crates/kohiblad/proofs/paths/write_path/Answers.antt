use Rattle.std.proofs.Common.{List, Some, ap, inl, inr, map, sym}
use Rattle.jsonb_functions.specs.StoredPath.{step_view}
use Rattle.jsonb_functions.specs.declared.path.Step.{Step}
use Rattle.kohiblad.proofs.PathCallLaws.{none_some, path_answered}
use Rattle.kohiblad.proofs.paths.write_path.Goals as goal

pub returns-in-Ok-Some : goal.returns-in-Ok-Some
returns-in-Ok-Some c =
    let made = c.document_of_path in
    let path = map step_view c.deref.result.now in
    let reads = rw c.in-Ok-Some.field-0-is at c.in-Ok-Some.ensures.ok in
    let gives = (reads (map step_view c.deref.result.now)).1
    (ap (λ (l : List Step). Some (map step_view l)) (sym c.deref.ensures.value)) in
    path_answered c.args.text.now c.args.out.now c.hand_over_made.new.out c.hand_over_made.new.size
    c.hand_over_made.result path gives made.result made.ensures.ok made.ensures.fits
    made.ensures.past made.ensures.only c.hand_over_made.ensures

pub returns-in-Ok-None : goal.returns-in-Ok-None
returns-in-Ok-None c =
    let reads = rw c.in-Ok-None.field-0-is at c.in-Ok-None.ensures.ok in
    inr (inl (λ path given. none_some path ((reads path).0 given), c.refuse.ensures))
