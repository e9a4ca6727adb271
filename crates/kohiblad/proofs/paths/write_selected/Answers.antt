use Rattle.std.proofs.Common.{inl, inr, map, refl}
use Rattle.jsonb.specs.Document.{document_bytes}
use Rattle.jsonb_functions.specs.PathText.{selector_view}
use Rattle.kohiblad.proofs.PathCallLaws.{none_some, places_answered, same_views}
use Rattle.kohiblad.proofs.paths.write_selected.Goals as goal

pub returns-in-Ok-Some : goal.returns-in-Ok-Some
returns-in-Ok-Some c =
    let found = c.selected_answers in
    let over = c.hand_over_items in
    let reads = rw c.in-Ok-Some.field-0-is at c.in-Ok-Some.ensures.ok in
    let text = c.args.path.now in
    let same = same_views c.args.path.now c.in-Ok-Some.path.items c.deref.result.now
    c.deref.ensures.value reads in
    places_answered (document_bytes c.args.document) text c.args.out.now over.new.out over.new.size
    over.result c.deref.result.now ((same (map selector_view c.deref.result.now)).1 refl)
    found.result found.ensures.ok found.ensures.memory over.ensures.ok over.ensures.err

pub returns-in-Ok-None : goal.returns-in-Ok-None
returns-in-Ok-None c =
    let reads = rw c.in-Ok-None.field-0-is at c.in-Ok-None.ensures.ok in
    inr (inl (λ path given. none_some path ((reads path).0 given), c.refuse.ensures))
