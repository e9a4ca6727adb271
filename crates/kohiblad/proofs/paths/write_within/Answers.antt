use Rattle.std.proofs.Common.{inl, inr, map, refl, ◌∙◌}
use Rattle.jsonb.specs.Document.{document_bytes}
use Rattle.jsonb_functions.specs.PathText.{selector_view}
use Rattle.kohiblad.proofs.PathCallLaws.{found_in_steps, given_up, none_some, same_views}
use Rattle.kohiblad.proofs.paths.write_within.Goals as goal

pub returns-in-Ok-Some-select_places_within : goal.returns-in-Ok-Some-select_places_within
returns-in-Ok-Some-select_places_within c =
    let found = c.in-Ok-Some-select_places_within in
    let places = c.deref-in-Ok-Some-select_places_within in
    let over = c.hand_over_items in
    let path = c.deref.result.now in
    let reads = rw c.in-Ok-Some.field-0-is at c.in-Ok-Some.ensures.ok in
    let same =
    same_views c.args.path.now c.in-Ok-Some.path.items path c.deref.ensures.value reads in
    let some = rw found.field-0-is at found.ensures.some in
    let enough = rw found.field-0-is at found.ensures.enough in
    found_in_steps c.args.steps (document_bytes c.args.document) c.args.path.now c.args.out.now
    over.new.out over.new.size over.result path ((same (map selector_view path)).1 refl)
    places.result.now (places.ensures.value ∙ some) enough c.answers_at.result
    c.answers_at.ensures.ok c.answers_at.ensures.memory over.ensures.ok over.ensures.err

pub returns-in-Ok-None-select_places_within : goal.returns-in-Ok-None-select_places_within
returns-in-Ok-None-select_places_within c =
    let found = c.in-Ok-None-select_places_within in
    let refused = c.refuse in
    let path = c.deref.result.now in
    let reads = rw c.in-Ok-Some.field-0-is at c.in-Ok-Some.ensures.ok in
    let same =
    same_views c.args.path.now c.in-Ok-Some.path.items path c.deref.ensures.value reads in
    let few = rw found.field-0-is at found.ensures.none in
    given_up c.args.steps (document_bytes c.args.document) c.args.path.now c.args.out.now
    refused.new.out refused.new.size refused.result path
    ((same (map selector_view path)).1 refl) few refused.ensures

pub returns-in-Ok-None : goal.returns-in-Ok-None
returns-in-Ok-None c =
    let reads = rw c.in-Ok-None.field-0-is at c.in-Ok-None.ensures.ok in
    inr (inl (λ path given. none_some path ((reads path).0 given), c.refuse-in-Ok-None.ensures))
