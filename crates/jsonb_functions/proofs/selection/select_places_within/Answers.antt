use Rattle.std.proofs.Common.{◌≡◌}
use Rattle.jsonb.specs.Document.{document_bytes, document_tree}
use Rattle.jsonb_functions.specs.PathPlaces.{selected_from}
use Rattle.jsonb_functions.proofs.PathPlaceLaws.{appended_alone, parts_selected, trees_selected}
use Rattle.jsonb_functions.proofs.selection.select_places_within.Goals as goal

pub returns-in-Ok-clause-parts : goal.returns-in-Ok-clause-parts
returns-in-Ok-clause-parts c =
    let path = c.args.path.now in
    let bytes = document_bytes c.args.document in
    let whole = c.whole_of-whole.result in
    let found = c.append_within.new.found.items in
    let are : found ≡ selected_from path bytes whole =
    appended_alone path c.as_bytes.result.now bytes whole c.new-found.result.items found
    c.new-found.ensures.items c.as_bytes.ensures.bytes c.in-Ok.ensures.appended in
    parts_selected path bytes (document_tree c.args.document) whole c.whole_of-whole.ensures.part
    c.whole_of-whole.ensures.tree found are

pub returns-in-Ok-clause-values : goal.returns-in-Ok-clause-values
returns-in-Ok-clause-values c =
    let path = c.args.path.now in
    let bytes = document_bytes c.args.document in
    let whole = c.whole_of-whole.result in
    let found = c.append_within.new.found.items in
    let are : found ≡ selected_from path bytes whole =
    appended_alone path c.as_bytes.result.now bytes whole c.new-found.result.items found
    c.new-found.ensures.items c.as_bytes.ensures.bytes c.in-Ok.ensures.appended in
    trees_selected path bytes (document_tree c.args.document) whole c.whole_of-whole.ensures.part
    c.whole_of-whole.ensures.tree found are
