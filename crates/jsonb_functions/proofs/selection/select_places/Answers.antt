use Rattle.std.proofs.Common.{◌≡◌}
use Rattle.jsonb.specs.Document.{document_bytes, document_tree}
use Rattle.jsonb_functions.specs.PathPlaces.{selected_from}
use Rattle.jsonb_functions.proofs.PathPlaceLaws.{appended_alone, parts_selected, trees_selected}
use Rattle.jsonb_functions.proofs.selection.select_places.Goals as goal

pub returns-clause-parts : goal.returns-clause-parts
returns-clause-parts c =
    let path = c.args.path.now in
    let bytes = document_bytes c.args.document in
    let whole = c.whole_of.result in
    let found = c.append_places.new.found.items in
    let are : found ≡ selected_from path bytes whole =
    appended_alone path c.as_bytes.result.now bytes whole c.new-found.result.items found
    c.new-found.ensures.items c.as_bytes.ensures.bytes c.in_ok-append_places.ensures in
    parts_selected path bytes (document_tree c.args.document) whole c.whole_of.ensures.part
    c.whole_of.ensures.tree found are

pub returns-clause-values : goal.returns-clause-values
returns-clause-values c =
    let path = c.args.path.now in
    let bytes = document_bytes c.args.document in
    let whole = c.whole_of.result in
    let found = c.append_places.new.found.items in
    let are : found ≡ selected_from path bytes whole =
    appended_alone path c.as_bytes.result.now bytes whole c.new-found.result.items found
    c.new-found.ensures.items c.as_bytes.ensures.bytes c.in_ok-append_places.ensures in
    trees_selected path bytes (document_tree c.args.document) whole c.whole_of.ensures.part
    c.whole_of.ensures.tree found are
