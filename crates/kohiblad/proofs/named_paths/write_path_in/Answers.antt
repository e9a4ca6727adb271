use Rattle.std.proofs.Common.{List, Some, map, subst}
use Rattle.std.specs.Prelude.{String, string_bytes}
use Rattle.std.specs.declared.alloc.Global.{Global}
use Rattle.jsonb.specs.Document.{document_tree}
use Rattle.jsonb_functions.specs.Names.{names_of}
use Rattle.jsonb_functions.specs.NamedSteps.{steps_by}
use Rattle.kohiblad.specs.NamedPaths.{IsPathMade}
use Rattle.kohiblad.proofs.NamedPathLaws.{named_path, path_as_text}
use Rattle.kohiblad.proofs.named_paths.write_path_in.Goals as goal

pub returns-in-Ok-Some : goal.returns-in-Ok-Some
returns-in-Ok-Some c =
    let call = c.write_named_path in
    let t = document_tree c.args.document in
    let gives = rw c.in-Ok-Some.field-0-is at c.in-Ok-Some.ensures.ok in
    named_path t c.args.text.now c.args.out.now call.new.out call.new.length call.result
    (names_of c.in-Ok-Some.names) gives
    (subst
    (λ (x : List (String Global)). IsPathMade (steps_by (map string_bytes x) (Some t))
    c.args.out.now call.new.out call.new.length call.result) c.deref.ensures.value call.ensures)

pub returns-in-Ok-None : goal.returns-in-Ok-None
returns-in-Ok-None c =
    let call = c.write_path in
    let none = rw c.in-Ok-None.field-0-is at c.in-Ok-None.ensures.ok in
    path_as_text (document_tree c.args.document) c.args.text.now c.args.out.now call.new.out
    call.new.length call.result none call.ensures
