use Rattle.std.proofs.Common.{refl}
use Rattle.jsonb_functions.proofs.PathPlaceLaws.{places_hold}
use Rattle.kohiblad.specs.PathCalls.{AreStepPlaces}
use Rattle.kohiblad.proofs.PathCallLaws.{asked_at}
use Rattle.kohiblad.proofs.paths.kohiblad_select_within.Goals as goal

pub returns-in_default-clause-document : goal.returns-in_default-clause-document
returns-in_default-clause-document c =
    λ t path document. places_hold c.args.bytes.now t path document

pub returns-in_default-within-clause-document : goal.returns-in_default-within-clause-document
returns-in_default-within-clause-document c =
    λ t path document. places_hold c.args.bytes.now t path document

pub returns-clause-places : goal.returns-clause-places
returns-clause-places c =
    let call = c.write_within in
    asked_at c.args.depth c.args.bytes.now c.args.path.now c.args.out.now call.new.out
    call.new.count call.result
    (λ b text. AreStepPlaces c.args.steps b text c.args.out.now call.new.out call.new.count
    call.result)
    _ c.in-Ok.path.now c.in-Some.ensures.bytes c.in-Ok.ensures (c.in-Some.ensures.exact.0 refl)
    call.ensures

pub returns-clause-document : goal.returns-clause-document
returns-clause-document c = λ t path document. places_hold c.args.bytes.now t path document
