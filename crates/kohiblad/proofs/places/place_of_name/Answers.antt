use Rattle.std.proofs.Common.{◌≡◌, Err, rules}
use Rattle.kohiblad.proofs.Lookups.{place_found}
use Rattle.kohiblad.proofs.FoundPlaces.{found_stored}
use Rattle.kohiblad.proofs.places.place_of_name.Goals as goal

pub returns-in_err-found-clause-place : goal.returns-in_err-found-clause-place
returns-in_err-found-clause-place c =
    let call = c.find_object_value_counted in
    let found =
    place_found _ c.args.name.now c.args.bytes.now _
    c.new-object.ensures (λ key b says. search rules) _ call.result call.ensures.bytes
    call.ensures.place in
    let refused : c.from_residual.result ≡ Err c.in_err-found.field-0.0 = search rules in
    rw refused (rw c.in_err-found.was at found)

pub returns-in-Some-clause-place : goal.returns-in-Some-clause-place
returns-in-Some-clause-place c =
    let call = c.find_object_value_counted in
    let found =
    place_found _ c.args.name.now c.args.bytes.now _
    c.new-object.ensures (λ key b says. search rules) _ call.result call.ensures.bytes
    call.ensures.place in
    rw (c.in_ok-found.was, c.in-Some.is) at found

pub returns-in-None-clause-place : goal.returns-in-None-clause-place
returns-in-None-clause-place c =
    let call = c.find_object_value_counted in
    let found =
    place_found _ c.args.name.now c.args.bytes.now _
    c.new-object.ensures (λ key b says. search rules) _ call.result call.ensures.bytes
    call.ensures.place in
    rw (c.in_ok-found.was, c.in-None.is) at found

pub returns-in_err-found-clause-document : goal.returns-in_err-found-clause-document
returns-in_err-found-clause-document c = λ t document.
    found_stored _ _ t _ document (returns-in_err-found-clause-place c)

pub returns-in-Some-clause-document : goal.returns-in-Some-clause-document
returns-in-Some-clause-document c = λ t document.
    found_stored _ _ t _ document (returns-in-Some-clause-place c)

pub returns-in-None-clause-document : goal.returns-in-None-clause-document
returns-in-None-clause-document c = λ t document.
    found_stored _ _ t _ document (returns-in-None-clause-place c)
