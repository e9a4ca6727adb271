use Rattle.std.proofs.Common.{List, IsOkAnd, subst, sym}
use Rattle.jsonb_functions.specs.Found.{found_at}
use Rattle.jsonb_functions.specs.declared.path.Step.{Step}
use Rattle.jsonb_functions.specs.PathPlaces.{HoldsFound}
use Rattle.kohiblad.proofs.UncheckedLaws.{entry_placed, one_key_held, one_step}
use Rattle.kohiblad.proofs.unchecked_rows.member_place.Goals as goal

pub returns-in-Key-clause-document : goal.returns-in-Key-clause-document
returns-in-Key-clause-document c = λ t document.
    let one =
    one_step c.args.path.now _ _ c.in-len1.len_at_least c.in-len1.len_below c.in-Key.is in
    let named = entry_placed c.args.row.now c.in-Key.name.now t c.find_entry.result
    (c.find_entry.ensures.document t document) in
    subst
    (λ (path : List Step).
    IsOkAnd c.find_entry.result (λ found. HoldsFound c.args.row.now found (found_at path t)))
    (sym one) (one_key_held c.args.row.now t c.in-Key.name c.find_entry.result named)
