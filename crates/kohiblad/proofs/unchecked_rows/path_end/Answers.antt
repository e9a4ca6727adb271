use Rattle.kohiblad.proofs.UncheckedLaws.{whole_there}
use Rattle.kohiblad.proofs.unchecked_rows.path_end.Goals as goal

pub returns-in-Err-clause-document : goal.returns-in-Err-clause-document
returns-in-Err-clause-document c = λ t document.
    whole_there c.args.row.now t c.in-Err.error document c.in-Err.ensures.value
