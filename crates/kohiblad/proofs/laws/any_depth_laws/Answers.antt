use Rattle.std.proofs.Common.{ap}
use Rattle.jsonb.specs.Texts.{lined_text, plain_text}
use Rattle.jsonb.proofs.WithinLaws.{any_document, any_meaning}
use Rattle.kohiblad.proofs.laws.any_depth_laws.Goals as goal

pub returns-clause-document : goal.returns-clause-document
returns-clause-document c = any_document

pub returns-clause-meaning : goal.returns-clause-meaning
returns-clause-meaning c = any_meaning

pub returns-clause-text : goal.returns-clause-text
returns-clause-text c b d long = ap plain_text (any_meaning b d long)

pub returns-clause-pretty : goal.returns-clause-pretty
returns-clause-pretty c b d long = ap lined_text (any_meaning b d long)
