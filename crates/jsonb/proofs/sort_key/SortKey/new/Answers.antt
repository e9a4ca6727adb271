use Rattle.std.proofs.Common.{sym}
use Rattle.jsonb.proofs.DocumentLaws.{document_meaning, no_document}
use Rattle.jsonb.proofs.ItemMeaningLaws.{meaning_of-other}
use Rattle.jsonb.proofs.sort_key.SortKey.new.Goals as goal

pub returns-in-Some-clause-meaning : goal.returns-in-Some-clause-meaning
returns-in-Some-clause-meaning c = document_meaning _ c.in-Some.document c.in-Some.ensures.bytes

pub returns-in-None-clause-meaning : goal.returns-in-None-clause-meaning
returns-in-None-clause-meaning c = sym (meaning_of-other _ (no_document _ c.in-None.ensures.exact))
