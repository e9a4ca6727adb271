use Rattle.jsonb.specs.Within.{meaning_within}
use Rattle.jsonb_comparable.proofs.KeyLaws.{is_meaning_within, meanings_laws}
use Rattle.jsonb_comparable.proofs.laws.key_laws_within.Goals as goal

pub returns : goal.returns
returns c depth = meanings_laws (meaning_within depth) (is_meaning_within depth)
