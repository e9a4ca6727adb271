use Rattle.jsonb_codec.proofs.CanonLaws.{Doc-canon, norm-canon}
use Rattle.jsonb_codec.proofs.laws.canonical_laws.Goals as goal

pub returns : goal.returns
returns c = record { means = Doc-canon; distinct = norm-canon }
