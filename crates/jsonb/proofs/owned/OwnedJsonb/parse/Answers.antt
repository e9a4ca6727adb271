use Rattle.jsonb.proofs.ParseLaws.{read_again}
use Rattle.jsonb.proofs.owned.OwnedJsonb.parse.Goals as goal

pub returns-clause-read_again : goal.returns-clause-read_again
returns-clause-read_again c t = read_again t c.args.text.now _ c.parse_under.ensures.value
