use Rattle.jsonb_functions.proofs.IndexTextLaws.{ends_split}
use Rattle.jsonb_functions.proofs.path_text.split_to.Goals as goal

pub returns : goal.returns
returns c = ends_split c.args.text.now c.split_once.result c.split_once.ensures.cases
