use Rattle.std.proofs.lemmas.Str.Pattern.{split_parts}
use Rattle.jsonb_functions.proofs.PathTextLaws.{split_is}
use Rattle.jsonb_functions.proofs.path_text.split_at.Goals as goal

pub returns : goal.returns
returns c =
    split_is c.args.end c.args.text.now c.split_once.result
    (split_parts c.args.end c.args.text.now c.split_once.result c.split_once.ensures.cases
    c.requires)
