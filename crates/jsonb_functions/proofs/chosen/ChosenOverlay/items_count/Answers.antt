use Rattle.std.proofs.Common.{sym, ap, ◌∙◌}
use Rattle.jsonb_value.specs.Tree.{count}
use Rattle.jsonb_functions.proofs.ChosenLaws.{count_listed}
use Rattle.jsonb_functions.proofs.chosen.ChosenOverlay.items_count.Goals as goal

pub returns : goal.returns
returns c ts h = count_listed c.args.items.now ∙ sym (ap count h)
