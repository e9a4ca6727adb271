use Rattle.std.proofs.Common.{rules}
use Rattle.jsonb.specs.ItemView.{item_view}
use Rattle.jsonb.proofs.ObjectLaws.{with_pair-entries}
use Rattle.jsonb.proofs.builder.ObjectBuilder.push_jsonb_item.Goals as goal

pub returns-clause-pushed : goal.returns-clause-pushed
returns-clause-pushed c =
    search (rules, with_pair-entries item_view c.self.inside.pairs.entries c.args.key c.args.item)
