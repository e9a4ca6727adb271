use Rattle.std.proofs.Common.{rules}
use Rattle.jsonb.specs.ItemView.{item_view}
use Rattle.jsonb.proofs.ObjectLaws.{has_key-entries}
use Rattle.jsonb.proofs.builder.ObjectBuilder.contains_key.Goals as goal

pub returns : goal.returns
returns c = search (rules, has_key-entries item_view c.self.inside.pairs.entries c.args.key.now)
