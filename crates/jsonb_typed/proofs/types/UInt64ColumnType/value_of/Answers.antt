use Rattle.std.proofs.Common.{rules}
use Rattle.jsonb.specs.Node.{node_tree}
use Rattle.jsonb_typed.proofs.TypeLaws.{no_unsigned, unsigned}
use Rattle.jsonb_typed.proofs.types.UInt64ColumnType.value_of.Goals as goal

pub returns-in_err-number_at : goal.returns-in_err-number_at
returns-in_err-number_at c =
    no_unsigned c.from_residual.result c.number_at.result c.args.self.now.fit
    (node_tree c.args.member) c.number_at.ensures (search rules) (search rules)

pub returns : goal.returns
returns c =
    unsigned c.ok.result c.number_at.result c.args.self.now.fit (node_tree c.args.member)
    c.in_ok-number_at.field-0 c.number_at.ensures (search rules) (search rules) (search rules)
