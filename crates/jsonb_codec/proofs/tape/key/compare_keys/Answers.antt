use Rattle.std.proofs.Common.{rules, arith, sym}
use Rattle.jsonb_codec.proofs.OnTape.Prefixes.{prefix_less, prefix_greater}
use Rattle.jsonb_codec.proofs.tape.key.compare_keys.Goals as goal

pub returns-then-left_prefix-right_prefix :
    goal.returns-then-left_prefix-right_prefix
returns-then-left_prefix-right_prefix c = record {
  bytes = λ left right.
      sym (prefix_less 8 c.args.left.now c.args.right.now (search rules) (search rules)
      (omega (arith, left, right, c.if-left_prefix-right_prefix.true)));
}

pub returns-then-left_prefix-right_prefix-2 :
    goal.returns-then-left_prefix-right_prefix-2
returns-then-left_prefix-right_prefix-2 c = record {
  bytes = λ left right.
      sym (prefix_greater c.args.left.now c.args.right.now (search rules) (search rules)
      (omega (arith, left, right, c.if-left_prefix-right_prefix-2.true)));
}
