use Rattle.std.proofs.Common.{drop, None, option_map}
use Rattle.jsonb_value.specs.Tree.{Ascends}
use Rattle.jsonb_value.specs.Ast.{asts_view, ast_pairs_view, AllAscend, PairsAscend}
use Rattle.jsonb_value.proofs.ast.+ascending.Given as goal

-- All items ascend exactly if the remaining ones do.
abbrev pub invariant-all_ascend-loop-item : goal.invariant-all_ascend-loop-item
invariant-all_ascend-loop-item l =
    let all = asts_view l.items.items in
    let left = asts_view (drop l.item-index l.items.items) in
    record {
      onward : AllAscend all → AllAscend left;
      back : AllAscend left → AllAscend all;
    }

-- All pairs ascend exactly if the remaining ones do, after the previous key.
abbrev pub invariant-pairs_ascend-loop-key : goal.invariant-pairs_ascend-loop-key
invariant-pairs_ascend-loop-key l =
    let all = ast_pairs_view l.pairs.items in
    let left = ast_pairs_view (drop l.key-index l.pairs.items) in
    let before = option_map (λ b. b.now) l.before in
    record {
      onward : Ascends None all × PairsAscend all → Ascends before left × PairsAscend left;
      back : Ascends before left × PairsAscend left → Ascends None all × PairsAscend all;
    }
