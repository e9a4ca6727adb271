use Rattle.std.proofs.Common.{◌≡◌, ◌∷◌, ◌++◌, [], ℕ, length, subst, sym, ◌∙◌, ap, arith}
use Rattle.std.proofs.lemmas.Grind.{common_steps}
use Rattle.std.proofs.lemmas.List.{length-map}
use Rattle.jsonb.specs.Within.{meaning_within}
use Rattle.kohiblad.proofs.Orders.{KeysSoFar, one_more_key, order_of_keys, numbers_of}
use Rattle.kohiblad.proofs.Orders.{length-IsOrderOf}
use Rattle.kohiblad.proofs.sort.keys_in_order.Goals as goal

pub loop-row-preserved : goal.loop-row-preserved
loop-row-preserved c =
    let walk = c.loop-row in
    let means = c.within.ensures.meaning in
    let more =
    one_more_key (meaning_within c.args.depth) c.args.rows walk.left c.next.new.self
    c.in-Some.row.now walk.keys.items
    c.within.result walk.invariant c.in-Some.ensures means in
    let number : c.len.result ≡ length walk.keys.items = grind (arith, common_steps) in
    let pushed = c.in_ok-push.ensures.items ∙ ap
    (λ (k : ℕ). walk.keys.items ++ (c.within.result, k) ∷ []) number in
    subst (KeysSoFar (meaning_within c.args.depth) c.args.rows c.next.new.self) (sym pushed) more

pub returns-clause-ok : goal.returns-clause-ok
returns-clause-ok c =
    order_of_keys (meaning_within c.args.depth) c.args.rows c.loop-row.left
    c.loop-row.keys.items c.sort.new.self.items
    c.in_default.ensures.0 c.loop-row.invariant c.sort.ensures.permutation
    c.in_ok-sort.ensures.sorted

pub returns-clause-len : goal.returns-clause-len
returns-clause-len c =
    let keys = c.sort.new.self.items in
    let order =
    order_of_keys (meaning_within c.args.depth) c.args.rows c.loop-row.left
    c.loop-row.keys.items c.sort.new.self.items
    c.in_default.ensures.0 c.loop-row.invariant c.sort.ensures.permutation
    c.in_ok-sort.ensures.sorted in
    sym (length-map keys (λ key. key.1)) ∙ length-IsOrderOf (meaning_within c.args.depth)
    c.args.rows (numbers_of keys) order
