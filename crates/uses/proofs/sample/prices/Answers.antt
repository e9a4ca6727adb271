use Rattle.std.proofs.Common.{rules, ◌≡◌, ◌≤◌, length, vec_len, subst, sym, ◌∙◌}
use Rattle.uses.proofs.sample.prices.Goals as goal

pub loop-row-init : goal.loop-row-init
loop-row-init c =
    let none : vec_len c.new-prices.result ≤ 0 = search rules in
    let rows : vec_len c.sort.new.self ≡ c.loop-text.text-index =
    c.sort.ensures.len ∙ c.loop-text.invariant in
    let few : c.loop-text.text-index ≤ length c.args.texts.now = search rules in
    let long : length c.deref-row-items.result.now ≤ length c.args.texts.now =
    subst (λ n. n ≤ length c.args.texts.now) (sym (c.deref-row-items.ensures.len ∙ rows)) few in
    (none, long)
