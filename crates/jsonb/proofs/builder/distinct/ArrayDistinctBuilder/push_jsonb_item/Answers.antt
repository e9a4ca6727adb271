use Rattle.std.proofs.Common.{◌≡◌, ◌+◌, ◌++◌, [], ◌∷◌, map, rules}
use Rattle.std.proofs.lemmas.List.{map-append}
use Rattle.std.proofs.lemmas.Result.{on_ok_weaker}
use Rattle.jsonb.specs.ItemView.{item_view}
use Rattle.jsonb.proofs.Classes.{shown_count_of_set, lists_new}
use Rattle.jsonb.proofs.builder.distinct.ArrayDistinctBuilder.push_jsonb_item.Goals as goal

pub invariant_of-self-in-None : goal.invariant_of-self-in-None
invariant_of-self-in-None c =
    let old = c.self.inside.counts.entries in
    let list = c.self.inside.list.items in
    let set = rw c.in_ok-key-in-None.ensures.ok at c.in_ok-set_count-in-None.ensures.set in
    let listed = lists_new (map item_view list) old c.set_count-in-None.new.counts.entries
    (item_view c.args.item) 1 c.self.invariant set in
    let more : c.push.new.self.items ≡ list ++ c.args.item ∷ [] = search rules in
    λ item. rw more (rw (map-append item_view list (c.args.item ∷ [])) (listed item))

pub returns-in-Some-clause-counts : goal.returns-in-Some-clause-counts
returns-in-Some-clause-counts c =
    on_ok_weaker c.set_count.result
    (λ set. shown_count_of_set c.args.self.now c.self.inside.counts.entries _ _ _ (search rules) set
    (λ n. n + 1) (search rules)) c.set_count.ensures.set
