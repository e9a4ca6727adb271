use Rattle.std.proofs.Common.{◌≤◌, List, ℕ, length, map, slice_set, ap, ◌∙◌, arith}
use Rattle.std.proofs.lemmas.List.{map-set, length-map}
use Rattle.jsonb.specs.Raw.{raw_bytes}
use Rattle.jsonb.specs.SortKey.{sort_bytes}
use Rattle.jsonb.proofs.PutLaws.{one_more_put}
use Rattle.jsonb.proofs.sorting.put_views.Goals as goal

pub loop-number-preserved : goal.loop-number-preserved
loop-number-preserved c =
    let walk = c.loop-number in
    let fits : length c.args.keys.now ≤ length (map raw_bytes c.args.views.now) =
    omega (arith, c.requires, length-map c.args.views.now raw_bytes) in
    map-set raw_bytes walk.views walk.number c.new.result
    ∙ ap (λ (b : List ℕ). slice_set (map raw_bytes walk.views) walk.number b)
    (c.new.ensures ∙ c.as_bytes.ensures ∙ ap sort_bytes c.index-keys-number.is)
    ∙ one_more_put sort_bytes c.args.keys.now (map raw_bytes c.args.views.now)
    (map raw_bytes walk.views) walk.number c.index-keys-number.result c.loop-number-test.true fits
    walk.invariant
