use Rattle.std.proofs.Common.{◌≡◌, ◌+◌, ℕ, List, Bor, IfSome, arith, ap, drop, subst, ◌∙◌, sym}
use Rattle.std.specs.Cmp.Lexicographic.{slice_cmp}
use Rattle.std.specs.Ordering.{nat_cmp}
use Rattle.std.specs.declared.cmp.Ordering.TheVariants.{Less}
use Rattle.jsonb.specs.Entry.{IsEntryIn}
use Rattle.kohiblad.specs.Locating.{IsMemberPlace}
use Rattle.kohiblad.specs.RowWalks.{IsFoundAs, IsSoughtIn}
use Rattle.kohiblad.proofs.LocatingLaws.{all_found, first_found, later_names, name_at, none_put}
use Rattle.kohiblad.proofs.LocatingLaws.{one_more_put}
use Rattle.kohiblad.proofs.locating.put_members.Goals as goal

pub loop-name-init : goal.loop-name-init
loop-name-init c = record {
  walk = c.requires.walk;
  row = c.requires.row;
  counted = omega arith;
  so_far = record {
    put = none_put _ c.args.names.now c.args.at c.args.places.now;
    found = all_found c.args.walk c.args.names.now c.requires.found;
    order = c.requires.order;
  };
}

pub loop-name-preserved : goal.loop-name-preserved
loop-name-preserved c =
    let names = c.args.names.now in
    let loop = c.loop-name in
    let i = loop.name-index in
    let so_far = loop.invariant.so_far in
    let left = drop i names in
    let others = drop (i + 1) names in
    let cut = name_at names i _ c.as_bytes.result.now (omega (arith, c.loop-name-test.true))
    c.as_bytes.ensures.value in
    let name = cut.0 in
    let is = cut.1.0 in
    let same : c.as_bytes.result.now ≡ name.now = cut.1.1 in
    let keeps : (k : List ℕ) → slice_cmp nat_cmp name.now k ≡ Less
    → IsSoughtIn k loop.walk → IsSoughtIn k c.place_of-found.new.self =
    λ k less. c.place_of-found.ensures.later k (ap (λ (t : List ℕ). slice_cmp nat_cmp t k) same ∙ less) in
    let next = later_names loop.walk c.place_of-found.new.self left others name is keeps so_far.order
    so_far.found in
    let found : IsSoughtIn c.as_bytes.result.now loop.walk =
    subst (λ (text : List ℕ). IsSoughtIn text loop.walk) (sym same)
    (first_found loop.walk left others name is so_far.found) in
    let here : IsFoundAs loop.walk.row.now c.as_bytes.result.now c.place_of-found.result =
    c.place_of-found.ensures.found found in
    record {
      walk = c.place_of-found.ensures.walk;
      row = ap (λ (row : Bor (List ℕ)). row.now) c.place_of-found.ensures.row ∙ loop.invariant.row;
      counted = omega (arith, loop.invariant.counted);
      so_far = record {
        put = one_more_put (IsMemberPlace c.args.start c.args.row.now) names left others name
            c.args.at loop.number c.args.places.now loop.places c.placed_answer.result so_far.put is (
              c.place_of-found.result,
              (
                c.placed_answer.ensures,
                (
                  subst (λ (row : List ℕ). IfSome c.place_of-found.result (IsEntryIn row))
                      loop.invariant.row c.place_of-found.ensures.inside,
                  subst (λ (text : List ℕ). IsFoundAs c.args.row.now text c.place_of-found.result) same
                      (subst
                      (λ (row : List ℕ). IsFoundAs row c.as_bytes.result.now c.place_of-found.result)
                      loop.invariant.row here),
                ),
              ),
            ) c.requires.room;
        found = next.0;
        order = next.1;
      };
    }
