use Rattle.std.proofs.Common.{rules, ◌≡◌, ℕ, List, map, length, take, subst, ap, ◌∙◌}
use Rattle.std.proofs.Math.Seq.{take-length}
use Rattle.std.specs.Borrow.{Bor}
use Rattle.std.specs.List.Sorted.{IsPermutation, IsSorted}
use Rattle.std.specs.declared.cmp.Ordering.{Ordering}
use Rattle.std.proofs.lemmas.List.Sorted.{IsPermutation-map, All-permutation}
use Rattle.jsonb.specs.declared.sort_key.SortKey.{SortKey}
use Rattle.jsonb.specs.SortKey.{sort_bytes}
use Rattle.jsonb.proofs.KeyOrderLaws.{one_order}
use Rattle.jsonb.proofs.SortLaws.{MeansItsBytes}
use Rattle.uses.proofs.sort_keys.column_order.Goals as goal

pub returns-clause-sorted : goal.returns-clause-sorted
returns-clause-sorted c =
    subst (λ (order : SortKey → SortKey → Ordering). IsSorted order c.sort.new.self.items) one_order
    c.in_ok-sort.ensures.sorted

pub returns-clause-all : goal.returns-clause-all
returns-clause-all c =
    let end : c.loop-bytes.bytes-index ≡ length c.args.column.now = search rules in
    let all : map sort_bytes c.loop-bytes.keys.items ≡ map (λ b. b.now) c.args.column.now =
    c.loop-bytes.invariant.bytes ∙ ap
    (λ (n : ℕ). map (λ (b : Bor (List ℕ)). b.now) (take n c.args.column.now)) end
    ∙ ap (λ (xs : List (Bor (List ℕ))). map (λ (b : Bor (List ℕ)). b.now) xs)
    (take-length c.args.column.now) in
    subst (λ (xs : List (List ℕ)). IsPermutation xs (map sort_bytes c.sort.new.self.items)) all
    (IsPermutation-map sort_bytes _ _ c.sort.ensures.permutation)

pub returns-clause-meaning : goal.returns-clause-meaning
returns-clause-meaning c =
    All-permutation MeansItsBytes c.loop-bytes.keys.items c.sort.new.self.items
    c.sort.ensures.permutation c.loop-bytes.invariant.mean
