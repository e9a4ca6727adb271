use Rattle.std.proofs.Common.{◌≤◌, ◌++◌, List, ℕ, length, drop, subst, sym, ◌∙◌, ap, ap₂, inl, inr}
use Rattle.std.proofs.Common.{arith, refl}
use Rattle.jsonb.specs.Within.{meaning_within}
use Rattle.kohiblad.specs.SortOrder.{IsOrderOf}
use Rattle.kohiblad.proofs.Orders.{numbers_of}
use Rattle.kohiblad.proofs.sort.kohiblad_sort.Goals as goal

pub put_numbers-requires : goal.put_numbers-requires
put_numbers-requires c =
    let keys = ap length c.deref.ensures.value in
    let count = c.in-Ok-keys_in_order.ensures.len in
    let rows = c.len.ensures in
    let room = c.if-order-len.false in
    omega arith

pub returns-in-Ok-keys_in_order : goal.returns-in-Ok-keys_in_order
returns-in-Ok-keys_in_order c =
    let keys = c.in-Ok-keys_in_order.keys.items in
    let all = c.in-Ok.ensures.rows in
    let same = c.deref.ensures.value in
    let count = ap length same ∙ c.in-Ok-keys_in_order.ensures.len ∙ ap length all in
    let rows = c.len.ensures in
    let room = c.if-order-len.false in
    let fits : length c.in-Ok.rows ≤ length c.args.order.now = omega arith in
    let after = c.put_numbers.ensures ∙ ap₂
    (λ (ns : List ℕ) (k : ℕ). ns ++ drop k c.args.order.now) (ap numbers_of same) count in
    inr (
      sym c.in-Ok.ensures.exact,
      inr (
        subst (λ (rs : List (List ℕ)). length rs ≤ length c.args.order.now) all fits,
        inl (
          numbers_of keys,
          (
            subst (λ (rs : List (List ℕ)). IsOrderOf (meaning_within c.args.depth) rs
                (numbers_of keys)) all c.in-Ok-keys_in_order.ensures.ok,
            (after, refl),
          ),
        ),
      ),
    )
