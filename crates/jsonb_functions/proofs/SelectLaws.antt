-- Items after some that are passed over, and indexes that are left.
use Rattle.std.proofs.Common.{◌≡◌, ◌≤◌, ◌<◌, ◌+◌, ◌-◌, ℕ, zero, suc, List, [], ◌∷◌, length, take}
use Rattle.std.proofs.Common.{drop, refl, sym, ap, ◌∙◌, arith}
use Rattle.std.specs.Prelude.{slice_index_or}
use Rattle.std.proofs.Math.Nat.{sub-zero, zero-sub}
use Rattle.std.proofs.Math.Seq.{drop-cons}
use Rattle.jsonb_value.specs.Tree.{Tree}
use Rattle.jsonb_functions.specs.declared.selection.Bound.{Bound}

take_nil : (n : ℕ) → take {A = Tree} n [] ≡ []
take_nil zero = refl
take_nil (suc n) = refl

-- So many items after some that are passed over.
pub drop_take : (m n : ℕ) (ts : List Tree) → take (n - m) (drop m ts) ≡ drop m (take n ts)
drop_take zero n ts = ap (λ k. take k ts) (sub-zero n)
drop_take (suc m) zero ts = ap (λ k. take k (drop (suc m) ts)) (zero-sub (suc m))
drop_take (suc m) (suc n) [] = take_nil (suc n - suc m)
drop_take (suc m) (suc n) (t ∷ ts) =
    let less : suc n - suc m ≡ n - m = omega arith in
    ap (λ k. take k (drop m ts)) less ∙ drop_take m n ts

-- The items at the indexes from one on.
pub index_there : (indexes : List Bound) (n : ℕ) (index : Bound) → n < length indexes
    → index ≡ slice_index_or indexes n index
    → drop n indexes ≡ index ∷ drop (n + 1) indexes
index_there indexes n index low is =
    let next : suc n ≡ n + 1 = omega arith in
    drop-cons indexes n index low ∙ ap (λ x. x ∷ drop (suc n) indexes) (sym is)
    ∙ ap (λ k. index ∷ drop k indexes) next

pub none_left : (indexes : List Bound) (n : ℕ) → length indexes ≤ n → drop n indexes ≡ []
none_left [] zero past = refl
none_left [] (suc n) past = refl
none_left (index ∷ indexes) zero past = absurd (omega (arith, past))
none_left (index ∷ indexes) (suc n) past = none_left indexes n (omega (arith, past))
