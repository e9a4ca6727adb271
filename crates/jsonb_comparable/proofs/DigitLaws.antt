-- The order of digits.
use Rattle.std.proofs.Common.{◌≡◌, ℕ, zero, suc, ◌<◌, ◌≤◌, ◌+◌, ◌*◌, ◌/◌, ◌%◌, ◌^◌, List, [], ◌∷◌}
use Rattle.std.proofs.Common.{◌++◌, refl, arith, sym, inl, inr, ap, ◌∙◌}
use Rattle.std.proofs.Math.Nat.{one-le-pow, pow-suc, mod-lt, div-add-mod', div-lt_iff_lt-mul}
use Rattle.std.proofs.Math.Nat.{mul-le-mul_right}
use Rattle.std.proofs.lemmas.Bool.{cases_order, cases_lt, lt-ltb, le-ltb}
use Rattle.std.specs.Prelude.{nat_lt, true, false}
use Rattle.std.specs.declared.cmp.Ordering.{Ordering}
use Rattle.std.specs.declared.cmp.Ordering.TheVariants.{Less, Equal}
use Rattle.std.specs.Ordering.{nat_cmp, ordering_then, ordering_reverse}
use Rattle.jsonb_value.proofs.TreeLaws.{then-Equal}
use Rattle.jsonb_comparable.specs.NumberKey.{pair_bytes, digit_pairs, count_bytes, key_of_pairs}
use Rattle.jsonb_comparable.proofs.Comparing.{Compared, ended, same, below, above, by_equation}
use Rattle.jsonb_comparable.proofs.Comparing.{cmp_below, cmp_equal, cmp_above, first_as, AreSmall}
use Rattle.jsonb_comparable.proofs.Comparing.{joined, compared_itself}

power_above_zero : (k : ℕ) → 0 < 100 ^ k
power_above_zero k = one-le-pow k 100 (omega arith)

-- Numbers compare as their quotients, and then as their remainders.
quotient_below : (m n d : ℕ) → 0 < d → m / d < n / d → m < n
quotient_below m n d p h =
    let room : suc (m / d) * d ≤ (n / d) * d = mul-le-mul_right d h in
    omega (arith, div-add-mod' m d, div-add-mod' n d, mod-lt m p, room)

pub cmp_divided : (m n d : ℕ) → 0 < d
    → ordering_then (nat_cmp (m / d) (n / d)) (nat_cmp (m % d) (n % d)) ≡ nat_cmp m n
cmp_divided m n d p =
    elim (cases_order (m / d) (n / d)) [
      | inl e ↦
          let whole_m = div-add-mod' m d in
          let whole_n = div-add-mod' n d in
          let scaled : m / d * d ≡ n / d * d = ap (λ (x : ℕ). x * d) e in
          rw (cmp_equal (m / d) (n / d) e)
          (elim (cases_order (m % d) (n % d)) [
            | inl f ↦ cmp_equal (m % d) (n % d) f ∙ sym
                (cmp_equal m n (omega (arith, whole_m, whole_n, scaled, f)))
            | inr g ↦ elim g [
              | inl l ↦ cmp_below (m % d) (n % d) l ∙ sym
                  (cmp_below m n (omega (arith, whole_m, whole_n, scaled, l)))
              | inr l ↦ cmp_above (m % d) (n % d) l ∙ sym
                  (cmp_above m n (omega (arith, whole_m, whole_n, scaled, l)))
            ]
          ])
      | inr g ↦ elim g [
        | inl l ↦ rw (cmp_below (m / d) (n / d) l) (sym (cmp_below m n (quotient_below m n d p l)))
        | inr l ↦ rw (cmp_above (m / d) (n / d) l) (sym (cmp_above m n (quotient_below n m d p l)))
      ]
    ]

-- The first pair and the rest of the number decide as the number.
pair_decides : (q p r s : ℕ) (a b : List ℕ) → Compared a b (nat_cmp r s)
    → Compared (pair_bytes q r a) (pair_bytes p s b) (ordering_then (nat_cmp q p) (nat_cmp r s))
pair_decides q p zero zero a b h =
    first_as q p (2 * q) (2 * p) [] [] Equal (λ l. omega arith) (λ g. omega arith)
    (λ e. rw e (same ended))
pair_decides q p zero (suc s) a b h =
    first_as q p (2 * q) (2 * p + 1) [] b _ (λ l. omega arith) (λ g. omega arith)
    (λ e. by_equation (below (omega arith)) (sym (cmp_below 0 (suc s) (omega arith))))
pair_decides q p (suc r) zero a b h =
    first_as q p (2 * q + 1) (2 * p) a [] _ (λ l. omega arith) (λ g. omega arith)
    (λ e. by_equation (above (omega arith)) (sym (cmp_above (suc r) 0 (omega arith))))
pair_decides q p (suc r) (suc s) a b h =
    first_as q p (2 * q + 1) (2 * p + 1) a b _ (λ l. omega arith) (λ g. omega arith)
    (λ e. rw e (same h))

pub digit_pairs_decide : (k m n : ℕ) → Compared (digit_pairs k m) (digit_pairs k n) (nat_cmp m n)
unfolding digit_pairs
digit_pairs_decide zero m n =
    by_equation
    (first_as m n (2 * m) (2 * n) [] [] Equal (λ l. omega arith) (λ g. omega arith)
    (λ e. rw e (same ended)))
    (then-Equal (nat_cmp m n))
digit_pairs_decide (suc k) m n =
    by_equation
    (pair_decides (m / 100 ^ suc k) (n / 100 ^ suc k) (m % 100 ^ suc k) (n % 100 ^ suc k) _ _
    (digit_pairs_decide k (m % 100 ^ suc k) (n % 100 ^ suc k)))
    (cmp_divided m n (100 ^ suc k) (power_above_zero (suc k)))

-- The count of pairs decides first.
pub count_decides : (i j : ℕ) (a b : List ℕ) → i < j
    → Compared (count_bytes i ++ a) (count_bytes j ++ b) Less
count_decides i j a b h =
    elim (cases_lt j 129) [
      | inl l ↦
          let low_i : nat_lt i 129 ≡ true = lt-ltb i 129 (omega arith) in
          let low_j : nat_lt j 129 ≡ true = lt-ltb j 129 l in
          rw (low_i, low_j) (same (below h))
      | inr g ↦
          let high_j : nat_lt j 129 ≡ false = le-ltb j 129 g in
          elim (cases_lt i 129) [
            | inl l ↦
                let low_i : nat_lt i 129 ≡ true = lt-ltb i 129 l in
                rw (low_i, high_j) (below {x = 129} {y = j + 1} (omega arith))
            | inr k ↦
                let high_i : nat_lt i 129 ≡ false = le-ltb i 129 k in
                rw (high_i, high_j) (below {x = i + 1} {y = j + 1} (omega arith))
          ]
    ]

zero_decides : (j : ℕ) (b : List ℕ) → Compared (128 ∷ []) (count_bytes j ++ b) Less
zero_decides j b =
    elim (cases_lt j 129) [
      | inl l ↦ let low : nat_lt j 129 ≡ true = lt-ltb j 129 l in rw low
          (below {x = 128} {y = 129} (omega arith))
      | inr g ↦ let high : nat_lt j 129 ≡ false = le-ltb j 129 g in rw high
          (below {x = 128} {y = j + 1} (omega arith))
    ]

-- A number of fewer pairs is below.
fewer_decide : (k j m : ℕ) (b : List ℕ) → k < j
    → Compared (key_of_pairs k m) (count_bytes j ++ b) Less
unfolding key_of_pairs
fewer_decide zero j m b h = zero_decides j b
fewer_decide (suc k) j m b h =
    elim (cases_lt m (100 ^ k)) [
      | inl l ↦ let low : nat_lt m (100 ^ k) ≡ true = lt-ltb m (100 ^ k) l in
          rw low (fewer_decide k j m b (omega arith))
      | inr g ↦ let high : nat_lt m (100 ^ k) ≡ false = le-ltb m (100 ^ k) g in
          rw high (count_decides (suc k) j (digit_pairs k m) b h)
    ]

compared_back : {a b : List ℕ} {o : Ordering} → Compared a b o
    → Compared b a (ordering_reverse o)
compared_back ended = ended
compared_back (same h) = same (compared_back h)
compared_back (below h) = above h
compared_back (above h) = below h

pub key_of_pairs_decides : (k m n : ℕ) → m < 100 ^ k → n < 100 ^ k
    → Compared (key_of_pairs k m) (key_of_pairs k n) (nat_cmp m n)
unfolding key_of_pairs
key_of_pairs_decides zero m n h g =
    let one : 100 ^ zero ≡ 1 = refl in
    by_equation (same ended) (sym (cmp_equal m n (omega arith)))
key_of_pairs_decides (suc k) m n h g =
    elim (cases_lt m (100 ^ k)) [
      | inl l ↦
          let low_m : nat_lt m (100 ^ k) ≡ true = lt-ltb m (100 ^ k) l in
          elim (cases_lt n (100 ^ k)) [
            | inl r ↦
                let low_n : nat_lt n (100 ^ k) ≡ true = lt-ltb n (100 ^ k) r in
                rw (low_m, low_n) (key_of_pairs_decides k m n l r)
            | inr r ↦
                let high_n : nat_lt n (100 ^ k) ≡ false = le-ltb n (100 ^ k) r in
                rw (low_m, high_n)
                (by_equation (fewer_decide k (suc k) m (digit_pairs k n) (omega arith))
                (sym (cmp_below m n (omega arith))))
          ]
      | inr l ↦
          let high_m : nat_lt m (100 ^ k) ≡ false = le-ltb m (100 ^ k) l in
          elim (cases_lt n (100 ^ k)) [
            | inl r ↦
                let low_n : nat_lt n (100 ^ k) ≡ true = lt-ltb n (100 ^ k) r in
                rw (high_m, low_n)
                (by_equation (compared_back
                (fewer_decide k (suc k) n (digit_pairs k m) (omega arith)))
                (sym (cmp_above m n (omega arith))))
            | inr r ↦
                let high_n : nat_lt n (100 ^ k) ≡ false = le-ltb n (100 ^ k) r in
                rw (high_m, high_n)
                (joined (compared_itself (count_bytes (suc k))) (digit_pairs_decide k m n))
          ]
    ]

-- All are bytes.
pair_small : (q r : ℕ) (a : List ℕ) → q < 100 → AreSmall a → AreSmall (pair_bytes q r a)
pair_small q zero a h s = (omega arith, tt)
pair_small q (suc r) a h s = (omega arith, s)

pub digit_pairs_small : (k n : ℕ) → n < 100 ^ suc k → AreSmall (digit_pairs k n)
unfolding digit_pairs
digit_pairs_small zero n h = let one : 100 ^ suc zero ≡ 100 = refl in (omega arith, tt)
digit_pairs_small (suc k) n h =
    let d = 100 ^ suc k in
    let p : 0 < d = power_above_zero (suc k) in
    let room : n < 100 * d = omega (arith, h, pow-suc 100 (suc k)) in
    pair_small (n / d) (n % d) (digit_pairs k (n % d))
    ((div-lt_iff_lt-mul {k = d} {x = n} {y = 100} p).1 room)
    (digit_pairs_small k (n % d) (mod-lt n p))

count_small : (k : ℕ) (a : List ℕ) → k < 149 → AreSmall a → AreSmall (count_bytes k ++ a)
count_small k a h s =
    elim (cases_lt k 129) [
      | inl l ↦ let low : nat_lt k 129 ≡ true = lt-ltb k 129 l in rw low
          (omega arith, (omega arith, s))
      | inr g ↦ let high : nat_lt k 129 ≡ false = le-ltb k 129 g in rw high (omega arith, s)
    ]

pub key_of_pairs_small : (k n : ℕ) → k < 149 → n < 100 ^ k → AreSmall (key_of_pairs k n)
unfolding key_of_pairs
key_of_pairs_small zero n b h = (omega arith, tt)
key_of_pairs_small (suc k) n b h =
    elim (cases_lt n (100 ^ k)) [
      | inl l ↦ let low : nat_lt n (100 ^ k) ≡ true = lt-ltb n (100 ^ k) l in
          rw low (key_of_pairs_small k n (omega arith) l)
      | inr g ↦ let high : nat_lt n (100 ^ k) ≡ false = le-ltb n (100 ^ k) g in
          rw high (count_small (suc k) (digit_pairs k n) b (digit_pairs_small k n h))
    ]
