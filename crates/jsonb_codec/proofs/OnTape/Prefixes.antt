-- Keys whose first eight bytes differ.
use Rattle.std.proofs.Common.{◌≡◌, ◌⊎◌, ◌<◌, ◌≤◌, ◌+◌, ◌*◌, ◌^◌, ℕ, zero, suc, List, [], ◌∷◌}
use Rattle.std.proofs.Common.{refl, sym, ap, ◌∙◌, arith, inl, inr, get_or, length, take}
use Rattle.std.proofs.lemmas.Nat.{be_bytes_8}
use Rattle.std.specs.Int.{to_be_bytes, w64}
use Rattle.std.proofs.Math.Nat.{mul-le-mul_right}
use Rattle.std.specs.Cmp.{nat_cmp_is}
use Rattle.std.specs.Cmp.Lexicographic.{slice_cmp, nat_list_cmp_total}
use Rattle.std.specs.Ordering.{nat_cmp, ordering_reverse}
use Rattle.std.specs.declared.cmp.Ordering.TheVariants.{Less, Equal, Greater}
use Rattle.byteorder.specs.Endian.{big_from, big_number}
use Rattle.byteorder.specs.Numbers.{big_from-cons, big_from-lt}
use Rattle.jsonb_value.proofs.BigEndian.{AreBytes}

none_from : (i n : ℕ) → big_from i n [] ≡ 0
none_from i zero = refl
none_from i (suc n) = let none = none_from (suc i) n in omega (arith, none)

-- a number by its first byte
first_byte : (n x : ℕ) (xs : List ℕ)
    → big_number (suc n) (x ∷ xs) ≡ x * 256 ^ n + big_number n xs
first_byte n x xs = ap (λ k. x * 256 ^ n + k) (big_from-cons 0 n x xs)

three : (x y : ℕ) → (x < y) ⊎ ((x ≡ y) ⊎ (y < x))
three x y = grind arith

pub prefix_less : (n : ℕ) (xs ys : List ℕ) → AreBytes xs → AreBytes ys
    → big_number n xs < big_number n ys → slice_cmp nat_cmp xs ys ≡ Less
prefix_less zero xs ys hx hy less = absurd (omega arith)
prefix_less (suc n) xs [] hx hy less =
    let none = none_from 0 (suc n) in absurd (omega (arith, less, none))
prefix_less (suc n) [] (y ∷ ys) hx hy less = refl
prefix_less (suc n) (x ∷ xs) (y ∷ ys) hx hy less =
    let left = first_byte n x xs in
    let right = first_byte n y ys in
    elim (three x y) [
      | inl below ↦ let is : nat_cmp x y ≡ Less = sym (nat_cmp_is x y Less below) in rw is refl
      | inr other ↦ elim other [
        | inl same ↦
            let is : nat_cmp x y ≡ Equal = sym (nat_cmp_is x y Equal same) in
            let product : x * 256 ^ n ≡ y * 256 ^ n = ap (λ k. k * 256 ^ n) same in
            rw is (prefix_less n xs ys (λ i. hx (suc i)) (λ i. hy (suc i))
            (omega (arith, less, left, right, product)))
        | inr above ↦
            let product : (y + 1) * 256 ^ n ≤ x * 256 ^ n =
            mul-le-mul_right (256 ^ n) (omega (arith, above)) in
            let low = big_from-lt 0 n ys (λ i. hy (suc i)) in
            absurd (omega (arith, less, left, right, product, low))
      ]
    ]

pub prefix_greater : (xs ys : List ℕ) → AreBytes xs → AreBytes ys
    → big_number 8 ys < big_number 8 xs → slice_cmp nat_cmp xs ys ≡ Greater
prefix_greater xs ys hx hy less =
    nat_list_cmp_total.antisymm xs ys ∙ ap ordering_reverse (prefix_less 8 ys xs hy hx less)

-- ---- a short key as the number of its first eight bytes

-- the first eight bytes, with zeros after the end
abbrev pub eight_of : List ℕ → List ℕ
eight_of xs = get_or xs 0 0 ∷ (get_or xs 1 0 ∷ (get_or xs 2 0 ∷ (get_or xs 3 0 ∷ (get_or xs 4 0
    ∷ (get_or xs 5 0 ∷ (get_or xs 6 0 ∷ (get_or xs 7 0 ∷ [])))))))

eight_small : (xs : List ℕ) → AreBytes xs → AreBytes (eight_of xs)
eight_small xs h zero = h 0
eight_small xs h (suc zero) = h 1
eight_small xs h (suc (suc zero)) = h 2
eight_small xs h (suc (suc (suc zero))) = h 3
eight_small xs h (suc (suc (suc (suc zero)))) = h 4
eight_small xs h (suc (suc (suc (suc (suc zero))))) = h 5
eight_small xs h (suc (suc (suc (suc (suc (suc zero)))))) = h 6
eight_small xs h (suc (suc (suc (suc (suc (suc (suc zero))))))) = h 7
eight_small xs h (suc (suc (suc (suc (suc (suc (suc (suc i)))))))) = omega arith

short_front : (xs : List ℕ) → length xs ≤ 8 → take (length xs) (eight_of xs) ≡ xs
short_front [] h = refl
short_front (a ∷ []) h = refl
short_front (a ∷ (b ∷ [])) h = refl
short_front (a ∷ (b ∷ (c ∷ []))) h = refl
short_front (a ∷ (b ∷ (c ∷ (d ∷ [])))) h = refl
short_front (a ∷ (b ∷ (c ∷ (d ∷ (e ∷ []))))) h = refl
short_front (a ∷ (b ∷ (c ∷ (d ∷ (e ∷ (f ∷ [])))))) h = refl
short_front (a ∷ (b ∷ (c ∷ (d ∷ (e ∷ (f ∷ (g ∷ []))))))) h = refl
short_front (a ∷ (b ∷ (c ∷ (d ∷ (e ∷ (f ∷ (g ∷ (i ∷ [])))))))) h = refl
short_front (a ∷ (b ∷ (c ∷ (d ∷ (e ∷ (f ∷ (g ∷ (i ∷ (j ∷ xs))))))))) h = absurd (omega arith)

pub prefix_bytes : (xs : List ℕ) → AreBytes xs → length xs ≤ 8
    → take (length xs) (to_be_bytes w64 (big_number 8 xs)) ≡ xs
prefix_bytes xs h short =
    ap (take (length xs)) (be_bytes_8 (eight_of xs) (big_number 8 xs) refl (eight_small xs h)
    (omega arith)) ∙ short_front xs short
