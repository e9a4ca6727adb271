-- Powers of 100.
use Rattle.std.proofs.Common.{◌≡◌, ℕ, suc, ◌<◌, ◌+◌, ◌*◌, ◌/◌, ◌%◌, ◌^◌, List}
use Rattle.std.proofs.Common.{arith, sym, ap, ◌∙◌, get_or, eqb, pow-add}
use Rattle.std.specs.Prelude.{Bool, true}
use Rattle.std.proofs.Math.Nat.{div-add-mod', pow-suc, mul_assoc, mul_comm}
use Rattle.std.proofs.lemmas.Nat.{mul-pow}
use Rattle.std.proofs.lemmas.Bool.{agree_below, agree_below_at, eqb-true}

-- A table of 20 powers is right where it is so at each place.
abbrev pub holds_at : List ℕ → ℕ → Bool
holds_at table k = eqb (get_or table k 0) (100 ^ k)

pub table_holds : (table : List ℕ) (i : ℕ)
    → agree_below (holds_at table) (λ k. true) 20 ≡ true → i < 20 → get_or table i 0 ≡ 100 ^ i
table_holds table i h l =
    eqb-true (get_or table i 0) (100 ^ i) (agree_below_at (holds_at table) (λ k. true) 20 i h l)

-- ten to an even power
pub ten_twice : (z : ℕ) → 10 ^ (z + z) ≡ 100 ^ z
ten_twice z = pow-add 10 z z ∙ sym (mul-pow 10 10 z)

pub even_digits : (size places z : ℕ) → places ≡ z + z
    → size * 10 ^ places ≡ (size / 100 * 100 + size % 100) * 100 ^ z
even_digits size places z e =
    rw (e, ten_twice z) (ap (λ n. n * 100 ^ z) (sym (div-add-mod' size 100)))

pub odd_digits : (size places z : ℕ) → places ≡ suc (z + z)
    → size * 10 ^ places ≡ (size / 10 * 100 + size % 10 * 10) * 100 ^ z
odd_digits size places z e =
    let tenfold : size * 10 ≡ size / 10 * 100 + size % 10 * 10 = omega
    (arith, div-add-mod' size 10) in
    rw (e, pow-suc 10 (z + z), ten_twice z)
    (ap (λ n. size * n) (mul_comm (100 ^ z) 10) ∙ sym (mul_assoc size 10 (100 ^ z))
    ∙ ap (λ n. n * 100 ^ z) tenfold)
