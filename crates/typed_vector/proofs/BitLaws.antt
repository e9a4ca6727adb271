-- The bits of a byte that is the sum of eight.
use Rattle.std.proofs.Common.{◌≡◌, ℕ, zero, suc, ◌+◌, ◌*◌, ◌<◌, ◌≤◌}
use Rattle.std.proofs.Common.{arith, ap, ◌∙◌}
use Rattle.std.specs.Int.{bit_at}

-- The one of eight at a place.
abbrev pub pick : ℕ → ℕ → ℕ → ℕ → ℕ → ℕ → ℕ → ℕ → ℕ → ℕ
pick a b c d e f g h zero = a
pick a b c d e f g h (suc zero) = b
pick a b c d e f g h (suc (suc zero)) = c
pick a b c d e f g h (suc (suc (suc zero))) = d
pick a b c d e f g h (suc (suc (suc (suc zero)))) = e
pick a b c d e f g h (suc (suc (suc (suc (suc zero))))) = f
pick a b c d e f g h (suc (suc (suc (suc (suc (suc zero)))))) = g
pick a b c d e f g h (suc (suc (suc (suc (suc (suc (suc n))))))) = h

pub record AreBits (a b c d e f g h : ℕ) : Type 0 where
  pub a1 : a ≤ 1
  pub b1 : b ≤ 1
  pub c1 : c ≤ 1
  pub d1 : d ≤ 1
  pub e1 : e ≤ 1
  pub f1 : f ≤ 1
  pub g1 : g ≤ 1
  pub h1 : h ≤ 1

pub eight : (a b c d e f g h x : ℕ) → AreBits a b c d e f g h
    → x ≡ a + 2 * b + 4 * c + 8 * d + 16 * (e + 2 * f + 4 * g + 8 * h)
    → (place : ℕ) → place < 8 → bit_at x place ≡ pick a b c d e f g h place
eight a b c d e f g h x bits is zero low = omega (arith, bits, is)
eight a b c d e f g h x bits is (suc zero) low = omega (arith, bits, is)
eight a b c d e f g h x bits is (suc (suc zero)) low = omega (arith, bits, is)
eight a b c d e f g h x bits is (suc (suc (suc zero))) low = omega (arith, bits, is)
eight a b c d e f g h x bits is (suc (suc (suc (suc zero)))) low = omega (arith, bits, is)
eight a b c d e f g h x bits is (suc (suc (suc (suc (suc zero))))) low = omega (arith, bits, is)
eight a b c d e f g h x bits is (suc (suc (suc (suc (suc (suc zero)))))) low =
    omega (arith, bits, is)
eight a b c d e f g h x bits is (suc (suc (suc (suc (suc (suc (suc zero))))))) low =
    omega (arith, bits, is)
eight a b c d e f g h x bits is (suc (suc (suc (suc (suc (suc (suc (suc n)))))))) low =
    absurd (omega (arith, low))

-- The one at a place, where each is that of an index.
pub picked : (f : ℕ → ℕ) (s a b c d e g h k : ℕ)
    → a ≡ f s → b ≡ f (s + 1) → c ≡ f (s + 2) → d ≡ f (s + 3) → e ≡ f (s + 4) → g ≡ f (s + 5)
    → h ≡ f (s + 6) → k ≡ f (s + 7) → (place : ℕ) → place < 8
    → pick a b c d e g h k place ≡ f (s + place)
picked f s a b c d e g h k at bt ct dt et gt ht kt zero low =
    at ∙ ap f (omega arith)
picked f s a b c d e g h k at bt ct dt et gt ht kt (suc zero) low =
    bt ∙ ap f (omega arith)
picked f s a b c d e g h k at bt ct dt et gt ht kt (suc (suc zero)) low =
    ct ∙ ap f (omega arith)
picked f s a b c d e g h k at bt ct dt et gt ht kt (suc (suc (suc zero))) low =
    dt ∙ ap f (omega arith)
picked f s a b c d e g h k at bt ct dt et gt ht kt (suc (suc (suc (suc zero)))) low =
    et ∙ ap f (omega arith)
picked f s a b c d e g h k at bt ct dt et gt ht kt (suc (suc (suc (suc (suc zero))))) low =
    gt ∙ ap f (omega arith)
picked f s a b c d e g h k at bt ct dt et gt ht kt (suc (suc (suc (suc (suc (suc zero)))))) low =
    ht ∙ ap f (omega arith)
picked f s a b c d e g h k _ _ _ _ _ _ _ kt (suc (suc (suc (suc (suc (suc (suc zero))))))) low =
    kt ∙ ap f (omega arith)
picked f s a b c d e g h k _ _ _ _ _ _ _ _ (suc (suc (suc (suc (suc (suc (suc (suc n)))))))) low =
    absurd (omega (arith, low))
