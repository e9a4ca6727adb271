-- Byte strings that differ before either ends, or are the same.
use Rattle.std.proofs.Common.{◌≡◌, ℕ, ◌<◌, ◌-◌, List, [], ◌∷◌, ◌++◌, map, refl, arith, subst}
use Rattle.std.proofs.Common.{inl, inr}
use Rattle.std.specs.Prelude.{⊤}
use Rattle.std.proofs.lemmas.Bool.{cases_order}
use Rattle.std.proofs.lemmas.Bool.Decides.{nat_tests}
use Rattle.std.specs.declared.cmp.Ordering.{Ordering}
use Rattle.std.specs.declared.cmp.Ordering.TheVariants.{Less, Equal, Greater}
use Rattle.std.specs.Ordering.{nat_cmp, ordering_then, ordering_reverse}
use Rattle.std.specs.Cmp.Lexicographic.{slice_cmp}

-- The first bytes that differ decide, or there are none and both end.
pub data Compared : List ℕ → List ℕ → Ordering → Type 0 where
  ended : Compared [] [] Equal
  same : {x : ℕ} {a b : List ℕ} {o : Ordering} → Compared a b o → Compared (x ∷ a) (x ∷ b) o
  below : {x y : ℕ} {a b : List ℕ} → x < y → Compared (x ∷ a) (y ∷ b) Less
  above : {x y : ℕ} {a b : List ℕ} → y < x → Compared (x ∷ a) (y ∷ b) Greater

-- Whatever follows counts only where both are the same.
pub compared_whole : {a b : List ℕ} {o : Ordering} → Compared a b o → (x y : List ℕ)
    → slice_cmp nat_cmp (a ++ x) (b ++ y) ≡ ordering_then o (slice_cmp nat_cmp x y)
compared_whole ended x y = refl
compared_whole (same {x = n} h) x y = grind (arith, nat_tests, compared_whole h x y)
compared_whole (below h) x y = grind (arith, nat_tests)
compared_whole (above h) x y = grind (arith, nat_tests)

pub joined : {a b c d : List ℕ} {o p : Ordering} → Compared a b o → Compared c d p
    → Compared (a ++ c) (b ++ d) (ordering_then o p)
joined ended k = k
joined (same h) k = same (joined h k)
joined (below h) k = below h
joined (above h) k = above h

pub compared_itself : (a : List ℕ) → Compared a a Equal
compared_itself [] = ended
compared_itself (x ∷ a) = same (compared_itself a)

pub by_equation : {a b : List ℕ} {o p : Ordering} → Compared a b o → o ≡ p → Compared a b p
by_equation {a} {b} h e = subst (λ q. Compared a b q) e h

-- what two numbers' order is
pub cmp_below : (x y : ℕ) → x < y → nat_cmp x y ≡ Less
cmp_below x y h = grind (arith, nat_tests)

pub cmp_equal : (x y : ℕ) → x ≡ y → nat_cmp x y ≡ Equal
cmp_equal x y h = grind (arith, nat_tests)

pub cmp_above : (x y : ℕ) → y < x → nat_cmp x y ≡ Greater
cmp_above x y h = grind (arith, nat_tests)

-- First bytes whose order is that of two numbers.
pub first_as : (m n x y : ℕ) (a b : List ℕ) (o : Ordering) → (m < n → x < y) → (n < m → y < x)
    → (m ≡ n → Compared (x ∷ a) (y ∷ b) o)
    → Compared (x ∷ a) (y ∷ b) (ordering_then (nat_cmp m n) o)
first_as m n x y a b o less greater equal =
    elim (cases_order m n) [
      | inl e ↦ by_equation (equal e) (rw (cmp_equal m n e) refl)
      | inr d ↦ elim d [
        | inl l ↦ by_equation (below (less l)) (rw (cmp_below m n l) refl)
        | inr g ↦ by_equation (above (greater g)) (rw (cmp_above m n g) refl)
      ]
    ]

-- the same of first bytes that are the numbers
pub first_by : (x y : ℕ) (a b : List ℕ) (o : Ordering) → Compared a b o
    → Compared (x ∷ a) (y ∷ b) (ordering_then (nat_cmp x y) o)
first_by x y a b o h =
    first_as x y x y a b o (λ l. l) (λ g. g)
    (λ e. subst (λ z. Compared (x ∷ a) (z ∷ b) o) e (same h))

-- each is a byte
abbrev pub AreSmall : List ℕ → Type 0
AreSmall [] = ⊤
AreSmall (x ∷ xs) = (x < 256) × AreSmall xs

-- Complemented bytes have the reverse order.
pub compared_complemented : {a b : List ℕ} {o : Ordering} → Compared a b o → AreSmall a → AreSmall b
    → Compared (map (λ x. 255 - x) a) (map (λ x. 255 - x) b) (ordering_reverse o)
compared_complemented ended s t = ended
compared_complemented (same h) s t = same (compared_complemented h s.1 t.1)
compared_complemented (below h) s t = above (omega arith)
compared_complemented (above h) s t = below (omega arith)
