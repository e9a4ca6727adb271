-- The keys of extension values compare as the values.
use Rattle.std.proofs.Common.{◌≡◌, ℕ, zero, suc, ◌<◌, ◌+◌, ◌*◌, ◌%◌, ◌^◌}
use Rattle.std.proofs.Common.{refl, arith, sym, ap, ap₂, ◌∙◌}
use Rattle.std.specs.Prelude.{ℤ, pos, negsuc, FitsSigned}
use Rattle.std.specs.Int.{w32, w64, bytes_high_first, byte_at}
use Rattle.std.proofs.Math.Nat.{one-le-pow, pow-suc, mod-lt, mod-eq_of_lt, mul_comm}
use Rattle.std.proofs.Math.Arith.{mod-mul}
use Rattle.std.proofs.lemmas.Nat.{div-mul-add, mod-mul-add}
use Rattle.std.proofs.lemmas.Bool.Decides.{nat_tests}
use Rattle.std.proofs.lemmas.Int.{ints}
use Rattle.std.specs.declared.cmp.Ordering.TheVariants.{Equal}
use Rattle.std.specs.Cmp.Lexicographic.{slice_cmp}
use lib.Signed.{mag}
use Rattle.std.specs.Ordering.{nat_cmp, int_cmp, ordering_then}
use Rattle.jsonb_value.specs.Order.{extension_kind, extension_cmp}
use Rattle.jsonb_value.specs.Tree.{Extension, binary, date, timestamp, timestamp_tz, interval}
use Rattle.jsonb_value.specs.Tree.{opaque}
use Rattle.jsonb_value.specs.WellFormed.{IsExtension}
use Rattle.jsonb_value.proofs.TreeLaws.{then-Equal}
use Rattle.jsonb_comparable.specs.Escaped.{escaped}
use Rattle.jsonb_comparable.specs.ExtensionKey.{biased, biased_32, biased_64, extension_key}
use Rattle.jsonb_comparable.proofs.Comparing.{Compared, ended, same, by_equation}
use Rattle.jsonb_comparable.proofs.Comparing.{first_as, first_by, joined, cmp_equal}
use Rattle.jsonb_comparable.proofs.DigitLaws.{cmp_divided}
use Rattle.jsonb_comparable.proofs.EscapedLaws.{escaped_decides}

-- the first digits, and the rest of the digits
cmp_digits : (q p r s d : ℕ) → r < d → s < d
    → ordering_then (nat_cmp q p) (nat_cmp r s) ≡ nat_cmp (q * d + r) (p * d + s)
cmp_digits q p r s d h g =
    let whole = cmp_divided (q * d + r) (p * d + s) d (omega arith) in
    rw (div-mul-add q d r h, div-mul-add p d s g, mod-mul-add q d r h, mod-mul-add p d s g) at whole

byte_at_is : (k n : ℕ) → n % 256 ^ suc k ≡ byte_at k n * 256 ^ k + n % 256 ^ k
byte_at_is zero n = omega (arith, mod-lt n {m = 1})
byte_at_is (suc k) n =
    ap (λ d. n % d) (pow-suc 256 (suc k) ∙ mul_comm (256 ^ suc k) 256)
    ∙ mod-mul n {m = 256} {c = 256 ^ suc k} (omega arith) (one-le-pow (suc k) 256 (omega arith))

-- bytes of a number, the highest first
high_first_decides : (k m n : ℕ)
    → Compared (bytes_high_first k m) (bytes_high_first k n) (nat_cmp (m % 256 ^ k) (n % 256 ^ k))
high_first_decides zero m n =
    by_equation ended (sym (cmp_equal (m % 256 ^ zero) (n % 256 ^ zero)
    (omega (arith, mod-lt m {m = 1}, mod-lt n {m = 1}))))
high_first_decides (suc k) m n =
    let p : 0 < 256 ^ k = one-le-pow k 256 (omega arith) in
    by_equation
    (first_by (byte_at k m) (byte_at k n) _ _ _ (high_first_decides k m n))
    (cmp_digits (byte_at k m) (byte_at k n) (m % 256 ^ k) (n % 256 ^ k) (256 ^ k) (mod-lt m p)
    (mod-lt n p) ∙ sym (ap₂ nat_cmp (byte_at_is k m) (byte_at_is k n)))

-- Biased numbers have the order of the numbers.
cmp_biased : (h : ℕ) (i j : ℤ) → mag i < h → mag j < h
    → nat_cmp (biased h i) (biased h j) ≡ int_cmp i j
cmp_biased h (pos m) (pos n) p q = grind (arith, nat_tests, ints)
cmp_biased h (pos m) (negsuc n) p q = grind (arith, nat_tests, ints)
cmp_biased h (negsuc m) (pos n) p q = grind (arith, nat_tests, ints)
cmp_biased h (negsuc m) (negsuc n) p q = grind (arith, nat_tests, ints)

biased_below : (h : ℕ) (i : ℤ) → mag i < h → biased h i < h + h
biased_below h (pos m) p = omega arith
biased_below h (negsuc m) p = omega arith

-- a field of k bytes
field_decides : (k h : ℕ) (i j : ℤ) → h + h ≡ 256 ^ k → mag i < h → mag j < h
    → Compared (bytes_high_first k (biased h i)) (bytes_high_first k (biased h j)) (int_cmp i j)
field_decides k h i j e p q =
    let small_i : biased h i % 256 ^ k ≡ biased h i = mod-eq_of_lt
    (rw (← e) (biased_below h i p)) in
    let small_j : biased h j % 256 ^ k ≡ biased h j = mod-eq_of_lt
    (rw (← e) (biased_below h j q)) in
    by_equation (high_first_decides k (biased h i) (biased h j))
    (ap₂ nat_cmp small_i small_j ∙ cmp_biased h i j p q)

biased_32_decides : (i j : ℤ) → FitsSigned w32 i → FitsSigned w32 j
    → Compared (biased_32 i) (biased_32 j) (int_cmp i j)
unfolding biased_32
biased_32_decides i j h g = field_decides 4 (2 ^ 31) i j refl h.sfits g.sfits

biased_64_decides : (i j : ℤ) → FitsSigned w64 i → FitsSigned w64 j
    → Compared (biased_64 i) (biased_64 j) (int_cmp i j)
unfolding biased_64
biased_64_decides i j h g = field_decides 8 (2 ^ 63) i j refl h.sfits g.sfits

cmp_positive : (m n : ℕ) → nat_cmp m n ≡ int_cmp (pos m) (pos n)
cmp_positive m n = grind (arith, nat_tests, ints)

-- The keys of extension values have the order of the values.
pub extension_key_decides : (d e : Extension) → IsExtension d → IsExtension e
    → Compared (extension_key d) (extension_key e) (extension_cmp d e)
extension_key_decides (binary a) (binary b) h g = same (escaped_decides a b)
extension_key_decides (date a) (date b) h g =
    same (by_equation (biased_32_decides a.value b.value h g) (grind (arith, then-Equal)))
extension_key_decides (timestamp a) (timestamp b) h g =
    same (by_equation (biased_64_decides a.value b.value h g) (grind (arith, then-Equal)))
extension_key_decides (timestamp_tz a) (timestamp_tz b) h g =
    same (by_equation
    (joined (biased_64_decides a.value b.value h.0 g.0)
    (biased_32_decides a.offset b.offset h.1 g.1))
    (grind (arith, then-Equal)))
extension_key_decides (interval a) (interval b) h g =
    same (by_equation
    (joined (biased_32_decides a.months b.months h.0 g.0)
    (joined (biased_32_decides a.days b.days h.1.0 g.1.0)
    (biased_64_decides a.micros b.micros h.1.1 g.1.1)))
    (grind (arith, then-Equal)))
extension_key_decides (opaque tag a) (opaque mark b) h g =
    same (by_equation
    (first_by tag mark (escaped a) (escaped b) (slice_cmp nat_cmp a b) (escaped_decides a b))
    (grind (arith, then-Equal, cmp_positive)))
extension_key_decides d e h g =
    first_as (extension_kind d) (extension_kind e) (16 + extension_kind d) (16 + extension_kind e)
    _ _ Equal
    (λ x. omega arith) (λ x. omega arith) (λ x. absurd (omega arith))
