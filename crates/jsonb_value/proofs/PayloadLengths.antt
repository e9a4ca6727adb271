-- Whether a payload with a known first byte means a number depends only on its length.
use Rattle.std.proofs.Common.{◌≡◌, ◌≤◌, ◌↔◌, ◌⊎◌, IsTrue, ℕ, zero, suc, ℤ, List, []}
use Rattle.std.proofs.Common.{◌∷◌, length, take, inl, inr, refl, sym, arith}
use Rattle.std.proofs.lemmas.List.{length-take-le}
use Rattle.std.specs.Int.{is_power_of_two, Width, w64, w128, byte_len, from_be_bytes}
use Rattle.std.specs.Int.{cast_signed}
use Rattle.jsonb_value.specs.declared.number.Number.{Number}
use Rattle.jsonb_value.specs.declared.number.Number.TheVariants.{Int64, UInt64, Decimal64}
use Rattle.jsonb_value.specs.declared.number.Number.TheVariants.{Decimal128}
use Rattle.jsonb_value.specs.Payload.{IsSigned, IsSignedNumber, IsUnsignedNumber, IsWholeLength}
use Rattle.jsonb_value.specs.Payload.{IsDecimalLength}
use Rattle.jsonb_value.specs.NumCode.{NumCode}
use Rattle.jsonb_value.proofs.Codes.{signed_after, unsigned_after, IsDecimal-from}
use Rattle.jsonb_value.proofs.Codes.{IsOldDecimal-from}
use Rattle.std.proofs.lemmas.Grind.{common_steps}

-- bytes of these lengths mean a number, and bytes that mean a number have these lengths
signed_of_length : (bs : List ℕ) → IsWholeLength (length bs) → (v : ℤ) × IsSignedNumber bs v
signed_of_length bs (inl n) = (_, inl record { len = n; value = refl })
signed_of_length bs (inr (inl n)) = (_, inr (inl record { len = n; value = refl }))
signed_of_length bs (inr (inr (inl n))) = (_, inr (inr (inl record { len = n; value = refl })))
signed_of_length bs (inr (inr (inr n))) = (_, inr (inr (inr record { len = n; value = refl })))

length_of_signed : (bs : List ℕ) (v : ℤ) → IsSignedNumber bs v → IsWholeLength (length bs)
length_of_signed bs v h = grind arith

unsigned_of_length : (bs : List ℕ) → IsWholeLength (length bs) → (n : ℕ) × IsUnsignedNumber bs n
unsigned_of_length bs (inl n) = (_, inl record { len = n; value = refl })
unsigned_of_length bs (inr (inl n)) = (_, inr (inl record { len = n; value = refl }))
unsigned_of_length bs (inr (inr (inl n))) = (_, inr (inr (inl record { len = n; value = refl })))
unsigned_of_length bs (inr (inr (inr n))) = (_, inr (inr (inr record { len = n; value = refl })))

length_of_unsigned : (bs : List ℕ) (n : ℕ) → IsUnsignedNumber bs n → IsWholeLength (length bs)
length_of_unsigned bs n h = grind arith

pub NumCode-whole : (tag n : ℕ) → (tag ≡ 64) ⊎ (tag ≡ 80) → (rest : List ℕ) → length rest ≡ n
    → IsWholeLength n ↔ ((x : Number) × NumCode (tag ∷ rest) x)
NumCode-whole tag n (inl e) rest len = (
  λ whole. let v = signed_of_length rest (rw len whole) in (Int64 v.0, (rest, (cc, v.1))),
  λ (x, h). let v = signed_after tag rest x e h in rw len at (length_of_signed rest v.0 v.1),
)
NumCode-whole tag n (inr e) rest len = (
  λ whole. let v = unsigned_of_length rest (rw len whole) in (UInt64 v.0, inr (rest, (cc, v.1))),
  λ (x, h). let v = unsigned_after tag rest x e h in rw len at (length_of_unsigned rest v.0 v.1),
)

-- the number in the first bytes
pub signed_front : (w : Width) (bs : List ℕ) → byte_len w ≤ length bs
    → IsSigned w (take (byte_len w) bs) (cast_signed w (from_be_bytes w (take (byte_len w) bs)))
signed_front w bs room = grind (arith, length-take-le)

decimal_of_length : (rest : List ℕ) → IsDecimalLength (length rest) → (x : Number)
    × NumCode (112 ∷ rest) x
decimal_of_length rest (inl n) =
    let value = signed_front w64 rest (omega arith) in
    (Decimal64 _, (rest, (refl, IsDecimal-from w64 8 rest _ n value)))
decimal_of_length rest (inr (inl n)) = (
  Decimal128 _,
  (rest, (refl, inl (IsDecimal-from w128 16 rest _ n (signed_front w128 rest (omega arith))))),
)
decimal_of_length rest (inr (inr n)) = (
  Decimal128 _,
  (rest, (refl, inr (IsOldDecimal-from rest _ n (signed_front w128 rest (omega arith))))),
)

-- a decimal has one of three lengths
length_of_decimal : (rest : List ℕ) (x : Number) → NumCode (112 ∷ rest) x
    → IsDecimalLength (length rest)
length_of_decimal rest x h = grind (arith, common_steps)

pub NumCode-decimal : (tag n : ℕ) → tag ≡ 112 → (rest : List ℕ) → length rest ≡ n
    → IsDecimalLength n ↔ ((x : Number) × NumCode (tag ∷ rest) x)
NumCode-decimal tag n e rest len = grind (arith, decimal_of_length, length_of_decimal)

pub NumCode-zero : (tag n : ℕ) → tag ≡ 0 → (rest : List ℕ) → length rest ≡ n → (n ≡ 0)
    ↔ ((x : Number) × NumCode (tag ∷ rest) x)
NumCode-zero tag n e [] len = (λ none. (UInt64 0, inl (cc, refl)), λ found. sym len)
NumCode-zero tag n e (y ∷ ys) len = grind arith

-- a payload that means a number has at most 19 bytes
pub number_payload_short : (p : List ℕ) (x : Number) → NumCode p x → length p ≤ 19
number_payload_short p (Int64 v) (rest, (e, h)) =
    let whole = length_of_signed rest v h in grind arith
number_payload_short p (UInt64 n) (inl (e, z)) = grind arith
number_payload_short p (UInt64 n) (inr (rest, (e, h))) =
    let whole = length_of_unsigned rest n h in grind arith
number_payload_short p (Decimal64 d) (rest, (e, h)) =
    let len = length_of_decimal rest (Decimal64 d) (rest, (refl, h)) in grind arith
number_payload_short p (Decimal128 d) (rest, (e, h)) =
    let len = length_of_decimal rest (Decimal128 d) (rest, (refl, h)) in grind arith

-- equivalence is transitive
pub tested : {P Q R : Type 0} → (P ↔ Q) → (Q ↔ R) → P ↔ R
tested f g = (λ p. g.0 (f.0 p), λ r. f.1 (g.1 r))

-- the lengths of integers are the powers of two up to 8
pub is_power_of_two-whole : (n : ℕ) → n ≤ 8 → IsTrue (is_power_of_two n) ↔ IsWholeLength n
unfolding lib.Count.ones
is_power_of_two-whole zero le = grind arith
is_power_of_two-whole (suc zero) le = grind arith
is_power_of_two-whole (suc (suc zero)) le = grind arith
is_power_of_two-whole (suc (suc (suc zero))) le = grind arith
is_power_of_two-whole (suc (suc (suc (suc zero)))) le = grind arith
is_power_of_two-whole (suc (suc (suc (suc (suc zero))))) le = grind arith
is_power_of_two-whole (suc (suc (suc (suc (suc (suc zero)))))) le = grind arith
is_power_of_two-whole (suc (suc (suc (suc (suc (suc (suc zero))))))) le = grind arith
is_power_of_two-whole (suc (suc (suc (suc (suc (suc (suc (suc zero)))))))) le = grind arith
is_power_of_two-whole (suc (suc (suc (suc (suc (suc (suc (suc (suc n))))))))) le =
    absurd (omega arith)
