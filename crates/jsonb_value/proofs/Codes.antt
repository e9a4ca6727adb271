-- Which bytes a number's payload can begin with, and that a payload means at most one number.
use Rattle.std.proofs.Common.{◌≡◌, ◌⊎◌, ◌+◌, ◌-◌, ◌≤◌, ℕ, ℤ, List, [], ◌∷◌, ◌++◌, length, take}
use Rattle.std.proofs.Common.{drop, get_or, cond, eqb, sym, ap, ◌∙◌, inl, inr, arith}
use Rattle.std.proofs.Common.{Option, Ok, IfSome, IfNone, ok_or}
use Rattle.jsonb_value.specs.declared.error.Error.{Error}
use Rattle.std.proofs.lemmas.Grind.{common_steps}
use Rattle.std.proofs.lemmas.Int.{to_z-of_z}
use mir.Val.{SFits, of_z, to_z}
use Rattle.std.specs.Int.{Width, w8, w16, w32, w64, w128, from_be_bytes, cast_signed}
use Rattle.jsonb_value.specs.declared.number.Number.{Number}
use Rattle.jsonb_value.specs.declared.number.Number.TheVariants.{Int64, UInt64, Decimal64}
use Rattle.jsonb_value.specs.declared.number.Number.TheVariants.{Decimal128}
use Rattle.jsonb_value.specs.Payload.{IsSigned, IsSignedNumber, IsUnsignedNumber}
use Rattle.jsonb_value.specs.NumCode.{NumCode, IsDecimal, IsOldDecimal, signed_bytes}

abbrev signed_at : List ℕ → ℤ
signed_at bs =
    cond (eqb (length bs) 1) (cast_signed w8 (from_be_bytes w8 bs))
    (cond (eqb (length bs) 2) (cast_signed w16 (from_be_bytes w16 bs))
    (cond (eqb (length bs) 4) (cast_signed w32 (from_be_bytes w32 bs))
    (cast_signed w64 (from_be_bytes w64 bs))))

abbrev unsigned_at : List ℕ → ℕ
unsigned_at bs =
    cond (eqb (length bs) 1) (from_be_bytes w8 bs)
    (cond (eqb (length bs) 2) (from_be_bytes w16 bs)
    (cond (eqb (length bs) 4) (from_be_bytes w32 bs) (from_be_bytes w64 bs)))

IsSignedNumber-value : (bs : List ℕ) (v : ℤ) → IsSignedNumber bs v → signed_at bs ≡ v
IsSignedNumber-value bs v h = grind arith

IsUnsignedNumber-value : (bs : List ℕ) (n : ℕ) → IsUnsignedNumber bs n → unsigned_at bs ≡ n
IsUnsignedNumber-value bs n h = grind arith

-- The number that a payload means, if it means one.
abbrev decimal_at : List ℕ → Number
decimal_at rest =
    cond (eqb (length rest) 9)
    (Decimal64 record {
      scale = get_or rest 8 0;
      value = cast_signed w64
          (from_be_bytes w64 (take 8 rest));
    })
    (Decimal128 record {
      scale = get_or rest
          (cond (eqb (length rest) 17) 16 17) 0;
      value = cast_signed w128
          (from_be_bytes w128 (take 16 rest));
    })

abbrev number_at : List ℕ → Number
number_at [] = UInt64 0
number_at (t ∷ rest) = cond (eqb t 64) (Int64 (signed_at rest))
    (cond (eqb t 112) (decimal_at rest) (cond (eqb t 80) (UInt64 (unsigned_at rest)) (UInt64 0)))

pub IsOldDecimal-length : (bs : List ℕ) (v : ℤ) (s : ℕ) → IsOldDecimal bs v s → length bs ≡ 18
IsOldDecimal-length bs v s h = grind (arith, common_steps)

decimal64_at-value : (rest : List ℕ) (scale : ℕ) (value : ℤ) → IsDecimal w64 rest value scale
    → decimal_at rest ≡ Decimal64 record { scale = scale; value = value }
decimal64_at-value rest scale value h = grind (arith, common_steps)

decimal128_at-value : (rest : List ℕ) (scale : ℕ) (value : ℤ)
    → IsDecimal w128 rest value scale ⊎ IsOldDecimal rest value scale
    → decimal_at rest ≡ Decimal128 record { scale = scale; value = value }
decimal128_at-value rest scale value (inl h) = grind (arith, common_steps)
decimal128_at-value rest scale value (inr h) = grind (arith, common_steps)

-- a payload means what its tag and its length determine
NumCode-value : (p : List ℕ) (x : Number) → NumCode p x → number_at p ≡ x
NumCode-value p (Int64 v) (rest, (e, h)) = grind (arith, IsSignedNumber-value)
NumCode-value p (UInt64 n) (inl (e, z)) = ap number_at e ∙ ap UInt64 (sym z)
NumCode-value p (UInt64 n) (inr (rest, (e, h))) = grind (arith, IsUnsignedNumber-value)
NumCode-value p (Decimal64 d) (rest, (e, h)) =
    ap number_at e ∙ decimal64_at-value rest d.scale d.value h
NumCode-value p (Decimal128 d) (rest, (e, h)) =
    ap number_at e ∙ decimal128_at-value rest d.scale d.value h

-- no payload means two numbers
pub NumCode-unique : (p : List ℕ) (x y : Number) → NumCode p x → NumCode p y → x ≡ y
NumCode-unique p x y h k = sym (NumCode-value p x h) ∙ NumCode-value p y k

-- after the tag 64 follows a signed number, after 80 an unsigned one
pub signed_after : (t : ℕ) (rest : List ℕ) (x : Number) → t ≡ 64 → NumCode (t ∷ rest) x → (v : ℤ)
    × IsSignedNumber rest v
signed_after t rest x e h = grind arith

pub unsigned_after : (t : ℕ) (rest : List ℕ) (x : Number) → t ≡ 80 → NumCode (t ∷ rest) x
    → (n : ℕ) × IsUnsignedNumber rest n
unsigned_after t rest x e h = grind arith

-- the last byte split off, or the last two
pub split_last : (n : ℕ) (xs : List ℕ) → length xs ≡ n + 1 → xs ≡ take n xs ++ get_or xs n 0 ∷ []
split_last n xs e = grind (arith, common_steps)

split_two : (n : ℕ) (xs : List ℕ) → length xs ≡ n + 2
    → xs ≡ take n xs ++ get_or xs n 0 ∷ get_or xs (n + 1) 0 ∷ []
split_two n xs e = grind (arith, common_steps)

pub IsDecimal-from : (w : Width) (n : ℕ) (xs : List ℕ) (v : ℤ) → length xs ≡ n + 1
    → IsSigned w (take n xs) v → IsDecimal w xs v (get_or xs n 0)
IsDecimal-from w n xs v e h = (take n xs, (split_last n xs e, h))

pub IsOldDecimal-from : (xs : List ℕ) (v : ℤ) → length xs ≡ 18 → IsSigned w128 (take 16 xs) v
    → IsOldDecimal xs v (get_or xs 17 0)
IsOldDecimal-from xs v e h = (take 16 xs, (get_or xs 16 0, (split_two 16 xs e, h)))

-- what a payload can begin with
pub NumCode-first : (t : ℕ) (rest : List ℕ) (x : Number) → NumCode (t ∷ rest) x
    → ((t ≡ 0) × (rest ≡ [])) ⊎ ((t ≡ 64) ⊎ ((t ≡ 80) ⊎ (t ≡ 112)))
NumCode-first t rest x h = grind arith

pub IfNone-from : {A : Type 0} (o : Option A) (P : Type 0) → P → IfNone o P
IfNone-from o P h = grind arith

-- A decoder that returns only what the payload means, and never misses it, returns exactly that.
pub only_meant : (p : List ℕ) (o : Option Number) (e : Error) → IfSome o (λ x. NumCode p x)
    → IfNone o ((x : Number) → NumCode p x → ⊥) → (x : Number) → NumCode p x → ok_or o e ≡ Ok x
only_meant p o e found none x h = grind (arith, NumCode-unique)

-- a list split as by the pattern [tag, rest @ ..]
pub split_first : (xs : List ℕ) → 1 ≤ length xs
    → xs ≡ get_or xs 0 0 ∷ take (length xs - 1) (drop 1 xs)
split_first xs h = grind (arith, common_steps)

-- the bytes that are written for a signed number
pub written_bytes : (w : Width) (v : ℤ) (rest bytes : List ℕ) → SFits w v
    → bytes ≡ signed_bytes w (to_z w (of_z w v)) ++ rest → bytes ≡ signed_bytes w v ++ rest
written_bytes w v rest bytes fits e =
    grind (arith, to_z-of_z)
