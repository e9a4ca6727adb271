-- The written payload of a number is short.
use Rattle.std.proofs.Common.{◌≡◌, ◌≤◌, ◌<◌, ◌^◌, ℕ, zero, suc, ℤ, pos, negsuc, Bool, true, false}
use Rattle.std.proofs.Common.{[], ◌∷◌}
use Rattle.std.proofs.Common.{length, if◌then◌else◌, arith, length-append, nat_lt}
use Rattle.std.proofs.Common.{List, Option, None, ap₂}
use Rattle.std.specs.Int.{Width, w8, w16, w32, w64, w128, to_be_bytes, cast_unsigned}
use Rattle.jsonb_value.specs.declared.number.Number.{Number}
use Rattle.jsonb_value.specs.declared.number.Number.TheVariants.{Int64, UInt64, Decimal64}
use Rattle.jsonb_value.specs.declared.number.Number.TheVariants.{Decimal128}
use Rattle.jsonb_value.specs.NumCode.{signed_bytes, is_within, shortest_signed, shortest_unsigned}
use Rattle.jsonb_value.specs.NumCode.{decimal_payload, number_payload}
use Rattle.jsonb_value.proofs.BigEndian.{length-to_be_bytes}
use Rattle.jsonb_value.specs.Tree.{number}
use Rattle.jsonb_codec.specs.declared.constants.TheConstants.{NUMBER_TAG}
use Rattle.jsonb_codec.specs.Canon.{canon}
use Rattle.jsonb.specs.declared.item.JsonbItem.TheVariants as items
use Rattle.jsonb.specs.declared.number_item.NumberItem.{NumberItem}
use Rattle.jsonb.specs.Code.{scalar_bytes, number_bytes, item_document, CanBeStored}
use Rattle.jsonb.specs.ItemValues.{number_source, number_of_item}
use Rattle.jsonb.specs.ItemView.{item_view}

signed_if : (v : ℤ) (a b c : Bool)
    → length (if a then signed_bytes w8 v else if b then signed_bytes w16 v
    else if c then signed_bytes w32 v else signed_bytes w64 v) ≤ 8
signed_if v true b c = let l = length-to_be_bytes w8 (cast_unsigned w8 v) in omega arith
signed_if v false true c = let l = length-to_be_bytes w16 (cast_unsigned w16 v) in omega arith
signed_if v false false true = let l = length-to_be_bytes w32 (cast_unsigned w32 v) in omega arith
signed_if v false false false = let l = length-to_be_bytes w64 (cast_unsigned w64 v) in omega arith

unsigned_if : (n : ℕ) (a b c : Bool)
    → length (if a then to_be_bytes w8 n else if b then to_be_bytes w16 n
    else if c then to_be_bytes w32 n else to_be_bytes w64 n) ≤ 8
unsigned_if n true b c = let l = length-to_be_bytes w8 n in omega arith
unsigned_if n false true c = let l = length-to_be_bytes w16 n in omega arith
unsigned_if n false false true = let l = length-to_be_bytes w32 n in omega arith
unsigned_if n false false false = let l = length-to_be_bytes w64 n in omega arith

short_signed : (v : ℤ) → length (shortest_signed v) ≤ 8
short_signed v = signed_if v (is_within 7 v) (is_within 15 v) (is_within 31 v)

short_unsigned : (n : ℕ) → length (shortest_unsigned n) ≤ 8
short_unsigned n = unsigned_if n (nat_lt n (2 ^ 8)) (nat_lt n (2 ^ 16)) (nat_lt n (2 ^ 32))

short_decimal : (w : Width) (v : ℤ) (scale n : ℕ)
    → length (to_be_bytes w (cast_unsigned w v)) ≡ n → n ≤ 16
    → length (decimal_payload w v scale) ≤ 18
short_decimal w v scale n long most =
    let all = length-append (to_be_bytes w (cast_unsigned w v)) (scale ∷ []) in
    omega arith

pub short_number : (x : Number) → length (number_payload x) < 2 ^ 28
short_number (Int64 (pos zero)) = omega arith
short_number (Int64 (pos (suc n))) = let most = short_signed (pos (suc n)) in omega arith
short_number (Int64 (negsuc n)) = let most = short_signed (negsuc n) in omega arith
short_number (UInt64 zero) = omega arith
short_number (UInt64 (suc n)) = let most = short_unsigned (suc n) in omega arith
short_number (Decimal64 d) =
    let most = short_decimal w64 d.value d.scale 8
    (length-to_be_bytes w64 (cast_unsigned w64 d.value)) (omega arith) in
    omega arith
short_number (Decimal128 d) =
    let most = short_decimal w128 d.value d.scale 16
    (length-to_be_bytes w128 (cast_unsigned w128 d.value)) (omega arith) in
    omega arith

-- a number that is held by value is stored as it is written
module _ (item : NumberItem) (x : Number) (is : number_of_item item ≡ x)
    (source : number_source item ≡ None) where
  pub made_number : item_document (item_view (items.Number item)) ≡ canon (number x)
  made_number =
      ap₂ (λ (s : Option (List ℕ)) (y : Number). scalar_bytes NUMBER_TAG
      (number_bytes s y)) source is

  pub number_fits : CanBeStored (item_view (items.Number item))
  number_fits =
      let same = ap₂ (λ (s : Option (List ℕ)) (y : Number). length (number_bytes s y)) source is in
      let short = short_number x in
      omega arith
