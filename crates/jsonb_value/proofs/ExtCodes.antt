-- The payload of an extension value means at most one value.
use Rattle.std.proofs.Common.{◌≡◌, ◌≢◌, ◌≤◌, ◌⊎◌, ◌+◌, ℕ, ℤ, pos, List, [], ◌∷◌, ◌++◌, length, take}
use Rattle.std.proofs.Common.{drop, cond, eqb, refl, sym, ap, ◌∙◌, inl, inr, arith}
use Rattle.std.proofs.Common.{length-append, get_or, ◌-◌}
use Rattle.std.proofs.lemmas.Bool.Decides.{nat_tests}
use Rattle.std.proofs.lemmas.Grind.{common_steps}
use Rattle.jsonb_value.proofs.Codes.{split_last}
use Rattle.std.specs.Prelude.{◌*ℤ◌, Result, Ok, Err, IfOk, OnErr, IsOkAnd}
use Rattle.std.proofs.lemmas.List.{drop-drop}
use Rattle.std.specs.Int.{Width, w8, w32, w64, from_be_bytes, cast_signed}
use Rattle.jsonb_value.specs.declared.error.Error.{Error}
use Rattle.jsonb_value.specs.declared.extension.Date.{Date}
use Rattle.jsonb_value.specs.declared.extension.ExtensionValue.{ExtensionValue}
use Rattle.jsonb_value.specs.declared.extension.Timestamp.{Timestamp}
use Rattle.jsonb_value.specs.declared.extension.TimestampTz.{TimestampTz}
use Rattle.jsonb_value.specs.declared.extension.Interval.{Interval}
use Rattle.jsonb_value.specs.Payload.{IsSigned}
use Rattle.jsonb_value.specs.Tree.{Extension, binary, date, timestamp, timestamp_tz, interval}
use Rattle.jsonb_value.specs.Tree.{opaque}
use Rattle.jsonb_value.specs.Opaque.{IsOpaqueTag}
use Rattle.jsonb_value.specs.ExtCode.{ExtCode, IsZoned, IsOldZoned, IsInterval, extension_of}

pub front_of : (n : ℕ) (a b xs : List ℕ) → xs ≡ a ++ b → length a ≡ n → take n xs ≡ a
front_of n a b xs e l = grind (arith, common_steps)

pub back_of : (n : ℕ) (a b xs : List ℕ) → xs ≡ a ++ b → length a ≡ n → drop n xs ≡ b
back_of n a b xs e l = grind (arith, common_steps)

abbrev signed : Width → List ℕ → ℤ
signed w bytes = cast_signed w (from_be_bytes w bytes)

abbrev zoned_at : List ℕ → TimestampTz
zoned_at rest = record {
  offset = cond (eqb (length rest) 12) (signed w32 (drop 8 rest))
      (signed w8 (drop 8 rest) *ℤ pos 3600);
  value = signed w64 (take 8 rest);
}

abbrev interval_at : List ℕ → Interval
interval_at rest = record {
  months = signed w32 (take 4 rest);
  days = signed w32
      (take 4 (drop 4 rest));
  micros = signed w64 (drop 4 (drop 4 rest));
}

zoned_at-value : (rest : List ℕ) (t : TimestampTz) → IsZoned rest t ⊎ IsOldZoned rest t
    → zoned_at rest ≡ t
zoned_at-value rest t (inl h) = grind (
  arith,
  length-append,
  front_of 8 h.value_bytes h.offset_bytes rest h.parts h.value.len,
  back_of 8 h.value_bytes h.offset_bytes rest h.parts h.value.len,
)
zoned_at-value rest t (inr h) = grind (
  arith,
  length-append,
  front_of 8 h.value_bytes h.hour_bytes rest h.parts h.value.len,
  back_of 8 h.value_bytes h.hour_bytes rest h.parts h.value.len,
)

interval_at-value : (rest : List ℕ) (i : Interval) → IsInterval rest i → interval_at rest ≡ i
interval_at-value rest i h =
    let later = h.day_bytes ++ h.micro_bytes in
    let rest_is = back_of 4 h.month_bytes later rest h.parts h.months.len in
    grind (
      arith,
      front_of 4 h.month_bytes later rest h.parts h.months.len,
      front_of 4 h.day_bytes h.micro_bytes (drop 4 rest) rest_is h.days.len,
      back_of 4 h.day_bytes h.micro_bytes (drop 4 rest) rest_is h.days.len,
    )

abbrev extension_at : List ℕ → Extension
extension_at [] = binary []
extension_at (t ∷ rest) =
    cond (eqb t 0) (binary rest)
    (cond (eqb t 16) (date record { value = signed w32 rest })
    (cond (eqb t 32) (timestamp record { value = signed w64 rest })
    (cond (eqb t 48) (timestamp_tz (zoned_at rest))
    (cond (eqb t 64) (interval (interval_at rest)) (opaque t rest)))))

extension_at-opaque : (tag : ℕ) (bytes : List ℕ) → 80 ≤ tag
    → extension_at (tag ∷ bytes) ≡ opaque tag bytes
extension_at-opaque tag bytes h = grind (arith, nat_tests)

ExtCode-value : (p : List ℕ) (e : Extension) → ExtCode p e → extension_at p ≡ e
ExtCode-value p (binary bytes) e = ap extension_at e
ExtCode-value p (date d) h = grind arith
ExtCode-value p (timestamp t) h = grind arith
ExtCode-value p (timestamp_tz t) (rest, (e, h)) =
    ap extension_at e ∙ ap timestamp_tz (zoned_at-value rest t h)
ExtCode-value p (interval i) (rest, (e, h)) =
    ap extension_at e ∙ ap interval (interval_at-value rest i h)
ExtCode-value p (opaque tag bytes) (known, e) = grind (arith, extension_at-opaque)

-- no payload means two extension values
pub ExtCode-unique : (p : List ℕ) (e f : Extension) → ExtCode p e → ExtCode p f → e ≡ f
ExtCode-unique p e f h k = sym (ExtCode-value p e h) ∙ ExtCode-value p f k

-- A decoder that returns only what the payload means, and never misses it, returns exactly that.
pub only_extension : (p : List ℕ) (r : Result ExtensionValue Error)
    → IfOk r (λ x. ExtCode p (extension_of x)) → OnErr r ((e : Extension) → ExtCode p e → ⊥)
    → (e : Extension) → ExtCode p e → IsOkAnd r (λ x. extension_of x ≡ e)
only_extension p (Ok x) found none e h = ExtCode-unique p (extension_of x) e found h
only_extension p (Err error) found none e h = absurd (none e h)

-- what follows each tag
pub date_after : (t : ℕ) (rest : List ℕ) (e : Extension) → t ≡ 16 → ExtCode (t ∷ rest) e
    → (d : Date) × IsSigned w32 rest d.value
date_after t rest e q h = grind arith

pub timestamp_after : (t : ℕ) (rest : List ℕ) (e : Extension) → t ≡ 32 → ExtCode (t ∷ rest) e
    → (d : Timestamp) × IsSigned w64 rest d.value
timestamp_after t rest e q h = grind arith

pub zoned_after : (t : ℕ) (rest : List ℕ) (e : Extension) → t ≡ 48 → ExtCode (t ∷ rest) e
    → (d : TimestampTz) × (IsZoned rest d ⊎ IsOldZoned rest d)
zoned_after t rest e q h = grind arith

pub interval_after : (t : ℕ) (rest : List ℕ) (e : Extension) → t ≡ 64 → ExtCode (t ∷ rest) e
    → (d : Interval) × IsInterval rest d
interval_after t rest e q h = grind arith

-- the range &xs[k..]
pub whole_rest : (k : ℕ) (xs : List ℕ) → take (length xs - k) (drop k xs) ≡ drop k xs
whole_rest k xs = grind (arith, common_steps)

pub whole_front : (k n : ℕ) (xs : List ℕ) → length xs ≡ n + k
    → take n (take (length xs - k) (drop k xs)) ≡ drop k xs
whole_front k n xs e = grind (arith, common_steps)

pub IsZoned-from : (bytes : List ℕ) (o v : ℤ) → length bytes ≡ 12
    → IsSigned w32 (take 4 (take (length bytes - 8) (drop 8 bytes))) o
    → IsSigned w64 (take 8 bytes) v → IsZoned bytes record { offset = o; value = v }
IsZoned-from bytes o v n h k = record {
  value_bytes = take 8 bytes;
  offset_bytes = take 4 (take (length bytes - 8) (drop 8 bytes));
  parts = grind (arith, common_steps);
  value = k;
  offset = h;
}

pub IsOldZoned-from : (bytes : List ℕ) (hours o v : ℤ) → length bytes ≡ 9
    → hours ≡ cast_signed w8 (get_or bytes 8 0) → o ≡ hours *ℤ pos 3600
    → IsSigned w64 (take 8 bytes) v → IsOldZoned bytes record { offset = o; value = v }
IsOldZoned-from bytes hours o v n h q k = record {
  value_bytes = take 8 bytes;
  hour_bytes = get_or bytes 8 0 ∷ [];
  hours = hours;
  parts = split_last 8 bytes n;
  value = k;
  hour = record { len = refl; value = h };
  offset = q;
}

pub IsInterval-from : (bytes : List ℕ) (m d u : ℤ) → length bytes ≡ 16
    → IsSigned w32 (take 4 bytes) m
    → IsSigned w32 (take 4 (take (length bytes - 4) (drop 4 bytes))) d
    → IsSigned w64 (take 8 (take (length bytes - 8) (drop 8 bytes))) u
    → IsInterval bytes record { months = m; days = d; micros = u }
IsInterval-from bytes m d u n h k j = record {
  month_bytes = take 4 bytes;
  day_bytes = take 4 (take (length bytes - 4) (drop 4 bytes));
  micro_bytes = take 8 (take (length bytes - 8) (drop 8 bytes));
  parts = grind (arith, common_steps, whole_rest, whole_front, drop-drop);
  months = h;
  days = k;
  micros = j;
}

-- a payload with any other tag means no extension value
pub no_other : (t : ℕ) (rest : List ℕ) → t ≢ 0 → t ≢ 16 → t ≢ 32 → t ≢ 48 → t ≢ 64
    → (IsOpaqueTag t → ⊥) → (e : Extension) → ExtCode (t ∷ rest) e → ⊥
no_other t rest a b c d f none e h = grind arith
