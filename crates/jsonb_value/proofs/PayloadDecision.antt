-- Whether a payload means a number is decidable; likewise for extension values.
use Rattle.std.proofs.Common.{◌≡◌, ◌≤◌, ◌+◌, ◌-◌, ◌⊎◌, ℕ, List, [], ◌∷◌, length, take}
use Rattle.std.proofs.Common.{drop, inl, inr, refl, ap, arith}
use Rattle.std.proofs.lemmas.Bool.{cases_eq, cases_lt}
use Rattle.std.specs.Int.{Width, w32, w64, byte_len, from_be_bytes, cast_signed}
use Rattle.jsonb_value.specs.declared.number.Number.{Number}
use Rattle.jsonb_value.specs.declared.extension.Date.{Date}
use Rattle.jsonb_value.specs.declared.extension.Timestamp.{Timestamp}
use Rattle.jsonb_value.specs.declared.extension.TimestampTz.{TimestampTz}
use Rattle.jsonb_value.specs.declared.extension.Interval.{Interval}
use Rattle.jsonb_value.specs.Payload.{IsSigned}
use Rattle.jsonb_value.specs.NumCode.{NumCode}
use Rattle.jsonb_value.specs.Opaque.{IsOpaqueTag}
use Rattle.jsonb_value.specs.Tree.{Extension, binary, date, timestamp, timestamp_tz, interval}
use Rattle.jsonb_value.specs.Tree.{opaque}
use Rattle.jsonb_value.specs.ExtCode.{ExtCode, IsZoned, IsOldZoned, IsInterval}
use Rattle.jsonb_value.specs.Payload.{IsWholeLength}
use Rattle.std.proofs.lemmas.Grind.{common_steps}
use Rattle.jsonb_value.proofs.Codes.{NumCode-first}
use Rattle.jsonb_value.proofs.PayloadLengths.{NumCode-whole, NumCode-decimal, NumCode-zero}
use Rattle.jsonb_value.proofs.PayloadLengths.{signed_front}
use Rattle.jsonb_value.proofs.ExtCodes.{date_after, timestamp_after, zoned_after}
use Rattle.jsonb_value.proofs.ExtCodes.{interval_after, no_other, IsZoned-from, IsOldZoned-from}
use Rattle.jsonb_value.proofs.ExtCodes.{IsInterval-from}

-- The statement or its negation holds.
abbrev pub Decided : Type 0 → Type 0
Decided P = P ⊎ (P → ⊥)

-- an equivalent statement
pub decided_by : {P Q : Type 0} → (P → Q) → (Q → P) → Decided P → Decided Q
decided_by onward back h = grind arith

-- a disjunction
either : {P Q : Type 0} → Decided P → Decided Q → Decided (P ⊎ Q)
either h q = grind arith

-- The length determines which number the bytes after a tag mean.
decide_whole : (n : ℕ) → Decided (IsWholeLength n)
decide_whole n = grind (arith, either, cases_eq)

decide_tagged : (t : ℕ) (rest : List ℕ) → Decided ((x : Number) × NumCode (t ∷ rest) x)
decide_tagged t rest =
    let n = length rest in
    elim (either (cases_eq t 64) (cases_eq t 80)) [
      | inl e ↦ let same = NumCode-whole t n e rest refl in
          decided_by same.0 same.1 (decide_whole n)
      | inr not_whole ↦ elim (cases_eq t 112) [
        | inl e ↦ let same = NumCode-decimal t n e rest refl in decided_by same.0 same.1
            (either (cases_eq n 9) (either (cases_eq n 17) (cases_eq n 18)))
        | inr not112 ↦ elim (cases_eq t 0) [
          | inl e ↦ let same = NumCode-zero t n e rest refl in
              decided_by same.0 same.1 (cases_eq n 0)
          | inr not0 ↦ inr (λ found. elim (NumCode-first t rest found.0 found.1) [
            | inl h ↦ not0 h.0
            | inr h ↦ elim h [
              | inl h ↦ not_whole (inl h)
              | inr h ↦ elim h [ inl h ↦ not_whole (inr h) | inr h ↦ not112 h ]
            ]
          ])
        ]
      ]
    ]

-- whether a payload means a number
pub decide_number : (p : List ℕ) → Decided ((x : Number) × NumCode p x)
decide_number (t ∷ rest) = decide_tagged t rest
decide_number [] = inr none
  where
    none : ((x : Number) × NumCode [] x) → ⊥
    none found = grind arith

-- whether bytes mean a date
decide_date : (rest : List ℕ) → Decided ((d : Date) × IsSigned w32 rest d.value)
decide_date rest = decided_by
    (λ n. (record { value = _ }, record { len = n; value = refl })) (λ found. found.1.len)
    (cases_eq (length rest) 4)

decide_timestamp : (rest : List ℕ) → Decided ((t : Timestamp) × IsSigned w64 rest t.value)
decide_timestamp rest = decided_by
    (λ n. (record { value = _ }, record { len = n; value = refl })) (λ found. found.1.len)
    (cases_eq (length rest) 8)

IsZoned-length : (rest : List ℕ) (t : TimestampTz) → IsZoned rest t → length rest ≡ 12
IsZoned-length rest t h = grind (arith, common_steps)

pub IsOldZoned-length : (rest : List ℕ) (t : TimestampTz) → IsOldZoned rest t → length rest ≡ 9
IsOldZoned-length rest t h = grind (arith, common_steps)

IsInterval-length : (rest : List ℕ) (i : Interval) → IsInterval rest i → length rest ≡ 16
IsInterval-length rest i h = grind (arith, common_steps)

-- the number in a range of bytes
signed_within : (w : Width) (k : ℕ) (rest : List ℕ) → k + byte_len w ≤ length rest
    → let part = take (byte_len w) (take (length rest - k) (drop k rest)) in
    IsSigned w part (cast_signed w (from_be_bytes w part))
signed_within w k rest room = signed_front w _ (grind (arith, common_steps))

zoned_of_length : (rest : List ℕ) → (length rest ≡ 12) ⊎ (length rest ≡ 9) → (t : TimestampTz)
    × (IsZoned rest t ⊎ IsOldZoned rest t)
zoned_of_length rest (inl n) = (
  _,
  inl (IsZoned-from rest _ _ n (signed_within w32 8 rest (omega arith))
      (signed_front w64 rest (omega arith))),
)
zoned_of_length rest (inr n) =
    (_, inr (IsOldZoned-from rest _ _ _ n refl refl (signed_front w64 rest (omega arith))))

length_of_zoned : (rest : List ℕ) (t : TimestampTz) → IsZoned rest t ⊎ IsOldZoned rest t
    → (length rest ≡ 12) ⊎ (length rest ≡ 9)
length_of_zoned rest t h = grind (arith, common_steps, IsZoned-length, IsOldZoned-length)

decide_zoned : (rest : List ℕ) → Decided ((t : TimestampTz) × (IsZoned rest t ⊎ IsOldZoned rest t))
decide_zoned rest =
    decided_by (zoned_of_length rest) (λ found. length_of_zoned rest found.0 found.1)
    (either (cases_eq (length rest) 12) (cases_eq (length rest) 9))

decide_interval : (rest : List ℕ) → Decided ((i : Interval) × IsInterval rest i)
decide_interval rest = decided_by
    (λ n. (
      _,
      IsInterval-from rest _ _ _ n (signed_front w32 rest (omega arith))
          (signed_within w32 4 rest (omega arith)) (signed_within w64 8 rest (omega arith)),
    ))
    (λ found. IsInterval-length rest found.0 found.1) (cases_eq (length rest) 16)

decide_opaque : (t : ℕ) → Decided (IsOpaqueTag t)
decide_opaque t = grind (arith, cases_lt, decided_by, cases_eq)

decide_extension_tagged : (t : ℕ) (rest : List ℕ) → Decided ((x : Extension) × ExtCode (t ∷ rest) x)
decide_extension_tagged t rest =
    elim (cases_eq t 0) [
      | inl e ↦ inl (binary rest, ap (λ (k : ℕ). k ∷ rest) e)
      | inr not0 ↦ elim (cases_eq t 16) [
        | inl e ↦ decided_by
            (λ found. (date found.0, (rest, (ap (λ (k : ℕ). k ∷ rest) e, found.1))))
            (λ found. date_after t rest found.0 e found.1) (decide_date rest)
        | inr not16 ↦ elim (cases_eq t 32) [
          | inl e ↦ decided_by
              (λ found. (timestamp found.0, (rest, (ap (λ (k : ℕ). k ∷ rest) e, found.1))))
              (λ found. timestamp_after t rest found.0 e found.1) (decide_timestamp rest)
          | inr not32 ↦ elim (cases_eq t 48) [
            | inl e ↦ decided_by
                (λ found. (timestamp_tz found.0, (rest, (ap (λ (k : ℕ). k ∷ rest) e, found.1))))
                (λ found. zoned_after t rest found.0 e found.1) (decide_zoned rest)
            | inr not48 ↦ elim (cases_eq t 64) [
              | inl e ↦ decided_by
                  (λ found. (interval found.0, (rest, (ap (λ (k : ℕ). k ∷ rest) e, found.1))))
                  (λ found. interval_after t rest found.0 e found.1) (decide_interval rest)
              | inr not64 ↦ elim (decide_opaque t) [
                | inl known ↦ inl (opaque t rest, (known, refl))
                | inr none ↦ inr
                    (λ found. no_other t rest not0 not16 not32 not48 not64 none found.0 found.1)
              ]
            ]
          ]
        ]
      ]
    ]

-- whether a payload means an extension value
pub decide_extension : (p : List ℕ) → Decided ((x : Extension) × ExtCode p x)
decide_extension (t ∷ rest) = decide_extension_tagged t rest
decide_extension [] = inr none
  where
    none : ((x : Extension) × ExtCode [] x) → ⊥
    none found = grind arith
