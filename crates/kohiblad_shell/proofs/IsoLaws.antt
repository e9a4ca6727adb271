-- Texts of dates and timestamps in the form that is written.
use Rattle.std.proofs.Common.{◌≡◌, ◌≢◌, ◌+◌, ◌-◌, ◌<◌, ◌≤◌, ℕ, zero, suc, List, [], ◌∷◌, ◌++◌, false}
use Rattle.std.proofs.Common.{◌∙◌, add-one, ap, arith, drop, get_or, length, length-append, true}
use Rattle.std.proofs.Common.{◌*◌, ◌/◌, ◌%◌, nat_lt, refl, rules, subst, sym, take}
use Rattle.std.specs.Prelude.{◌==◌, ◌+ℤ◌, ◌-ℤ◌, ◌*ℤ◌, ◌<ℤ◌, ℤ, pos, neg_ℤ, Some, min, slice_index}
use Rattle.std.proofs.lemmas.List.{append-nil, get_or-append_right, length-take-le}
use Rattle.std.proofs.Math.Seq.{drop-append-add, drop-cons, take-append-add, take-append_seam}
use Rattle.std.proofs.Math.Seq.{take-suc}
use Rattle.jiff_core.specs.Date.{epoch_day}
use Rattle.jiff_core.specs.DateTime.{civil_nanos}
use Rattle.jiff_core.specs.Time.{time_seconds}
use Rattle.jiff_core.specs.declared.civil.date.Date as civil_date
use Rattle.jiff_core.specs.declared.civil.datetime.DateTime.{DateTime}
use Rattle.jiff_core.proofs.DateLemmas.{epoch_day_injective}
use Rattle.jiff_core.proofs.DateTimeLemmas.{civil_nanos-parts}
use Rattle.jiff_core.proofs.SignedLemmas.{signed_arith}
use Rattle.jsonb_value.specs.declared.extension.TimestampTz.{TimestampTz}
use Rattle.kohiblad_shell.specs.IsoForms.{IsPlainTime, ends_in_zero}
use Rattle.kohiblad_shell.specs.IsoTexts.{digit_or_zero, digit_pair, digits_millionths, is_utc}
use Rattle.kohiblad_shell.specs.IsoTexts.{iso_millionths, iso_offset, iso_wall, iso_zoned}
use Rattle.kohiblad_shell.specs.IsoTexts.{millionths_of_parts, wall_micros, wall_said}

-- a 0 past the end says nothing
zero_past : (digits : List ℕ) (i : ℕ)
    → digit_or_zero (digits ++ 48 ∷ []) i ≡ digit_or_zero digits i
zero_past [] zero = refl
zero_past [] (suc i) = refl
zero_past (x ∷ digits) zero = refl
zero_past (x ∷ digits) (suc i) = zero_past digits i

-- the end of a list
dropped_all : (xs : List ℕ) → drop (length xs) xs ≡ []
dropped_all [] = refl
dropped_all (x ∷ xs) = dropped_all xs

dropped_six : (xs : List ℕ) → length xs ≡ 6 → drop 6 xs ≡ []
dropped_six xs six = ap (λ n. drop n xs) (sym six) ∙ dropped_all xs

-- of at most six digits all count
few_digits : (digits : List ℕ) → length digits ≤ 6 → digits_millionths digits
    ≡ millionths_of_parts
    (digit_pair (digit_or_zero digits 0) (digit_or_zero digits 1))
    (digit_pair (digit_or_zero digits 2) (digit_or_zero digits 3))
    (digit_pair (digit_or_zero digits 4) (digit_or_zero digits 5))
few_digits digits few =
    let all : min (length digits) 6 ≡ length digits = omega arith in
    rw (all, dropped_all digits) refl

-- a 0 at the end says nothing
zero_dropped : (digits : List ℕ) → length digits ≤ 5
    → digits_millionths (digits ++ 48 ∷ []) ≡ digits_millionths digits
zero_dropped digits few =
    let longer : length (digits ++ 48 ∷ []) ≤ 6 = simp length-append (omega arith) in
    let here : length digits ≤ 6 = omega arith in
    few_digits (digits ++ 48 ∷ []) longer ∙ (simp (zero_past digits))
    ∙ sym (few_digits digits here)

-- one digit more of some
taken_more : (digits : List ℕ) (k : ℕ) → k < length digits
    → take (k + 1) digits ≡ take k digits ++ get_or digits k 0 ∷ []
taken_more digits k low = ap (λ n. take n digits) (add-one k) ∙ take-suc digits k 0 low

-- the same digits without a 0
pub zero_more : (digits : List ℕ) (k : ℕ) → k < length digits → length digits ≤ 6
    → get_or digits k 0 ≡ 48
    → digits_millionths (take (k + 1) digits) ≡ digits_millionths (take k digits)
zero_more digits k low few is =
    let within : k ≤ length digits = omega arith in
    let short : length (take k digits) ≤ 5 = rw (length-take-le k digits within) (omega arith) in
    ap digits_millionths (taken_more digits k low
    ∙ ap (λ (n : ℕ). take k digits ++ n ∷ []) is) ∙ zero_dropped (take k digits) short

-- the last of some digits
last_one : (digits : List ℕ) (x : ℕ) → ends_in_zero (digits ++ x ∷ []) ≡ (x == 48)
last_one [] x = refl
last_one (d ∷ []) x = refl
last_one (d ∷ (e ∷ digits)) x = last_one (e ∷ digits) x

-- digits of which the last is not 0
pub last_kept : (digits : List ℕ) (k : ℕ) → k < length digits → get_or digits k 0 ≢ 48
    → ends_in_zero (take (k + 1) digits) ≡ false
last_kept digits k low other =
    ap ends_in_zero (taken_more digits k low) ∙ last_one (take k digits) (get_or digits k 0)
    ∙ search (rules, other)

-- digits after a point
some_there : (n : ℕ) → 0 < n → nat_lt 0 n ≡ true
some_there n some = grind arith

pub says_after_point : (digits : List ℕ) (n : ℕ) → 0 < n → digits_millionths digits ≡ Some n
    → iso_millionths (46 ∷ digits) ≡ Some n
says_after_point [] n some says = absurd (let none : 0 ≡ n = cc in omega arith)
says_after_point (d ∷ digits) n some says =
    rw (some_there (length (d ∷ digits)) (omega arith)) says

pub short_after_point : (digits : List ℕ) → ends_in_zero digits ≡ false
    → ends_in_zero (46 ∷ digits) ≡ false
short_after_point [] short = refl
short_after_point (d ∷ digits) short = short

-- what comes after so many bytes
past : (front rest : List ℕ) (n k : ℕ) → length front ≡ n → drop (n + k) (front ++ rest) ≡ drop k rest
past front rest n k e = rw (sym e) (drop-append-add front rest k)

before : (front rest : List ℕ) (n : ℕ) → length front ≡ n → take n (front ++ rest) ≡ front
before front rest n e = rw (sym e) (take-append_seam front rest)

-- the text of a date, a time and a fraction
pub wall_joined : (date time fraction : List ℕ) (wall : ℤ) → length date ≡ 10 → length time ≡ 8
    → wall_said date time fraction ≡ Some wall
    → iso_wall (date ++ 84 ∷ (time ++ fraction)) ≡ Some wall
wall_joined date time fraction wall d t says =
    let rest : List ℕ = 84 ∷ (time ++ fraction) in
    let long : nat_lt 18 (length (date ++ rest)) ≡ true =
    simp (length-append, d, t) (grind arith) in
    rw (
      long,
      past date rest 10 0 d,
      before date rest 10 d,
      past date rest 10 1 d,
      before time fraction 8 t,
      past date rest 10 9 d,
      past time fraction 8 0 t,
    ) says

pub plain_joined : (date time fraction : List ℕ) → length date ≡ 10 → length time ≡ 8
    → ends_in_zero fraction ≡ false → IsPlainTime (date ++ 84 ∷ (time ++ fraction))
plain_joined date time fraction d t short =
    let rest : List ℕ = 84 ∷ (time ++ fraction) in (
      get_or-append_right date rest 10 10 0 d (omega arith),
      ap ends_in_zero (past date rest 10 9 d ∙ past time fraction 8 0 t) ∙ short,
    )

-- what a clock shows, in microseconds
pub wall_of_clock : (clock : DateTime) (wall : ℤ) → civil_nanos clock ≡ wall *ℤ pos 1000
    → wall_micros (epoch_day clock.date) (time_seconds clock.time)
    (clock.time.subsec_nanosecond / 1000) ≡ wall
wall_of_clock clock wall e = omega (arith, signed_arith, civil_nanos-parts clock)

-- no two dates are one day
pub year_of_day : (a b : civil_date.Date) → epoch_day a ≡ epoch_day b → b.year <ℤ pos 0
    → a.year <ℤ pos 0
year_of_day a b e below =
    let P : ℤ → Type 0 = λ year. year <ℤ pos 0 in
    subst P (sym (epoch_day_injective a b e).0) below

-- the text of an offset
pub offset_below : (offset : ℤ) (seconds a b c d : ℕ) → offset ≡ neg_ℤ (pos seconds)
    → seconds < 86_400 → seconds % 60 ≡ 0 → digit_pair a b ≡ Some (seconds / 3600)
    → digit_pair c d ≡ Some (seconds / 60 % 60)
    → iso_offset (45 ∷ (a ∷ (b ∷ (58 ∷ (c ∷ (d ∷ [])))))) ≡ Some offset
offset_below offset seconds a b c d is low whole hours minutes =
    let day : nat_lt (seconds / 3600) 24 ≡ true = grind arith in
    let hour : nat_lt (seconds / 60 % 60) 60 ≡ true = grind arith in
    let all : seconds / 3600 * 3600 + seconds / 60 % 60 * 60 ≡ seconds = omega arith in
    rw (hours, minutes, day, hour, all, is) refl

pub offset_above : (offset : ℤ) (seconds a b c d : ℕ) → offset ≡ pos seconds
    → seconds < 86_400 → seconds % 60 ≡ 0 → digit_pair a b ≡ Some (seconds / 3600)
    → digit_pair c d ≡ Some (seconds / 60 % 60)
    → iso_offset (43 ∷ (a ∷ (b ∷ (58 ∷ (c ∷ (d ∷ [])))))) ≡ Some offset
offset_above offset seconds a b c d is low whole hours minutes =
    let day : nat_lt (seconds / 3600) 24 ≡ true = grind arith in
    let hour : nat_lt (seconds / 60 % 60) 60 ≡ true = grind arith in
    let all : seconds / 3600 * 3600 + seconds / 60 % 60 * 60 ≡ seconds = omega arith in
    rw (hours, minutes, day, hour, all, is) refl

-- a digit is no letter
no_letter : (b : ℕ) → b < 58 → is_utc (b ∷ []) ≡ false
no_letter b digit =
    let upper : (b == 90) ≡ false = grind arith in
    let lower : (b == 122) ≡ false = grind arith in rw (upper, lower) refl

-- a zone after a time
pub zoned_joined : (time zone : List ℕ) (wall : ℤ) (t : TimestampTz) → length zone ≡ 6
    → slice_index zone 5 < 58 → iso_wall time ≡ Some wall → iso_offset zone ≡ Some t.offset
    → wall ≡ t.value +ℤ t.offset *ℤ pos 1_000_000 → iso_zoned (time ++ zone) ≡ Some t
zoned_joined time zone wall t six digit says_time says_zone shown =
    let all : length (time ++ zone) ≡ length time + 6 = simp (length-append, six) in
    let last : length (time ++ zone) - 1 ≡ length time + 5 = omega arith in
    let front : length (time ++ zone) - 6 ≡ length time + 0 = omega arith in
    let end : drop 5 zone ≡ slice_index zone 5 ∷ [] =
    drop-cons zone 5 0 (omega arith) ∙ ap (λ zs. slice_index zone 5 ∷ zs) (dropped_six zone six) in
    let other : is_utc (drop 5 zone) ≡ false = rw end (no_letter (slice_index zone 5) digit) in
    let value : wall -ℤ t.offset *ℤ pos 1_000_000 ≡ t.value = omega (arith, signed_arith) in
    rw (
      last,
      drop-append-add time zone 5,
      other,
      front,
      drop-append-add time zone 0,
      take-append-add time zone 0,
      append-nil time,
      says_zone,
      says_time,
    ) (ap (λ v. Some (let z : TimestampTz = record { offset = t.offset; value = v } in z)) value)
