-- The one form in which dates and timestamps are written as texts of RFC 3339.
use Rattle.std.specs.Prelude.{◌≡◌, ◌==◌, ◌&&◌, ◌%◌, ◌⊎◌, ◌+ℤ◌, ◌*ℤ◌, ◌<ℤ◌, ℕ, ℤ, pos, Bool, false}
use Rattle.std.specs.Prelude.{List, [], ◌∷◌, ◌++◌, Option, None, Some, drop, nat_lt, slice_index}
use Rattle.std.specs.Prelude.{unsigned_abs}
use Rattle.jiff_core.specs.Date.{epoch_day}
use Rattle.jiff_core.specs.DateTime.{civil_nanos}
use Rattle.jiff_core.specs.declared.civil.date.Date as civil_date
use Rattle.jiff_core.specs.declared.civil.datetime.DateTime.{DateTime}
use Rattle.jsonb_value.specs.declared.extension.TimestampTz.{TimestampTz}
use Rattle.kohiblad_shell.specs.IsoTexts.{iso_day, iso_offset, iso_wall, iso_zoned}

-- No date of the years 0000 to 9999 is this day.
abbrev pub IsBeyondYears : ℤ → Type 0
IsBeyondYears day = (d : civil_date.Date) → epoch_day d ≡ day → d.year <ℤ pos 0

-- A clock shows this time, in microseconds from the start of 1970, in no year from 0000 to 9999.
abbrev pub IsBeyondClock : ℤ → Type 0
IsBeyondClock wall =
    (t : DateTime) → civil_nanos t ≡ wall *ℤ pos 1000 → t.date.year <ℤ pos 0

-- Whether a text ends in the digit 0.
abbrev pub ends_in_zero : List ℕ → Bool
ends_in_zero [] = false
ends_in_zero (b ∷ []) = b == 48
ends_in_zero (b ∷ (c ∷ text)) = ends_in_zero (c ∷ text)

-- A text of a time has a T after its date, and its fraction of a second does not end in 0.
abbrev pub IsPlainTime : List ℕ → Type 0
IsPlainTime text = (slice_index text 10 ≡ 84) × (ends_in_zero (drop 19 text) ≡ false)

-- The text says this offset of a zone from UTC, with a minus sign only where it is negative.
abbrev pub IsPlainOffset : ℤ → List ℕ → Type 0
IsPlainOffset offset text =
    (iso_offset text ≡ Some offset) × (slice_index text 0 ≡ 45 → offset <ℤ pos 0)

-- A text of a timestamp with a zone is a time in that form, and such an offset.
abbrev pub IsPlainZoned : ℤ → List ℕ → Type 0
IsPlainZoned offset text = (time : List ℕ) × ((zone : List ℕ)
    × ((text ≡ time ++ zone) × (IsPlainTime time × IsPlainOffset offset zone)))

-- Whether an offset is one of whole minutes, and of less than a day.
abbrev pub is_minute_offset : ℤ → Bool
is_minute_offset offset = nat_lt (unsigned_abs offset) 86_400 && unsigned_abs offset % 60 == 0

-- The text says this day; there is none if it is of no such year.
abbrev pub IsDayText : ℤ → Option (List ℕ) → Type 0
IsDayText day None = IsBeyondYears day
IsDayText day (Some text) = iso_day text ≡ Some day

-- The text says in that form what a clock shows; there is none if it is of no such year.
abbrev pub IsWallText : ℤ → Option (List ℕ) → Type 0
IsWallText wall None = IsBeyondClock wall
IsWallText wall (Some text) = (iso_wall text ≡ Some wall) × IsPlainTime text

-- What a clock shows at a timestamp in its zone.
abbrev pub wall_of_zoned : TimestampTz → ℤ
wall_of_zoned t = t.value +ℤ t.offset *ℤ pos 1_000_000

-- The text says the timestamp in that form; there is none if its offset is not one of whole
-- minutes, or its clock shows a time of no such year.
abbrev pub IsZonedText : TimestampTz → Option (List ℕ) → Type 0
IsZonedText t None = (is_minute_offset t.offset ≡ false) ⊎ IsBeyondClock (wall_of_zoned t)
IsZonedText t (Some text) = (iso_zoned text ≡ Some t) × IsPlainZoned t.offset text
