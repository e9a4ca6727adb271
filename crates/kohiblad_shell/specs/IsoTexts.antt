-- Dates and timestamps as texts of RFC 3339, a profile of ISO 8601.
use Rattle.std.specs.Prelude.{◌≡◌, ◌==◌, ◌&&◌, ◌||◌, ◌+◌, ◌-◌, ◌*◌, ◌+ℤ◌, ◌-ℤ◌, ◌*ℤ◌}
use Rattle.std.specs.Prelude.{ℕ, ℤ, pos, neg_ℤ, Bool, false, List, [], ◌∷◌, Option, None, Some, drop}
use Rattle.std.specs.Prelude.{if◌then◌else◌, length, min, nat_lt, slice_get, take}
use Rattle.std.specs.Char.{is_ascii_digit}
use Rattle.std.specs.Int.{is_in_range}
use Rattle.std.specs.List.{list_all}
use Rattle.jiff_core.specs.Calendar.{days_from_civil, days_in_month}
use Rattle.jsonb_value.specs.declared.extension.Date.{Date}
use Rattle.jsonb_value.specs.declared.extension.Timestamp.{Timestamp}
use Rattle.jsonb_value.specs.declared.extension.TimestampTz.{TimestampTz}

-- The number that two digits spell, or none if they are no digits.
abbrev pub digit_pair : ℕ → ℕ → Option ℕ
digit_pair a b =
    if is_ascii_digit a && is_ascii_digit b then Some ((a - 48) * 10 + (b - 48)) else None

-- The days from 1970-01-01 to a date of the Gregorian calendar, or none if it has no such date.
abbrev pub calendar_day : ℕ → ℕ → ℕ → Option ℤ
calendar_day year month day =
    if is_in_range 1 12 month && is_in_range 1 (days_in_month (pos year) month) day
    then Some (days_from_civil (pos year) month day) else None

-- The same where the year is given by its first two digits and its last two.
abbrev pub day_of_parts : Option ℕ → Option ℕ → Option ℕ → Option ℕ → Option ℤ
day_of_parts (Some century) (Some year) (Some month) (Some day) =
    calendar_day (century * 100 + year) month day
day_of_parts century year month day = None

-- The day that a text says, as 2026-11-29, by its days from 1970-01-01.
abbrev pub iso_day : List ℕ → Option ℤ
iso_day (a ∷ b ∷ c ∷ d ∷ s ∷ e ∷ f ∷ t ∷ g ∷ h ∷ []) =
    if s == 45 && t == 45
    then day_of_parts (digit_pair a b) (digit_pair c d) (digit_pair e f) (digit_pair g h)
    else None
iso_day text = None

-- The seconds from midnight to a time of day, or none if no clock shows it.
abbrev pub clock_second : Option ℕ → Option ℕ → Option ℕ → Option ℕ
clock_second (Some hour) (Some minute) (Some second) =
    if nat_lt hour 24 && nat_lt minute 60 && nat_lt second 60
    then Some (hour * 3600 + minute * 60 + second) else None
clock_second hour minute second = None

-- The second of the day that a text says, as 12:30:05.
abbrev pub iso_second : List ℕ → Option ℕ
iso_second (a ∷ b ∷ s ∷ c ∷ d ∷ t ∷ e ∷ f ∷ []) =
    if s == 58 && t == 58
    then clock_second (digit_pair a b) (digit_pair c d) (digit_pair e f) else None
iso_second text = None

-- The millionths that six digits spell, two at a time.
abbrev pub millionths_of_parts : Option ℕ → Option ℕ → Option ℕ → Option ℕ
millionths_of_parts (Some a) (Some b) (Some c) = Some (a * 10_000 + b * 100 + c)
millionths_of_parts a b c = None

-- A byte, or the digit 0 if there is none.
abbrev pub or_digit_zero : Option ℕ → ℕ
or_digit_zero (Some byte) = byte
or_digit_zero None = 48

-- A byte of a text, or the digit 0 past its end.
abbrev pub digit_or_zero : List ℕ → ℕ → ℕ
digit_or_zero text index = or_digit_zero (slice_get text index)

-- The millionths that digits after a point say, or none if they are no digits, or there is one but
-- 0 after the sixth.
abbrev pub digits_millionths : List ℕ → Option ℕ
digits_millionths digits =
    if list_all (λ b. b == 48) (drop (min (length digits) 6) digits)
    then millionths_of_parts
    (digit_pair (digit_or_zero digits 0) (digit_or_zero digits 1))
    (digit_pair (digit_or_zero digits 2) (digit_or_zero digits 3))
    (digit_pair (digit_or_zero digits 4) (digit_or_zero digits 5))
    else None

-- The millionths of a second that a text says: none, or digits after a point.
abbrev pub iso_millionths : List ℕ → Option ℕ
iso_millionths [] = Some 0
iso_millionths (b ∷ digits) =
    if b == 46 && nat_lt 0 (length digits) then digits_millionths digits else None

-- The microseconds from the start of 1970 on a clock whose days have 24 hours, to a second of a day
-- and millionths after it.
abbrev pub wall_micros : ℤ → ℕ → ℕ → ℤ
wall_micros day second micros =
    (day *ℤ pos 86_400 +ℤ pos second) *ℤ pos 1_000_000 +ℤ pos micros

-- The same of the parts of a text.
abbrev pub wall_of_parts : Option ℤ → Option ℕ → Option ℕ → Option ℤ
wall_of_parts (Some day) (Some second) (Some micros) = Some (wall_micros day second micros)
wall_of_parts day second micros = None

-- Whether a byte stands between a date and a time: T, t or a space.
abbrev pub begins_time : List ℕ → Bool
begins_time (b ∷ text) = b == 84 || b == 116 || b == 32
begins_time [] = false

-- The same of a day, a second of it and millionths after that, each said by a text.
unfoldable pub wall_said : List ℕ → List ℕ → List ℕ → Option ℤ
wall_said date time fraction =
    wall_of_parts (iso_day date) (iso_second time) (iso_millionths fraction)

-- What a clock shows at the time that a text says, as 2026-11-29T12:30:05.25, in microseconds from
-- the start of 1970.
abbrev pub iso_wall : List ℕ → Option ℤ
iso_wall text =
    if nat_lt 18 (length text) && begins_time (drop 10 text)
    then wall_said (take 10 text) (take 8 (drop 11 text)) (drop 19 text) else None

-- The offset of a zone from UTC in seconds, by its sign, hours and minutes.
abbrev pub offset_of_parts : ℕ → Option ℕ → Option ℕ → Option ℤ
offset_of_parts sign (Some hours) (Some minutes) =
    if nat_lt hours 24 && nat_lt minutes 60
    then Some (if sign == 45 then neg_ℤ (pos (hours * 3600 + minutes * 60))
    else pos (hours * 3600 + minutes * 60))
    else None
offset_of_parts sign hours minutes = None

-- The offset that a text says, as +02:00.
abbrev pub iso_offset : List ℕ → Option ℤ
iso_offset (sign ∷ a ∷ b ∷ s ∷ c ∷ d ∷ []) =
    if (sign == 43 || sign == 45) && s == 58
    then offset_of_parts sign (digit_pair a b) (digit_pair c d) else None
iso_offset text = None

-- Whether a text says UTC: Z or z.
abbrev pub is_utc : List ℕ → Bool
is_utc (b ∷ []) = b == 90 || b == 122
is_utc text = false

-- The timestamp at which a clock with this offset shows a time.
abbrev pub zoned_of_parts : Option ℤ → Option ℤ → Option TimestampTz
zoned_of_parts (Some offset) (Some wall) = Some (record {
  offset = offset;
  value = wall -ℤ offset *ℤ pos 1_000_000;
})
zoned_of_parts offset wall = None

-- The timestamp with a zone that a text says: Z or an offset stands after the time.
abbrev pub iso_zoned : List ℕ → Option TimestampTz
iso_zoned text =
    if is_utc (drop (length text - 1) text)
    then zoned_of_parts (Some (pos 0)) (iso_wall (take (length text - 1) text))
    else zoned_of_parts (iso_offset (drop (length text - 6) text))
    (iso_wall (take (length text - 6) text))

-- The text says this date.
abbrev pub SaysDate : Date → List ℕ → Type 0
SaysDate d text = iso_day text ≡ Some d.value

-- The text says this timestamp without a zone.
abbrev pub SaysTimestamp : Timestamp → List ℕ → Type 0
SaysTimestamp t text = iso_wall text ≡ Some t.value

-- The text says this timestamp with a zone.
abbrev pub SaysZoned : TimestampTz → List ℕ → Type 0
SaysZoned t text = iso_zoned text ≡ Some t
