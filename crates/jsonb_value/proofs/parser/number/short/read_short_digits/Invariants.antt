use Rattle.std.proofs.Common.{◌≡◌, ◌+◌, ◌^◌, ◌<◌, chars, length}
use denote.Text.{Utf8}
use denote.Shadow.{shadow}
use Rattle.std.specs.Str.Parse.{digits_value_after}
use Rattle.jsonb_value.specs.Reader.Reading.{front_digits, after_digits}
use Rattle.jsonb_value.proofs.parser.number.short.read_short_digits.Given as goal

-- the digits so far and the remaining ones are the whole
abbrev pub invariant-digits : goal.invariant-digits
invariant-digits l =
    shadow (Utf8 l.rest)
    × (l.digits.count + length (front_digits (chars l.rest))
    ≡ length (front_digits (chars l.fn.text)))
    × (l.digits.value < 10 ^ 18)
    × (digits_value_after 10 l.digits.value (front_digits (chars l.rest))
    ≡ digits_value_after 10 l.fn.start (front_digits (chars l.fn.text)))
    × (after_digits (chars l.rest) ≡ after_digits (chars l.fn.text))

abbrev pub decreases-digits : goal.decreases-digits
decreases-digits l = length (chars l.rest)
