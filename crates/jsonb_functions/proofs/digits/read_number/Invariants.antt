-- The number so far and the digits that are left make the whole number, if all are digits.
use Rattle.std.proofs.Common.{◌≡◌, ◌<◌, ◌-◌, ◌^◌, length, min}
use Rattle.std.specs.Str.Parse.{digits_value_after}
use Rattle.jsonb_value.specs.Json.Characters.{all_digits}
use Rattle.jsonb_functions.proofs.digits.read_number.Given as goal

abbrev pub invariant-loop-left : goal.invariant-loop-left
invariant-loop-left l = record {
  are_digits : all_digits l.fn.digits ≡ all_digits l.left;
  value : min (digits_value_after 10 0 l.fn.digits) (2 ^ 64 - 1)
      ≡ min (digits_value_after 10 l.number l.left) (2 ^ 64 - 1);
  fits : l.number < 2 ^ 64;
}

abbrev pub decreases-loop-left : goal.decreases-loop-left
decreases-loop-left l = length l.left
