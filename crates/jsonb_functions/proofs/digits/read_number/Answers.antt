use Rattle.std.proofs.Common.{arith, sym}
use Rattle.jsonb_functions.proofs.PathTextLaws.{digits_on, number_on, number_read}
use Rattle.jsonb_functions.proofs.digits.read_number.Goals as goal

pub loop-left-preserved : goal.loop-left-preserved
loop-left-preserved c =
    let is = sym c.if-not-is_ascii_digit.ensures.value in record {
      are_digits = digits_on _ c.loop-left.left.now c.in-len1-up.len_at_least is
          c.loop-left.invariant.are_digits;
      value = number_on _ c.loop-left.left.now 18446744073709551615 c.loop-left.number _ _
          c.in-len1-up.len_at_least is c.saturating_mul.ensures c.saturating_add-number.ensures
          c.loop-left.invariant.value;
      fits = omega arith;
    }

pub returns : goal.returns
returns c =
    number_read c.args.digits.now c.loop-left.left.now c.loop-left.number
    (sym c.if-is_empty.ensures) c.in_default.len_below c.loop-left.invariant.are_digits
    c.loop-left.invariant.value c.loop-left.invariant.fits
