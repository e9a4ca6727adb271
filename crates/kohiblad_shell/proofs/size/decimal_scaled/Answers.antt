use Rattle.std.proofs.Common.{◌∙◌, rules}
use Rattle.kohiblad_shell.proofs.SizeLaws.{digits_join}
use Rattle.kohiblad_shell.proofs.size.decimal_scaled.Goals as goal

pub returns-in-Ok : goal.returns-in-Ok
returns-in-Ok c = record {
  number = c.in_ok-number.number;
  some_whole = c.in_ok-number_after.ensures.some;
  some_fraction = c.in_ok-number.ensures.some;
  spells = digits_join c.args.whole.now c.args.fraction.now 0 c.in_ok-number_after.field-0
      c.in_ok-number_after.ensures.spells ∙ c.in_ok-number.ensures.spells;
  is = search rules;
}
