use Rattle.std.proofs.Common.{ap, ◌∙◌, chars}
use Rattle.jsonb_value.proofs.Json.DigitRuns.{digits_boundary, text_after_digits, short_digits}
use Rattle.jsonb_value.proofs.parser.number.short.read_many_digits.Goals as goal

pub split_at-requires : goal.split_at-requires
split_at-requires c =
    digits_boundary c.args.text.now _ c.utf8.text c.as_bytes.ensures.value _
    c.read_digits-count.ensures.end

pub returns : goal.returns
returns c = (
  short_digits c.args.text.now _ c.utf8.text c.as_bytes.ensures.value _
      c.read_digits-count.ensures.end c.args.start _ c.read_digits-count.ensures.value
      c.if-not-stays_short.ensures,
  ap chars c.split_at.ensures.back
      ∙ text_after_digits c.args.text.now _ c.utf8.text c.as_bytes.ensures.value _
      c.read_digits-count.ensures.end,
)
