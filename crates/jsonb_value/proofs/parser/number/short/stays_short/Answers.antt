use Rattle.jsonb_value.proofs.Json.DigitRuns.{short_stays}
use Rattle.jsonb_value.proofs.parser.number.short.stays_short.Goals as goal

pub returns-then-count-le-SHORT_DIGITS : goal.returns-then-count-le-SHORT_DIGITS
returns-then-count-le-SHORT_DIGITS c =
    short_stays c.args.start c.args.count c.ten_to.result c.if-count-le-SHORT_DIGITS.true
    c.ten_to.ensures
