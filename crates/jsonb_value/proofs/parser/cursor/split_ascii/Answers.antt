use Rattle.std.proofs.Common.{rules, ap, ◌∙◌, chars, refl, sym, ◌∷◌, arith}
use Rattle.jsonb_value.proofs.AsciiLaws.{ascii_boundary, first_ascii, first_greater, none_first}
use Rattle.jsonb_value.proofs.parser.cursor.split_ascii.Goals as goal

pub split_at-requires : goal.split_at-requires
split_at-requires c =
    ascii_boundary c.args.text.now _ c.utf8.text c.as_bytes.ensures.value _ refl
    c.in-len1-up.len_at_least c.if-first-lt128.true

pub returns-in-len1-up : goal.returns-in-len1-up
returns-in-len1-up c =
    first_ascii c.args.text.now _ c.utf8.text c.as_bytes.ensures.value _ c.from.ensures
    c.in-len1-up.len_at_least (omega (arith, c.if-first-lt128.true, c.from.ensures))
    ∙ ap (λ l. c.from.result ∷ chars l) (sym c.split_at.ensures.back)

pub returns-in-len1-up-2 : goal.returns-in-len1-up-2
returns-in-len1-up-2 c =
    first_greater c.args.text.now _ c.utf8.text c.as_bytes.ensures.value _ refl
    c.if-first-lt128.false

pub returns-in-empty : goal.returns-in-empty
returns-in-empty c = none_first c.args.text.now _ c.as_bytes.ensures.value (search rules)
