use Rattle.std.proofs.Common.{ap, ◌∙◌, chars}
use Rattle.std.specs.List.{prefix_len}
use Rattle.jsonb_value.specs.Json.Characters.{is_blank}
use Rattle.jsonb_value.proofs.BlankLaws.{past_blanks}
use Rattle.jsonb_value.proofs.parser.cursor.skip_blank.Goals as goal

pub split_at-requires : goal.split_at-requires
split_at-requires c =
    (past_blanks c.args.text.now c.blank_len.result c.utf8.text
    (c.blank_len.ensures ∙ ap (prefix_len is_blank) c.as_bytes.ensures.value)).boundary

pub returns : goal.returns
returns c =
    ap chars c.split_at.ensures.back
    ∙ (past_blanks c.args.text.now c.blank_len.result c.utf8.text
    (c.blank_len.ensures ∙ ap (prefix_len is_blank) c.as_bytes.ensures.value)).left
