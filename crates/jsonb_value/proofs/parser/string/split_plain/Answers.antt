use Rattle.std.proofs.Common.{ap, ◌∙◌}
use Rattle.std.specs.List.{prefix_len}
use Rattle.jsonb_value.specs.Json.Piece.{is_plain}
use Rattle.jsonb_value.proofs.Json.TextSteps.{cut_boundary, plain_front}
use Rattle.jsonb_value.proofs.parser.string.split_plain.Goals as goal

pub split_at-requires : goal.split_at-requires
split_at-requires c = cut_boundary c.args.text.now c.plain_len.result
    (c.plain_len.ensures ∙ ap (prefix_len is_plain) c.as_bytes.ensures.value)

pub returns : goal.returns
returns c =
    let cut =
    plain_front c.args.text.now c.split_at.result.0.now c.split_at.result.1.now c.plain_len.result
    c.utf8.text (c.plain_len.ensures
    ∙ ap (prefix_len is_plain) c.as_bytes.ensures.value) c.split_at.ensures.front
    c.split_at.ensures.back in
    record { plain = cut.is_plain_all; whole = cut.is_whole; bytes = cut.is_encoded }
