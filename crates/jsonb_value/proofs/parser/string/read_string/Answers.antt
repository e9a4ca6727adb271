use Rattle.std.proofs.Common.{arith}
use Rattle.std.proofs.Common.{rules, sym, ap, ◌∙◌, ◌∷◌, chars, ◌++◌}
use Rattle.std.specs.Prelude.{string_bytes, encode_utf8}
use Rattle.jsonb_value.specs.Reader.Reading.{read_text}
use Rattle.jsonb_value.proofs.Json.TextSteps.{text_ends, text_closes, text_fails}
use Rattle.jsonb_value.proofs.Json.TextSteps.{goes_on_past_piece, goes_on_past_plain, goes_on_as}
use Rattle.jsonb_value.proofs.Json.TextSteps.{plain_shorter}
use Rattle.jsonb_value.proofs.parser.string.read_string.Goals as goal

pub pieces-init : goal.pieces-init
pieces-init c = (
  search rules,
  λ n h. record {
    turns = n;
    enough = h;
    same = ap
        (λ front. read_text n front (chars c.args.text.now)) (sym c.in_ok-begin_content.ensures.ok);
  },
)

pub returns-in_default : goal.returns-in_default
returns-in_default c = λ n h.
    let g = c.pieces.invariant.1 n h in
    g.same ∙ text_ends g.turns _
    _ c.in_default.ensures

pub returns-then-first-eq34 : goal.returns-then-first-eq34
returns-then-first-eq34 c = λ n h.
    let g = c.pieces.invariant.1 n h in
    g.same ∙ text_closes g.turns _ _ _ g.enough
    (c.in-Some.ensures ∙ ap (λ x. x ∷ chars c.in-Some.after.now) c.if-first-eq34.true)

pub returns-in_default-read_piece : goal.returns-in_default-read_piece
returns-in_default-read_piece c = λ n h.
    let g = c.pieces.invariant.1 n h in
    g.same ∙ text_fails g.turns _ _ _ _ g.enough c.in-Some.ensures c.if-first-eq34.false
    (sym c.in_default-read_piece.ensures)

pub pieces-smaller : goal.pieces-smaller
pieces-smaller c = grind (arith, plain_shorter)

pub pieces-preserved : goal.pieces-preserved
pieces-preserved c = (
  search rules,
  λ n h.
      let front = c.args.front.now in
      let text = chars c.args.text.now in
      let content = string_bytes c.pieces.content in
      let rest = chars c.pieces.rest.now in
      let after = chars c.in-Some-read_piece.after.now in
      let last = chars c.split_plain.result.1.now in
      let character = c.in-Some-read_piece.character in
      let piece = goes_on_past_piece n front text content rest
      (chars c.in-Some.after.now) c.in-Some.first character after
      (c.pieces.invariant.1 n h) c.in-Some.ensures c.if-first-eq34.false
      c.in-Some-read_piece.ensures in
      let plain = goes_on_past_plain n front text (content ++ encode_utf8 character) after last
      (chars c.split_plain.result.0.now) c.split_plain.result.0.now piece
      c.split_plain.ensures.whole c.split_plain.ensures.plain c.split_plain.ensures.bytes in
      goes_on_as n front text _ last (string_bytes c.push_str.new.self) plain
      (c.in_ok-push_str.ensures.bytes ∙ ap
      (λ q. q ++ c.split_plain.result.0.now) c.in_ok-push.ensures.bytes),
)
