use Rattle.jsonb_value.specs.Text.{in_one_line}
use Rattle.jsonb_codec.proofs.RereadLaws.{reread_text}
use Rattle.jsonb.specs.Raw.{raw_bytes}
use Rattle.jsonb.proofs.TextLaws.{display_text-Doc, display_text-other, string_written, prints_as}
use Rattle.jsonb.proofs.TextLaws.{other_text-short, short_text}
use Rattle.jsonb.proofs.raw.RawJsonb.to_string.Goals as goal

pub returns-clause-display : goal.returns-clause-display
returns-clause-display c =
    prints_as _ _ _
    (string_written c.in_ok-text.text _ _ _ _ _
    (c.write_view-answer.ensures.text c.new-f.ensures.plain.flush) c.in_ok-text.ensures.empty
    c.new-f.ensures.writer c.finish_text.ensures.ok c.finish_text.ensures.text)
    (cc c.as_bytes-bytes.ensures)

pub returns-clause-document : goal.returns-clause-document
returns-clause-document c t doc =
    prints_as _ _ _ (returns-clause-display c) (display_text-Doc (raw_bytes c.args.self.now) t doc)

pub returns-clause-other : goal.returns-clause-other
returns-clause-other c none =
    prints_as _ _ _ (returns-clause-display c) (display_text-other (raw_bytes c.args.self.now) none)

-- The text can be read again, also where memory is refused.
pub returns-in_err-text-clause-read_again : goal.returns-in_err-text-clause-read_again
returns-in_err-text-clause-read_again c t doc plain fits =
    reread_text in_one_line t
    (c.text_for.ensures.tree t (rw (← c.as_bytes-bytes.ensures) at doc)) plain fits

pub returns-clause-read_again : goal.returns-clause-read_again
returns-clause-read_again c t doc plain fits =
    reread_text in_one_line t
    (c.text_for.ensures.tree t (rw (← c.as_bytes-bytes.ensures) at doc)) plain fits

pub returns-clause-short_text : goal.returns-clause-short_text
returns-clause-short_text c utf8 zeros some short =
    let b = raw_bytes c.args.self.now in
    prints_as _ _ _ (returns-clause-other c (short_text b zeros short))
    (other_text-short b utf8 some)
