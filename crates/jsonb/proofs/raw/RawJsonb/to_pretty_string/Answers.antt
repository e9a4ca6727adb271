use Rattle.jsonb_value.specs.Text.{on_lines}
use Rattle.jsonb_codec.proofs.RereadLaws.{reread_text}
use Rattle.jsonb.specs.Raw.{raw_bytes}
use Rattle.jsonb.proofs.TextLaws.{pretty_display_text-Doc, pretty_display_text-other}
use Rattle.jsonb.proofs.TextLaws.{string_written, prints_as}
use Rattle.jsonb.proofs.raw.RawJsonb.to_pretty_string.Goals as goal

pub returns-clause-display : goal.returns-clause-display
returns-clause-display c =
    prints_as _ _ _
    (string_written c.new.result _ _ _ _ _
    (c.write_pretty-answer.ensures.text c.new-f.ensures.plain.flush) c.new.ensures
    c.new-f.ensures.writer c.finish_text.ensures.ok c.finish_text.ensures.text)
    (cc c.as_bytes.ensures)

pub returns-clause-document : goal.returns-clause-document
returns-clause-document c t doc = prints_as _ _ _ (returns-clause-display c)
    (pretty_display_text-Doc (raw_bytes c.args.self.now) t doc)

pub returns-clause-other : goal.returns-clause-other
returns-clause-other c none = prints_as _ _ _ (returns-clause-display c)
    (pretty_display_text-other (raw_bytes c.args.self.now) none)

pub returns-clause-read_again : goal.returns-clause-read_again
returns-clause-read_again c t doc plain fits =
    reread_text (on_lines 0) t
    (c.write_pretty-answer.ensures.tree t (rw (← c.as_bytes.ensures) at doc)) plain fits
