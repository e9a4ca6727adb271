use Rattle.jsonb.proofs.TextLaws.{string_written}
use Rattle.jsonb.proofs.text.document_text.Goals as goal

pub returns-clause-text : goal.returns-clause-text
returns-clause-text c =
    string_written c.in_ok-text.text _ _ _ _ _
    (c.write_document-answer.ensures c.new-f.ensures.plain.flush) c.in_ok-text.ensures
    c.new-f.ensures.writer c.finish_text.ensures.ok c.finish_text.ensures.text
