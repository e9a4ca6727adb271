use Rattle.jsonb.proofs.TextLaws.{string_written}
use Rattle.jsonb.proofs.text.node_text.Goals as goal

pub returns-clause-text : goal.returns-clause-text
returns-clause-text c =
    string_written c.new.result _ _ _ _ _
    (c.write_value-answer.ensures c.new-f.ensures.plain.flush) c.new.ensures
    c.new-f.ensures.writer c.finish_text.ensures.ok c.finish_text.ensures.text
