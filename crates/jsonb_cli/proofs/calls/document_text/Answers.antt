use Rattle.jsonb_value.specs.Text.{compact}
use Rattle.jsonb.proofs.DocumentLaws.{tree_of_bytes}
use Rattle.jsonb_cli.proofs.Answering.{text_of_tree}
use Rattle.jsonb_cli.proofs.calls.document_text.Goals as goal

pub returns-clause-ok : goal.returns-clause-ok
returns-clause-ok c =
    text_of_tree _ compact _ _
    (tree_of_bytes _ c.in_ok-document_in.field-0 c.in_ok-document_in.ensures.ok)
    c.to_string.ensures.text
