use Rattle.std.proofs.Common.{Ok, ap, ◌∙◌}
use Rattle.jsonb_codec.specs.WordBytes.{header_at}
use Rattle.jsonb.specs.Document.{document_tree}
use Rattle.jsonb.proofs.NodeLaws.{header_known}
use Rattle.jsonb.proofs.document.Document.header.Goals as goal

pub returns-clause-value : goal.returns-clause-value
returns-clause-value c =
    ap (λ header. Ok header) c.unwrap_or.ensures
    ∙ header_known _ (document_tree c.args.self.now) c.read_header.result _
    c.as_bytes.ensures.document c.read_header.ensures
    ∙ ap (λ b. header_at b 0) c.as_bytes.ensures.bytes
