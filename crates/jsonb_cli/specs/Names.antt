-- The names that the clauses of this crate cite, passed on from one place.
pub use Rattle.hex.specs.Hex.{encode_lower}
pub use Rattle.std.specs.Io.KnownBytes.{IsAtEnd}
pub use Rattle.jsonb_value.specs.Text.{compact, pretty}
pub use Rattle.jsonb_value.specs.Tree.{Tree}
pub use Rattle.jsonb_value.specs.declared.error.Error.TheVariants.{OutOfMemory}
pub use Rattle.jsonb_codec.specs.Depth.{IsDocumentWithin}
pub use Rattle.jsonb_codec.specs.Doc.{Doc, IsDocument}
pub use Rattle.jsonb.specs.Code.{CanBeStored, item_document}
pub use Rattle.jsonb.specs.Document.{document_bytes}
pub use Rattle.jsonb.specs.ItemView.{owned}
pub use Rattle.jsonb.specs.Node.{node_view}
pub use Rattle.answer_lines.specs.Session.{AppendsBeginning, AppendsReplies, AppendsWhole}
pub use Rattle.answer_lines.specs.Session.{AreAnswers}
pub use Rattle.jsonb_cli.specs.AnswerLine.{answer_words, ok_line, outcome_line, refusal_name}
pub use Rattle.jsonb_cli.specs.Answers.{IsAnswer, IsAnswerOrRefusal, IsArrAnswer, IsCanonAnswer}
pub use Rattle.jsonb_cli.specs.Answers.{IsCmpAnswer, IsDecAnswer, IsEncAnswer, IsFormAnswer}
pub use Rattle.jsonb_cli.specs.Answers.{IsExactReply, IsGetAnswer, IsHexOf, IsPrettyAnswer}
pub use Rattle.jsonb_cli.specs.Answers.{OneAnswer}
pub use Rattle.jsonb_cli.specs.Answers.{IsTypeAnswer, commands, kind_words, line_rule, order_words}
pub use Rattle.jsonb_cli.specs.Commands.{Form, IsOfForm}
pub use Rattle.jsonb_cli.specs.Fault.{error_of, fault_line}
pub use Rattle.jsonb_cli.specs.Grammar.{form_of}
pub use Rattle.jsonb_cli.specs.declared.answer.Refusal.TheVariants.{Call}
