-- The names that the clauses of this crate cite, passed on from one place.
pub use Rattle.std.specs.Io.{ReadsAtMost}
pub use Rattle.std.specs.Io.KnownBytes.{Appends, IsAtEnd, ReadConsumes}
pub use Rattle.answer_lines.specs.Arguments.{request_in}
pub use Rattle.answer_lines.specs.Fault.{reason_of}
pub use Rattle.answer_lines.specs.Lines.{IsLine}
pub use Rattle.answer_lines.specs.Output.{AppendsAllBut, AppendsPrefix}
pub use Rattle.answer_lines.specs.Session.{AppendsBeginning, AppendsReplies, AppendsWhole, IsPrompt}
pub use Rattle.answer_lines.specs.Session.{IsReply}
pub use Rattle.answer_lines.specs.declared.run.RunError.TheVariants.{Memory}
