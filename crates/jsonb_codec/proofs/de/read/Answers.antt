use Rattle.std.proofs.Common.{inr, subst}
use Rattle.jsonb_value.specs.declared.error.Error.TheVariants.{OutOfMemory}
use Rattle.jsonb_codec.specs.Parts.{IsFaultOf}
use Rattle.jsonb_codec.specs.declared.document.fault.FaultTable.{FaultTable}
use Rattle.jsonb_codec.proofs.Building.{the_tree}
use Rattle.jsonb_codec.proofs.Steps.{document_within_length}
use Rattle.jsonb_codec.proofs.de.read.Goals as goal

no_memory : (faults : FaultTable) → IsFaultOf faults OutOfMemory → ⊥
no_memory FaultTable.Tree h = h
no_memory FaultTable.Decoder h = h

pub returns-in-Err-clause-fault : goal.returns-in-Err-clause-fault
returns-in-Err-clause-fault c = inr (
  c.error_of.ensures,
  λ h. c.in-Err.ensures.decided ((document_within_length _).1 h),
)

pub returns-in-Err-clause-memory : goal.returns-in-Err-clause-memory
returns-in-Err-clause-memory c = λ same.
    absurd (no_memory c.args.faults (subst (IsFaultOf c.args.faults) same c.error_of.ensures))

pub returns-in-Ok-clause-ok : goal.returns-in-Ok-clause-ok
returns-in-Ok-clause-ok c =
    let b = c.args.bytes.now in
    the_tree _ b _ c.in-Ok.ensures.bytes
    ((document_within_length b).0 c.in-Ok.ensures.decided) c.value_of_document.ensures.ok
