use Rattle.kohiblad_shell.proofs.MemberLaws.{missing_given, scalar_given}
use Rattle.kohiblad_shell.proofs.member.member_line.Goals as goal

pub returns-in-Ok-Scalar : goal.returns-in-Ok-Scalar
returns-in-Ok-Scalar c =
    scalar_given c.args.reading c.args.path.now c.args.style c.args.line.now c.in-Some.key.now
    c.in-Ok.text.now c.in-Ok.ensures.cases.0 c.in-Ok.ensures.cases.1 c.in-Some.ensures
    c.scalar_line.result c.in-Ok-Scalar.value
    (rw (← c.in-Ok-Scalar.field-0-is) c.in-Ok-Scalar.ensures.ok) c.scalar_line.ensures

pub returns-in-Ok-Missing : goal.returns-in-Ok-Missing
returns-in-Ok-Missing c =
    λ lines is. missing_given c.args.reading c.args.path.now c.args.style c.args.line.now
    c.in-Some.key.now c.in-Ok.text.now c.in-Ok.ensures.cases.0 c.in-Ok.ensures.cases.1
    c.in-Some.ensures c.new.result lines is c.new.ensures.items
    (rw (← c.in-Ok-Missing.field-0-is) c.in-Ok-Missing.ensures.ok)
