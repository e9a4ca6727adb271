-- Why a run of the program ends early, and the line that reports it.
use Rattle.std.specs.Prelude.{ℕ, List, codes}
use Rattle.answer_lines.specs.declared.run.RunError as loop
use Rattle.answer_lines.specs.declared.run.RunError.TheVariants as loop_errors
use Rattle.jsonb_cli.specs.declared.run.RunError.{RunError}
use Rattle.jsonb_cli.specs.declared.run.RunError.TheVariants.{Read, Write, Memory}

-- The program's error for an error of the loop over its lines.
abbrev pub error_of : loop.RunError → RunError
error_of loop_errors.Read = Read
error_of loop_errors.Write = Write
error_of loop_errors.Memory = Memory

-- The line that the program writes on standard error.
abbrev pub fault_line : RunError → List ℕ
fault_line Read = codes "jsonb_cli: read failed"
fault_line Write = codes "jsonb_cli: write failed"
fault_line Memory = codes "jsonb_cli: out of memory"
