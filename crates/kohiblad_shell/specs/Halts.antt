-- Why a run ended early, and the status of the program.
use Rattle.std.specs.Prelude.{◌≡◌, ◌⊎◌, ◌==◌, ◌||◌, ℕ, false, true, List, codes, Result, Ok}
use Rattle.std.specs.Prelude.{◌+◌, ◌-◌, ◌^◌, Err, if◌then◌else◌, min}
use Rattle.std.specs.declared.io.ErrorKind.{ErrorKind}
use Rattle.std.specs.declared.io.ErrorKind.TheVariants.{BrokenPipe, OutOfMemory}
use Rattle.array_items.specs.declared.held.ReadFault.{ReadFault}
use Rattle.array_items.specs.declared.held.ReadFault.TheVariants as faults
use Rattle.kohiblad_shell.specs.declared.halt.Halt.{Halt}
use Rattle.kohiblad_shell.specs.declared.halt.Halt.TheVariants.{Read, Write, Closed, Memory}
use Rattle.kohiblad_shell.specs.declared.run.Summary.{Summary}
use Rattle.kohiblad_shell.specs.declared.status.Aim.{Aim}
use Rattle.kohiblad_shell.specs.declared.status.Aim.TheVariants.{Rows, Faults}

-- What failed.
abbrev pub halt_reason : Halt → List ℕ
halt_reason Read = codes "read failed"
halt_reason Write = codes "write failed"
halt_reason Closed = codes "output closed"
halt_reason Memory = codes "out of memory"

-- The halt after an error of a reader of this kind.
abbrev pub halt_of_read : ErrorKind → Halt
halt_of_read OutOfMemory = Memory
halt_of_read kind = Read

-- The halt where bytes could not be read.
abbrev pub halt_of_fault : ReadFault → Halt
halt_of_fault faults.Reader = Read
halt_of_fault faults.Memory = Memory

-- The halt after an error of a writer of this kind.
abbrev pub halt_of_write : ErrorKind → Halt
halt_of_write BrokenPipe = Closed
halt_of_write kind = Write

-- The halt is one of a writer.
abbrev pub IsWriteHalt : Halt → Type 0
IsWriteHalt halt = (halt ≡ Write) ⊎ (halt ≡ Closed)

-- The status after a halt: 3, or, where nobody reads the output, 141, which is what a shell says of
-- a program that the signal of a closed pipe ended.
abbrev pub halt_status : Halt → ℕ
halt_status Closed = 141
halt_status halt = 3

-- The counts of two runs, up to the greatest, whether one of them ended at a fault, and whether one
-- lacks an input.
abbrev pub both : Summary → Summary → Summary
both first second = record {
  rows = min (first.rows + second.rows) (2 ^ 64 - 1);
  faults = min (first.faults + second.faults) (2 ^ 64 - 1);
  is_stopped = first.is_stopped || second.is_stopped;
  lacks_input = first.lacks_input || second.lacks_input;
}

-- The counts of a run that ended at its first row, which was wrong.
abbrev pub stopped_at_start : Summary
stopped_at_start = record { rows = 0; faults = 1; is_stopped = true; lacks_input = false }

-- The counts of a run whose rows are the reports of faults: the faults do not count against it.
abbrev pub of_reports : Summary → Summary
of_reports summary = record {
  rows = summary.faults;
  faults = 0;
  is_stopped = false;
  lacks_input = summary.lacks_input;
}

-- The status of a run that read all inputs: one that searched for rows, or for faults.
abbrev pub whole_status : Aim → Summary → ℕ
whole_status Rows summary = if summary.rows == 0 || summary.is_stopped then 1 else 0
whole_status Faults summary = if summary.faults == 0 then 0 else 1

-- The status of a run that came to an end: 3 if it lacks an input.
abbrev pub summary_status : Aim → Summary → ℕ
summary_status aim summary = if summary.lacks_input then 3 else whole_status aim summary

-- The status of the program after a run.
abbrev pub run_status : Aim → Result Summary Halt → ℕ
run_status aim (Ok summary) = summary_status aim summary
run_status aim (Err halt) = halt_status halt
