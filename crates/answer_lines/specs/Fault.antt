-- Why a run ended early, in words.
use Rattle.std.specs.Prelude.{ℕ, List, codes}
use Rattle.answer_lines.specs.declared.run.RunError.{RunError}
use Rattle.answer_lines.specs.declared.run.RunError.TheVariants.{Read, Write, Memory}

-- What failed.
abbrev pub reason_of : RunError → List ℕ
reason_of Read = codes "read failed"
reason_of Write = codes "write failed"
reason_of Memory = codes "out of memory"
