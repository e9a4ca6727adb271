use Rattle.std.proofs.Common.{rules, Ok, Err}
use Rattle.kohiblad.proofs.typed_files.kohiblad_check_typed_file.Goals as goal

pub returns-in-Ok : goal.returns-in-Ok
returns-in-Ok c = (
  Ok c.in-Ok.file,
  (
    record {
      file = c.in-Ok.ensures.ok;
      memory = c.in-Ok.ensures.memory;
      layout = c.in-Ok.ensures.layout;
      form = c.in-Ok.ensures.form;
      deep = c.in-Ok.ensures.deep;
      refused = c.in-Ok.ensures.refused;
    },
    search rules,
  ),
)

pub returns-in-Err : goal.returns-in-Err
returns-in-Err c = (
  Err c.in-Err.error,
  (
    record {
      file = tt;
      memory = c.in-Err.ensures.memory;
      layout = c.in-Err.ensures.layout;
      form = c.in-Err.ensures.form;
      deep = c.in-Err.ensures.deep;
      refused = c.in-Err.ensures.refused;
    },
    search rules,
  ),
)
