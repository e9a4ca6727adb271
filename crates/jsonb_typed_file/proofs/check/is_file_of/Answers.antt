use Rattle.std.proofs.Common.{rules, subst}
use Rattle.std.specs.Prelude.{IsTrue}
use Rattle.jsonb_typed_file.specs.Written.{ArePlanned, AreRows, IsFileOf}
use Rattle.jsonb_typed_file.proofs.WrittenLaws.{told_file}
use Rattle.jsonb_typed_file.proofs.check.is_file_of.Goals as goal

pub returns-clause-file : goal.returns-clause-file
returns-clause-file c =
    let planned : IsTrue c.are_planned.result = search rules in
    told_file c.are_rows.result (AreRows c.in-Ok.file 0 c.args.rows.now)
    (IsFileOf c.args.rows.now c.args.plans.now c.args.bytes.now)
    (λ rows. record {
      file = c.in-Ok.file;
      is = c.in-Ok.ensures.ok;
      count = search rules;
      planned = subst (λ ps. ArePlanned ps c.args.plans.now) c.buffers.ensures.columns
          (c.are_planned.ensures planned);
      each = rows;
    }) c.are_rows.ensures.rows
