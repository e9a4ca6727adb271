use Rattle.std.proofs.Common.{◌≡◌, ◌<◌, length, take, arith, flat_map, refl}
use Rattle.std.proofs.lemmas.Grind.{common_steps}
use Rattle.kohiblad_shell.specs.SortedRuns.{WritesRun}
use Rattle.kohiblad_shell.specs.Sorts.{keyed_bytes}
use Rattle.kohiblad_shell.proofs.SortLaws.{all_written, on_ok}
use Rattle.kohiblad_shell.proofs.SortedRunLaws.{written_row}
use Rattle.kohiblad_shell.proofs.sorted_run.write_run.Goals as goal

pub loop-row-preserved : goal.loop-row-preserved
loop-row-preserved g c =
    let low : c.loop-row.row-index < length c.deref-row-items.result.now = omega arith in
    written_row c.deref-row-items.result.now c.loop-row.row-index low
    (g.W.Write.contents c.args.writer.now) (g.W.Write.contents c.loop-row.writer)
    (g.W.Write.contents c.write_keyed.new.writer) c.loop-row.invariant
    c.in_ok-write_keyed.ensures.ok c.in_ok-write_keyed.ensures.key
    c.in_ok-write_keyed.ensures.line

pub returns : goal.returns
returns g c =
    let all : take c.loop-row.row-index c.deref-row-items.result.now ≡ c.in_ok-rows.rows.items =
    grind (arith, common_steps) in
    let done : WritesRun c.args.arrangement c.args.part.now (g.W.Write.contents c.args.writer.now)
    (g.W.Write.contents c.flush.new.writer) = record {
      run = flat_map keyed_bytes c.in_ok-rows.rows.items;
      is = record {
        rows = c.in_ok-rows.rows.items;
        sorted = c.in_ok-rows.ensures;
        lengths = rw all at c.loop-row.invariant.lengths;
        bytes = refl;
      };
      output = all_written _ _ _ _ (rw all at c.loop-row.invariant.output) c.flush.ensures.kept;
    } in
    on_ok _ done
