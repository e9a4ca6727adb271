use Rattle.std.proofs.Common.{arith, ◌∙◌}
use Rattle.std.proofs.lemmas.Grind.{common_steps}
use Rattle.kohiblad_shell.proofs.input.read_line.Goals as goal
use Rattle.kohiblad_shell.proofs.InputLaws.{nothing_held, reads_line_later}

pub returns-in-Ok : goal.returns-in-Ok
returns-in-Ok g c =
    let held = nothing_held _ _ _ _ c.in_ok-append_held_line.field-0 c.if-branch.false
    c.in_ok-append_held_line.ensures.ok in
    record {
      ok = reads_line_later (g.R.Read.remaining c.args.reader.now)
          (g.R.Read.remaining c.append_held_line.new.reader)
          (g.R.Read.remaining c.read_until.new.self)
          c.read_until.new.buf.items c.drop_line_feed.new.line.items held.1
          (rw (held.0 ∙ c.clear.ensures.items) at c.in-Ok.ensures.bytes) c.in-Ok.ensures.rest
          (grind (arith, common_steps)) c.drop_line_feed.ensures;
    }
