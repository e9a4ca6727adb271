use Rattle.std.proofs.Common.{◌<◌, ◌^◌, ◌∙◌, length, arith, refl, length-append}
use Rattle.kohiblad.proofs.CutLaws.{cut_on}
use Rattle.kohiblad.proofs.key_sink.KeyWriterSink.append.Goals as goal

pub returns : goal.returns
returns c =
    let writer = c.args.self.now in
    let bytes = c.args.bytes.now in
    let short : length writer.out.now < 2 ^ 64 = omega arith in
    record {
      same_buffer = refl;
      written = λ key before holds.
          record {
            out = c.copy_at.ensures ∙ cut_on key bytes before writer.out.now c.min-start.result
                writer.len short holds.out holds.len c.min-start.ensures;
            len = omega (arith, holds.len, c.saturating_add-self.ensures, length-append key bytes);
          };
    }
