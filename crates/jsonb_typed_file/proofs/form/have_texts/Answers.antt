use Rattle.std.proofs.Common.{rules}
use Rattle.std.specs.Prelude.{IsTrue}
use Rattle.jsonb_typed_file.proofs.FormLaws.{rows_later, texts_later}
use Rattle.jsonb_typed_file.proofs.form.have_texts.Goals as goal

pub loop-left-preserved : goal.loop-left-preserved
loop-left-preserved c =
    let held : IsTrue c.are_texts.result = search rules in
    record {
      size = rows_later c.args.rows c.loop-left.left.now c.loop-left.invariant.size;
      texts = texts_later c.args.rows c.loop-left.left.now _ _ c.in-len1-up.len_at_least
          c.loop-left.invariant.texts (c.are_texts.ensures.0 held);
    }
