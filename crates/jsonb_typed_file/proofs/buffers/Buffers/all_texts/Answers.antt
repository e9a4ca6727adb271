use Rattle.std.proofs.Common.{rules, refl, arith}
use Rattle.std.specs.Prelude.{IsTrue}
use Rattle.jsonb_typed_file.specs.Values.{IsTextOfRow}
use Rattle.jsonb_typed_file.proofs.FormLaws.{below_more}
use Rattle.jsonb_typed_file.proofs.buffers.Buffers.all_texts.Goals as goal

pub loop-index-preserved : goal.loop-index-preserved
loop-index-preserved c =
    let held : IsTrue c.is_text.result = search rules in
    below_more (IsTextOfRow c.args.self.now.column_type c.args.self.now.numbers.now
    c.args.self.now.texts.now) c.loop-index.index c.loop-index.invariant (c.is_text.ensures.0 held)

pub returns : goal.returns
returns c = (
  λ told index low. c.loop-index.invariant index (omega (arith, low, c.loop-index-test.false)),
  λ all. refl,
)
