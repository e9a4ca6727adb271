use Rattle.std.proofs.Common.{rules, refl, arith}
use Rattle.std.specs.Prelude.{IsTrue}
use Rattle.jsonb_typed_file.specs.File.{IsRestAt}
use Rattle.jsonb_typed_file.proofs.FormLaws.{below_more}
use Rattle.jsonb_typed_file.proofs.form.are_documents.Goals as goal

pub loop-index-preserved : goal.loop-index-preserved
loop-index-preserved c =
    let held : IsTrue c.is_rest.result = search rules in
    below_more (IsRestAt c.args.rests.offsets.now c.args.rests.bytes.now) c.loop-index.index
    c.loop-index.invariant (c.is_rest.ensures.0 held)

pub returns : goal.returns
returns c = (
  λ told index low. c.loop-index.invariant index (omega (arith, low, c.loop-index-test.false)),
  λ all. refl,
)
