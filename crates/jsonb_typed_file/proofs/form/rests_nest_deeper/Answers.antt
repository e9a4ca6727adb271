use Rattle.jsonb_codec.specs.Depth.{IsDocumentWithin}
use Rattle.jsonb_typed_file.specs.File.{IsRestAt}
use Rattle.jsonb_typed_file.specs.Values.{string_at}
use Rattle.jsonb_typed_file.proofs.FormLaws.{below_more}
use Rattle.jsonb_typed_file.proofs.form.rests_nest_deeper.Goals as goal

pub loop-index-preserved : goal.loop-index-preserved
loop-index-preserved c =
    let offsets = c.args.rests.offsets.now in let documents = c.args.rests.bytes.now in
    let within = rw c.if-nests_deeper_at.false at c.nests_deeper_at.ensures.within in
    below_more (λ i. IsRestAt offsets documents i
    → IsDocumentWithin c.args.depth (string_at offsets documents i)) c.loop-index.index
    c.loop-index.invariant within
