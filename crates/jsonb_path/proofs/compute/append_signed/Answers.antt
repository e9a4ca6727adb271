use Rattle.jsonb_path.specs.declared.path.PathError.TheVariants.{NumberNotFound}
use Rattle.jsonb_path.specs.Meaning.{calculated, of_number, signed_as}
use Rattle.jsonb_path.proofs.FoundLaws.{slice_on}
use Rattle.jsonb_path.proofs.compute.append_signed.Goals as goal

pub loop-left-preserved : goal.loop-left-preserved
loop-left-preserved c =
    slice_on (of_number NumberNotFound (λ x. calculated (signed_as c.args.sign x)))
    c.loop-left.left.now c.value-item.result c.in-len1-up.len_at_least c.value-item.is
    c.loop-left.found.items c.append_one_signed.new.found.items c.in_ok-append_one_signed.field-0 _
    c.loop-left.invariant c.in_ok-append_one_signed.ensures
