use Rattle.std.proofs.Common.{◌<◌, ◌^◌, subst}
use Rattle.typed_chunk.specs.Packed.{bits}
use Rattle.typed_chunk.proofs.HeadedLaws.{fit_greatest}
use Rattle.typed_chunk.proofs.headed.width_of.Goals as goal

pub returns-clause-fit : goal.returns-clause-fit
returns-clause-fit c =
    fit_greatest (bits c.of.result) c.args.codes.now
    (subst (λ n. n < 2 ^ bits c.of.result) c.greatest.ensures c.of.ensures.fits)
