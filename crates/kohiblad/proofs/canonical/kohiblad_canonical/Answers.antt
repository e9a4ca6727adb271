use Rattle.std.proofs.Common.{inr, refl}
use Rattle.kohiblad.proofs.ResultLaws.{rewritten}
use Rattle.kohiblad.proofs.canonical.kohiblad_canonical.Goals as goal

pub returns : goal.returns
returns c =
    let within = c.in-Some.ensures.exact.0 refl in
    inr (
      within,
      (
        _,
        (
          rewritten _ c.in-Some.document c.in-Some.ensures.bytes
              c.to_canonical.result c.to_canonical.ensures.ok c.to_canonical.ensures.limits,
          c.hand_over_made.ensures,
        ),
      ),
    )
