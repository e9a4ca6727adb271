use Rattle.std.proofs.Common.{ℕ, List, inr, subst}
use Rattle.kohiblad.specs.PathCalls.{IsPathTextRead}
use Rattle.kohiblad.proofs.paths.kohiblad_path_of_text.Goals as goal

pub returns-in-Ok : goal.returns-in-Ok
returns-in-Ok c =
    let text = c.in-Ok.ensures in
    let call = c.write_path in
    inr (
      text.1,
      subst
          (λ (t : List ℕ). IsPathTextRead t c.args.out.now call.new.out call.new.length call.result)
          text.0
          call.ensures,
    )
