use Rattle.std.proofs.Common.{ℕ, List, inr, subst}
use Rattle.jsonb.specs.Within.{meaning_within}
use Rattle.kohiblad.specs.NamedPaths.{IsPathOf}
use Rattle.kohiblad.proofs.named_paths.kohiblad_path_in.Goals as goal

pub returns-in-Ok : goal.returns-in-Ok
returns-in-Ok c =
    let text = c.in-Ok.ensures in
    let call = c.write_path_within in
    inr (
      text.1,
      subst
          (λ (t : List ℕ). IsPathOf (meaning_within c.args.depth c.args.bytes.now) t c.args.out.now
          call.new.out call.new.length call.result)
          text.0
          call.ensures,
    )
