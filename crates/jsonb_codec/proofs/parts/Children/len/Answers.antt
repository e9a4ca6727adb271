use Rattle.std.proofs.Common.{arith}
use Rattle.jsonb_codec.proofs.Decision.{known_children}
use Rattle.jsonb_codec.proofs.Entries.{length-Children}
use Rattle.jsonb_codec.proofs.parts.Children.len.Goals as goal

pub returns-clause-count : goal.returns-clause-count
returns-clause-count c ts h = omega (arith, length-Children ts _ _ h)

pub returns-clause-entries : goal.returns-clause-entries
returns-clause-entries c =
    let (ts, h) = known_children _ _ c.args.self.fact in
    omega (arith, length-Children ts _ _ h)
