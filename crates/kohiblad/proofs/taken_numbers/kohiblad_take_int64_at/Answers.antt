use Rattle.std.proofs.Common.{pos, ℤ, subst}
use Rattle.jsonb_typed.specs.Types.{IsInt64}
use Rattle.jsonb_typed.specs.declared.types.Int64.{Int64}
use Rattle.kohiblad.specs.Located.{IsTakenAt, each_of}
use Rattle.kohiblad.specs.Taking.{AreRowsTaken, outputs}
use Rattle.kohiblad.proofs.taken_numbers.kohiblad_take_int64_at.Goals as goal

pub returns : goal.returns
returns c =
    subst
    (λ (type : Int64). AreRowsTaken
    (IsTakenAt {V = ℤ} (λ v t. IsInt64 type.fit v t) (pos 0) c.args.bytes.now)
    (each_of c.args.step c.args.places.now)
    (outputs c.args.values.now c.take_at.new.values c.args.states.now c.take_at.new.states)
    c.take_at.result)
    c.int64.ensures (rw c.new-int64s.ensures at c.take_at.ensures)
