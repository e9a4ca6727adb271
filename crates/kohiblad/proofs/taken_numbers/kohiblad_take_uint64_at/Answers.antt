use Rattle.std.proofs.Common.{ℕ, subst}
use Rattle.jsonb_typed.specs.Types.{IsUInt64}
use Rattle.jsonb_typed.specs.declared.types.UInt64.{UInt64}
use Rattle.kohiblad.specs.Located.{IsTakenAt, each_of}
use Rattle.kohiblad.specs.Taking.{AreRowsTaken, outputs}
use Rattle.kohiblad.proofs.taken_numbers.kohiblad_take_uint64_at.Goals as goal

pub returns : goal.returns
returns c =
    subst
    (λ (type : UInt64). AreRowsTaken
    (IsTakenAt {V = ℕ} (λ v t. IsUInt64 type.fit v t) 0 c.args.bytes.now)
    (each_of c.args.step c.args.places.now)
    (outputs c.args.values.now c.take_at.new.values c.args.states.now c.take_at.new.states)
    c.take_at.result)
    c.uint64.ensures (rw c.new-uint64s.ensures at c.take_at.ensures)
