use Rattle.std.proofs.Common.{ℕ, subst}
use Rattle.jsonb.specs.Within.{meaning_within}
use Rattle.jsonb_typed.specs.Types.{IsUInt64}
use Rattle.jsonb_typed.specs.declared.types.UInt64.{UInt64}
use Rattle.kohiblad.specs.Taking.{AreTaken, IsTakenBy, outputs}
use Rattle.kohiblad.specs.declared.taking.Reading.TheVariants.{Unchecked}
use Rattle.kohiblad.proofs.taken_numbers.kohiblad_take_uint64_unchecked.Goals as goal

pub returns : goal.returns
returns c =
    subst
    (λ (type : UInt64). AreTaken {V = ℕ}
    (IsTakenBy (λ v t. IsUInt64 type.fit v t) 0 Unchecked) c.args.bytes.now
    c.args.offsets.now (meaning_within c.args.depth c.args.path.now)
    (outputs c.args.values.now c.take.new.values c.args.states.now c.take.new.states)
    c.take.result)
    c.uint64.ensures (rw c.unchecked-uint64s.ensures at c.take.ensures)
