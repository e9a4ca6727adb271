use Rattle.std.proofs.Common.{pos, ℤ, subst}
use Rattle.jsonb.specs.Within.{meaning_within}
use Rattle.jsonb_typed.specs.Types.{IsInt64}
use Rattle.jsonb_typed.specs.declared.types.Int64.{Int64}
use Rattle.kohiblad.specs.Taking.{AreTaken, IsTakenBy, outputs}
use Rattle.kohiblad.specs.declared.taking.Reading.TheVariants.{Unchecked}
use Rattle.kohiblad.proofs.taken_numbers.kohiblad_take_int64_unchecked.Goals as goal

pub returns : goal.returns
returns c =
    subst
    (λ (type : Int64). AreTaken {V = ℤ}
    (IsTakenBy (λ v t. IsInt64 type.fit v t) (pos 0) Unchecked) c.args.bytes.now
    c.args.offsets.now (meaning_within c.args.depth c.args.path.now)
    (outputs c.args.values.now c.take.new.values c.args.states.now c.take.new.states)
    c.take.result)
    c.int64.ensures (rw c.unchecked-int64s.ensures at c.take.ensures)
