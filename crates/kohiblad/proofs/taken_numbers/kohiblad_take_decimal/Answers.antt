use Rattle.std.proofs.Common.{◌≡◌, ℕ, pos, rules, subst}
use Rattle.jsonb.specs.Within.{meaning_within}
use Rattle.kohiblad.specs.Taking.{AreTaken, IsInt128, IsTakenBy, fit_of, outputs}
use Rattle.kohiblad.specs.declared.taken_values.Halves.{Halves}
use Rattle.kohiblad.specs.declared.taking.Reading.TheVariants.{Checked}
use Rattle.kohiblad.proofs.taken_numbers.kohiblad_take_decimal.Goals as goal

pub returns-clause-taken : goal.returns-clause-taken
returns-clause-taken c = λ small.
    let scale : c.in-Ok.scale ≡ c.args.scale = search rules in
    let of_type = subst
    (λ (type : Halves). AreTaken
    (IsTakenBy (IsInt128 type.decimal.fit type.decimal.scale) (record { low = 0; high = pos 0 })
    (Checked c.args.depth)) c.args.bytes.now c.args.offsets.now
    (meaning_within c.args.depth c.args.path.now)
    (outputs c.args.values.now c.take.new.values c.args.states.now c.take.new.states)
    c.take.result)
    c.decimal.ensures (rw c.checked-decimals.ensures at c.take.ensures) in
    subst
    (λ (scale : ℕ). AreTaken
    (IsTakenBy (IsInt128 (fit_of c.args.fit) scale) (record { low = 0; high = pos 0 })
    (Checked c.args.depth)) c.args.bytes.now c.args.offsets.now
    (meaning_within c.args.depth c.args.path.now)
    (outputs c.args.values.now c.take.new.values c.args.states.now c.take.new.states)
    c.take.result)
    scale of_type
