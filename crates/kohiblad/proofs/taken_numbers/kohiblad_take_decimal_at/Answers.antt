use Rattle.std.proofs.Common.{◌≡◌, ℕ, pos, rules, subst}
use Rattle.kohiblad.specs.Located.{IsTakenAt, each_of}
use Rattle.kohiblad.specs.Taking.{AreRowsTaken, IsInt128, fit_of, outputs}
use Rattle.kohiblad.specs.declared.taken_values.Halves.{Halves}
use Rattle.kohiblad.proofs.taken_numbers.kohiblad_take_decimal_at.Goals as goal

pub returns-clause-taken : goal.returns-clause-taken
returns-clause-taken c = λ small.
    let scale : c.in-Ok.scale ≡ c.args.scale = search rules in
    let of_type = subst
    (λ (type : Halves). AreRowsTaken
    (IsTakenAt (IsInt128 type.decimal.fit type.decimal.scale) (record { low = 0; high = pos 0 })
    c.args.bytes.now)
    (each_of c.args.step c.args.places.now)
    (outputs c.args.values.now c.take_at.new.values c.args.states.now c.take_at.new.states)
    c.take_at.result)
    c.decimal.ensures (rw c.new-decimals.ensures at c.take_at.ensures) in
    subst
    (λ (scale : ℕ). AreRowsTaken
    (IsTakenAt (IsInt128 (fit_of c.args.fit) scale) (record { low = 0; high = pos 0 }) c.args.bytes.now)
    (each_of c.args.step c.args.places.now)
    (outputs c.args.values.now c.take_at.new.values c.args.states.now c.take_at.new.states)
    c.take_at.result)
    scale of_type
