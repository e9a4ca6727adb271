use Rattle.std.proofs.Common.{◌≡◌, ◌∷◌, ◌∙◌, Err, List, ap, ap₂, arith, drop, get_or, refl, rules}
use Rattle.std.proofs.Common.{sym, ℕ}
use Rattle.std.proofs.lemmas.Bool.{false≢true}
use Rattle.typed_chunk.proofs.BooleanReadLaws.{fault_kind, fault_some}
use Rattle.typed_chunk.proofs.boolean_reading.read_kind.Goals as goal

pub returns-in_err-read_numbers-clause-fault : goal.returns-in_err-read_numbers-clause-fault
returns-in_err-read_numbers-clause-fault c =
    let handed : c.from_residual.result ≡ Err c.in_err-read_numbers.field-0.0 = search rules in
    rw handed (c.in_err-read_numbers.ensures.fault
    ∙ sym (fault_some c.args.has.now c.args.kind c.args.bytes.now c.requires.some (omega arith)))

pub returns-in_err-read_numbers-clause-back : goal.returns-in_err-read_numbers-clause-back
returns-in_err-read_numbers-clause-back c = λ items many is.
    absurd (false≢true (c.in_err-read_numbers.ensures.back items many (ap (drop 1) is)).0)

pub returns-then-kind-eq0-clause-fault : goal.returns-then-kind-eq0-clause-fault
returns-then-kind-eq0-clause-fault c =
    c.in_ok-read_numbers.ensures.fault
    ∙ sym (fault_some c.args.has.now c.args.kind c.args.bytes.now c.requires.some (omega arith))

pub returns-then-kind-eq0-clause-ok : goal.returns-then-kind-eq0-clause-ok
returns-then-kind-eq0-clause-ok c =
    let is : c.args.kind ≡ 0 = omega arith in
    ap₂ (λ (n : ℕ) (ns : List ℕ). n ∷ ns) is c.in_ok-read_numbers.ensures.ok

pub returns-then-kind-eq0-clause-back : goal.returns-then-kind-eq0-clause-back
returns-then-kind-eq0-clause-back c = λ items many is.
    (refl, (c.in_ok-read_numbers.ensures.back items many (ap (drop 1) is)).1)

pub returns-clause-fault : goal.returns-clause-fault
returns-clause-fault c =
    sym (fault_kind c.args.has.now c.args.kind c.args.bytes.now c.requires.some
    c.if-kind-eq0.false)

pub returns-clause-back : goal.returns-clause-back
returns-clause-back c = λ items many is.
    absurd (c.if-kind-eq0.false (ap (λ (ns : List ℕ). get_or ns 0 0) is))
