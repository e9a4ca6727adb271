use Rattle.std.proofs.Common.{◌≡◌, ◌∙◌, ◌<◌, ◌∷◌, Err, List, ap₂, arith, length, refl, rules}
use Rattle.std.proofs.Common.{sym}
use Rattle.std.proofs.Common.{ℕ, ℤ, true}
use Rattle.std.proofs.lemmas.Bool.{false≢true}
use Rattle.typed_chunk.specs.Flags.{all_have}
use Rattle.typed_chunk.proofs.NumberReadLaws.{all_filled, from_kind_0, from_kind_1, kind_0}
use Rattle.typed_chunk.proofs.NumberReadLaws.{kind_fault_0}
use Rattle.typed_chunk.proofs.NumberReadLaws.{risen}
use Rattle.typed_chunk.proofs.number_reading.read_kind.Goals as goal
use Rattle.typed_chunk.specs.NumberReading.{IsPacked}
use Rattle.typed_chunk.specs.NumberChunk.{filled, number_kind}
use Rattle.std.specs.Prelude.{Bool}

packed : (has : List Bool) (items : List ℤ) (kind : ℕ) (bytes : List ℕ) → 0 < length has
    → length items ≡ length has → kind ≡ 0 → items ≡ filled items has
    → kind ∷ bytes ≡ number_kind (all_have has) items → IsPacked has items bytes
packed has items kind bytes some many none is same =
    let parts = from_kind_0 (all_have has) items kind bytes none same in
    record {
      bytes_of = record { some = omega (arith, some, many); same = parts.1 };
      unset = is;
      shortest = parts.0;
    }

pub returns-in_err-read_packed-clause-fault : goal.returns-in_err-read_packed-clause-fault
returns-in_err-read_packed-clause-fault c =
    let handed : c.from_residual.result ≡ Err c.in_err-read_packed.field-0.0 = search rules in
    rw handed (c.in_err-read_packed.ensures.fault
    ∙ sym (kind_fault_0 c.args.has.now c.args.kind c.args.bytes.now (omega arith)))

pub returns-in_err-read_packed-clause-back : goal.returns-in_err-read_packed-clause-back
returns-in_err-read_packed-clause-back c = λ items many fit is same.
    absurd (false≢true (c.in_err-read_packed.ensures.back items many fit
    (packed c.args.has.now items c.args.kind c.args.bytes.now c.requires.some many (omega arith) is
    same)).0)

pub returns-then-kind-eq0-clause-fault : goal.returns-then-kind-eq0-clause-fault
returns-then-kind-eq0-clause-fault c =
    c.in_ok-read_packed.ensures.fault
    ∙ sym (kind_fault_0 c.args.has.now c.args.kind c.args.bytes.now (omega arith))

pub returns-then-kind-eq0-clause-ok : goal.returns-then-kind-eq0-clause-ok
returns-then-kind-eq0-clause-ok c =
    let is : c.args.kind ≡ 0 = omega arith in
    ap₂ (λ (n : ℕ) (ns : List ℕ). n ∷ ns) is c.in_ok-read_packed.ensures.ok.bytes_of.same
    ∙ sym (kind_0 (all_have c.args.has.now) c.read_packed.new.values
    c.in_ok-read_packed.ensures.ok.shortest)

pub returns-then-kind-eq0-clause-unset : goal.returns-then-kind-eq0-clause-unset
returns-then-kind-eq0-clause-unset c = c.in_ok-read_packed.ensures.ok.unset

pub returns-then-kind-eq0-clause-back : goal.returns-then-kind-eq0-clause-back
returns-then-kind-eq0-clause-back c = λ items many fit is same.
    let are = packed c.args.has.now items c.args.kind c.args.bytes.now c.requires.some many
    (omega arith) is same in
    (refl, (c.in_ok-read_packed.ensures.back items many fit are).1)

pub returns-in_err-read_risen-clause-back : goal.returns-in_err-read_risen-clause-back
returns-in_err-read_risen-clause-back c = λ items many fit is same.
    let has = c.args.has.now in
    let bytes = c.args.bytes.now in
    let parts = from_kind_1 (all_have has) items c.args.kind bytes c.if-kind-eq0.false same in
    let are = risen has items bytes parts.0 parts.1 in
    absurd (false≢true (c.in_err-read_risen.ensures.back items (many ∙ sym c.requires.rows) fit
    are.0 are.1).0)

pub returns-clause-unset : goal.returns-clause-unset
returns-clause-unset c =
    let holds : c.may_rise.result ≡ true = search rules in
    all_filled c.read_risen.new.values c.args.has.now
    (omega (arith, c.requires.rows, c.read_risen.auto.values)) (sym c.may_rise.ensures ∙ holds)

pub returns-clause-back : goal.returns-clause-back
returns-clause-back c = λ items many fit is same.
    let has = c.args.has.now in
    let bytes = c.args.bytes.now in
    let parts = from_kind_1 (all_have has) items c.args.kind bytes c.if-kind-eq0.false same in
    let are = risen has items bytes parts.0 parts.1 in
    (refl, (c.in_ok-read_risen.ensures.back items (many ∙ sym c.requires.rows) fit are.0 are.1).1)
