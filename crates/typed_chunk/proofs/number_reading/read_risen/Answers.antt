use Rattle.std.proofs.Common.{◌≡◌, ◌∙◌, Bool, Err, None, Some, ap, length, refl, rules}
use Rattle.std.proofs.Common.{sym, true, false}
use Rattle.std.specs.Int.{w64}
use Rattle.std.specs.Prelude.{Option, if◌then◌else◌}
use Rattle.std.proofs.lemmas.Bool.{false≢true}
use Rattle.typed_chunk.specs.Headed.{first_fault}
use Rattle.typed_chunk.specs.NumberChunk.{rises_shorter}
use Rattle.typed_chunk.specs.NumberReading.{risen_fault}
use Rattle.typed_chunk.specs.Rising.{rising_values}
use Rattle.typed_chunk.specs.declared.fault.ChunkFault.{ChunkFault}
use Rattle.typed_chunk.specs.declared.fault.ChunkFault.TheVariants.{NotShortestKind}
use Rattle.typed_chunk.proofs.number_reading.read_risen.Goals as goal

pub returns-in_err-read_rising-clause-fault : goal.returns-in_err-read_rising-clause-fault
returns-in_err-read_rising-clause-fault c =
    let bytes = c.args.bytes.now in
    let count = length c.args.values.now in
    let handed : c.from_residual.result ≡ Err c.in_err-read_rising.field-0.0 = search rules in
    rw handed (ap (λ (f : Option ChunkFault). first_fault f
    (risen_fault (rising_values w64 count bytes))) c.in_err-read_rising.ensures.fault)

pub returns-in_err-read_rising-clause-back : goal.returns-in_err-read_rising-clause-back
returns-in_err-read_rising-clause-back c = λ items many fit are shorter.
    absurd (false≢true (c.in_err-read_rising.ensures.back items many fit are).0)

pub returns-then-not-rises_shorter-clause-fault : goal.returns-then-not-rises_shorter-clause-fault
returns-then-not-rises_shorter-clause-fault c =
    let bytes = c.args.bytes.now in
    let count = length c.args.values.now in
    let fails : c.rises_shorter.result ≡ false = search rules in
    let test : rises_shorter true (rising_values w64 count bytes) ≡ false =
    ap (rises_shorter true) (sym c.in_ok-read_rising.ensures.told) ∙ sym c.rises_shorter.ensures
    ∙ fails in
    sym (ap (λ (b : Bool). if b then None else Some NotShortestKind) test)
    ∙ ap (λ (f : Option ChunkFault). first_fault f
    (risen_fault (rising_values w64 count bytes))) c.in_ok-read_rising.ensures.fault

pub returns-then-not-rises_shorter-clause-back : goal.returns-then-not-rises_shorter-clause-back
returns-then-not-rises_shorter-clause-back c = λ items many fit are shorter.
    let fails : c.rises_shorter.result ≡ false = search rules in
    let back = c.in_ok-read_rising.ensures.back items many fit are in
    absurd (false≢true (sym fails ∙ c.rises_shorter.ensures ∙ ap (rises_shorter true) back.1
    ∙ shorter))

pub returns-clause-fault : goal.returns-clause-fault
returns-clause-fault c =
    let bytes = c.args.bytes.now in
    let count = length c.args.values.now in
    let holds : c.rises_shorter.result ≡ true = search rules in
    let test : rises_shorter true (rising_values w64 count bytes) ≡ true =
    ap (rises_shorter true) (sym c.in_ok-read_rising.ensures.told) ∙ sym c.rises_shorter.ensures
    ∙ holds in
    sym (ap (λ (b : Bool). if b then None else Some NotShortestKind) test)
    ∙ ap (λ (f : Option ChunkFault). first_fault f
    (risen_fault (rising_values w64 count bytes))) c.in_ok-read_rising.ensures.fault

pub returns-clause-shorter : goal.returns-clause-shorter
returns-clause-shorter c =
    let holds : c.rises_shorter.result ≡ true = search rules in
    sym c.rises_shorter.ensures ∙ holds

pub returns-clause-back : goal.returns-clause-back
returns-clause-back c = λ items many fit are shorter.
    (refl, (c.in_ok-read_rising.ensures.back items many fit are).1)
