use Rattle.std.proofs.Common.{◌≡◌, ◌+◌, ◌-◌, ◌∙◌, ap, drop, length, sym, take}
use Rattle.std.proofs.lemmas.Bool.{false≢true}
use Rattle.std.proofs.lemmas.List.{take_rest}
use Rattle.typed_chunk.specs.Headed.{codes_behind, least_fault}
use Rattle.typed_chunk.specs.Packed.{bits}
use Rattle.typed_chunk.proofs.HeadedLaws.{fault_behind, least_no_fault, ok_from, packed_behind}
use Rattle.typed_chunk.proofs.HeadedLaws.{on_ok, parts, read_behind}
use Rattle.typed_chunk.proofs.headed.read_headed.Goals as goal

pub returns-in-None-clause-back : goal.returns-in-None-clause-back
returns-in-None-clause-back c = λ first items long many low are.
    let p = parts first items c.args.bytes.now low are in
    absurd (false≢true (c.in-None.ensures.some ∙ p.is))

pub returns-in_err-read_codes-clause-back : goal.returns-in_err-read_codes-clause-back
returns-in_err-read_codes-clause-back c = λ first items long many low are.
    let bytes = c.args.bytes.now in
    let head = c.args.head in
    let p = parts first items bytes low are in
    let packed = packed_behind (bits c.in-Some.width) head first items bytes
    (take (length bytes - (head + 1)) (drop (head + 1) bytes)) long p
    c.in-Some.ensures.width (take_rest bytes (head + 1)) in
    let back = c.in_err-read_codes.ensures.back items many packed in
    absurd (false≢true back.0)

pub returns-clause-fault : goal.returns-clause-fault
returns-clause-fault c =
    let bytes = c.args.bytes.now in
    let head = c.args.head in
    fault_behind head (length c.args.codes.now) (bits c.in-Some.width) c.read_codes.new.codes bytes
    (take (length bytes - (head + 1)) (drop (head + 1) bytes))
    _ c.if-bytes-head.false c.in-Some.ensures.width (sym c.in-Some.ensures.some)
    (take_rest bytes (head + 1)) c.read_codes.auto.codes c.in_ok-read_codes.ensures.fault
    c.in_ok-read_codes.ensures.ok c.check_least.ensures

pub returns-clause-back : goal.returns-clause-back
returns-clause-back c = λ first items long many low are.
    let bytes = c.args.bytes.now in
    let head = c.args.head in
    let width = bits c.in-Some.width in
    let p = parts first items bytes low are in
    let packed = packed_behind width head first items bytes
    (take (length bytes - (head + 1)) (drop (head + 1) bytes)) long p
    c.in-Some.ensures.width (take_rest bytes (head + 1)) in
    let back = c.in_ok-read_codes.ensures.back items many packed in
    let none = c.check_least.ensures ∙ ap (least_fault width) back.1
    ∙ least_no_fault width items (c.in-Some.ensures.width ∙ p.width) p.from_0 in
    (ok_from c.check_least.result none, back.1)

pub returns-clause-behind : goal.returns-clause-behind
returns-clause-behind c =
    let bytes = c.args.bytes.now in
    let head = c.args.head in
    let count = length c.args.codes.now in
    on_ok c.check_least.result (c.read_codes.new.codes ≡ codes_behind head count bytes)
    (read_behind head count (bits c.in-Some.width) c.read_codes.new.codes bytes
    (take (length bytes - (head + 1)) (drop (head + 1) bytes)) c.in-Some.ensures.width
    (take_rest bytes (head + 1)) c.read_codes.auto.codes c.in_ok-read_codes.ensures.ok)
