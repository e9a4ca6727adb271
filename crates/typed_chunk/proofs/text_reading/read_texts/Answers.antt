use Rattle.std.proofs.Common.{◌≡◌, ◌≤◌, ◌<◌, ◌+◌, ◌++◌, ◌∙◌, ℕ, Bool, IfOk, List, ap, arith, drop}
use Rattle.std.proofs.Common.{get_or, length, subst, sym, take}
use Rattle.typed_vector.specs.Cells.{rows}
use Rattle.typed_chunk.specs.Texts.{text_bytes}
use Rattle.typed_chunk.specs.TextReading.{with_beginning}
use Rattle.typed_chunk.proofs.FlagReadLaws.{some_bytes}
use Rattle.typed_chunk.proofs.TextReadLaws.{TextParts, text_parts}
use Rattle.typed_chunk.proofs.text_reading.read_texts.Goals as goal

parts_of : (has : List Bool) (bytes front start rest : List ℕ) (size : ℕ)
    → 0 < length bytes → size ≡ get_or bytes 0 0 → 1 + size ≤ length bytes
    → front ≡ take (1 + size) bytes → start ≡ drop 1 front → rest ≡ drop (1 + size) bytes
    → TextParts has bytes start rest
parts_of has bytes front start rest size some is low first begins behind =
    text_parts has bytes start rest (1 + size) some (omega (arith, is)) low
    (begins ∙ ap (drop 1) first) behind

pub returns-clause-fault : goal.returns-clause-fault
returns-clause-fault c =
    let bytes = c.args.bytes.now in
    let some = some_bytes bytes c.is_empty.result c.is_empty.ensures c.if-is_empty.false in
    let p = parts_of c.args.has.now bytes c.front.result.now c.behind-start.result.now
    c.behind.result.now c.from-end.result some c.from-end.ensures
    c.if-bytes-end.false c.front.ensures c.behind-start.ensures c.behind.ensures in
    c.read_begun.ensures.fault ∙ sym p.fault

pub returns-clause-ok : goal.returns-clause-ok
returns-clause-ok c =
    let bytes = c.args.bytes.now in
    let has = c.args.has.now in
    let some = some_bytes bytes c.is_empty.result c.is_empty.ensures c.if-is_empty.false in
    let p = parts_of has bytes c.front.result.now c.behind-start.result.now
    c.behind.result.now c.from-end.result some c.from-end.ensures
    c.if-bytes-end.false c.front.ensures c.behind-start.ensures c.behind.ensures in
    subst (λ bs. IfOk c.read_begun.result (λ read. bs ≡ text_bytes
    (with_beginning read.start.now (rows read.tails.now c.read_begun.new.offsets) has) has
    ++ read.rest.now)) (sym p.whole) c.read_begun.ensures.ok

pub returns-clause-back : goal.returns-clause-back
returns-clause-back c = λ items rest many blank is.
    let bytes = c.args.bytes.now in
    let some = some_bytes bytes c.is_empty.result c.is_empty.ensures c.if-is_empty.false in
    let p = parts_of c.args.has.now bytes c.front.result.now c.behind-start.result.now
    c.behind.result.now c.from-end.result some c.from-end.ensures
    c.if-bytes-end.false c.front.ensures c.behind-start.ensures c.behind.ensures in
    c.read_begun.ensures.back items rest many blank (sym p.whole ∙ is)
