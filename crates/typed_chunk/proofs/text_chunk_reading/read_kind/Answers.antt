use Rattle.std.proofs.Common.{◌≡◌, ◌∙◌, ◌∷◌, ◌+◌, ◌++◌, Err, List, ap, ap₂, arith, drop}
use Rattle.std.proofs.Common.{get_or, length, length-take, refl, replicate, rules, sym, take, true}
use Rattle.std.proofs.Common.{ℕ}
use Rattle.std.proofs.lemmas.Grind.{common_steps}
use Rattle.typed_chunk.specs.TextChunk.{text_kind}
use Rattle.typed_chunk.specs.TextChunkReading.{IsCodedFault, IsKindFault, IsPlainFault, placed}
use Rattle.typed_chunk.specs.TextReading.{with_beginning}
use Rattle.typed_chunk.specs.declared.text_chunk_reading.ChunkTexts.{ChunkTexts}
use Rattle.typed_chunk.specs.declared.text_reading.BegunTexts.{BegunTexts}
use Rattle.typed_chunk.proofs.TextChunkReadLaws.{blank-placed, blank-with, cut_front, if_not_read}
use Rattle.typed_chunk.proofs.TextChunkReadLaws.{kind_coded, kind_plain}
use Rattle.typed_chunk.proofs.text_chunk_reading.read_kind.Goals as goal
use Rattle.typed_vector.specs.Cells.{rows}

pub returns-in_err-texts-clause-fault : goal.returns-in_err-texts-clause-fault
returns-in_err-texts-clause-fault c =
    let has = c.args.has.now in
    let kind = c.args.kind in
    let bytes = c.args.bytes.now in
    let handed : c.from_residual.result ≡ Err c.in_err-texts.field-0.0 = search rules in
    rw handed (if_not_read BegunTexts ChunkTexts c.in_err-texts.field-0.0 (IsPlainFault has bytes)
    (IsKindFault has kind bytes) (λ fault so. kind_plain has kind bytes fault (omega arith) so)
    c.in_err-texts.ensures.fault)

pub returns-then-kind-eq0-clause-blank : goal.returns-then-kind-eq0-clause-blank
returns-then-kind-eq0-clause-blank c =
    let n = length c.args.has.now + 1 in
    blank-with c.in_ok-texts.texts.start.now (rows c.in_ok-texts.texts.tails.now
    (take n (c.read_plain.new.offsets ++ drop n c.args.offsets.now))) c.args.has.now

pub returns-then-kind-eq0-clause-back : goal.returns-then-kind-eq0-clause-back
returns-then-kind-eq0-clause-back c = λ items many blank is.
    let has = c.args.has.now in
    let texts = c.in_ok-texts.texts in
    let ends = c.read_plain.new.offsets in
    let n = length has + 1 in
    let rest = drop n c.args.offsets.now in
    let none : c.args.kind ≡ 0 = omega arith in
    let long : length ends ≡ n = first_of (
      omega (arith, c.read_plain.auto.offsets, length-take n c.args.offsets.now, c.requires.rows),
      search rules,
      grind (arith, common_steps),
    ) in
    let cut : take n (ends ++ rest) ≡ ends = cut_front n ends rest long in
    let b = c.in_ok-texts.ensures.back items many blank
    (ap (λ (k : ℕ). k ∷ c.args.bytes.now) (sym none) ∙ is) in (
      refl,
      ap (λ (os : List ℕ). with_beginning texts.start.now (rows texts.tails.now os) has) cut
          ∙ b.1,
    )

pub returns-in_err-entries-clause-fault : goal.returns-in_err-entries-clause-fault
returns-in_err-entries-clause-fault c =
    let has = c.args.has.now in
    let kind = c.args.kind in
    let bytes = c.args.bytes.now in
    let handed : c.from_residual-in_err-entries.result ≡ Err c.in_err-entries.field-0.0 =
    search rules in
    rw handed (if_not_read BegunTexts ChunkTexts c.in_err-entries.field-0.0
    (IsCodedFault has bytes)
    (IsKindFault has kind bytes) (λ fault so. kind_coded has kind bytes fault (omega arith) so)
    c.in_err-entries.ensures.fault)

pub returns-clause-blank : goal.returns-clause-blank
returns-clause-blank c =
    let k = c.from-count.result in
    let entries = c.in_ok-entries.entries in
    blank-placed (with_beginning entries.start.now (rows entries.tails.now
    (take (1 + k + 1) (c.read_coded.new.ends ++ drop (1 + k + 1) c.args.offsets.now)))
    (replicate (1 + k) true)) c.read_coded.new.places c.args.has.now

pub returns-clause-ok : goal.returns-clause-ok
returns-clause-ok c =
    let has = c.args.has.now in
    let entries = c.in_ok-entries.entries in
    let places = c.read_coded.new.places in
    let ends = c.read_coded.new.ends in
    let k = c.from-count.result in
    let rest = drop (1 + k + 1) c.args.offsets.now in
    let two : c.args.kind ≡ 2 = omega arith in
    let long : length ends ≡ 1 + k + 1 = first_of (
      omega (
        arith,
        c.read_coded.auto.ends,
        length-take (1 + k + 1) c.args.offsets.now,
        c.type_inv.bytes 0,
        c.from-count.ensures,
      ),
      search rules,
      grind (arith, common_steps),
    ) in
    let cut : take (1 + k + 1) (ends ++ rest) ≡ ends = cut_front (1 + k + 1) ends rest long in
    let count : 1 + k ≡ get_or c.args.bytes.now 0 0 + 1 = omega (arith, c.from-count.ensures) in
    ap (λ (n : ℕ). n ∷ c.args.bytes.now) two ∙ c.in_ok-entries.ensures.ok
    ∙ sym (ap₂ (λ (os : List ℕ) (n : ℕ). text_kind (placed (with_beginning entries.start.now
    (rows entries.tails.now os) (replicate n true)) places has) has) cut count)

pub returns-clause-back : goal.returns-clause-back
returns-clause-back c = λ items many blank is.
    let has = c.args.has.now in
    let entries = c.in_ok-entries.entries in
    let places = c.read_coded.new.places in
    let ends = c.read_coded.new.ends in
    let k = c.from-count.result in
    let rest = drop (1 + k + 1) c.args.offsets.now in
    let two : c.args.kind ≡ 2 = omega arith in
    let long : length ends ≡ 1 + k + 1 = first_of (
      omega (
        arith,
        c.read_coded.auto.ends,
        length-take (1 + k + 1) c.args.offsets.now,
        c.type_inv.bytes 0,
        c.from-count.ensures,
      ),
      search rules,
      grind (arith, common_steps),
    ) in
    let cut : take (1 + k + 1) (ends ++ rest) ≡ ends = cut_front (1 + k + 1) ends rest long in
    let count : 1 + k ≡ get_or c.args.bytes.now 0 0 + 1 = omega (arith, c.from-count.ensures) in
    let b = c.in_ok-entries.ensures.back items many blank
    (ap (λ (n : ℕ). n ∷ c.args.bytes.now) (sym two) ∙ is) in (
      refl,
      ap₂ (λ (os : List ℕ) (n : ℕ). placed (with_beginning entries.start.now
          (rows entries.tails.now os) (replicate n true)) places has) cut count
          ∙ b.1,
    )
