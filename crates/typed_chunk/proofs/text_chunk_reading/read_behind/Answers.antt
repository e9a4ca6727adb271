use Rattle.std.proofs.Common.{◌≡◌, ◌∙◌, ◌∷◌, Err, List, ap, arith, get_or, length}
use Rattle.std.proofs.Common.{Bool, [], map, refl, rules, sym, true, false, ℕ}
use Rattle.typed_chunk.specs.Flags.{some_has}
use Rattle.typed_chunk.specs.TextChunk.{kind_bytes, text_kind}
use Rattle.typed_chunk.specs.TextChunkReading.{IsKindFault, IsTextsFault, texts_read}
use Rattle.typed_chunk.specs.declared.fault.ChunkFault.TheVariants.{WrongLength}
use Rattle.typed_chunk.specs.declared.fault.ReadError.TheVariants.{Refused}
use Rattle.typed_chunk.proofs.FlagReadLaws.{first_rest, some_bytes}
use Rattle.typed_chunk.proofs.TextChunkReadLaws.{behind_blank, behind_empty, behind_kind}
use Rattle.typed_chunk.proofs.TextChunkReadLaws.{behind_more, blank_none, empty_bytes, if_ok}
use Rattle.typed_chunk.proofs.TextChunkReadLaws.{if_read, kind_bytes_none, kind_bytes_some}
use Rattle.typed_chunk.proofs.TextChunkReadLaws.{no_kind, texts_none}
use Rattle.typed_chunk.proofs.text_chunk_reading.read_behind.Goals as goal

pub returns-in_err-check_empty-clause-fault : goal.returns-in_err-check_empty-clause-fault
returns-in_err-check_empty-clause-fault c =
    let none : some_has c.args.has.now ≡ false = first_of (search rules, grind arith) in
    let handed : c.from_residual.result ≡ Err (Refused WrongLength) = search rules in
    rw handed (behind_more c.args.has.now c.args.bytes.now none c.in_err-check_empty.ensures.err)

pub returns-in_err-check_empty-clause-back : goal.returns-in_err-check_empty-clause-back
returns-in_err-check_empty-clause-back c = λ items many blank is.
    let none : some_has c.args.has.now ≡ false = first_of (search rules, grind arith) in
    absurd (omega (
      arith,
      c.in_err-check_empty.ensures.err,
      ap length (is ∙ kind_bytes_none items c.args.has.now none),
    ))

pub returns-then-not-some_has-clause-fault : goal.returns-then-not-some_has-clause-fault
returns-then-not-some_has-clause-fault c =
    let none : some_has c.args.has.now ≡ false = first_of (search rules, grind arith) in
    behind_blank c.args.has.now c.args.bytes.now none c.in_ok-check_empty.ensures.ok

pub returns-then-not-some_has-clause-blank : goal.returns-then-not-some_has-clause-blank
returns-then-not-some_has-clause-blank c = blank_none c.args.has.now

pub returns-then-not-some_has-clause-ok : goal.returns-then-not-some_has-clause-ok
returns-then-not-some_has-clause-ok c =
    let has = c.args.has.now in
    let none : some_has has ≡ false = first_of (search rules, grind arith) in
    let blank : List (List ℕ) = map (λ (flag : Bool). []) has in
    c.in_ok-check_empty.ensures.ok ∙ sym (kind_bytes_none blank has none)

pub returns-then-not-some_has-clause-back : goal.returns-then-not-some_has-clause-back
returns-then-not-some_has-clause-back c = λ items many blank is.
    let none : some_has c.args.has.now ≡ false = first_of (search rules, grind arith) in
    (refl, texts_none items c.args.has.now many blank none)

pub returns-then-is_empty-clause-fault : goal.returns-then-is_empty-clause-fault
returns-then-is_empty-clause-fault c =
    let bytes = c.args.bytes.now in
    let some : some_has c.args.has.now ≡ true = first_of (search rules, grind arith) in
    behind_empty c.args.has.now bytes some
    (empty_bytes bytes c.is_empty.result c.is_empty.ensures (search rules))

pub returns-then-is_empty-clause-back : goal.returns-then-is_empty-clause-back
returns-then-is_empty-clause-back c = λ items many blank is.
    let has = c.args.has.now in
    let bytes = c.args.bytes.now in
    let some : some_has has ≡ true = first_of (search rules, grind arith) in
    let none = empty_bytes bytes c.is_empty.result c.is_empty.ensures (search rules) in
    absurd (no_kind items has (sym (sym none ∙ is ∙ kind_bytes_some items has some)))

pub returns-clause-fault : goal.returns-clause-fault
returns-clause-fault c =
    let has = c.args.has.now in
    let bytes = c.args.bytes.now in
    let kind = get_or bytes 0 0 in
    let rest = c.behind-rest.result.now in
    let long = some_bytes bytes c.is_empty.result c.is_empty.ensures c.if-is_empty.false in
    let some : some_has has ≡ true = first_of (search rules, grind arith) in
    let same : kind ∷ rest ≡ bytes =
    ap (λ (bs : List ℕ). kind ∷ bs) c.behind-rest.ensures ∙ first_rest bytes long in
    if_read c.read_kind.result (IsKindFault has kind rest) (IsTextsFault has bytes)
    (λ fault so. behind_kind has kind rest bytes fault some same so) c.read_kind.ensures.fault

pub returns-clause-ok : goal.returns-clause-ok
returns-clause-ok c =
    let has = c.args.has.now in
    let bytes = c.args.bytes.now in
    let kind = get_or bytes 0 0 in
    let rest = c.behind-rest.result.now in
    let offsets = c.read_kind.new.offsets in
    let codes = c.read_kind.new.codes in
    let long = some_bytes bytes c.is_empty.result c.is_empty.ensures c.if-is_empty.false in
    let some : some_has has ≡ true = first_of (search rules, grind arith) in
    let same : kind ∷ rest ≡ bytes =
    ap (λ (bs : List ℕ). kind ∷ bs) c.behind-rest.ensures ∙ first_rest bytes long in
    if_ok c.read_kind.result
    (λ read. kind ∷ rest ≡ text_kind (texts_read read offsets codes has) has)
    (λ read. bytes ≡ kind_bytes (texts_read read offsets codes has) has)
    (λ read is. sym same ∙ is ∙ sym (kind_bytes_some (texts_read read offsets codes has) has some))
    c.read_kind.ensures.ok

pub returns-clause-back : goal.returns-clause-back
returns-clause-back c = λ items many blank is.
    let has = c.args.has.now in
    let bytes = c.args.bytes.now in
    let kind = get_or bytes 0 0 in
    let rest = c.behind-rest.result.now in
    let long = some_bytes bytes c.is_empty.result c.is_empty.ensures c.if-is_empty.false in
    let some : some_has has ≡ true = first_of (search rules, grind arith) in
    let same : kind ∷ rest ≡ bytes =
    ap (λ (bs : List ℕ). kind ∷ bs) c.behind-rest.ensures ∙ first_rest bytes long in
    c.read_kind.ensures.back items many blank (same ∙ is ∙ kind_bytes_some items has some)
