use Rattle.std.proofs.Common.{◌≡◌, ◌∷◌, ◌∙◌, Err, List, ap, arith, get_or, refl, rules, sym, ℕ}
use Rattle.std.proofs.Common.{true}
use Rattle.std.proofs.lemmas.Bool.{false≢true}
use Rattle.typed_chunk.specs.BooleanChunk.{booleans_fault, numbers_of}
use Rattle.typed_chunk.specs.Flags.{some_has}
use Rattle.typed_chunk.specs.Frame.{frame, unsigned_word}
use Rattle.typed_chunk.specs.NumberChunk.{filled}
use Rattle.typed_chunk.proofs.BooleanReadLaws.{booleans_some}
use Rattle.typed_chunk.proofs.FlagReadLaws.{first_rest, some_bytes}
use Rattle.typed_chunk.proofs.boolean_reading.read_booleans.Goals as goal

pub returns-in_err-read_kind-clause-fault : goal.returns-in_err-read_kind-clause-fault
returns-in_err-read_kind-clause-fault c =
    let has = c.args.has.now in
    let bytes = c.args.bytes.now in
    let kind = get_or bytes 0 0 in
    let long = some_bytes bytes c.is_empty.result c.is_empty.ensures c.if-is_empty.false in
    let handed : c.from_residual.result ≡ Err c.in_err-read_kind.field-0.0 = search rules in
    rw handed (c.in_err-read_kind.ensures.fault
    ∙ ap (λ (bs : List ℕ). booleans_fault has (kind ∷ bs)) c.behind.ensures
    ∙ ap (booleans_fault has) (first_rest bytes long))

pub returns-in_err-read_kind-clause-back : goal.returns-in_err-read_kind-clause-back
returns-in_err-read_kind-clause-back c = λ items many is.
    let has = c.args.has.now in
    let bytes = c.args.bytes.now in
    let kind = get_or bytes 0 0 in
    let long = some_bytes bytes c.is_empty.result c.is_empty.ensures c.if-is_empty.false in
    let some : some_has has ≡ true = first_of (search rules, grind arith) in
    let same : kind ∷ c.behind.result.now
    ≡ 0 ∷ frame (unsigned_word 1) (filled (numbers_of items) has) =
    ap (λ (bs : List ℕ). kind ∷ bs) c.behind.ensures ∙ first_rest bytes long ∙ is
    ∙ booleans_some items has some in
    absurd (false≢true (c.in_err-read_kind.ensures.back items many same).0)

pub returns-clause-fault : goal.returns-clause-fault
returns-clause-fault c =
    let has = c.args.has.now in
    let bytes = c.args.bytes.now in
    let kind = get_or bytes 0 0 in
    let long = some_bytes bytes c.is_empty.result c.is_empty.ensures c.if-is_empty.false in
    c.in_ok-read_kind.ensures.fault
    ∙ ap (λ (bs : List ℕ). booleans_fault has (kind ∷ bs)) c.behind.ensures
    ∙ ap (booleans_fault has) (first_rest bytes long)

pub returns-clause-ok : goal.returns-clause-ok
returns-clause-ok c =
    let has = c.args.has.now in
    let bytes = c.args.bytes.now in
    let kind = get_or bytes 0 0 in
    let long = some_bytes bytes c.is_empty.result c.is_empty.ensures c.if-is_empty.false in
    let some : some_has has ≡ true = first_of (search rules, grind arith) in
    sym (ap (λ (bs : List ℕ). kind ∷ bs) c.behind.ensures ∙ first_rest bytes long)
    ∙ c.in_ok-read_kind.ensures.ok ∙ sym (booleans_some c.read_kind.new.values has some)

pub returns-clause-back : goal.returns-clause-back
returns-clause-back c = λ items many is.
    let has = c.args.has.now in
    let bytes = c.args.bytes.now in
    let kind = get_or bytes 0 0 in
    let long = some_bytes bytes c.is_empty.result c.is_empty.ensures c.if-is_empty.false in
    let some : some_has has ≡ true = first_of (search rules, grind arith) in
    let same : kind ∷ c.behind.result.now
    ≡ 0 ∷ frame (unsigned_word 1) (filled (numbers_of items) has) =
    ap (λ (bs : List ℕ). kind ∷ bs) c.behind.ensures ∙ first_rest bytes long ∙ is
    ∙ booleans_some items has some in
    (refl, λ _. (c.in_ok-read_kind.ensures.back items many same).1)
