use Rattle.std.proofs.Common.{◌≡◌, ◌∷◌, ◌∙◌, Err, List, ap, arith, get_or, refl, rules}
use Rattle.std.proofs.Common.{sym}
use Rattle.std.proofs.Common.{ℕ, true}
use Rattle.std.proofs.lemmas.Bool.{false≢true}
use Rattle.typed_chunk.specs.Flags.{all_have, some_has}
use Rattle.typed_chunk.specs.NumberChunk.{filled, number_kind}
use Rattle.typed_chunk.specs.NumberReading.{values_fault}
use Rattle.typed_chunk.proofs.FlagReadLaws.{first_rest, some_bytes}
use Rattle.typed_chunk.proofs.NumberReadLaws.{bytes_some, filled_fit, length-filled, twice_filled}
use Rattle.typed_chunk.proofs.NumberReadLaws.{values_some}
use Rattle.typed_chunk.proofs.number_reading.read_values.Goals as goal

pub returns-in_err-read_kind-clause-fault : goal.returns-in_err-read_kind-clause-fault
returns-in_err-read_kind-clause-fault c =
    let has = c.args.has.now in
    let bytes = c.args.bytes.now in
    let kind = get_or bytes 0 0 in
    let long = some_bytes bytes c.is_empty.result c.is_empty.ensures c.if-is_empty.false in
    let some : some_has has ≡ true = first_of (search rules, grind arith) in
    let handed : c.from_residual.result ≡ Err c.in_err-read_kind.field-0.0 = search rules in
    rw handed (c.in_err-read_kind.ensures.fault
    ∙ sym (values_some has kind c.behind.result.now some)
    ∙ ap (λ (bs : List ℕ). values_fault has (kind ∷ bs)) c.behind.ensures
    ∙ ap (values_fault has) (first_rest bytes long))

pub returns-in_err-read_kind-clause-back : goal.returns-in_err-read_kind-clause-back
returns-in_err-read_kind-clause-back c = λ items many fit is.
    let has = c.args.has.now in
    let bytes = c.args.bytes.now in
    let kind = get_or bytes 0 0 in
    let long = some_bytes bytes c.is_empty.result c.is_empty.ensures c.if-is_empty.false in
    let some : some_has has ≡ true = first_of (search rules, grind arith) in
    let same : kind ∷ c.behind.result.now ≡ number_kind (all_have has) (filled items has) =
    ap (λ (bs : List ℕ). kind ∷ bs) c.behind.ensures ∙ first_rest bytes long ∙ is
    ∙ bytes_some items has some in
    absurd (false≢true (c.in_err-read_kind.ensures.back (filled items has)
    (length-filled items has many) (filled_fit items has fit) (sym (twice_filled items has))
    same).0)

pub returns-clause-fault : goal.returns-clause-fault
returns-clause-fault c =
    let has = c.args.has.now in
    let bytes = c.args.bytes.now in
    let kind = get_or bytes 0 0 in
    let long = some_bytes bytes c.is_empty.result c.is_empty.ensures c.if-is_empty.false in
    let some : some_has has ≡ true = first_of (search rules, grind arith) in
    c.in_ok-read_kind.ensures.fault
    ∙ sym (values_some has kind c.behind.result.now some)
    ∙ ap (λ (bs : List ℕ). values_fault has (kind ∷ bs)) c.behind.ensures
    ∙ ap (values_fault has) (first_rest bytes long)

pub returns-clause-back : goal.returns-clause-back
returns-clause-back c = λ items many fit is.
    let has = c.args.has.now in
    let bytes = c.args.bytes.now in
    let kind = get_or bytes 0 0 in
    let long = some_bytes bytes c.is_empty.result c.is_empty.ensures c.if-is_empty.false in
    let some : some_has has ≡ true = first_of (search rules, grind arith) in
    let same : kind ∷ c.behind.result.now ≡ number_kind (all_have has) (filled items has) =
    ap (λ (bs : List ℕ). kind ∷ bs) c.behind.ensures ∙ first_rest bytes long ∙ is
    ∙ bytes_some items has some in
    let back = c.in_ok-read_kind.ensures.back (filled items has) (length-filled items has many)
    (filled_fit items has fit) (sym (twice_filled items has)) same in
    (refl, λ _. back.1)
