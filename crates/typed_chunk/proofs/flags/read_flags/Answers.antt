use Rattle.std.proofs.Common.{◌≡◌, ◌∷◌, ◌++◌, ◌∙◌, ℕ, IfOk, List, ap, get_or}
use Rattle.std.proofs.Common.{length, subst}
use Rattle.typed_chunk.specs.Flags.{flags, flags_fault}
use Rattle.typed_chunk.proofs.FlagReadLaws.{first_rest, some_bytes}
use Rattle.typed_chunk.proofs.flags.read_flags.Goals as goal

pub returns-clause-fault : goal.returns-clause-fault
returns-clause-fault c =
    let bytes = c.args.bytes.now in
    let some = some_bytes bytes c.is_empty.result c.is_empty.ensures c.if-is_empty.false in
    let whole : get_or bytes 0 0 ∷ c.behind.result.now ≡ bytes =
    ap (λ (r : List ℕ). get_or bytes 0 0 ∷ r) c.behind.ensures ∙ first_rest bytes some in
    c.read_behind.ensures.fault ∙ ap (flags_fault (length c.args.has.now)) whole

pub returns-clause-ok : goal.returns-clause-ok
returns-clause-ok c =
    let bytes = c.args.bytes.now in
    let some = some_bytes bytes c.is_empty.result c.is_empty.ensures c.if-is_empty.false in
    let whole : get_or bytes 0 0 ∷ c.behind.result.now ≡ bytes =
    ap (λ (r : List ℕ). get_or bytes 0 0 ∷ r) c.behind.ensures ∙ first_rest bytes some in
    subst (λ bs. IfOk c.read_behind.result (λ rest. bs ≡ flags c.read_behind.new.has ++ rest.now))
    whole c.read_behind.ensures.ok

pub returns-clause-back : goal.returns-clause-back
returns-clause-back c = λ items rest many e.
    let bytes = c.args.bytes.now in
    let some = some_bytes bytes c.is_empty.result c.is_empty.ensures c.if-is_empty.false in
    let whole : get_or bytes 0 0 ∷ c.behind.result.now ≡ bytes =
    ap (λ (r : List ℕ). get_or bytes 0 0 ∷ r) c.behind.ensures ∙ first_rest bytes some in
    c.read_behind.ensures.back items rest many (whole ∙ e)
