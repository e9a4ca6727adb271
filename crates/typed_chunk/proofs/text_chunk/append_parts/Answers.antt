use Rattle.std.proofs.Common.{◌≡◌, Err, rules}
use Rattle.typed_chunk.specs.Flags.{flags}
use Rattle.typed_chunk.proofs.SpanLaws.{kept_behind}
use Rattle.typed_chunk.proofs.text_chunk.append_parts.Goals as goal

pub returns-in_err-append_kind-clause-err : goal.returns-in_err-append_kind-clause-err
returns-in_err-append_kind-clause-err c =
    let handed : c.from_residual-in_err-append_kind.result
    ≡ Err c.in_err-append_kind.field-0.0 = search rules in
    rw handed (kept_behind c.args.out.now.items c.append_flags.new.out.items
    c.append_kind.new.out.items (flags c.args.has.now) c.in_ok-append_flags.ensures
    c.in_err-append_kind.ensures.err)
