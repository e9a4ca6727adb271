use Rattle.std.proofs.Common.{◌≡◌, Err, ap, rules, sym, ◌∙◌, arith}
use Rattle.std.specs.Option.{option_transpose}
use Rattle.kohiblad.proofs.PlaceLaws.{part_after, part_cut}
use Rattle.kohiblad.proofs.places.part_in.Goals as goal

pub returns-in_err-skip-clause-value : goal.returns-in_err-skip-clause-value
returns-in_err-skip-clause-value c =
    let refused : c.from_residual-in_err-skip.result ≡ Err c.in_err-skip.field-0.0 =
    search rules in
    refused
    ∙ part_cut c.args.bytes.now c.args.number c.in_ok-parts.parts (sym c.in_ok-parts.ensures) _
    (omega (arith, c.if-len-number.false, c.len.ensures)) c.in_err-skip.ensures.cut.0

pub returns-clause-value : goal.returns-clause-value
returns-clause-value c =
    c.transpose.ensures
    ∙ ap option_transpose c.next.ensures.first
    ∙ part_after c.args.bytes.now c.args.number c.in_ok-parts.parts (sym c.in_ok-parts.ensures) _
    c.in_ok-skip.ensures.rest
