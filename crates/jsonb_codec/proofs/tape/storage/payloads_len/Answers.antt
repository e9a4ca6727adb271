use Rattle.std.proofs.Common.{ap, arith, length, ◌+◌}
use Rattle.jsonb_codec.proofs.Words.{length-word-append}
use Rattle.jsonb_codec.proofs.OnTape.Items.{no_size, next_size}
use Rattle.jsonb_codec.proofs.tape.storage.payloads_len.Goals as goal

pub loop-entry-init : goal.loop-entry-init
loop-entry-init c = (omega arith, λ ts fit is. (ts, (fit, (is, omega arith))))

pub loop-entry-preserved : goal.loop-entry-preserved
loop-entry-preserved c =
    let entry = c.in-Some.entry in (
      omega (
        arith,
        c.loop-entry.invariant.0,
        c.in-Some.ensures.number,
        ap length c.in-Some.ensures.found,
        length-word-append (entry.tag + entry.number) entry.rest.now,
      ),
      λ ts fit is.
          let (rest, (fits, (left, sized))) = c.loop-entry.invariant.1 ts fit is in
          let next = next_size rest c.loop-entry.left.now entry.rest.now entry.tag entry.number fits
          left c.in-Some.ensures.found c.in-Some.ensures.tag c.in-Some.ensures.number
          c.in-Some.ensures.small in
          (next.rest, (next.fit, (next.is, omega (arith, sized, next.sized)))),
    )

pub loop-entry-smaller : goal.loop-entry-smaller
loop-entry-smaller c = omega (
  arith,
  ap length c.in-Some.ensures.found,
  length-word-append (c.in-Some.entry.tag + c.in-Some.entry.number) c.in-Some.entry.rest.now,
)

pub returns-clause-ok : goal.returns-clause-ok
returns-clause-ok c = λ ts fit is.
    let (rest, (fits, (left, sized))) = c.loop-entry.invariant.1 ts fit is in
    omega (arith, sized, no_size rest c.loop-entry.left.now left c.in_default.ensures.none)
