use Rattle.std.proofs.Common.{◌≡◌, ◌+◌, ◌-◌, ◌*◌, drop, take, length, refl, sym, ap, ◌∙◌, arith}
use Rattle.std.proofs.lemmas.List.{take_rest, length-drop, length-take-le}
use Rattle.jsonb.proofs.PayloadEnds.{ends_by-all, ends_by-others, ends_by-none, no_entry}
use Rattle.jsonb.proofs.PayloadEnds.{some_entry, short_entry}
use Rattle.jsonb.proofs.entries.payloads_end_within.Goals as goal

pub loop-entry-init : goal.loop-entry-init
loop-entry-init c =
    let rest = drop c.args.word c.args.bytes.now in
    let size = c.args.word + 4 * c.args.count - c.args.word in
    let left = length-drop c.args.word c.args.bytes.now in
    let long : length (take size rest) ≡ 4 * c.args.count =
    omega (arith, length-take-le size rest (omega (arith, left, c.requires.there))) in
    record {
      by = ends_by-all c.args.bytes.now c.args.count c.args.word c.args.start _ c.requires.there
          refl long;
      near = omega (arith, long);
    }

pub loop-entry-preserved : goal.loop-entry-preserved
loop-entry-preserved c =
    let l = c.loop-entry in
    let entry = c.in-Ok.entry in
    let read = sym c.read_jentry.ensures ∙ c.in-Ok.is in
    let some = some_entry l.words.now entry read in
    let rest = take_rest l.words.now 4 in
    let long = length-drop 4 l.words.now in
    let by = ends_by-others c.args.bytes.now c.args.count c.args.word c.args.start l.words.now l.end
    entry l.invariant.by some read in
    record {
      by = rw rest by;
      near = let same = ap length rest in
          let short = short_entry l.words.now entry read in
          omega (arith, l.invariant.near, same, long, some, short);
    }

pub returns-clause-value : goal.returns-clause-value
returns-clause-value c =
    ends_by-none c.args.bytes.now c.args.count c.args.word c.args.start c.loop-entry.words.now
    c.loop-entry.end
    c.loop-entry.invariant.by
    (no_entry c.loop-entry.words.now c.in_default.field-0
    (sym c.read_jentry.ensures ∙ c.in_default.is))
