use Rattle.std.proofs.Common.{arith, rules, ◌+◌, ◌∷◌, [], get_or, take, drop, suc, refl}
use Rattle.std.proofs.lemmas.Grind.{common_steps}
use Rattle.jsonb_comparable.specs.Escaped.{escaped}
use Rattle.jsonb_comparable.proofs.EscapedLaws.{escaped_low, escaped_plain, run_on, escape_on}
use Rattle.jsonb_comparable.proofs.Sinks.{going_room, going_on}
use Rattle.jsonb_comparable.proofs.escape.append_escaped.Goals as goal

pub append-requires : goal.append-requires
append-requires g c =
    let i = c.runs.plain in let rest = c.runs.rest.now in
    going_room g.S.Sink.laws c.runs.invariant.going (take i rest)
    (2 ∷ (get_or rest i 0 + 1) ∷ escaped (drop (suc i) rest))
    (escaped_low rest i (omega arith) c.runs.invariant.before (c.runs.invariant.at (omega arith)))

pub append-requires-in-runs : goal.append-requires-in-runs
append-requires-in-runs g c =
    let i = c.runs.plain in let rest = c.runs.rest.now in
    let run = run_on g.S.Sink.laws rest i c.runs.invariant.going (omega arith)
    c.runs.invariant.before (c.runs.invariant.at (omega arith)) c.append.new.self
    c.append.ensures in
    going_room g.S.Sink.laws run (2 ∷ (get_or rest i 0 + 1) ∷ []) (escaped (drop (suc i) rest)) refl

pub overflow_add-rest-in-runs : goal.overflow_add-rest-in-runs
overflow_add-rest-in-runs g c = record { fits = omega (arith, c.runs.invariant.len) }

pub runs-preserved : goal.runs-preserved
runs-preserved g c =
    let i = c.runs.plain in let rest = c.runs.rest.now in
    let run = run_on g.S.Sink.laws rest i c.runs.invariant.going (omega arith)
    c.runs.invariant.before (c.runs.invariant.at (omega arith)) c.append.new.self
    c.append.ensures in
    record {
      going = escape_on g.S.Sink.laws rest i (get_or rest i 0 + 1) run c.append-in-runs.new.self
          c.append-in-runs.ensures _ (grind (arith, common_steps));
      within = search rules;
      before = search rules;
      at = search rules;
      len = search rules;
    }

pub append-requires-2 : goal.append-requires-2
append-requires-2 g c =
    let rest = c.runs.rest.now in
    going_room g.S.Sink.laws c.runs.invariant.going rest (1 ∷ [])
    (escaped_plain rest c.runs.plain (omega arith) c.runs.invariant.before)

pub append-requires-3 : goal.append-requires-3
append-requires-3 g c =
    let rest = c.runs.rest.now in
    (going_on g.S.Sink.laws c.runs.invariant.going rest (1 ∷ [])
    (escaped_plain rest c.runs.plain (omega arith) c.runs.invariant.before) c.append-2.new.self
    c.append-2.ensures).has_room

pub returns : goal.returns
returns g c =
    let rest = c.runs.rest.now in
    (going_on g.S.Sink.laws c.runs.invariant.going rest (1 ∷ [])
    (escaped_plain rest c.runs.plain (omega arith) c.runs.invariant.before) c.append-2.new.self
    c.append-2.ensures).ends c.append-3.new.self c.append-3.ensures
