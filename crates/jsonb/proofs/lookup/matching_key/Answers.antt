use Rattle.std.proofs.Common.{rules, ◌≡◌, Err, length}
use Rattle.std.specs.Fn.{FnReturnsAtPair}
use Rattle.jsonb.specs.Parts.{IsPassedAt}
use Rattle.jsonb.proofs.PartLaws.{key_of_other_length, key_known, part_past, part_read}
use Rattle.jsonb.proofs.lookup.matching_key.Goals as goal
use Rattle.jsonb.proofs.lookup.matching_key.Goals.{then-size-name+in_ok-key+else-eq_func}
use Rattle.jsonb.proofs.lookup.matching_key.Goals.{else-size-name}
use borrow.Author.Count.{below_more}

pub returns-in_err-key-clause-found : goal.returns-in_err-key-clause-found
returns-in_err-key-clause-found g c =
    let refused : c.from_residual.result ≡ Err c.in_err-key.field-0.0 =
    search rules in
    rw refused record {
      pair = c.loop-pair.pair;
      among = c.loop-pair-test.true;
      earlier = c.loop-pair.invariant.passed;
      unread = key_known _ _ _ _ _ c.loop-pair.start c.entry_within-jentry.ensures.value
          (search rules) c.loop-pair.invariant.start _
          (part_past _ _ _ _ c.in_err-key.ensures.value);
    }

pub returns-then-eq_func-clause-found : goal.returns-then-eq_func-clause-found
returns-then-eq_func-clause-found g c = (
  record {
    among = c.loop-pair-test.true;
    key = c.payload.result.now;
    there = key_known _ _ _ _ _ c.loop-pair.start c.entry_within-jentry.ensures.value (search rules)
        c.loop-pair.invariant.start _ (part_read _ _ _ _ _ c.in_ok-key.ensures.value
        c.payload.ensures.bytes);
    accepted = search rules;
    earlier = c.loop-pair.invariant.passed;
  },
  (search rules, search rules),
)

pub loop-pair-preserved : goal.loop-pair-preserved
loop-pair-preserved g c =
    let size = length c.args.name.now in
    let bytes = c.args.bytes.now in
    let pair = c.loop-pair.pair in
    let answers = FnReturnsAtPair g.F.Fn c.args.eq_func.now c.args.name.now in
    let more = below_more (IsPassedAt answers size bytes c.args.count) pair
    c.loop-pair.invariant.passed in
    record {
      start = search rules;
      cost = search rules;
      passed = elim c.if-size-name.branch [
        | then-size-name+in_ok-key+else-eq_func w ↦
            more (rw (key_known size bytes c.args.count pair _ c.loop-pair.start
            c.entry_within-jentry.ensures.value (search rules) c.loop-pair.invariant.start _
            (part_read _ _ _ _ _ w.in_ok-key.ensures.value w.payload.ensures.bytes)) (search rules))
        | else-size-name w ↦
            more (rw (key_of_other_length size bytes c.args.count pair _
            c.entry_within-jentry.ensures.value (search rules)) tt)
      ];
    }
