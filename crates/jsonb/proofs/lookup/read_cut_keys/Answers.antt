use Rattle.std.proofs.Common.{rules, ◌≡◌, ◌+◌, ◌*◌, Ok, None, sym, ap, arith}
use Rattle.jsonb_codec.specs.JEntry.{jentry_in}
use Rattle.jsonb.specs.Parts.{key_of_size}
use Rattle.jsonb.proofs.PartLaws.{key_cut, key_of_other_length, word_cut}
use Rattle.jsonb.proofs.CutKeyLaws.{key_past}
use Rattle.jsonb.proofs.lookup.read_cut_keys.Goals as goal
use borrow.Author.Count.{below_more}

pub returns-then-bytes-pair-clause-unread : goal.returns-then-bytes-pair-clause-unread
returns-then-bytes-pair-clause-unread c = record {
  pair = c.loop-pair.pair;
  among = c.loop-pair-test.true;
  others = c.loop-pair.invariant.others;
  unread = key_cut _ _ _ _ _ (sym (ap jentry_in (word_cut c.args.bytes.now
      (4 + 4 * c.loop-pair.pair) (omega (arith, c.if-bytes-pair.true)))));
}

pub returns-then-key_size-size-clause-unread : goal.returns-then-key_size-size-clause-unread
returns-then-key_size-size-clause-unread c = record {
  pair = c.loop-pair.pair;
  among = c.loop-pair-test.true;
  others = c.loop-pair.invariant.others;
  unread = key_past _ _ _ _ _ c.entry_within-key_size.ensures.value (search rules)
      (omega (arith, c.requires.cut));
}

pub loop-pair-preserved : goal.loop-pair-preserved
loop-pair-preserved c =
    let size = c.args.size in
    let bytes = c.args.bytes.now in
    let pair = c.loop-pair.pair in
    record {
      cost = search rules;
      others = below_more (λ k. key_of_size size bytes c.args.count k ≡ Ok None) pair
          c.loop-pair.invariant.others
          (key_of_other_length size bytes c.args.count pair _ c.entry_within-key_size.ensures.value
          (search rules));
    }
