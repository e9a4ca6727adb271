use Rattle.jsonb_functions.proofs.ArraySetLaws.{listed_all, listed_next}
use Rattle.jsonb_functions.proofs.EditLaws.{part_tree_of}
use Rattle.jsonb_functions.proofs.array_sets.all_items.Goals as goal

pub loop-first-preserved : goal.loop-first-preserved
loop-first-preserved c = record {
  going = λ ts h.
      let (others, (are, is)) = c.loop-first.invariant.going ts h in
      let part = c.in-Some.first.part in
      let f = c.in-Some.ensures.first others are in (
        f.others,
        (
          f.later,
          listed_next c.loop-first.list.items c.push.new.self.items part f.first ts others f.others
              c.in_ok-push.ensures.items (part_tree_of part f.first f.is) f.are is,
        ),
      );
}

pub returns : goal.returns
returns c ts h =
    let (others, (are, is)) = c.loop-first.invariant.going ts h in
    listed_all c.loop-first.list.items ts others (c.in_default.ensures.none others are) is
