use Rattle.std.proofs.Common.{rules, ap, ◌∙◌}
use Rattle.jsonb_functions.specs.PathText.{bound_in, indexes_in}
use Rattle.jsonb_functions.proofs.IndexTextLaws.{index_missing, index_read, last_missing}
use Rattle.jsonb_functions.proofs.IndexTextLaws.{last_read, none_before}
use Rattle.jsonb_functions.proofs.path_text.read_indexes.Goals as goal

pub loop-part-init : goal.loop-part-init
loop-part-init c = (
  search rules,
  rw c.new-indexes.ensures.items (none_before (indexes_in c.args.place.now)),
)

pub loop-part-preserved : goal.loop-part-preserved
loop-part-preserved c = (
  search rules,
  index_read c.loop-part.left.now c.in-Some.part.now c.in-Some.rest.now
      c.loop-part.indexes.items (indexes_in c.args.place.now) c.in-Some.ensures.0
      c.in-Some.ensures.1 c.loop-part.invariant.1 c.in-Some-read_bound.index
      c.push.new.self.items
      (c.in-Some-read_bound.ensures ∙ ap bound_in c.after_spaces.ensures)
      c.in_ok-push.ensures.items,
)

pub returns-in_default-read_bound : goal.returns-in_default-read_bound
returns-in_default-read_bound c =
    index_missing c.loop-part.left.now c.in-Some.part.now c.in-Some.rest.now
    c.loop-part.indexes.items (indexes_in c.args.place.now) c.in-Some.ensures.0
    c.in-Some.ensures.1 c.loop-part.invariant.1
    (c.in_default-read_bound.ensures ∙ ap bound_in c.after_spaces.ensures)

pub returns-in_default-read_bound-2 : goal.returns-in_default-read_bound-2
returns-in_default-read_bound-2 c =
    last_missing c.loop-part.left.now c.loop-part.indexes.items (indexes_in c.args.place.now)
    c.in_default.ensures c.loop-part.invariant.1
    (c.in_default-read_bound-2.ensures ∙ ap bound_in c.after_spaces-2.ensures)

pub returns : goal.returns
returns c =
    last_read c.loop-part.left.now c.loop-part.indexes.items (indexes_in c.args.place.now)
    c.in_default.ensures c.loop-part.invariant.1 c.in-Some-read_bound-2.index
    c.push-2.new.self.items
    (c.in-Some-read_bound-2.ensures ∙ ap bound_in c.after_spaces-2.ensures)
    c.in_ok-push-2.ensures.items
