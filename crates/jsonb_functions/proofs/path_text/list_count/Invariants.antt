use Rattle.std.proofs.Common.{◌≡◌, ◌+◌, ◌≤◌, drop, map}
use Rattle.jsonb_functions.specs.PathText.{list_count, selector_view}
use Rattle.jsonb_functions.proofs.path_text.list_count.Given as goal

abbrev pub invariant-loop-selector : goal.invariant-loop-selector
invariant-loop-selector l = record {
  few : l.count ≤ l.selector-index;
  counted : l.count + list_count (map selector_view (drop l.selector-index l.path))
      ≡ list_count (map selector_view l.path);
}
