use Rattle.std.proofs.Common.{◌↔◌, ◌≤◌, drop}
use Rattle.jsonb_value.specs.TextDepth.{greatest_level, text_depth}
use Rattle.jsonb_value.proofs.text_depth.is_text_within.Given as goal

abbrev pub invariant-loop-character : goal.invariant-loop-character
invariant-loop-character l = record {
  same : (text_depth l.text ≤ l.depth)
      ↔ (greatest_level l.state l.level (drop l.character-index l.text) ≤ l.depth);
  low : l.level ≤ l.character-index;
  inside : l.level ≤ l.depth;
}
