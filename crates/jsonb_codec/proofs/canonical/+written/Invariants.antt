use Rattle.std.proofs.Common.{◌↔◌, ◌+◌, ◌*◌, ◌≤◌, length}
use Rattle.jsonb_value.specs.Tree.{Trees}
use Rattle.jsonb_codec.specs.Canonical.{AreWritten}
use Rattle.jsonb_codec.specs.Contents.{AreChildren}
use Rattle.jsonb_codec.proofs.canonical.+written.Given as goal

abbrev pub decreases-is_written : goal.decreases-is_written
decreases-is_written l = 4 * length l.part.payload.now + 3

abbrev pub decreases-are_written : goal.decreases-are_written
decreases-are_written l = 4 * length l.children.payloads.now + 6

-- All children are as written exactly if the remaining ones are.
abbrev pub invariant-are_written-loop-child : goal.invariant-are_written-loop-child
invariant-are_written-loop-child l = record {
  same : (ts : Trees) → AreChildren ts l.fn.children
      → (us : Trees) × (AreChildren us l.left
      × (AreWritten us l.left.entries.now l.left.payloads.now
      ↔ AreWritten ts l.fn.children.entries.now l.fn.children.payloads.now));
  shorter : length l.left.payloads.now ≤ length l.fn.children.payloads.now;
}

abbrev pub decreases-are_written-loop-child : goal.decreases-are_written-loop-child
decreases-are_written-loop-child l = length l.left.entries.now
