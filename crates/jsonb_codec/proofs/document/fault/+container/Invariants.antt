use Rattle.std.proofs.Common.{◌≡◌, ◌+◌, ◌*◌, ◌%◌, ◌≤◌, ℕ, List, IsTrue, None, length}
use Rattle.std.proofs.Common.{option_map}
use Rattle.jsonb_codec.specs.Parts.{HasChildren, HasKeys}
use Rattle.jsonb_codec.proofs.document.fault.+container.Given as goal

abbrev pub decreases-check_payload : goal.decreases-check_payload
decreases-check_payload l = 4 * length l.payload.now + 3

abbrev pub decreases-check_no_key : goal.decreases-check_no_key
decreases-check_no_key l = 4 * length l.payload.now + 4

abbrev pub decreases-check_key : goal.decreases-check_key
decreases-check_key l = 4 * length l.payload.now + 5

abbrev pub decreases-check_container : goal.decreases-check_container
decreases-check_container l = 4 * length l.bytes.now + 2

abbrev pub decreases-check_array : goal.decreases-check_array
decreases-check_array l = 4 * length l.body.now + 8

abbrev pub decreases-check_object : goal.decreases-check_object
decreases-check_object l = 4 * length l.body.now + 8

abbrev pub decreases-check_children : goal.decreases-check_children
decreases-check_children l = 4 * (length l.entries.now + length l.payloads.now) + 7

abbrev pub decreases-check_keys : goal.decreases-check_keys
decreases-check_keys l = 4 * (length l.entries.now + length l.payloads.now) + 7

-- The whole can be children exactly if the rest can: at every depth only then, and then at that of
-- the check.
abbrev pub invariant-check_children-loop-entry : goal.invariant-check_children-loop-entry
invariant-check_children-loop-entry l = record {
  onward : (d : ℕ) → HasChildren d l.entries l.payloads
      → HasChildren d l.entries_left l.payloads_left;
  back : HasChildren l.depth l.entries_left l.payloads_left
      → HasChildren l.depth l.entries l.payloads;
  words : length l.entries_left % 4 ≡ 0;
  entries_shorter : length l.entries_left ≤ length l.entries;
  payloads_shorter : length l.payloads_left ≤ length l.payloads;
}

abbrev pub decreases-check_children-loop-entry : goal.decreases-check_children-loop-entry
decreases-check_children-loop-entry l = length l.entries_left

-- As long as the children so far were ascending keys, the whole can be keys exactly if the rest
-- can.
abbrev pub invariant-check_keys-loop-entry : goal.invariant-check_keys-loop-entry
invariant-check_keys-loop-entry l = record {
  onward : (q : List ℕ) → HasKeys None l.entries l.payloads q → IsTrue l.ascend
      × HasKeys (option_map (λ b. b.now) l.before) l.entries_left l.payloads_left q;
  back : IsTrue l.ascend → (q : List ℕ)
      → HasKeys (option_map (λ b. b.now) l.before) l.entries_left l.payloads_left q
      → HasKeys None l.entries l.payloads q;
  words : length l.entries_left % 4 ≡ 0;
  entries_shorter : length l.entries_left ≤ length l.entries;
  payloads_shorter : length l.payloads_left ≤ length l.payloads;
}

abbrev pub decreases-check_keys-loop-entry : goal.decreases-check_keys-loop-entry
decreases-check_keys-loop-entry l = length l.entries_left
