use Rattle.std.proofs.Common.{◌≡◌, ◌-◌, ◌∙◌, ap, length, refl, rules}
use Rattle.jsonb.specs.Entries.{Run}
use Rattle.jsonb_functions.specs.PathPlaces.{first_entry}
use Rattle.kohiblad.specs.declared.placed_members.PlacedMembers.{PlacedMembers}
use Rattle.kohiblad.proofs.PlacedMemberLaws.{take_law}
use Rattle.kohiblad.proofs.placed_members.PlacedMembers.take_value.Goals as goal

pub returns-clause-taken : goal.returns-clause-taken
returns-clause-taken c bytes key first_is whole =
    let before = c.args.self.now in
    let mid = c.pass.new.self in
    let after : PlacedMembers = record {
      bytes = mid.bytes;
      first = mid.first;
      keys = mid.keys;
      values = c.entry_after.new.entries;
    } in
    let passed = c.pass.ensures.passed bytes whole in
    let read = c.entry_after.ensures.read passed.whole.values_read in
    let behind : c.saturating_sub-behind.result
    ≡ (length before.values.entries - length before.keys.entries) - 1 = search rules in
    let taken = take_law bytes key before mid after c.saturating_sub-behind.result first_is whole
    passed (ap (λ (run : Run). run.entries) c.pass.ensures.values) behind refl refl read.1 in
    (read.0 ∙ ap first_entry taken.0, taken.1)
