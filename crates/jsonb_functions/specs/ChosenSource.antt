-- What chosen items and members are written as.
use Rattle.std.specs.Prelude.{◌≡◌, ◌+◌, ℕ, suc, List, [], ◌∷◌, length, map}
use Rattle.std.specs.Borrow.{Bor}
use Rattle.std.proofs.Common.{sym, ◌∙◌}
use Rattle.jsonb_value.specs.Tree.{Tree, Trees, Pairs, pair}
use Rattle.jsonb_value.specs.Value.{trees_of}
use Rattle.jsonb_codec.specs.declared.parts.Member.{Member}
use Rattle.jsonb_codec.specs.declared.parts.Part.{Part}
use Rattle.jsonb_codec.specs.Contents.{PartMeans, AreMembers}
use Rattle.jsonb_codec.specs.PartSource as parts
use Rattle.jsonb_codec.proofs.Unique.{pairs_unique}
use Rattle.jsonb.specs.EntryTrees.{part_tree}
use Rattle.jsonb_functions.specs.declared.choice.Choice.{Choice}
use Rattle.jsonb_functions.specs.declared.chosen.Chosen.{Chosen}
use Rattle.jsonb_functions.specs.declared.chosen.ChosenMembers.{ChosenMembers}
use Rattle.jsonb_functions.specs.Overlay.{OverlayMeaning, OverlayLaws, Becomes, one_becomes}
use Rattle.jsonb_functions.specs.Overlay.{part_unique}
use Rattle.jsonb_functions.specs.Picked.{picked_pairs}

-- The trees of parts in a list.
abbrev pub listed_trees : List Part → Trees
listed_trees list = trees_of (map part_tree list)

-- The pairs that a choice keeps.
abbrev pub kept_pairs : Choice → Pairs → Pairs
kept_pairs choice ps = picked_pairs choice.names.now choice.which ps

-- More than the number of bytes in the payloads of a list.
abbrev pub list_size : List Part → ℕ
list_size [] = 0
list_size (part ∷ list) = suc (length part.payload.now + list_size list)

abbrev pub chosen_meaning : OverlayMeaning Chosen (Bor (List Part)) ChosenMembers
chosen_meaning = record {
  value = λ x. PartMeans x.part;
  items = λ x ts. ts ≡ listed_trees x.now;
  members = λ x. Becomes (λ ps. AreMembers ps x.members) (kept_pairs x.choice);
  value_size = λ x. length x.part.payload.now;
  items_size = λ x. list_size x.now;
  members_size = λ x. parts.items_size x.members.values;
}

pub chosen_laws : OverlayLaws chosen_meaning
chosen_laws = record {
  one_value = λ x. part_unique x.part;
  one_items = λ x ts us h k. h ∙ sym k;
  one_members = λ x. one_becomes (λ ps. AreMembers ps x.members) (kept_pairs x.choice)
      (λ ps qs h k. pairs_unique ps qs _ _ _ _ h k);
}

-- The pairs begin with this member, and the others are those kept of the members after it.
pub record FirstKept (ps : Pairs) (choice : Choice) (m : Member) : Type 0 where
  pub value : Tree
  pub others : Pairs
  pub are : ps ≡ pair m.key.now value (kept_pairs choice others)
  pub is : PartMeans m.value value
  pub left : AreMembers others m.later
