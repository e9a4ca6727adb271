-- Printing the values of entries.
use Rattle.std.specs.Prelude.{◌≡◌, ◌≤◌, ℕ, List, Some, slice_get, if◌then◌else◌}
use Rattle.jsonb_value.specs.declared.error.Error.{Error}
use Rattle.jsonb_value.specs.declared.error.Error.TheVariants.{InvalidJsonb, InvalidJsonbJEntry}
use Rattle.jsonb_value.specs.Tree.{Tree}
use Rattle.jsonb_codec.specs.Depth.{depth}
use Rattle.jsonb_codec.specs.Parts.{IsPayloadOf}
use Rattle.kohiblad.specs.Parts.{is_entry_type, part_trees}

-- The payload, in an entry of this type, means the tree, which nests at most this deep.
abbrev pub IsPayloadWithin : ℕ → ℕ → List ℕ → Tree → Type 0
IsPayloadWithin limit type payload t = (depth t ≤ limit) × IsPayloadOf type payload t

-- Why an entry of this type has no value: entries have no such type, or the payload has none.
abbrev pub entry_fault : ℕ → Error
entry_fault type = if is_entry_type type then InvalidJsonb else InvalidJsonbJEntry

-- The tree of the part of a tree with this number is printed, if it nests at most this deep.
abbrev pub IsPrintedPart : ℕ → Tree → ℕ → (Tree → Type 0) → Type 0
IsPrintedPart limit t number IsPrinted =
    (u : Tree)
    × ((slice_get (part_trees t) number ≡ Some u) × (depth u ≤ limit → IsPrinted u))
