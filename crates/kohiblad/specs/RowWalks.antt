-- Walks over the members of rows.
use Rattle.std.specs.Prelude.{◌≡◌, ℕ, List, Option, None, if◌then◌else◌}
use Rattle.jsonb_value.specs.Tree.{Tree}
use Rattle.jsonb_codec.specs.Doc.{Doc}
use Rattle.jsonb.specs.declared.entries.Entry.{Entry}
use Rattle.kohiblad.specs.declared.row_walk.RowWalk.{RowWalk}
use Rattle.kohiblad.specs.PlacedMembers.{AreMembersIn, AreWhole, name_place, place_after}
use Rattle.kohiblad.specs.PlacedMembers.{place_among}

-- The members that a walk has left are in its row, and whole if the row is a document.
pub record IsWalk (walk : RowWalk) : Type 0 where
  pub there : AreMembersIn walk.row.now walk.members
  pub whole : (t : Tree) → Doc walk.row.now t → AreWhole walk.row.now walk.members

-- What was found is the place of the name in the row, if the row is a document.
abbrev pub IsFoundAs : List ℕ → List ℕ → Option Entry → Type 0
IsFoundAs row name found = (t : Tree) → Doc row t → found ≡ name_place name row

-- The place of the value of a name if it is where the row before has it, as long as all were.
abbrev pub place_alike : List ℕ → ℕ → RowWalk → Option Entry
place_alike name passed walk =
    if walk.is_alike then place_after name walk.row.now passed walk.members else None

-- The place of the name is still to be found in the walk.
abbrev pub IsSoughtIn : List ℕ → RowWalk → Type 0
IsSoughtIn name walk = IsFoundAs walk.row.now name (place_among name walk.row.now walk.members)
