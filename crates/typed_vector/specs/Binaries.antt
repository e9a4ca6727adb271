-- Binary values as they are stored.
use Rattle.std.specs.Prelude.{◌≡◌, ⊤, ℕ, Bool, true, false, List, [], length}
use Rattle.std.specs.List.{AllZip}
use Rattle.typed_vector.specs.Cells.{rows, AreOffsets, AreAlike}

-- A value has no bytes if it is not set.
abbrev pub IsBlankUnlessSet : List ℕ → Bool → Type 0
IsBlankUnlessSet bytes true = ⊤
IsBlankUnlessSet bytes false = bytes ≡ []

-- There is one of each for each row, and a row that is not set has no bytes among the values.
pub record AreBinaries (values value_offsets : List ℕ) (are_set : List Bool)
    (rests : List (List ℕ)) : Type 0 where
  pub ascending : AreOffsets (length values) value_offsets
  pub blank : AllZip IsBlankUnlessSet (rows values value_offsets) are_set
  pub alike : AreAlike (rows values value_offsets) are_set rests
