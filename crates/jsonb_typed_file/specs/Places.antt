-- Where the columns of a file lie in its bytes.
use Rattle.std.specs.Prelude.{◌≡◌, ◌≤◌, ◌+◌, ℕ, List, length, take, drop}
use Rattle.jsonb_typed_file.specs.declared.places.ColumnPlaces.{ColumnPlaces}
use Rattle.jsonb_typed_file.specs.declared.places.SectionPlace.{SectionPlace}
use Rattle.jsonb_typed_file.specs.Layout.{Parts}

-- These bytes lie there.
pub record LiesAt (bytes section : List ℕ) (place : SectionPlace) : Type 0 where
  pub within : place.offset + place.length ≤ length bytes
  pub is : take place.length (drop place.offset bytes) ≡ section

-- The name and the buffers of the column, which has so many rows, lie there.
pub record IsColumnAt (bytes : List ℕ) (rows : ℕ) (p : Parts) (places : ColumnPlaces)
    : Type 0 where
  pub rows_are : places.rows ≡ rows
  pub type : places.column_type ≡ p.type
  pub name : LiesAt bytes p.name places.name
  pub flags : LiesAt bytes p.flags places.flags
  pub numbers : LiesAt bytes p.numbers places.numbers
  pub texts : LiesAt bytes p.texts places.texts
