-- Lines that begin a value of several lines.
use Rattle.std.specs.Prelude.{ℕ, Bool, true, false, List}
use Rattle.array_items.specs.Values.{place_after}
use Rattle.array_items.specs.declared.value.Place.{Place}
use Rattle.array_items.specs.declared.value.Place.TheVariants.{Before, Container}

-- Whether a place is within an array or an object, and in no text.
abbrev pub is_container : Place → Bool
is_container (Container depth) = true
is_container place = false

-- Whether the first value of a line is an array or an object that does not end in it.
abbrev pub begins_container : List ℕ → Bool
begins_container line = is_container (place_after Before line)
