-- Texts of arrays, as wholes: `[`, items with commas between them, and `]`, with white space around
-- each of these.
use Rattle.std.specs.Prelude.{◌≡◌, ◌||◌, not, ℕ, Bool, true, false, List, [], ◌∷◌, ◌++◌}
use Rattle.jsonb_value.specs.Json.Characters.{all_blank, is_blank}
use Rattle.array_items.specs.Arrays.{ends_item, item_in}
use Rattle.array_items.specs.Values.{left_from, place_after, value_from}
use Rattle.array_items.specs.declared.array.FoundItem.TheVariants.{Item, End}
use Rattle.array_items.specs.declared.value.Place.{Place}
use Rattle.array_items.specs.declared.value.Place.TheVariants.{Before, Word, After}

-- Whether an item may begin so: with neither white space, nor a comma, nor `]`.
abbrev pub begins_item : List ℕ → Bool
begins_item [] = false
begins_item (b ∷ bytes) = not (is_blank b || ends_item b)

-- Whether an item may end at a place: after a text or a container, or in a number or a word.
abbrev pub may_end : Place → Bool
may_end After = true
may_end Word = true
may_end place = false

-- The text is one value, by its brackets and quotes, and ends.
pub record IsItem (text : List ℕ) : Type 0 where
  pub begins : begins_item text ≡ true
  pub whole : value_from Before text ≡ text
  pub left : left_from Before text ≡ []
  pub ends : may_end (place_after Before text) ≡ true

-- Items that come after another one: a comma before each, and `]` at the end.
pub data AreLater : List ℕ → List (List ℕ) → Type 0 where
  none : (blank : List ℕ) → all_blank blank ≡ true → AreLater (93 ∷ blank) []
  more : {rest : List ℕ} {items : List (List ℕ)} (before item after : List ℕ)
      → all_blank before ≡ true → IsItem item → all_blank after ≡ true → AreLater rest items
      → AreLater (44 ∷ (before ++ (item ++ (after ++ rest)))) (item ∷ items)

-- The items of the array that a text is.
pub data IsArrayText : List ℕ → List (List ℕ) → Type 0 where
  none : (start before after : List ℕ) → all_blank start ≡ true → all_blank before ≡ true
      → all_blank after ≡ true → IsArrayText (start ++ 91 ∷ (before ++ 93 ∷ after)) []
  some : {rest : List ℕ} {items : List (List ℕ)} (start before item after : List ℕ)
      → all_blank start ≡ true → all_blank before ≡ true → IsItem item → all_blank after ≡ true
      → AreLater rest items
      → IsArrayText (start ++ 91 ∷ (before ++ (item ++ (after ++ rest)))) (item ∷ items)

-- The items that reads find one after another, up to the end of an array.
pub data ReadsItems : List ℕ → List (List ℕ) → Type 0 where
  none : {bytes : List ℕ} → item_in bytes ≡ record { found = End; item = []; left = [] }
      → ReadsItems bytes []
  more : {bytes left item : List ℕ} {items : List (List ℕ)}
      → item_in bytes ≡ record { found = Item; item = item; left = left }
      → ReadsItems left items → ReadsItems bytes (item ∷ items)
