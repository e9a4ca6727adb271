-- The children of a container that is built, and the items that they represent.
use Rattle.std.specs.Prelude.{◌≡◌, ◌↔◌, ℕ, List, [], ◌∷◌, map}
use Rattle.std.specs.Borrow.{Bor}
use Rattle.jsonb.specs.declared.raw.RawJsonb.{RawJsonb}
use Rattle.jsonb.specs.Raw.{raw_bytes}
use Rattle.jsonb.specs.ItemView.{ItemView, raw}
use Rattle.jsonb.specs.Storage.{IsStored, stored_code}

-- A document given by its bytes, as an item.
abbrev pub raw_view : RawJsonb → ItemView
raw_view x = raw (raw_bytes x)

-- Items at keys.
abbrev pub ItemPairs : Type 0
ItemPairs = List (List ℕ × ItemView)

-- The pairs of a map as items at keys.
abbrev pub pairs_by : {A : Type 0} → (A → ItemView) → List (Bor (List ℕ) × A) → ItemPairs
pairs_by view es = map (λ e. (e.0.now, view e.1)) es

-- The keys of a map, as bytes.
abbrev pub map_keys : {A : Type 0} → List (Bor (List ℕ) × A) → List (List ℕ)
map_keys es = map (λ e. e.0.now) es

-- Two lists of equal length are related element by element.
abbrev pub Pairwise : {A B : Type 0} → (A → B → Type 0) → List A → List B → Type 0
Pairwise R [] ys = ys ≡ []
Pairwise R (x ∷ xs) [] = ⊥
Pairwise R (x ∷ xs) (y ∷ ys) = R x y × Pairwise R xs ys

module _ {T : Type 0} (stored : T → Type 0) (code : T → ℕ × List ℕ) where
  -- The value has an entry exactly if the item has one, and it is the same entry.
  abbrev pub HasSameEntry : T → ItemView → Type 0
  HasSameEntry x item = (stored x ↔ IsStored item) × (stored x → code x ≡ stored_code item)

  abbrev pub AreShown : List T → List ItemView → Type 0
  AreShown = Pairwise HasSameEntry

  -- The keys are equal, and the values have the same entry.
  abbrev pub IsShownAt : Bor (List ℕ) × T → List ℕ × ItemView → Type 0
  IsShownAt e pair = (e.0.now ≡ pair.0) × HasSameEntry e.1 pair.1

  abbrev pub AreShownAt : List (Bor (List ℕ) × T) → ItemPairs → Type 0
  AreShownAt = Pairwise IsShownAt
