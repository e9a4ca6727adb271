-- The shapes of lists of values that are stored unchanged: as many as the list has elements.
use Rattle.std.proofs.Common.{◌≡◌, ℕ, suc, List, [], ◌∷◌, length, refl, sym, ap, ◌∙◌}
use Rattle.jsonb_codec.specs.Shape.{Shapes, shape_count}
use Rattle.jsonb_codec.specs.Stored.{shapes_by, AreStored}

count-shapes_by : {A : Type 0} (key : A → List ℕ) (code : A → ℕ × List ℕ) (xs : List A)
    → shape_count (shapes_by key code xs) ≡ length xs
count-shapes_by key code [] = refl
count-shapes_by key code (x ∷ xs) = ap suc (count-shapes_by key code xs)

pub count-AreStored : {A : Type 0} (stored : A → Type 0) (key : A → List ℕ)
    (code : A → ℕ × List ℕ) (xs : List A) (ss : Shapes) → AreStored stored key code xs ss
    → length xs ≡ shape_count ss
count-AreStored stored key code xs ss h =
    sym (ap shape_count h.shapes ∙ count-shapes_by key code xs)
