-- Two lists related element by element.
use Rattle.std.specs.Prelude.{List, [], ◌∷◌}

-- The lists have equal lengths, and R relates the elements at each index.
pub data Each {A B : Type 0} (R : A → B → Type 0) : List A → List B → Type 0 where
  none : Each R [] []
  more : {x : A} {y : B} {xs : List A} {ys : List B} → R x y → Each R xs ys
      → Each R (x ∷ xs) (y ∷ ys)
