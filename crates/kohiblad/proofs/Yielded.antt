-- The items of an iterator whose state is the list of what is left.
use Rattle.std.proofs.Common.{◌≡◌, List, [], ◌∷◌, ◌++◌, map, Option, Some, sym, ap, ◌∙◌}
use Rattle.std.proofs.lemmas.List.{append-nil}
use Rattle.std.specs.Iterator.{Drains, Yields, YieldsFirstBy, YieldsThen}

module _ {A B : Type 0} (view : A → B) where
  -- one step of it
  abbrev steps : List B → Option A → List B → Type 0
  steps = YieldsFirstBy view (λ left. left)

  -- The items come before what is left then.
  pub yielded : (s t : List B) (xs : List A) → Yields steps s xs t → s ≡ map view xs ++ t
  yielded s t [] same = same
  yielded s t (x ∷ xs) (u, step, more) = step ∙ ap (λ bs. view x ∷ bs) (yielded u t xs more)

  -- Up to its end an iterator gives all.
  pub drained : (s : List B) (xs : List A) → Drains steps s xs → map view xs ≡ s
  drained s xs (u, (t, run, ended)) =
      sym (yielded s t xs run ∙ ap (λ bs. map view xs ++ bs) ended.0 ∙ append-nil (map view xs))

  -- Before its end an item comes between others.
  pub met : (s u : List B) (xs : List A) (x : A) → YieldsThen steps s xs (Some x) u
      → s ≡ map view xs ++ view x ∷ u
  met s u xs x (t, run, step) = yielded s t xs run ∙ ap (λ bs. map view xs ++ bs) step
