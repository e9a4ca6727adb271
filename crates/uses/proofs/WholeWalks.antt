-- What has been collected when an iterator has ended, and that it yields no error.
use Rattle.std.proofs.Common.{◌≡◌, ◌⊎◌, inl, inr, ℕ, zero, suc, ◌+◌, ◌≤◌, List, [], ◌∷◌, ◌++◌}
use Rattle.std.proofs.Common.{length, map, append-nil, append_assoc, Option, Some, Result, Ok, Err}
use Rattle.std.proofs.Common.{refl, sym, ap, subst, ◌∙◌}
use Rattle.std.specs.Iterator.{Yields, YieldsFirstBy, TryCollects}
use Rattle.std.specs.Iterator.Runs.{SomeRun, EndsAtFirstErr, YieldsRun}
use Rattle.std.specs.List.{AllByRecursion, FoldsTo, slice_get}
use Rattle.std.specs.Option.{IsSomeAnd}
use Rattle.std.specs.Result.{IsOk, IsErrAnd, IfErr}
use Rattle.std.specs.Vec.{vec_len, vec_capacity}
use Rattle.std.specs.declared.alloc.AllocError.{AllocError}
use Rattle.std.specs.declared.vec.Vec.{Vec}
use Rattle.std.proofs.lemmas.List.{map-append}
use Rattle.jsonb_value.proofs.Json.ValueSteps.{err_is}
use Rattle.jsonb_value.specs.declared.error.Error.{Error}
use Rattle.jsonb_value.specs.declared.error.Error.TheVariants.{OutOfMemory}
use Rattle.jsonb_value.specs.Tree.{Tree, array, object, Trees, no_trees, tree, Pairs, no_pairs}
use Rattle.jsonb_value.specs.Tree.{pair, count, pair_count}
use Rattle.jsonb.specs.ItemView.{ItemView}
use Rattle.jsonb.specs.Walk.{Walk}
use Rattle.jsonb.specs.DocumentWalk.{ShowsTrees, key_views, ShowsValues, ShowsPairs, WalksArray}
use Rattle.jsonb.specs.DocumentWalk.{WalksKeys, WalksValues, WalksPairs}
use Rattle.uses.specs.Question.{walk_of}

-- there are n results, and none is an error
abbrev AreOk : {A : Type 0} → ℕ → List (Result A Error) → Type 0
AreOk n xs = (n ≡ length xs) × AllByRecursion IsOk xs

abbrev pub HoldsAll : {A : Type 0} → Walk A → Type 0
HoldsAll w = AreOk w.count w.rest

module _ {A B : Type 0} (view : Result A Error → Result B Error) where
  abbrev Steps : Walk B → Option (Result A Error) → Walk B → Type 0
  Steps = YieldsFirstBy view (λ w. w.rest)

  -- what `try_collect` has made of an iterator that ended
  abbrev Collects : {Z : Type 0} → Walk B → Vec A Z → Type 0
  Collects = TryCollects Steps (λ x r. r ≡ x) (λ xs v. (v.items ≡ xs) × (vec_len v ≡ length xs))
      (λ v xs w. (w.items ≡ v.items ++ xs) × (vec_len w ≡ vec_len v + length xs)
      × (vec_capacity v ≤ vec_capacity w))

  abbrev views : List A → List (Result B Error)
  views = map (λ x. view (Ok x))

  -- what was yielded, and what is left
  yielded : (xs : List (Result A Error)) (s t : Walk B) → Yields Steps s xs t
      → s.rest ≡ map view xs ++ t.rest
  yielded [] s t h = ap (λ w. w.rest) h
  yielded (x ∷ xs) s t h = h.1 ∙ ap (λ l. view x ∷ l) (yielded xs h.0 t h.2)

  -- the values were added in order
  added : {Z : Type 0} (xs : List (Result A Error)) (v w : Vec A Z)
      → FoldsTo (λ p x q. (y : A) × (Ok y ≡ x) × ((q.items ≡ p.items ++ (y ∷ []))
      × (vec_len q ≡ vec_len p + length (y ∷ [])) × (vec_capacity p ≤ vec_capacity q))) v xs w
      → views w.items ≡ views v.items ++ map view xs
  added [] v w h = ap (λ u. views u.items) (sym h) ∙ sym (append-nil _)
  added (x ∷ xs) v w h =
      added xs h.0 w h.2
      ∙ ap (λ l. l ++ map view xs) (ap views h.1.2.0 ∙ map-append (λ x. view (Ok x)) v.items _)
      ∙ append_assoc (views v.items) _ _ ∙ ap (λ r. views v.items ++ (view r ∷ map view xs)) h.1.1

  -- when an iterator has ended, the values collected from it are all its values, for any
  -- description of it
  pub whole_walk : {Z : Type 0} (Walks : Result (Option (Walk B)) Error → Type 0)
      → {walk : Walk B} {v : Vec A Z} → HoldsAll walk → Walks (Ok (Some walk)) → Collects walk v
      → Walks (Ok (Some (walk_of (views v.items))))
  whole_walk Walks {walk = walk} {v = v} holds walks took =
      let given = yielded took.0 walk took.2.1.0 took.2.1.1 in
      let values = added took.0 took.1 v took.4 in
      let all : walk.rest ≡ views v.items =
      cc (given, took.2.1.2.0, append-nil (map view took.0), values, took.3.0) in
      let long : walk.count ≡ length (views v.items) = holds.0 ∙ ap length all in
      subst (λ w. Walks (Ok (Some w))) (λ i. record { count = long i; rest = all i }) walks

  -- none of the results is an error
  no_error : (xs : List (Result A Error)) (ys : List (Result B Error)) (i : ℕ) (e : Error)
      → view (Err e) ≡ Err e → AllByRecursion IsOk (map view xs ++ ys)
      → IsSomeAnd (slice_get xs i) (λ x. Err e ≡ x) → ⊥
  no_error [] ys i e same ok at = at
  no_error (x ∷ xs) ys zero e same ok at = let is = ap view at in cc
  no_error (x ∷ xs) ys (suc i) e same ok at = no_error xs ys i e same ok.1 at

  -- the only error of `try_collect` is that memory runs out
  pub only_memory : {C : Type 0} → ((e : Error) → view (Err e) ≡ Err e)
      → {walk : Walk B} {e : Error} (r : Result C Error) → HoldsAll walk
      → (AllocError × (e ≡ OutOfMemory))
      ⊎ SomeRun Steps walk (λ p. EndsAtFirstErr p (λ x r. r ≡ x) e)
      → IsErrAnd r (λ f. f ≡ e) → IfErr r (λ e. e ≡ OutOfMemory)
  unfolding YieldsRun
  only_memory same r holds (inl full) is = err_is r _ _ is full.1
  only_memory same {walk = walk} {e = e} r holds (inr run) is =
      let p = run.0 in
      let given = ap (λ w. w.rest) (sym run.1) ∙ yielded p.items p.from p.gave.0.0 p.gave.0.1 in
      absurd (no_error p.items p.gave.0.0.rest run.2.0 e (same e) (rw given at holds.1)
      (rw (p.gave.1 run.2.0) at run.2.2))

one_more : {A : Type 0} {n : ℕ} (x : A) (xs : List (Result A Error)) → AreOk n xs
    → AreOk (suc n) (Ok x ∷ xs)
one_more x xs h = (ap suc h.0, (refl, h.1))

AreOk-trees : (ts : Trees) (xs : List (Result ItemView Error)) → ShowsTrees ts xs
    → AreOk (count ts) xs
AreOk-trees no_trees xs h = rw h (refl, tt)
AreOk-trees (tree t ts) (Ok x ∷ xs) h = one_more x xs (AreOk-trees ts xs h.1)
AreOk-trees (tree t ts) xs h = absurd h

AreOk-values : (ps : Pairs) (xs : List (Result ItemView Error)) → ShowsValues ps xs
    → AreOk (pair_count ps) xs
AreOk-values no_pairs xs h = rw h (refl, tt)
AreOk-values (pair k t ps) (Ok x ∷ xs) h = one_more x xs (AreOk-values ps xs h.1)
AreOk-values (pair k t ps) xs h = absurd h

AreOk-pairs : (ps : Pairs) (xs : List (Result (List ℕ × ItemView) Error)) → ShowsPairs ps xs
    → AreOk (pair_count ps) xs
AreOk-pairs no_pairs xs h = rw h (refl, tt)
AreOk-pairs (pair k t ps) (Ok x ∷ xs) h = one_more x xs (AreOk-pairs ps xs h.1.1)
AreOk-pairs (pair k t ps) xs h = absurd h

AreOk-keys : (ps : Pairs) → AreOk (pair_count ps) (key_views ps)
AreOk-keys no_pairs = (refl, tt)
AreOk-keys (pair k t ps) = let more = AreOk-keys ps in (ap suc more.0, (refl, more.1))

-- Each of the four iterators counts its results, none of which is an error.
pub WalksArray-all : (t : Tree) (w : Walk ItemView) → WalksArray t (Ok (Some w)) → HoldsAll w
WalksArray-all (array ts) w h = rw h.0 (AreOk-trees ts w.rest h.1)
WalksArray-all t w h = cc

pub WalksValues-all : (t : Tree) (w : Walk ItemView) → WalksValues t (Ok (Some w)) → HoldsAll w
WalksValues-all (object ps) w h = rw h.0 (AreOk-values ps w.rest h.1)
WalksValues-all t w h = cc

pub WalksPairs-all : (t : Tree) (w : Walk (List ℕ × ItemView)) → WalksPairs t (Ok (Some w))
    → HoldsAll w
WalksPairs-all (object ps) w h = rw h.0 (AreOk-pairs ps w.rest h.1)
WalksPairs-all t w h = cc

pub WalksKeys-all : (t : Tree) (w : Walk ItemView) → WalksKeys t (Ok (Some w)) → HoldsAll w
WalksKeys-all (object ps) w h = rw (h.0, h.1) (AreOk-keys ps)
WalksKeys-all t w h = cc
