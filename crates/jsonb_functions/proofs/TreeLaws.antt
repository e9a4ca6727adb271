-- The terms of a text are those of a condition.
use Rattle.std.proofs.Common.{◌≡◌, ℕ, zero, suc, List, [], ◌∷◌, ◌++◌, map, refl, sym, ap, ◌∙◌}
use Rattle.std.proofs.Common.{subst, Bool, true, false, append_assoc}
use Rattle.std.proofs.lemmas.List.{append-nil}
use Rattle.std.specs.Prelude.{Option, Some}
use Rattle.jsonb_functions.specs.declared.filter.Term.{Term}
use Rattle.jsonb_functions.specs.declared.filter.Term.TheVariants as terms
use Rattle.jsonb_functions.specs.Conditions.{AnyOf, Single, all_of, all_of_one, all_terms}
use Rattle.jsonb_functions.specs.Conditions.{any_terms, finds, finds_none, group, one_of}
use Rattle.jsonb_functions.specs.Conditions.{single_terms, some_of, tests, turned}
use Rattle.jsonb_functions.specs.PathText.{AreTerms, state_after, term_view}

-- Terms each of which stands where it can.
abbrev Accepted : Bool → ℕ → List Term → Type 0
Accepted wants depth [] = (wants ≡ false) × (depth ≡ 0)
Accepted wants depth (x ∷ xs) = (state : Bool × ℕ)
    × (state_after wants depth (term_view x) ≡ Some state) × Accepted state.0 state.1 xs

accepted : (wants : Bool) (depth : ℕ) (text : List ℕ) (xs : List Term) (rest : List ℕ)
    → AreTerms wants depth text (map term_view xs) rest → Accepted wants depth xs
accepted wants depth text [] rest h = (h.0, h.1)
accepted wants depth text (x ∷ xs) rest (after, state, begins, is, more) =
    (state, is, accepted state.0 state.1 after xs rest more)

moved : (b : Bool) (depth : ℕ) (state : Bool × ℕ) (xs : List Term)
    → ◌≡◌ {A = Option (Bool × ℕ)} (Some (b, depth)) (Some state)
    → Accepted state.0 state.1 xs → Accepted b depth xs
moved b depth state xs e h =
    let same : state ≡ (b, depth) = cc in subst (λ s. Accepted s.0 s.1 xs) same h

-- After a condition its groups are closed, and after each the terms go on as after a test.
abbrev Closes : ℕ → List Term → Type 0
Closes zero ys = ys ≡ []
Closes (suc depth) ys = (zs : List Term) × (ys ≡ terms.Close ∷ zs)
    × ((s : Single) → (a : AnyOf) × (ws : List Term)
    × (single_terms s ++ zs ≡ any_terms a ++ ws) × Closes depth ws)

abbrev GoesOn : ℕ → List Term → Type 0
GoesOn depth xs =
    (a : AnyOf) × (ys : List Term) × (xs ≡ any_terms a ++ ys) × Closes depth ys

-- A condition with one more part at its front.
abbrev join_and : Single → AnyOf → AnyOf
join_and s (one_of a) = one_of (all_of s a)
join_and s (some_of a more) = some_of (all_of s a) more

joined_terms : (s : Single) (a : AnyOf)
    → any_terms (join_and s a) ≡ single_terms s ++ (terms.And ∷ any_terms a)
joined_terms s (one_of a) = refl
joined_terms s (some_of a more) =
    append_assoc (single_terms s) (terms.And ∷ all_terms a) (terms.Or ∷ any_terms more)

and_goes_on : (depth : ℕ) (s : Single) (xs : List Term) → GoesOn depth xs
    → GoesOn depth (single_terms s ++ (terms.And ∷ xs))
and_goes_on depth s xs (a, ys, e, ends) = (
  join_and s a,
  ys,
  ap (λ zs. single_terms s ++ (terms.And ∷ zs)) e
      ∙ sym (append_assoc (single_terms s) (terms.And ∷ any_terms a) ys)
      ∙ ap (λ zs. zs ++ ys) (sym (joined_terms s a)),
  ends,
)

or_goes_on : (depth : ℕ) (s : Single) (xs : List Term) → GoesOn depth xs
    → GoesOn depth (single_terms s ++ (terms.Or ∷ xs))
or_goes_on depth s xs (a, ys, e, ends) = (
  some_of (all_of_one s) a,
  ys,
  ap (λ zs. single_terms s ++ (terms.Or ∷ zs)) e
      ∙ sym (append_assoc (single_terms s) (terms.Or ∷ any_terms a) ys),
  ends,
)

group_goes_on : (depth : ℕ) (xs : List Term) (first : Term)
    (made : AnyOf → Single) → ((a : AnyOf) → single_terms (made a)
    ≡ first ∷ (any_terms a ++ (terms.Close ∷ []))) → GoesOn (suc depth) xs
    → GoesOn depth (first ∷ xs)
group_goes_on depth xs first made is (a, ys, e, ends) =
    let zs = ends.0 in
    let whole : first ∷ xs ≡ single_terms (made a) ++ zs =
    ap (λ x. first ∷ x) (e ∙ ap (λ x. any_terms a ++ x) ends.1
    ∙ sym (append_assoc (any_terms a) (terms.Close ∷ []) zs))
    ∙ ap (λ x. x ++ zs) (sym (is a)) in
    subst (λ x. GoesOn depth x) (sym whole) (ends.2 (made a))

ends_here : (depth : ℕ) → depth ≡ 0 → Closes depth []
ends_here depth e = subst (λ d. Closes d []) (sym e) refl

mutual
  from_value : (xs : List Term) (depth : ℕ) → Accepted true depth xs → GoesOn depth xs
  from_value [] depth h = let none : true ≡ false = h.0 in absurd (cc)
  from_value (terms.Test t ∷ xs) depth (state, is, more) =
      from_mark xs depth (moved false depth state xs is more) (tests t)
  from_value (terms.Exists path ∷ xs) depth (state, is, more) =
      from_mark xs depth (moved false depth state xs is more) (finds path)
  from_value (terms.NotExists path ∷ xs) depth (state, is, more) =
      from_mark xs depth (moved false depth state xs is more) (finds_none path)
  from_value (terms.Open ∷ xs) depth (state, is, more) =
      group_goes_on depth xs terms.Open group (λ a. refl)
      (from_value xs (suc depth) (moved true (suc depth) state xs is more))
  from_value (terms.OpenNot ∷ xs) depth (state, is, more) =
      group_goes_on depth xs terms.OpenNot turned (λ a. refl)
      (from_value xs (suc depth) (moved true (suc depth) state xs is more))
  from_value (terms.And ∷ xs) depth (state, is, more) = absurd (cc)
  from_value (terms.Or ∷ xs) depth (state, is, more) = absurd (cc)
  from_value (terms.Close ∷ xs) depth (state, is, more) = absurd (cc)

  from_mark : (xs : List Term) (depth : ℕ) → Accepted false depth xs → (s : Single)
      → GoesOn depth (single_terms s ++ xs)
  from_mark [] depth h s = (one_of (all_of_one s), [], refl, ends_here depth h.1)
  from_mark (terms.And ∷ xs) depth (state, is, more) s =
      and_goes_on depth s xs (from_value xs depth (moved true depth state xs is more))
  from_mark (terms.Or ∷ xs) depth (state, is, more) s =
      or_goes_on depth s xs (from_value xs depth (moved true depth state xs is more))
  from_mark (terms.Close ∷ xs) zero (state, is, more) s = absurd (cc)
  from_mark (terms.Close ∷ xs) (suc depth) (state, is, more) s = (
    one_of (all_of_one s),
    terms.Close ∷ xs,
    refl,
    (xs, refl, λ other. from_mark xs depth (moved false depth state xs is more) other),
  )
  from_mark (terms.Test t ∷ xs) depth (state, is, more) s = absurd (cc)
  from_mark (terms.Exists path ∷ xs) depth (state, is, more) s = absurd (cc)
  from_mark (terms.NotExists path ∷ xs) depth (state, is, more) s = absurd (cc)
  from_mark (terms.Open ∷ xs) depth (state, is, more) s = absurd (cc)
  from_mark (terms.OpenNot ∷ xs) depth (state, is, more) s = absurd (cc)

pub terms_made : (text : List ℕ) (xs : List Term) (rest : List ℕ)
    → AreTerms true 0 text (map term_view xs) rest → (a : AnyOf) × (xs ≡ any_terms a)
terms_made text xs rest h =
    let whole = from_value xs 0 (accepted true 0 text xs rest h) in (
      whole.0,
      whole.2 ∙ ap (λ ys. any_terms whole.0 ++ ys) whole.3 ∙ append-nil (any_terms whole.0),
    )
