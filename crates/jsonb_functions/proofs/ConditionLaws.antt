-- What the terms of a condition come to.
use Rattle.std.proofs.Common.{◌≡◌, ◌≤◌, ◌-◌, ℕ, zero, suc, List, [], ◌∷◌, ◌++◌, length, take}
use Rattle.std.proofs.Common.{get_or, refl, sym, ap, ◌∙◌, subst, arith, Bool, true, false, inl, inr}
use Rattle.std.specs.Prelude.{◌⊎◌, ◌&&◌, ◌||◌, not}
use Rattle.jsonb_value.specs.Tree.{Tree}
use Rattle.jsonb_functions.specs.declared.filter.Condition.{Condition}
use Rattle.jsonb_functions.specs.declared.filter.Term.{Term}
use Rattle.jsonb_functions.specs.declared.filter.Term.TheVariants as terms
use Rattle.jsonb_functions.specs.declared.filter.Verdict.{Verdict}
use Rattle.jsonb_functions.specs.Conditions.{AllOf, AnyOf, Single, all_of, all_of_one, all_terms}
use Rattle.jsonb_functions.specs.Conditions.{any_terms, finds, finds_none, group}
use Rattle.jsonb_functions.specs.Conditions.{meets_all, meets_any, meets_single}
use Rattle.jsonb_functions.specs.Conditions.{one_of, single_terms, some_of, tests, turned}
use Rattle.jsonb_functions.specs.Filter.{after_term, before_and, before_close, before_open}
use Rattle.jsonb_functions.specs.Filter.{before_or, before_test, holds, verdict, verdict_before}
use Rattle.jsonb_functions.specs.Filter.{verdict_of}

-- The last term is read first.
pub last_first : (t : Tree) (v : Verdict) (rest : List Term) (term : Term)
    → verdict_before t v (rest ++ (term ∷ [])) ≡ verdict_before t (after_term t term v) rest
last_first t v [] term = refl
last_first t v (first ∷ rest) term = ap (λ x. after_term t first x) (last_first t v rest term)

last_at : (left : List Term) (n : ℕ) (term : Term) → length left ≡ suc n
    → get_or left n term ≡ term → left ≡ take n left ++ (term ∷ [])
last_at [] n term some e = absurd (omega (arith, some))
last_at (x ∷ []) zero term some e = ap (λ y. y ∷ []) e
last_at (x ∷ (y ∷ ys)) zero term some e = absurd (omega (arith, some))
last_at (x ∷ xs) (suc n) term some e =
    ap (λ zs. x ∷ zs) (last_at xs n term (omega (arith, some)) e)

pub last_split : (left : List Term) (term : Term) → 1 ≤ length left
    → get_or left (length left - 1) term ≡ term → left ≡ take (length left - 1) left ++ (term ∷ [])
last_split left term some e = last_at left (length left - 1) term (omega (arith, some)) e

-- No term goes more than one group deeper.
test_deeper : (b : Bool) (v : Verdict) (n : ℕ) → v.passing ≡ n
    → (before_test b v n).passing ≤ suc n
test_deeper b v zero e = omega arith
test_deeper b v (suc n) e = omega (arith, e)

and_deeper : (b : Bool) (n : ℕ) → (before_and b n).passing ≤ suc n
and_deeper true n = omega arith
and_deeper false zero = omega arith
and_deeper false (suc n) = omega arith

or_deeper : (b : Bool) (n : ℕ) → (before_or b n).passing ≤ suc n
or_deeper true zero = omega arith
or_deeper true (suc n) = omega arith
or_deeper false zero = omega arith
or_deeper false (suc zero) = omega arith
or_deeper false (suc (suc n)) = omega arith

close_deeper : (b : Bool) (n : ℕ) → (before_close b n).passing ≤ suc n
close_deeper b zero = omega arith
close_deeper b (suc n) = omega arith

open_deeper : (b c : Bool) (n : ℕ) → (before_open b n c).passing ≤ suc n
open_deeper b c zero = omega arith
open_deeper b c (suc zero) = omega arith
open_deeper b c (suc (suc n)) = omega arith

pub one_deeper : (t : Tree) (term : Term) (v : Verdict)
    → (after_term t term v).passing ≤ suc v.passing
one_deeper t (terms.Test test) v = test_deeper _ v v.passing refl
one_deeper t (terms.Exists path) v = test_deeper _ v v.passing refl
one_deeper t (terms.NotExists path) v = test_deeper _ v v.passing refl
one_deeper t terms.And v = and_deeper v.holds v.passing
one_deeper t terms.Or v = or_deeper v.holds v.passing
one_deeper t terms.Open v = open_deeper v.holds _ v.passing
one_deeper t terms.OpenNot v = open_deeper v.holds _ v.passing
one_deeper t terms.Close v = close_deeper v.holds v.passing

-- What comes before terms goes on from their verdict.
before_joined : (t : Tree) (v : Verdict) (xs ys : List Term)
    → verdict_before t v (xs ++ ys) ≡ verdict_before t (verdict_before t v ys) xs
before_joined t v [] ys = refl
before_joined t v (x ∷ xs) ys = ap (λ w. after_term t x w) (before_joined t v xs ys)

-- What is passed over.
or_passed : (b : Bool) (n : ℕ) → before_or b (suc (suc n)) ≡ verdict b (suc (suc n))
or_passed true n = refl
or_passed false n = refl

and_passed : (b : Bool) (n : ℕ) → before_and b (suc n) ≡ verdict b (suc n)
and_passed true n = refl
and_passed false n = refl

mutual
  any_passed : (t : Tree) (a : AnyOf) (b : Bool) (n : ℕ)
      → verdict_before t (verdict b (suc (suc n))) (any_terms a) ≡ verdict b (suc (suc n))
  any_passed t (one_of a) b n = all_passed t a b (suc n)
  any_passed t (some_of a more) b n =
      before_joined t (verdict b (suc (suc n))) (all_terms a) (terms.Or ∷ any_terms more)
      ∙ ap (λ w. verdict_before t (after_term t terms.Or w) (all_terms a)) (any_passed t more b n)
      ∙ ap (λ w. verdict_before t w (all_terms a)) (or_passed b n)
      ∙ all_passed t a b (suc n)

  all_passed : (t : Tree) (a : AllOf) (b : Bool) (n : ℕ)
      → verdict_before t (verdict b (suc n)) (all_terms a) ≡ verdict b (suc n)
  all_passed t (all_of_one s) b n = single_passed t s b n
  all_passed t (all_of s more) b n =
      before_joined t (verdict b (suc n)) (single_terms s) (terms.And ∷ all_terms more)
      ∙ ap (λ w. verdict_before t (after_term t terms.And w) (single_terms s))
      (all_passed t more b n)
      ∙ ap (λ w. verdict_before t w (single_terms s)) (and_passed b n)
      ∙ single_passed t s b n

  single_passed : (t : Tree) (s : Single) (b : Bool) (n : ℕ)
      → verdict_before t (verdict b (suc n)) (single_terms s) ≡ verdict b (suc n)
  single_passed t (tests test) b n = refl
  single_passed t (finds path) b n = refl
  single_passed t (finds_none path) b n = refl
  single_passed t (group a) b n =
      ap (λ w. after_term t terms.Open w)
      (before_joined t (verdict b (suc n)) (any_terms a) (terms.Close ∷ [])
      ∙ any_passed t a b n)
  single_passed t (turned a) b n =
      ap (λ w. after_term t terms.OpenNot w)
      (before_joined t (verdict b (suc n)) (any_terms a) (terms.Close ∷ [])
      ∙ any_passed t a b n)

-- What is not passed over comes to whether the tree meets it.
abbrev IsAll : Verdict → Bool → Type 0
IsAll v b = (v ≡ verdict b 0) ⊎ ((b ≡ false) × (v ≡ verdict false 1))

abbrev IsAny : Verdict → Bool → Type 0
IsAny v b = (k : ℕ) × (v ≡ verdict b k) × (k ≤ 1)

as_any : (v : Verdict) (b : Bool) → IsAll v b → IsAny v b
as_any v b (inl e) = (0, e, omega arith)
as_any v b (inr (is, e)) = (1, e ∙ ap (λ x. verdict x 1) (sym is), omega arith)

and_true : (b : Bool) → (b && true) ≡ b
and_true true = refl
and_true false = refl

and_false : (b : Bool) → (b && false) ≡ false
and_false true = refl
and_false false = refl

or_true : (b : Bool) → (b || true) ≡ true
or_true true = refl
or_true false = refl

or_false : (b : Bool) → (b || false) ≡ b
or_false true = refl
or_false false = refl

before_true : (k : ℕ) → k ≤ 1 → before_or true k ≡ verdict true 1
before_true zero most = refl
before_true (suc zero) most = refl
before_true (suc (suc k)) most = absurd (omega (arith, most))

before_false : (k : ℕ) → k ≤ 1 → before_or false k ≡ verdict false 0
before_false zero most = refl
before_false (suc zero) most = refl
before_false (suc (suc k)) most = absurd (omega (arith, most))

opened : (b c : Bool) (k : ℕ) → k ≤ 1 → before_open b k c ≡ verdict c 0
opened b c zero most = refl
opened b c (suc zero) most = refl
opened b c (suc (suc k)) most = absurd (omega (arith, most))

or_comes : (t : Tree) (a : AllOf) (b : Bool) (w : Verdict) → IsAny w b
    → ((c : Bool) → IsAll (verdict_before t (verdict c 0) (all_terms a)) (meets_all a t))
    → IsAny (verdict_before t (after_term t terms.Or w) (all_terms a)) (meets_all a t || b)
or_comes t a true w (k, e, most) h = (
  1,
  ap (λ x. verdict_before t x (all_terms a))
      (ap (λ x. after_term t terms.Or x) e ∙ before_true k most)
      ∙ all_passed t a true 0 ∙ ap (λ x. verdict x 1) (sym (or_true (meets_all a t))),
  omega arith,
)
or_comes t a false w (k, e, most) h =
    subst (λ x. IsAny x (meets_all a t || false))
    (ap (λ x. verdict_before t x (all_terms a))
    (sym (ap (λ x. after_term t terms.Or x) e ∙ before_false k most)))
    (subst (λ b. IsAny (verdict_before t (verdict false 0) (all_terms a)) b)
    (sym (or_false (meets_all a t))) (as_any _ _ (h false)))

and_fails : (t : Tree) (s : Single) (w : Verdict) → after_term t terms.And w ≡ verdict false 1
    → IsAll (verdict_before t (after_term t terms.And w) (single_terms s))
    (meets_single s t && false)
and_fails t s w e = inr (
  and_false (meets_single s t),
  ap (λ x. verdict_before t x (single_terms s)) e ∙ single_passed t s false 0,
)

and_comes : (t : Tree) (s : Single) (b : Bool) (w : Verdict) → IsAll w b
    → ((c : Bool) → verdict_before t (verdict c 0) (single_terms s)
    ≡ verdict (meets_single s t) 0)
    → IsAll (verdict_before t (after_term t terms.And w) (single_terms s))
    (meets_single s t && b)
and_comes t s true w (inl e) h =
    inl (ap (λ x. verdict_before t (after_term t terms.And x) (single_terms s)) e ∙ h true
    ∙ ap (λ x. verdict x 0) (sym (and_true (meets_single s t))))
and_comes t s true w (inr (is, e)) h = absurd (cc)
and_comes t s false w (inl e) h = and_fails t s w (ap (λ x. after_term t terms.And x) e)
and_comes t s false w (inr (is, e)) h =
    and_fails t s w (ap (λ x. after_term t terms.And x) e)

mutual
  any_comes : (t : Tree) (a : AnyOf) (b : Bool)
      → IsAny (verdict_before t (verdict b 0) (any_terms a)) (meets_any a t)
  any_comes t (one_of a) b = as_any _ _ (all_comes t a b)
  any_comes t (some_of a more) b =
      subst (λ w. IsAny w (meets_all a t || meets_any more t))
      (sym (before_joined t (verdict b 0) (all_terms a) (terms.Or ∷ any_terms more)))
      (or_comes t a (meets_any more t) (verdict_before t (verdict b 0) (any_terms more))
      (any_comes t more b) (λ c. all_comes t a c))

  all_comes : (t : Tree) (a : AllOf) (b : Bool)
      → IsAll (verdict_before t (verdict b 0) (all_terms a)) (meets_all a t)
  all_comes t (all_of_one s) b = inl (single_comes t s b)
  all_comes t (all_of s more) b =
      subst (λ w. IsAll w (meets_single s t && meets_all more t))
      (sym (before_joined t (verdict b 0) (single_terms s) (terms.And ∷ all_terms more)))
      (and_comes t s (meets_all more t) (verdict_before t (verdict b 0) (all_terms more))
      (all_comes t more b) (λ c. single_comes t s c))

  single_comes : (t : Tree) (s : Single) (b : Bool)
      → verdict_before t (verdict b 0) (single_terms s) ≡ verdict (meets_single s t) 0
  single_comes t (tests test) b = refl
  single_comes t (finds path) b = refl
  single_comes t (finds_none path) b = refl
  single_comes t (group a) b =
      let inner = any_comes t a b in
      ap (λ w. after_term t terms.Open w)
      (before_joined t (verdict b 0) (any_terms a) (terms.Close ∷ []) ∙ inner.1)
      ∙ opened (meets_any a t) (meets_any a t) inner.0 inner.2
  single_comes t (turned a) b =
      let inner = any_comes t a b in
      ap (λ w. after_term t terms.OpenNot w)
      (before_joined t (verdict b 0) (any_terms a) (terms.Close ∷ []) ∙ inner.1)
      ∙ opened (meets_any a t) (not (meets_any a t)) inner.0 inner.2

pub condition_meets : (a : AnyOf) (condition : Condition) (t : Tree)
    → condition.terms.items ≡ any_terms a → holds condition t ≡ meets_any a t
condition_meets a condition t e =
    let is = any_comes t a false in
    ap (λ ts. (verdict_of t ts).holds) e ∙ ap (λ v. v.holds) is.1
