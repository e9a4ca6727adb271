-- The terms of a condition, of which some were read.
use Rattle.std.proofs.Common.{◌≡◌, ◌≤◌, ℕ, zero, suc, List, [], ◌∷◌, ◌++◌, map, length, refl}
use Rattle.std.proofs.Common.{sym, Bool, true, false, ap, ◌∙◌, subst, arith, Bor, append_assoc}
use Rattle.std.proofs.Common.{inl, inr, length-append}
use Rattle.std.proofs.lemmas.List.{append-nil}
use Rattle.std.specs.Prelude.{Option, None, Some, option_map, IfSome, IfOk, Result, Ok, Err}
use Rattle.std.specs.Prelude.{if◌then◌else◌, ◌==◌, codes}
use Rattle.std.specs.Global.{Vec}
use Rattle.jsonb_value.specs.Tree.{Tree}
use Rattle.jsonb_functions.specs.declared.filter.Term.{Term}
use Rattle.jsonb_functions.specs.declared.selection.Selector.{Selector}
use Rattle.jsonb_functions.specs.declared.selection.Selector.TheVariants as selectors
use Rattle.jsonb_functions.specs.PathText.{AreSteps, AreTerms, StepBegins, BeginsWithExists}
use Rattle.jsonb_functions.specs.PathText.{BeginsWithLiteral, BeginsWithStep, BeginsWithTerm}
use Rattle.jsonb_functions.specs.PathText.{BeginsWithTest, IsExists, IsFilter, IsFilterPath}
use Rattle.jsonb_functions.specs.PathText.{Reads, SelectorView, TermView, Written, after_spaces}
use Rattle.jsonb_functions.specs.PathText.{also, bracketed, closes, exists_after, exists_in}
use Rattle.jsonb_functions.specs.PathText.{filter, finds, if_after, is_space, mark_in, mark_or}
use Rattle.jsonb_functions.specs.PathText.{opens, opens_not, or_else, plain, quoted}
use Rattle.jsonb_functions.specs.PathText.{selector_view, state_after, tail_after}
use Rattle.jsonb_functions.specs.PathText.{tail_after_exists, tail_after_not, tail_after_two}
use Rattle.jsonb_functions.specs.PathText.{tail_after_word, term_view, terms_view, tested}
use Rattle.jsonb_functions.specs.PathText.{written_bytes}
use Rattle.jsonb_functions.specs.StoredPath.{StepView}
use Rattle.jsonb_functions.proofs.HashLaws.{map_joined}
use Rattle.jsonb_functions.proofs.IndexTextLaws.{tail_word}

-- The parts of a pair.
pair_of : {A B : Type 0} (a c : A) (b d : B)
    → ◌≡◌ {A = Option (A × B)} (Some (a, b)) (Some (c, d)) → (a ≡ c) × (b ≡ d)
pair_of {A} {B} a c b d e =
    let pair : ◌≡◌ {A = A × B} (a, b) (c, d) = cc in (ap (λ x. x.0) pair, ap (λ x. x.1) pair)

-- What follows the terms that were read leads on, and each condition of the text begins with them.
pub record AreRead (text left : List ℕ) (wants : Bool) (depth : ℕ) (read : List Term)
    : Type 0 where
  pub going : (ts : List TermView) (end : List ℕ) → AreTerms wants depth left ts end
      → AreTerms true 0 text (map term_view read ++ ts) end
  pub only : (all : List TermView) (end : List ℕ) → AreTerms true 0 text all end
      → (ts : List TermView) × (all ≡ map term_view read ++ ts) × AreTerms wants depth left ts end

pub first_read : (text : List ℕ) → AreRead text text true 0 []
first_read text = record {
  going = λ ts end h. h;
  only = λ all end h. (all, refl, h);
}

-- One more term was read.
module _ (left : List ℕ) (wants : Bool) (depth : ℕ)
    (goes_on : (end : List ℕ) → AreTerms wants depth left [] end → ⊥) where
  next_only : (term : Term) (rest : Bor (List ℕ)) (state : Bool × ℕ) (before : List TermView)
      (end : List ℕ) → Reads term_view (BeginsWithTerm left) (Some (term, rest))
      → Some state ≡ state_after wants depth (term_view term)
      → (all ts : List TermView) → all ≡ before ++ ts → AreTerms wants depth left ts end
      → (qs : List TermView) × (all ≡ before ++ (term_view term ∷ qs))
      × AreTerms state.0 state.1 rest.now qs end
  next_only term rest state before end step next all [] e h = absurd (goes_on end h)
  next_only term rest state before end step next all (t ∷ ts) e (after, other, begins, is, more) =
      let same = step.only t after begins in
      let found : Some state ≡ Some other =
      next ∙ ap (λ x. state_after wants depth x) same.0 ∙ is in
      let states : state ≡ other = cc in (
        ts,
        e ∙ ap (λ x. before ++ (x ∷ ts)) (sym same.0),
        subst (λ xs. AreTerms state.0 state.1 xs ts end) (sym same.1)
            (subst (λ x. AreTerms x.0 x.1 after ts end) (sym states) more),
      )

  pub read_on : (text : List ℕ) (term : Term) (rest : Bor (List ℕ)) (state : Bool × ℕ)
      (read new : List Term) → Reads term_view (BeginsWithTerm left) (Some (term, rest))
      → Some state ≡ state_after wants depth (term_view term) → new ≡ read ++ (term ∷ [])
      → AreRead text left wants depth read → AreRead text rest.now state.0 state.1 new
  read_on text term rest state read new step next e h =
      let views = map term_view read in
      let more : (ts : List TermView) → map term_view new ++ ts ≡ views ++ (term_view term ∷ ts) =
      λ ts. ap (λ xs. map term_view xs ++ ts) e
      ∙ ap (λ xs. xs ++ ts) (map_joined term_view read (term ∷ []))
      ∙ append_assoc views (term_view term ∷ []) ts in record {
        going = λ ts end later.
            subst (λ xs. AreTerms true 0 text xs end) (sym (more ts))
            (h.going (term_view term ∷ ts) end (rest.now, state, step.is, sym next, later));
        only = λ all end is.
            let was = h.only all end is in
            let now = next_only term rest state views end step next all was.0 was.1 was.2 in
            (now.0, now.1 ∙ sym (more now.0), now.2);
      }

  no_next : (end : List ℕ) → Reads {A = Term} term_view (BeginsWithTerm left) None
      → (ts : List TermView) → AreTerms wants depth left ts end → ⊥
  no_next end step [] h = goes_on end h
  no_next end step (t ∷ ts) (after, state, begins, is, more) = step.only t after begins

  pub none_read : (text : List ℕ) (read : List Term)
      → Reads {A = Term} term_view (BeginsWithTerm left) None
      → AreRead text left wants depth read
      → Reads {A = Vec Term} terms_view (AreTerms true 0 text) None
  none_read text read step h = record {
    is = tt;
    only = λ all end is.
        let was = h.only all end is in no_next end step was.0 was.2;
  }

  no_place : (end : List ℕ) (term : Term) (rest : Bor (List ℕ))
      → Reads term_view (BeginsWithTerm left) (Some (term, rest))
      → None ≡ state_after wants depth (term_view term)
      → (ts : List TermView) → AreTerms wants depth left ts end → ⊥
  no_place end term rest step none [] h = goes_on end h
  no_place end term rest step none (t ∷ ts) (after, state, begins, is, more) =
      let same = step.only t after begins in
      let both : None ≡ Some state =
      none ∙ ap (λ x. state_after wants depth x) same.0 ∙ is in absurd (cc)

  pub none_placed : (text : List ℕ) (read : List Term) (term : Term) (rest : Bor (List ℕ))
      → Reads term_view (BeginsWithTerm left) (Some (term, rest))
      → None ≡ state_after wants depth (term_view term) → AreRead text left wants depth read
      → Reads {A = Vec Term} terms_view (AreTerms true 0 text) None
  none_placed text read term rest step none h = record {
    is = tt;
    only = λ all end is.
        let was = h.only all end is in no_place end term rest step none was.0 was.2;
  }

-- All terms were read. No term is the parenthesis that closes the filter.
closed_by : (text rest after : List ℕ) (t : TermView) (state : Bool × ℕ)
    → after_spaces text ≡ 41 ∷ rest → BeginsWithTerm text t after
    → state_after false 0 t ≡ Some state → ⊥
closed_by text rest after t state e (inl (inner, is, means)) next =
    let both : 41 ∷ rest ≡ 64 ∷ inner = sym e ∙ is in
    let first : ◌≡◌ {A = ℕ} 41 64 = cc in absurd (omega (arith, first))
closed_by text rest after t state e (inr (inl (is_wanted, path, is, means))) next =
    let none : ◌≡◌ {A = Option (Bool × List ℕ)} None (Some (is_wanted, path)) =
    ap exists_in (sym e) ∙ is in
    absurd (cc)
closed_by text rest after t state e (inr (inr is)) next =
    let same = pair_of closes t rest after (ap mark_in (sym e) ∙ is) in
    let none : ◌≡◌ {A = Option (Bool × ℕ)} None (Some state) =
    ap (λ x. state_after false 0 x) same.0 ∙ next in
    absurd (cc)

last_only : (left rest later : List ℕ) (before all ts : List TermView)
    → after_spaces left ≡ 41 ∷ rest → all ≡ before ++ ts → AreTerms false 0 left ts later
    → (before ≡ all) × (rest ≡ later)
last_only left rest later before all [] ends e h =
    let whole : 41 ∷ rest ≡ 41 ∷ later = sym ends ∙ h.2 in
    (sym (e ∙ append-nil before), cc)
last_only left rest later before all (t ∷ ts) ends e (after, state, begins, is, more) =
    absurd (closed_by left rest after t state ends begins is)

pub all_read : (text left : List ℕ) (wants : Bool) (depth : ℕ) (read : Vec Term)
    (rest : Bor (List ℕ)) → AreTerms wants depth left [] rest.now
    → AreRead text left wants depth read.items
    → Reads terms_view (AreTerms true 0 text) (Some (read, rest))
all_read text left wants depth read rest ends h = record {
  is = subst (λ xs. AreTerms true 0 text xs rest.now) (append-nil (terms_view read))
      (h.going [] rest.now ends);
  only = λ all later is.
      let was = h.only all later is in
      let here = subst (λ d. AreTerms false d left was.0 later) ends.1
      (subst (λ w. AreTerms w depth left was.0 later) ends.0 was.2) in
      last_only left rest.now later (terms_view read) all was.0 ends.2 was.1 here;
}

-- A filter whose terms were read.
pub no_open : (text : List ℕ) → ((inner : List ℕ) → after_spaces text ≡ 40 ∷ inner → ⊥)
    → Reads {A = Selector} selector_view (IsFilter text) None
no_open text other = record {
  is = tt;
  only = λ s later h. other h.0 h.2;
}

terms_there : (text inner : List ℕ) (s : SelectorView) (rest : List ℕ)
    → after_spaces text ≡ 40 ∷ inner → (h : IsFilter text s rest) → AreTerms true 0 inner h.1 rest
terms_there text inner s rest e h =
    let whole : 40 ∷ h.0 ≡ 40 ∷ inner = sym h.2 ∙ e in
    let same : h.0 ≡ inner = cc in
    subst (λ xs. AreTerms true 0 xs h.1 rest) same h.3

pub no_terms : (text inner : List ℕ) → after_spaces text ≡ 40 ∷ inner
    → Reads {A = Vec Term} terms_view (AreTerms true 0 inner) None
    → Reads {A = Selector} selector_view (IsFilter text) None
no_terms text inner e read = record {
  is = tt;
  only = λ s later h. read.only h.1 later (terms_there text inner s later e h);
}

pub filter_read : (text inner : List ℕ) (terms : Vec Term) (rest : Bor (List ℕ))
    → after_spaces text ≡ 40 ∷ inner
    → Reads terms_view (AreTerms true 0 inner) (Some (terms, rest))
    → Reads selector_view (IsFilter text)
    (Some (selectors.Filter (record { terms = terms }), rest))
filter_read text inner terms rest e read = record {
  is = (inner, terms_view terms, e, read.is, refl);
  only = λ s later h.
      let same = read.only h.1 later (terms_there text inner s later e h) in
      (ap filter same.0 ∙ sym h.4, same.1);
}

-- A test was read, a path that is to lead to a value or is not to, or a mark.
test_is : (text inner : List ℕ) (r : Option (Term × Bor (List ℕ))) → after_spaces text ≡ 64 ∷ inner
    → IfSome r (λ x. BeginsWithTest inner (term_view x.0) x.1.now)
    → IfSome r (λ x. BeginsWithTerm text (term_view x.0) x.1.now)
test_is text inner None e h = tt
test_is text inner (Some x) e h = inl (inner, e, h)

test_there : (text inner : List ℕ) (t : TermView) (rest : List ℕ)
    → after_spaces text ≡ 64 ∷ inner → BeginsWithTerm text t rest → BeginsWithTest inner t rest
test_there text inner t rest e (inl (other, is, h)) =
    let whole : 64 ∷ other ≡ 64 ∷ inner = sym is ∙ e in
    let same : other ≡ inner = cc in
    subst (λ xs. BeginsWithTest xs t rest) same h
test_there text inner t rest e (inr (inl (is_wanted, path, is, means))) =
    let none : ◌≡◌ {A = Option (Bool × List ℕ)} None (Some (is_wanted, path)) =
    ap exists_in (sym e) ∙ is in
    absurd (cc)
test_there text inner t rest e (inr (inr is)) =
    let none : ◌≡◌ {A = Option (TermView × List ℕ)} None (Some (t, rest)) =
    ap mark_in (sym e) ∙ is in
    absurd (cc)

pub if_test : {E : Type 0} (text inner : List ℕ)
    (r : Result (Option (Term × Bor (List ℕ))) E) → after_spaces text ≡ 64 ∷ inner
    → IfOk r (Reads term_view (BeginsWithTest inner))
    → IfOk r (Reads term_view (BeginsWithTerm text))
if_test text inner (Ok x) e h = record {
  is = test_is text inner x e h.is;
  only = λ t later b. h.only t later (test_there text inner t later e b);
}
if_test text inner (Err x) e h = tt

-- What a byte comes before.
after_one : {A : Type 0} (first : Option (List ℕ)) (f : List ℕ → Option A) (x : A)
    → if_after first f ≡ Some x → (rest : List ℕ) × (first ≡ Some rest) × (f rest ≡ Some x)
after_one None f x e = absurd (cc)
after_one (Some rest) f x e = (rest, refl, e)

mapped_from : {A B : Type 0} (f : A → B) (o : Option A) (y : B) → option_map f o ≡ Some y
    → (x : A) × (o ≡ Some x) × (f x ≡ y)
mapped_from f None y e = absurd (cc)
mapped_from f (Some x) y e = (x, refl, cc)

-- `exists` begins with no mark.
exists_first : (text path : List ℕ) → tail_after_exists text ≡ Some path
    → (rest : List ℕ) × (text ≡ codes "exists" ++ rest)
exists_first text path e =
    let after = after_one (tail_after_word (codes "exists") text) _ path e in
    (after.0, tail_word (codes "exists") text after.0 after.1)

no_mark_after : (text rest path : List ℕ) → text ≡ 33 ∷ rest
    → tail_after_exists (after_spaces rest) ≡ Some path → mark_in text ≡ None
no_mark_after text rest path e is =
    let word = exists_first (after_spaces rest) path is in
    ap mark_in e
    ∙ ap (λ (xs : List ℕ). mark_or (tail_after 40 xs) opens_not None) word.1

no_mark_by : (text path : List ℕ) (is_wanted : Bool) (first : Option (List ℕ))
    → tail_after 33 text ≡ first → exists_after first text ≡ Some (is_wanted, path)
    → mark_in text ≡ None
no_mark_by text path is_wanted (Some rest) first e =
    let found = mapped_from _ (tail_after_exists (after_spaces rest)) (is_wanted, path) e in
    no_mark_after text rest found.0
    (tail_word (33 ∷ []) text rest (ap (λ o. if_after o (tail_after_word [])) first)) found.1
no_mark_by text path is_wanted None first e =
    let found = mapped_from _ (tail_after_exists text) (is_wanted, path) e in
    let word = exists_first text found.0 found.1 in
    ap mark_in word.1

exists_is : (text path : List ℕ) (is_wanted : Bool) (r : Option (Term × Bor (List ℕ)))
    → exists_in (after_spaces text) ≡ Some (is_wanted, path)
    → IfSome r (λ x. IsExists is_wanted path (term_view x.0) x.1.now)
    → IfSome r (λ x. BeginsWithTerm text (term_view x.0) x.1.now)
exists_is text path is_wanted None e h = tt
exists_is text path is_wanted (Some x) e h = inr (inl (is_wanted, path, e, h))

exists_there : (text path : List ℕ) (is_wanted : Bool) (t : TermView) (rest : List ℕ)
    → exists_in (after_spaces text) ≡ Some (is_wanted, path) → BeginsWithTerm text t rest
    → IsExists is_wanted path t rest
exists_there text path is_wanted t rest e (inl (inner, is, h)) =
    let none : ◌≡◌ {A = Option (Bool × List ℕ)} None (Some (is_wanted, path)) =
    ap exists_in (sym is) ∙ e in
    absurd (cc)
exists_there text path is_wanted t rest e (inr (inl (other, inner, is, h))) =
    let same = pair_of other is_wanted inner path (sym is ∙ e) in
    subst (λ b. IsExists b path t rest) same.0 (subst (λ xs. IsExists other xs t rest) same.1 h)
exists_there text path is_wanted t rest e (inr (inr is)) =
    let none : ◌≡◌ {A = Option (TermView × List ℕ)} None (Some (t, rest)) =
    sym (no_mark_by (after_spaces text) path is_wanted _ refl e) ∙ is in
    absurd (cc)

pub if_exists : {E : Type 0} (text path : List ℕ) (is_wanted : Bool)
    (r : Result (Option (Term × Bor (List ℕ))) E)
    → exists_in (after_spaces text) ≡ Some (is_wanted, path)
    → IfOk r (Reads term_view (IsExists is_wanted path))
    → IfOk r (Reads term_view (BeginsWithTerm text))
if_exists text path is_wanted (Ok x) e h = record {
  is = exists_is text path is_wanted x e h.is;
  only = λ t later b. h.only t later (exists_there text path is_wanted t later e b);
}
if_exists text path is_wanted (Err x) e h = tt

mark_there : (text : List ℕ) (t : TermView) (rest : List ℕ)
    → ((inner : List ℕ) → after_spaces text ≡ 64 ∷ inner → ⊥)
    → exists_in (after_spaces text) ≡ None → BeginsWithTerm text t rest
    → mark_in (after_spaces text) ≡ Some (t, rest)
mark_there text t rest other none (inl (inner, is, h)) = absurd (other inner is)
mark_there text t rest other none (inr (inl (is_wanted, path, is, h))) =
    let both : ◌≡◌ {A = Option (Bool × List ℕ)} None (Some (is_wanted, path)) = sym none ∙ is in
    absurd (cc)
mark_there text t rest other none (inr (inr is)) = is

pub mark_read : (text : List ℕ) (r : Option (Term × Bor (List ℕ)))
    → ((inner : List ℕ) → after_spaces text ≡ 64 ∷ inner → ⊥)
    → exists_in (after_spaces text) ≡ None
    → option_map (λ x. (term_view x.0, x.1.now)) r ≡ mark_in (after_spaces text)
    → Reads term_view (BeginsWithTerm text) r
mark_read text None other lacks e = record {
  is = tt;
  only = λ t later h.
      let none : ◌≡◌ {A = Option (TermView × List ℕ)} None (Some (t, later)) =
      e ∙ mark_there text t later other lacks h in
      absurd (cc);
}
mark_read text (Some (term, rest)) other lacks e = record {
  is = inr (inr (sym e));
  only = λ t later h.
      pair_of (term_view term) t rest.now later (e ∙ mark_there text t later other lacks h);
}

-- What is after a term is shorter than the text.
spaces_by : (b : Bool) (c : ℕ) (cs : List ℕ) → length (after_spaces cs) ≤ length cs
    → length (if b then after_spaces cs else c ∷ cs) ≤ suc (length cs)
spaces_by true c cs h = omega (arith, h)
spaces_by false c cs h = omega arith

pub spaces_shorter : (text : List ℕ) → length (after_spaces text) ≤ length text
spaces_shorter [] = omega arith
spaces_shorter (c ∷ cs) = spaces_by (is_space c) c cs (spaces_shorter cs)

joined_shorter : (text front rest : List ℕ) → text ≡ front ++ rest → length rest ≤ length text
joined_shorter text front rest e =
    omega (arith, ap length e, length-append front rest)

steps_shorter : (end text : List ℕ) (path : List SelectorView)
    → AreSteps (StepBegins true) end text path → length end ≤ length text
steps_shorter end text [] e = omega (arith, ap length e)
steps_shorter end text (s ∷ path) (rest, (front, e, is), more) =
    omega (arith, joined_shorter text front rest e, steps_shorter end rest path more)

path_shorter : (text : List ℕ) (steps : List StepView) (rest : List ℕ)
    → IsFilterPath text steps rest → length rest ≤ length text
path_shorter text steps rest (path, (are, ends), single) = steps_shorter rest text path are

literal_shorter : (text : List ℕ) (t : Tree) (rest : List ℕ) → BeginsWithLiteral text t rest
    → length rest ≤ length text
literal_shorter text t rest (inl (s, e, all, is)) =
    omega (arith, ap length e, length-append s (34 ∷ rest))
literal_shorter text t rest (inr (w, e, all, some, stops, means)) = joined_shorter text w rest e

test_shorter : (text : List ℕ) (t : TermView) (rest : List ℕ) → BeginsWithTest text t rest
    → length rest ≤ length text
test_shorter text t rest h =
    let compared = h.is_comparison in
    omega (
      arith,
      path_shorter text h.steps (32 ∷ h.after_path) h.is_path,
      joined_shorter h.after_path compared.0 (32 ∷ h.after_comparison) compared.1,
      literal_shorter h.after_comparison h.value rest h.is_value,
    )

tail_by : (b : Bool) (ds rest : List ℕ) → (if b then Some ds else None) ≡ Some rest
    → length rest ≤ length ds
tail_by true ds rest e = let same : ds ≡ rest = cc in omega (arith, ap length same)
tail_by false ds rest e = absurd (cc)

tail_shorter : (c : ℕ) (text rest : List ℕ) → tail_after c text ≡ Some rest
    → suc (length rest) ≤ length text
tail_shorter c [] rest e = absurd (cc)
tail_shorter c (d ∷ ds) rest e = omega (arith, tail_by (d == c) ds rest e)

after_by : (text : List ℕ) (first : Option (List ℕ)) (f : List ℕ → Option (List ℕ))
    (rest : List ℕ) → ((xs : List ℕ) → first ≡ Some xs → suc (length xs) ≤ length text)
    → ((xs : List ℕ) → f xs ≡ Some rest → length rest ≤ length xs)
    → if_after first f ≡ Some rest → suc (length rest) ≤ length text
after_by text None f rest h more e = absurd (cc)
after_by text (Some xs) f rest h more e = omega (arith, h xs refl, more xs e)

mark_by : (text : List ℕ) (first : Option (List ℕ)) (mark : TermView)
    (others : Option (TermView × List ℕ)) (t : TermView) (rest : List ℕ)
    → ((xs : List ℕ) → first ≡ Some xs → suc (length xs) ≤ length text)
    → (others ≡ Some (t, rest) → suc (length rest) ≤ length text)
    → mark_or first mark others ≡ Some (t, rest) → suc (length rest) ≤ length text
mark_by text None mark others t rest h more e = more e
mark_by text (Some xs) mark others t rest h more e =
    let same = pair_of mark t xs rest e in omega (arith, h xs refl, ap length same.1)

mark_shorter : (text : List ℕ) (t : TermView) (rest : List ℕ) → mark_in text ≡ Some (t, rest)
    → suc (length rest) ≤ length text
mark_shorter text t rest =
    mark_by text (tail_after 40 text) opens _ t rest (tail_shorter 40 text)
    (mark_by text (tail_after 41 text) closes _ t rest (tail_shorter 41 text)
    (mark_by text (tail_after_two 38 text) also _ t rest
    (λ xs. after_by text (tail_after 38 text) (tail_after 38) xs (tail_shorter 38 text)
    (λ ys e. omega (arith, tail_shorter 38 ys xs e)))
    (mark_by text (tail_after_two 124 text) or_else _ t rest
    (λ xs. after_by text (tail_after 124 text) (tail_after 124) xs (tail_shorter 124 text)
    (λ ys e. omega (arith, tail_shorter 124 ys xs e)))
    (mark_by text (tail_after_not text) opens_not None t rest
    (λ xs. after_by text (tail_after 33 text) (λ ys. tail_after 40 (after_spaces ys)) xs
    (tail_shorter 33 text)
    (λ ys e. omega (arith, tail_shorter 40 (after_spaces ys) xs e, spaces_shorter ys)))
    (λ none. absurd (cc))))))

exists_tail_shorter : (text path : List ℕ) → tail_after_exists text ≡ Some path
    → length path ≤ length text
exists_tail_shorter text path e =
    let word = after_one (tail_after_word (codes "exists") text) _ path e in
    let inner = after_one (tail_after 40 (after_spaces word.0)) _ path word.2 in
    omega (
      arith,
      ap length (tail_word (codes "exists") text word.0 word.1),
      length-append (codes "exists") word.0,
      spaces_shorter word.0,
      tail_shorter 40 (after_spaces word.0) inner.0 inner.1,
      spaces_shorter inner.0,
      tail_shorter 64 (after_spaces inner.0) path inner.2,
    )

exists_by_shorter : (text path : List ℕ) (is_wanted : Bool) (first : Option (List ℕ))
    → tail_after 33 text ≡ first → exists_after first text ≡ Some (is_wanted, path)
    → length path ≤ length text
exists_by_shorter text path is_wanted (Some rest) first e =
    let found = mapped_from _ (tail_after_exists (after_spaces rest)) (is_wanted, path) e in
    omega (
      arith,
      tail_shorter 33 text rest first,
      spaces_shorter rest,
      exists_tail_shorter (after_spaces rest) found.0 found.1,
      ap (λ x. length x.1) found.2,
    )
exists_by_shorter text path is_wanted None first e =
    let found = mapped_from _ (tail_after_exists text) (is_wanted, path) e in
    omega (arith, exists_tail_shorter text found.0 found.1, ap (λ x. length x.1) found.2)

exists_shorter : (text : List ℕ) (t : TermView) (rest : List ℕ) → BeginsWithExists text t rest
    → suc (length rest) ≤ length text
exists_shorter text t rest (is_wanted, path, e, (steps, end, is_path, closed, is)) =
    omega (
      arith,
      exists_by_shorter text path is_wanted _ refl e,
      path_shorter path steps end is_path,
      spaces_shorter end,
      ap length closed,
    )

pub term_shorter : (text : List ℕ) (t : TermView) (rest : List ℕ) → BeginsWithTerm text t rest
    → suc (length rest) ≤ length text
term_shorter text t rest (inl (inner, e, h)) =
    omega (arith, spaces_shorter text, ap length e, test_shorter inner t rest h)
term_shorter text t rest (inr (inl e)) =
    omega (arith, spaces_shorter text, exists_shorter (after_spaces text) t rest e)
term_shorter text t rest (inr (inr e)) =
    omega (arith, spaces_shorter text, mark_shorter (after_spaces text) t rest e)

-- A term opens at most one group.
pub state_deeper : (wants : Bool) (depth : ℕ) (t : TermView) (state : Bool × ℕ)
    → Some state ≡ state_after wants depth t → state.1 ≤ suc depth
state_deeper true depth (tested path comparison u) state e =
    let same : state ≡ (false, depth) = cc in rw same (omega arith)
state_deeper true depth (finds is_wanted path) state e =
    let same : state ≡ (false, depth) = cc in rw same (omega arith)
state_deeper true depth opens state e =
    let same : state ≡ (true, suc depth) = cc in rw same (omega arith)
state_deeper true depth opens_not state e =
    let same : state ≡ (true, suc depth) = cc in rw same (omega arith)
state_deeper true depth also state e = absurd (cc)
state_deeper true depth or_else state e = absurd (cc)
state_deeper true depth closes state e = absurd (cc)
state_deeper false depth (tested path comparison u) state e = absurd (cc)
state_deeper false depth (finds is_wanted path) state e = absurd (cc)
state_deeper false depth opens state e = absurd (cc)
state_deeper false depth opens_not state e = absurd (cc)
state_deeper false depth also state e =
    let same : state ≡ (true, depth) = cc in rw same (omega arith)
state_deeper false depth or_else state e =
    let same : state ≡ (true, depth) = cc in rw same (omega arith)
state_deeper false zero closes state e = absurd (cc)
state_deeper false (suc depth) closes state e =
    let same : state ≡ (false, depth) = cc in rw same (omega arith)

-- What is after a step is shorter than the text.
terms_shorter : (wants : Bool) (depth : ℕ) (text : List ℕ) (ts : List TermView) (rest : List ℕ)
    → AreTerms wants depth text ts rest → length rest ≤ length text
terms_shorter wants depth text [] rest h = omega (arith, spaces_shorter text, ap length h.2)
terms_shorter wants depth text (t ∷ ts) rest (after, state, begins, is, more) =
    omega (
      arith,
      term_shorter text t after begins,
      terms_shorter state.0 state.1 after ts rest more,
    )

written_some : (w : Written) → 1 ≤ length (written_bytes w)
written_some (plain name) = omega arith
written_some (quoted name) = omega arith
written_some (bracketed place) = omega arith

pub step_shorter : (text : List ℕ) (s : SelectorView) (rest : List ℕ) → BeginsWithStep text s rest
    → suc (length rest) ≤ length text
step_shorter text s rest (inl (front, e, is)) =
    omega (
      arith,
      ap length e,
      length-append front rest,
      ap length is.1,
      written_some is.0,
    )
step_shorter text s rest (inr (condition, e, is)) =
    omega (
      arith,
      spaces_shorter text,
      ap length e,
      spaces_shorter condition,
      ap length is.2,
      terms_shorter true 0 is.0 is.1 rest is.3,
    )
