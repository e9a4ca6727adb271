-- How the first step of a text is written.
use Rattle.std.proofs.Common.{◌≡◌, ℕ, List, [], ◌∷◌, ◌++◌, length, refl, sym}
use Rattle.std.proofs.Common.{ap, ◌∙◌, arith, true, false, Bool, Bor, append_assoc}
use Rattle.std.proofs.Common.{inl, inr, ne_eqb}
use Rattle.std.proofs.Math.Dec.{eqb-suc-zero}
use Rattle.std.proofs.lemmas.List.{append-nil}
use Rattle.std.specs.Prelude.{Option, None, Some, ◌⊎◌, ◌==◌, ◌&&◌, not, if◌then◌else◌}
use Rattle.jsonb_functions.specs.declared.path.Step.TheVariants as steps
use Rattle.jsonb_functions.specs.declared.selection.Selector.{Selector}
use Rattle.jsonb_functions.specs.declared.selection.Selector.TheVariants as selectors
use Rattle.jsonb_functions.specs.PathText.{SelectorView, step, selector_view, Written, plain}
use Rattle.jsonb_functions.specs.PathText.{quoted, bracketed, written_bytes, all_are, is_in_name}
use Rattle.jsonb_functions.specs.PathText.{is_not, is_unquoted_key, member_step, place_in}
use Rattle.jsonb_functions.specs.PathText.{written_step, StopsAt, StepBegins}
use Rattle.jsonb_functions.specs.PathText.{EndsName, ReadsStep, ends_in_space}
use Rattle.jsonb_functions.specs.StoredPath.{key}
use Rattle.jsonb_functions.proofs.IndexLaws.{both}
use Rattle.jsonb_functions.proofs.PathTextLaws.{one_name}

-- There is one way to split bytes where a test first fails.
pub split_once : (q : ℕ → Bool) (k r j s : List ℕ) → all_are q k ≡ true → all_are q j ≡ true
    → StopsAt q r → StopsAt q s → k ++ r ≡ j ++ s → (k ≡ j) × (r ≡ s)
split_once q [] r [] s a b x y e = (refl, e)
split_once q [] [] (c ∷ j) s a b x y e = absurd (cc)
split_once q [] (d ∷ r) (c ∷ j) s a b x y e =
    let same : d ≡ c = cc in
    let passes : q c ≡ true = (both _ _ b).0 in
    absurd (cc)
split_once q (c ∷ k) r [] [] a b x y e = absurd (cc)
split_once q (c ∷ k) r [] (d ∷ s) a b x y e =
    let same : c ≡ d = cc in
    let passes : q c ≡ true = (both _ _ a).0 in
    absurd (cc)
split_once q (c ∷ k) r (d ∷ j) s a b x y e =
    let first : c ≡ d = cc in
    let rest : k ++ r ≡ j ++ s = cc in
    let same = split_once q k r j s (both _ _ a).1 (both _ _ b).1 x y rest in
    (ap (λ n. n ∷ k) first ∙ ap (λ xs. d ∷ xs) same.0, same.1)

if_some : (b : Bool) (x : Option SelectorView) (s : SelectorView)
    → (if b then x else None) ≡ Some s → (b ≡ true) × (x ≡ Some s)
if_some true x s e = (refl, e)
if_some false x s e = absurd (cc)

not_true : (b : Bool) → not b ≡ true → b ≡ false
not_true true e = absurd (cc)
not_true false e = refl

-- A step that is no filter, as a text begins with it.
pub written_from : (in_filter : Bool) (text : List ℕ) (s : SelectorView) (rest : List ℕ)
    → StepBegins in_filter text s rest
    → (w : Written) × (text ≡ written_bytes w ++ rest) × (written_step in_filter w ≡ Some s)
written_from in_filter text s rest (front, e, is) =
    (is.0, e ∙ ap (λ b. b ++ rest) is.1, is.2)

-- What a text can be that begins with a step.
module _ (in_filter : Bool) where
  quoted_from : (text : List ℕ) (s : SelectorView) (rest : List ℕ) (w : Written)
      → 46 ∷ (34 ∷ text) ≡ written_bytes w ++ rest → written_step in_filter w ≡ Some s
      → (name : List ℕ) × ((text ≡ name ++ (34 ∷ rest))
      × ((all_are (is_not 34) name ≡ true) × (step (key name) ≡ s)))
  quoted_from text s rest (plain []) spelled meant = absurd (cc)
  quoted_from text s rest (plain (c ∷ name)) spelled meant =
      let first : 34 ≡ c = cc in
      let is : is_unquoted_key in_filter (c ∷ name) ≡ true = (if_some _ _ s meant).0 in
      let other : is_not 34 c ≡ true = (both _ _ (both _ _ is).0).0 in
      let none : false ≡ is_not 34 c = ap (is_not 34) first in
      absurd (cc)
  quoted_from text s rest (quoted name) spelled meant =
      let tail : text ≡ (name ++ (34 ∷ [])) ++ rest = cc in
      let is = if_some _ _ s meant in
      let same : Some (step (key name)) ≡ Some s = is.1 in
      (name, (tail ∙ append_assoc name (34 ∷ []) rest, (is.0, cc)))
  quoted_from text s rest (bracketed place) spelled meant =
      let first : ◌≡◌ {A = ℕ} 46 91 = cc in absurd (omega (arith, first))

  plain_from : (text : List ℕ) (s : SelectorView) (rest : List ℕ) (w : Written)
      → ((later : List ℕ) → text ≡ 34 ∷ later → ⊥) → 46 ∷ text ≡ written_bytes w ++ rest
      → written_step in_filter w ≡ Some s → (name : List ℕ) × ((text ≡ name ++ rest)
      × ((is_unquoted_key in_filter name ≡ true) × (member_step name ≡ s)))
  plain_from text s rest (plain name) other spelled meant =
      let is = if_some _ _ s meant in
      let same : Some (member_step name) ≡ Some s = is.1 in
      (name, (cc, (is.0, cc)))
  plain_from text s rest (quoted name) other spelled meant =
      let tail : text ≡ 34 ∷ ((name ++ (34 ∷ [])) ++ rest) = cc in
      absurd (other ((name ++ (34 ∷ [])) ++ rest) tail)
  plain_from text s rest (bracketed place) other spelled meant =
      let first : ◌≡◌ {A = ℕ} 46 91 = cc in absurd (omega (arith, first))

  bracketed_from : (text : List ℕ) (s : SelectorView) (rest : List ℕ) (w : Written)
      → 91 ∷ text ≡ written_bytes w ++ rest → written_step in_filter w ≡ Some s
      → (place : List ℕ) × ((text ≡ place ++ (93 ∷ rest))
      × ((all_are (is_not 93) place ≡ true) × (place_in place ≡ Some s)))
  bracketed_from text s rest (plain name) spelled meant =
      let first : ◌≡◌ {A = ℕ} 91 46 = cc in absurd (omega (arith, first))
  bracketed_from text s rest (quoted name) spelled meant =
      let first : ◌≡◌ {A = ℕ} 91 46 = cc in absurd (omega (arith, first))
  bracketed_from text s rest (bracketed place) spelled meant =
      let tail : text ≡ (place ++ (93 ∷ [])) ++ rest = cc in
      let is = if_some _ _ s meant in
      (place, (tail ∙ append_assoc place (93 ∷ []) rest, is))

  -- The first step was read: a key between quotes, a key as it is, or a place between brackets.
  pub quoted_read : (text : List ℕ) (name rest : Bor (List ℕ))
      → text ≡ name.now ++ (34 ∷ rest.now) → all_are (is_not 34) name.now ≡ true
      → ReadsStep (StepBegins in_filter) in_filter (46 ∷ (34 ∷ text))
      (Some (selectors.Step (steps.Key name), rest))
  quoted_read text name rest e all = record {
    is = (
      written_bytes (quoted name.now),
      ap (λ xs. 46 ∷ (34 ∷ xs)) (e ∙ sym (append_assoc name.now (34 ∷ []) rest.now)),
      (quoted name.now, refl, rw all refl),
    );
    only = λ s later h stops.
        let t = written_from in_filter _ s later h in
        let w = quoted_from text s later t.0 t.1 t.2 in
        let same = split_once (is_not 34) name.now (34 ∷ rest.now) w.0 (34 ∷ later) all w.1.1.0
        refl refl (sym e ∙ w.1.0) in
        let tail : 34 ∷ rest.now ≡ 34 ∷ later = same.1 in
        (ap (λ k. step (key k)) same.0 ∙ w.1.1.1, cc);
  }

  pub quoted_none : (text : List ℕ) → all_are (is_not 34) text ≡ true
      → ReadsStep (StepBegins in_filter) in_filter (46 ∷ (34 ∷ text)) None
  quoted_none text all = record {
    is = tt;
    only = λ s later h stops.
        let t = written_from in_filter _ s later h in
        let w = quoted_from text s later t.0 t.1 t.2 in
        let same = split_once (is_not 34) text [] w.0 (34 ∷ later) all w.1.1.0 tt refl
        (append-nil text ∙ w.1.0) in
        let none : [] ≡ 34 ∷ later = same.1 in
        absurd (cc);
  }

  plain_all : (name : List ℕ) → is_unquoted_key in_filter name ≡ true
      → all_are (is_in_name in_filter) name ≡ true
  plain_all [] h = absurd (cc)
  plain_all (c ∷ name) h = (both _ _ h).1

  plain_last : (name : List ℕ) → is_unquoted_key in_filter name ≡ true
      → ends_in_space name ≡ false
  plain_last [] h = absurd (cc)
  plain_last (c ∷ name) h = not_true (ends_in_space (c ∷ name)) (both _ _ (both _ _ h).0).1

  is_plain_name : (text name rest : List ℕ) → ((later : List ℕ) → text ≡ 34 ∷ later → ⊥)
      → text ≡ name ++ rest → (name ≡ [] → ⊥) → all_are (is_in_name in_filter) name ≡ true
      → ends_in_space name ≡ false → is_unquoted_key in_filter name ≡ true
  is_plain_name text [] rest other e some all last = absurd (some refl)
  is_plain_name text (c ∷ name) rest other e some all last =
      let first : (c == 34) ≡ false =
      ne_eqb c 34 (λ same. other (name ++ rest) (e ∙ ap (λ d. d ∷ (name ++ rest)) same)) in
      ap (λ b. not b && not (ends_in_space (c ∷ name))
      && all_are (is_in_name in_filter) (c ∷ name)) first
      ∙ ap (λ b. not b && all_are (is_in_name in_filter) (c ∷ name)) last ∙ all

  pub plain_read : (text name : List ℕ) (rest : Bor (List ℕ)) (selector : Selector)
      → ((later : List ℕ) → text ≡ 34 ∷ later → ⊥) → text ≡ name ++ rest.now
      → all_are (is_in_name in_filter) name ≡ true → ends_in_space name ≡ false
      → EndsName in_filter rest.now → (name ≡ [] → ⊥)
      → selector_view selector ≡ member_step name
      → ReadsStep (StepBegins in_filter) in_filter (46 ∷ text) (Some (selector, rest))
  plain_read text name rest selector other e all last stops some view =
      let ok = is_plain_name text name rest.now other e some all last in record {
        is = (46 ∷ name, ap (λ xs. 46 ∷ xs) e, (plain name, refl, rw (ok, view) refl));
        only = λ s later h goes.
            let t = written_from in_filter _ s later h in
            let w = plain_from text s later t.0 other t.1 t.2 in
            let same = one_name in_filter name rest.now w.0 later all (plain_all w.0 w.1.1.0)
            last (plain_last w.0 w.1.1.0) stops goes (sym e ∙ w.1.0) in
            (view ∙ ap member_step same.0 ∙ w.1.1.1, same.1);
      }

  pub plain_none : (text rest : List ℕ) → ((later : List ℕ) → text ≡ 34 ∷ later → ⊥)
      → text ≡ rest → EndsName in_filter rest
      → ReadsStep (StepBegins in_filter) in_filter (46 ∷ text) None
  plain_none text rest other e stops = record {
    is = tt;
    only = λ s later h goes.
        let t = written_from in_filter _ s later h in
        let w = plain_from text s later t.0 other t.1 t.2 in
        let same = one_name in_filter [] rest w.0 later refl (plain_all w.0 w.1.1.0) refl
        (plain_last w.0 w.1.1.0) stops goes (sym e ∙ w.1.0) in
        let none : false ≡ true = ap (is_unquoted_key in_filter) same.0 ∙ w.1.1.0 in
        absurd (cc);
  }

  pub bracketed_read : (text : List ℕ) (place : List ℕ) (rest : Bor (List ℕ))
      (selector : Selector)
      → text ≡ place ++ (93 ∷ rest.now) → all_are (is_not 93) place ≡ true
      → Some (selector_view selector) ≡ place_in place
      → ReadsStep (StepBegins in_filter) in_filter (91 ∷ text) (Some (selector, rest))
  bracketed_read text place rest selector e all view = record {
    is = (
      written_bytes (bracketed place),
      ap (λ xs. 91 ∷ xs) (e ∙ sym (append_assoc place (93 ∷ []) rest.now)),
      (bracketed place, refl, rw all (sym view)),
    );
    only = λ s later h goes.
        let t = written_from in_filter _ s later h in
        let w = bracketed_from text s later t.0 t.1 t.2 in
        let same = split_once (is_not 93) place (93 ∷ rest.now) w.0 (93 ∷ later) all w.1.1.0
        refl refl (sym e ∙ w.1.0) in
        let tail : 93 ∷ rest.now ≡ 93 ∷ later = same.1 in
        let step_is : Some (selector_view selector) ≡ Some s =
        view ∙ ap place_in same.0 ∙ w.1.1.1 in
        (cc, cc);
  }

  pub bracketed_none : (text : List ℕ) → all_are (is_not 93) text ≡ true
      → ReadsStep (StepBegins in_filter) in_filter (91 ∷ text) None
  bracketed_none text all = record {
    is = tt;
    only = λ s later h goes.
        let t = written_from in_filter _ s later h in
        let w = bracketed_from text s later t.0 t.1 t.2 in
        let same = split_once (is_not 93) text [] w.0 (93 ∷ later) all w.1.1.0 tt refl
        (append-nil text ∙ w.1.0) in
        let none : [] ≡ 93 ∷ later = same.1 in
        absurd (cc);
  }

  pub place_none : (text place rest : List ℕ) → text ≡ place ++ (93 ∷ rest)
      → all_are (is_not 93) place ≡ true → None ≡ place_in place
      → ReadsStep (StepBegins in_filter) in_filter (91 ∷ text) None
  place_none text place rest e all view = record {
    is = tt;
    only = λ s later h goes.
        let t = written_from in_filter _ s later h in
        let w = bracketed_from text s later t.0 t.1 t.2 in
        let same = split_once (is_not 93) place (93 ∷ rest) w.0 (93 ∷ later) all w.1.1.0
        refl refl (sym e ∙ w.1.0) in
        let none : None ≡ Some s = view ∙ ap place_in same.0 ∙ w.1.1.1 in
        absurd (cc);
  }

  -- Nothing else begins with a step that is no filter.
  begins : (text rest : List ℕ) (w : Written) → text ≡ written_bytes w ++ rest
      → ((later : List ℕ) × (text ≡ 46 ∷ later)) ⊎ ((later : List ℕ) × (text ≡ 91 ∷ later))
  begins text rest (plain name) spelled = inl (name ++ rest, spelled)
  begins text rest (quoted name) spelled = inl ((34 ∷ (name ++ (34 ∷ []))) ++ rest, spelled)
  begins text rest (bracketed place) spelled = inr ((place ++ (93 ∷ [])) ++ rest, spelled)

  pub written_begins : (text : List ℕ) (s : SelectorView) (rest : List ℕ)
      → StepBegins in_filter text s rest
      → ((later : List ℕ) × (text ≡ 46 ∷ later)) ⊎ ((later : List ℕ) × (text ≡ 91 ∷ later))
  written_begins text s rest h =
      let t = written_from in_filter text s rest h in begins text rest t.0 t.1

  pub other_none : (text : List ℕ) → ((later : List ℕ) → text ≡ 46 ∷ later → ⊥)
      → ((later : List ℕ) → text ≡ 91 ∷ later → ⊥)
      → ReadsStep (StepBegins in_filter) in_filter text None
  other_none text point bracket = record {
    is = tt;
    only = λ s later h goes.
        elim (written_begins text s later h) [
          | inl e ↦ point e.0 e.1
          | inr e ↦ bracket e.0 e.1
        ];
  }

pub all_bytes : (name : List ℕ) → true ≡ (length name == 0) → name ≡ []
all_bytes [] none = refl
all_bytes (c ∷ name) none =
    let some : (length (c ∷ name) == 0) ≡ false = eqb-suc-zero (length name) in absurd (cc)

pub no_bytes : (name : List ℕ) → false ≡ (length name == 0) → name ≡ [] → ⊥
no_bytes name some e =
    let none : (length name == 0) ≡ true = ap (λ xs. length xs == 0) e in absurd (cc)
