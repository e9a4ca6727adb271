-- A path of which some steps were read.
use Rattle.std.proofs.Common.{◌≡◌, ℕ, List, [], ◌∷◌, ◌++◌, map, refl, sym, Bool, true, false}
use Rattle.std.proofs.Common.{ap, ◌∙◌, ◌≤◌, subst, arith, Bor, append_assoc, inl, inr}
use Rattle.std.proofs.lemmas.List.{append-nil}
use Rattle.std.specs.Prelude.{Option, None, Some, ◌↔◌, IfOk, IfSome, Result, Ok, Err}
use Rattle.std.specs.Global.{Vec}
use Rattle.std.specs.Prelude.{◌==◌, ◌||◌}
use Rattle.std.proofs.lemmas.Bool.Decides.{nat_tests}
use Rattle.jsonb_functions.specs.declared.path.Step.{Step}
use Rattle.jsonb_functions.specs.declared.selection.Selector.{Selector}
use Rattle.jsonb_functions.specs.PathText.{SelectorView, selector_view, AreFilterSteps, AreSteps}
use Rattle.jsonb_functions.specs.PathText.{StepBegins, BeginsWithStep, EndsName, IsFilter}
use Rattle.jsonb_functions.specs.PathText.{IsFilterPath, PathText, Reads, ReadsStep, StepsText}
use Rattle.jsonb_functions.specs.PathText.{StopsAt, after_spaces, ends_path, is_in_name}
use Rattle.jsonb_functions.specs.PathText.{list_count, path_view, single_steps, steps_view}
use Rattle.jsonb_functions.specs.StoredPath.{StepView}
use Rattle.jsonb_functions.proofs.HashLaws.{map_joined}
use Rattle.jsonb_functions.proofs.PathStepLaws.{written_begins}

-- What may come after all steps.
abbrev pub EndsAs : Bool → List ℕ → Type 0
EndsAs true end = ends_path end ≡ true
EndsAs false end = end ≡ []

no_name_byte : (c : ℕ) → ((c == 32) || (c == 41)) ≡ true → is_in_name true c ≡ false
no_name_byte c ends = grind (arith, nat_tests)

path_stops : (end : List ℕ) → ends_path end ≡ true → EndsName true end
path_stops [] ends = tt
path_stops (c ∷ cs) ends = no_name_byte c ends

-- What follows the steps that were read leads on, and each path of the text begins with them.
pub record IsRead (Begins : List ℕ → SelectorView → List ℕ → Type 0) (in_filter : Bool)
    (text left : List ℕ) (path : List Selector) : Type 0 where
  pub going : (end : List ℕ) (q : List SelectorView) → AreSteps Begins end left q
      → AreSteps Begins end text (map selector_view path ++ q)
  pub only : (end : List ℕ) → EndsAs in_filter end → (p : List SelectorView)
      → AreSteps Begins end text p
      → (q : List SelectorView) × ((p ≡ map selector_view path ++ q) × AreSteps Begins end left q)

end_stops : (in_filter : Bool) (end : List ℕ) → EndsAs in_filter end
    → EndsName in_filter end
end_stops true end ends = path_stops end ends
end_stops false end e = subst (EndsName false) (sym e) tt

-- Steps that begin as steps do.
module _ (Begins : List ℕ → SelectorView → List ℕ → Type 0) (in_filter : Bool)
    (begins : (text : List ℕ) (s : SelectorView) (rest : List ℕ) → Begins text s rest
    → EndsName in_filter text × (EndsAs in_filter text → ⊥)) where
  steps_stop : (end rest : List ℕ) (path : List SelectorView) → EndsAs in_filter end
      → AreSteps Begins end rest path → EndsName in_filter rest
  steps_stop end rest [] ends steps =
      subst (EndsName in_filter) (sym steps) (end_stops in_filter end ends)
  steps_stop end rest (s ∷ path) ends steps =
      (begins rest s steps.0 steps.1).0

  -- At the first byte.
  pub first_read : (text : List ℕ) → IsRead Begins in_filter text text []
  first_read text = record {
    going = λ end q steps. steps;
    only = λ end ends p h. (p, (refl, h));
  }

  -- One more step was read.
  next_only : (end : List ℕ) → EndsAs in_filter end → (left : List ℕ) (rest : Bor (List ℕ))
      (views others : List SelectorView) (selector : Selector) → (left ≡ end → ⊥)
      → ReadsStep Begins in_filter left (Some (selector, rest))
      → ((q : List SelectorView) → others ++ q ≡ views ++ (selector_view selector ∷ q))
      → (p q : List SelectorView) → p ≡ views ++ q → AreSteps Begins end left q
      → (r : List SelectorView) × ((p ≡ others ++ r) × AreSteps Begins end rest.now r)
  next_only end ends left rest views others selector some step more p [] e steps =
      absurd (some steps)
  next_only end ends left rest views others selector some step more p (s ∷ q) e steps =
      let is = step.only s steps.0 steps.1 (steps_stop end steps.0 q ends steps.2) in (
        q,
        (
          e ∙ ap (λ x. views ++ (x ∷ q)) (sym is.0) ∙ sym (more q),
          subst (λ xs. AreSteps Begins end xs q) (sym is.1) steps.2,
        ),
      )

  pub read_on : (text left : List ℕ) (rest : Bor (List ℕ)) (read new : List Selector)
      (selector : Selector) → (EndsAs in_filter left → ⊥)
      → ReadsStep Begins in_filter left (Some (selector, rest))
      → new ≡ read ++ (selector ∷ []) → IsRead Begins in_filter text left read
      → IsRead Begins in_filter text rest.now new
  read_on text left rest read new selector some step e h =
      let views = map selector_view read in
      let first = selector_view selector in
      let more : (q : List SelectorView) → map selector_view new ++ q ≡ views ++ (first ∷ q) =
      λ q. ap (λ xs. map selector_view xs ++ q) e
      ∙ ap (λ xs. xs ++ q) (map_joined selector_view read (selector ∷ []))
      ∙ append_assoc views (first ∷ []) q in
      record {
        going = λ end q steps.
            subst (λ p. AreSteps Begins end text p) (sym (more q)) (h.going end (first ∷ q)
            (rest.now, step.is, steps));
        only = λ end ends p is.
            let was = h.only end ends p is in
            next_only end ends left rest views (map selector_view new) selector
            (λ same. some (subst (EndsAs in_filter) (sym same) ends)) step more p was.0 was.1.0
            was.1.1;
      }

  no_next : (end left : List ℕ) → EndsAs in_filter end → (EndsAs in_filter left → ⊥)
      → ReadsStep Begins in_filter left None → (q : List SelectorView)
      → AreSteps Begins end left q → ⊥
  no_next end left ends some step [] steps = some (subst (EndsAs in_filter) (sym steps) ends)
  no_next end left ends some step (s ∷ q) steps =
      step.only s steps.0 steps.1 (steps_stop end steps.0 q ends steps.2)

  pub none_read : (text left : List ℕ) (read : List Selector) → (EndsAs in_filter left → ⊥)
      → ReadsStep Begins in_filter left None → IsRead Begins in_filter text left read
      → (end : List ℕ) → EndsAs in_filter end → (p : List SelectorView)
      → AreSteps Begins end text p → ⊥
  none_read text left read some step h end ends p is =
      let was = h.only end ends p is in no_next end left ends some step was.0 was.1.1

  -- All steps were read.
  last_steps : (end left : List ℕ) → EndsAs in_filter left → (views : List SelectorView)
      → (p q : List SelectorView) → p ≡ views ++ q → AreSteps Begins end left q
      → (views ≡ p) × (left ≡ end)
  last_steps end left ends views p [] e steps = (sym (e ∙ append-nil views), steps)
  last_steps end left ends views p (s ∷ q) e steps =
      absurd ((begins left s steps.0 steps.1).1 ends)

  pub read_only : (text left : List ℕ) (read : List Selector) → EndsAs in_filter left
      → IsRead Begins in_filter text left read → (end : List ℕ) → EndsAs in_filter end
      → (p : List SelectorView) → AreSteps Begins end text p
      → (map selector_view read ≡ p) × (left ≡ end)
  read_only text left read here h end ends p is =
      let was = h.only end ends p is in
      last_steps end left here (map selector_view read) p was.0 was.1.0 was.1.1

  pub all_steps : (text left : List ℕ) (read : List Selector)
      → IsRead Begins in_filter text left read
      → AreSteps Begins left text (map selector_view read)
  all_steps text left read h =
      subst (AreSteps Begins left text) (append-nil (map selector_view read)) (h.going left [] refl)

-- A byte that begins a step.
written_step_begins : (in_filter : Bool) (text : List ℕ) (s : SelectorView) (rest : List ℕ)
    → StepBegins in_filter text s rest
    → EndsName in_filter text
written_step_begins true text s rest h =
    elim (written_begins true text s rest h) [
      | inl e ↦ subst (EndsName true) (sym e.1) refl
      | inr e ↦ subst (EndsName true) (sym e.1) refl
    ]
written_step_begins false text s rest h =
    elim (written_begins false text s rest h) [
      | inl e ↦ subst (EndsName false) (sym e.1) refl
      | inr e ↦ subst (EndsName false) (sym e.1) refl
    ]

no_end : (c : ℕ) (xs : List ℕ) → ends_path (c ∷ xs) ≡ false → ends_path (c ∷ xs) ≡ true → ⊥
no_end c xs other ends = let both : false ≡ true = sym other ∙ ends in absurd (cc)

no_bytes_begin : (c : ℕ) (text xs : List ℕ) → text ≡ c ∷ xs → text ≡ [] → ⊥
no_bytes_begin c text xs x y = let both : c ∷ xs ≡ [] = sym x ∙ y in absurd (cc)

pub path_begins : (text : List ℕ) (s : SelectorView) (rest : List ℕ)
    → StepBegins true text s rest
    → EndsName true text × (EndsAs true text → ⊥)
path_begins text s rest h = (
  written_step_begins true text s rest h,
  λ ends. elim (written_begins true text s rest h) [
    | inl e ↦ no_end 46 e.0 refl (subst (λ xs. ends_path xs ≡ true) e.1 ends)
    | inr e ↦ no_end 91 e.0 refl (subst (λ xs. ends_path xs ≡ true) e.1 ends)
  ],
)

pub step_begins : (text : List ℕ) (s : SelectorView) (rest : List ℕ)
    → BeginsWithStep text s rest → EndsName false text × (EndsAs false text → ⊥)
step_begins text s rest (inl h) = (
  written_step_begins false text s rest h,
  λ none. elim (written_begins false text s rest h) [
    | inl w ↦ no_bytes_begin 46 text w.0 w.1 none
    | inr w ↦ no_bytes_begin 91 text w.0 w.1 none
  ],
)
step_begins text s rest (inr (condition, e, is)) = (
  subst (StopsAt (is_in_name false)) (sym e) refl,
  λ none. no_bytes_begin 63 (after_spaces text) condition e (ap after_spaces none),
)

-- A filter was read, after spaces and a question mark, or a step that is no filter.
not_written : (text condition : List ℕ) (s : SelectorView) (rest : List ℕ)
    → after_spaces text ≡ 63 ∷ condition → StepBegins false text s rest → ⊥
not_written text condition s rest e h =
    elim (written_begins false text s rest h) [
      | inl w ↦ let both : 63 ∷ condition ≡ 46 ∷ w.0 = sym e ∙ ap after_spaces w.1 in
          let first : ◌≡◌ {A = ℕ} 63 46 = cc in absurd (omega (arith, first))
      | inr w ↦ let both : 63 ∷ condition ≡ 91 ∷ w.0 = sym e ∙ ap after_spaces w.1 in
          let first : ◌≡◌ {A = ℕ} 63 91 = cc in absurd (omega (arith, first))
    ]

filter_is : (text condition : List ℕ) (r : Option (Selector × Bor (List ℕ)))
    → after_spaces text ≡ 63 ∷ condition
    → IfSome r (λ x. IsFilter condition (selector_view x.0) x.1.now)
    → IfSome r (λ x. BeginsWithStep text (selector_view x.0) x.1.now)
filter_is text condition None e h = tt
filter_is text condition (Some x) e h = inr (condition, e, h)

filter_there : (text condition : List ℕ) (s : SelectorView) (rest : List ℕ)
    → after_spaces text ≡ 63 ∷ condition → BeginsWithStep text s rest → IsFilter condition s rest
filter_there text condition s rest e (inl h) = absurd (not_written text condition s rest e h)
filter_there text condition s rest e (inr (other, is, h)) =
    let whole : 63 ∷ other ≡ 63 ∷ condition = sym is ∙ e in
    let same : other ≡ condition = cc in
    subst (λ xs. IsFilter xs s rest) same h

pub if_filter : {E : Type 0} (text condition : List ℕ)
    (r : Result (Option (Selector × Bor (List ℕ))) E) → after_spaces text ≡ 63 ∷ condition
    → IfOk r (Reads selector_view (IsFilter condition))
    → IfOk r (ReadsStep BeginsWithStep false text)
if_filter text condition (Ok x) e h = record {
  is = filter_is text condition x e h.is;
  only = λ s later b stops. h.only s later (filter_there text condition s later e b);
}
if_filter text condition (Err x) e h = tt

as_step : (text : List ℕ) (r : Option (Selector × Bor (List ℕ)))
    → IfSome r (λ x. StepBegins false text (selector_view x.0) x.1.now)
    → IfSome r (λ x. BeginsWithStep text (selector_view x.0) x.1.now)
as_step text None h = h
as_step text (Some x) h = inl h

as_written : (text : List ℕ) (s : SelectorView) (rest : List ℕ)
    → ((later : List ℕ) → after_spaces text ≡ 63 ∷ later → ⊥) → BeginsWithStep text s rest
    → StepBegins false text s rest
as_written text s rest other (inl h) = h
as_written text s rest other (inr (condition, e, h)) = absurd (other condition e)

pub no_filter : {E : Type 0} (text : List ℕ) (r : Result (Option (Selector × Bor (List ℕ))) E)
    → ((rest : List ℕ) → after_spaces text ≡ 63 ∷ rest → ⊥)
    → IfOk r (ReadsStep (StepBegins false) false text)
    → IfOk r (ReadsStep BeginsWithStep false text)
no_filter text (Ok x) other h = record {
  is = as_step text x h.is;
  only = λ s later b stops. h.only s later (as_written text s later other b) stops;
}
no_filter text (Err x) other h = tt

-- The path of a text.
pub other_text : (text : List ℕ) → ((rest : List ℕ) → text ≡ 36 ∷ rest → ⊥)
    → (p : List SelectorView)
    → StepsText text p ↔ ◌≡◌ {A = Option (List SelectorView)} None (Some p)
other_text text other p = (λ h. absurd (other h.0 h.1), λ e. absurd (cc))

starts_same : (text start : List ℕ) (p : List SelectorView) → text ≡ 36 ∷ start → StepsText text p
    → AreSteps BeginsWithStep [] start p
starts_same text start p e (rest, is, steps) =
    let both : 36 ∷ rest ≡ 36 ∷ start = sym is ∙ e in
    let same : rest ≡ start = cc in
    subst (λ xs. AreSteps BeginsWithStep [] xs p) same steps

pub none_text : (text start left : List ℕ) (read : List Selector) → text ≡ 36 ∷ start
    → (left ≡ [] → ⊥) → ReadsStep BeginsWithStep false left None
    → IsRead BeginsWithStep false start left read
    → (p : List SelectorView)
    → StepsText text p ↔ ◌≡◌ {A = Option (List SelectorView)} None (Some p)
none_text text start left read e some step h p = (
  λ is. absurd (none_read BeginsWithStep false step_begins start left read some step h [] refl p
      (starts_same text start p e is)),
  λ none. absurd (cc),
)

pub all_read : (text start left : List ℕ) (read : List Selector) → text ≡ 36 ∷ start → left ≡ []
    → IsRead BeginsWithStep false start left read
    → (p : List SelectorView) → StepsText text p ↔ (Some (map selector_view read) ≡ Some p)
all_read text start left read e end h p = (
  λ is. let same = read_only BeginsWithStep false step_begins start left read end h [] refl p
      (starts_same text start p e is) in
      ap (λ x. Some x) same.0,
  λ found. let same : map selector_view read ≡ p = cc in (
    start,
    e,
    subst (λ xs. AreSteps BeginsWithStep [] start xs) same
        (subst (λ xs. AreSteps BeginsWithStep xs start (map selector_view read)) end
        (all_steps BeginsWithStep false step_begins start left read h)),
  ),
)

-- A text without steps is not that of a path,
pub without_steps : (text : List ℕ)
    → ((p : List SelectorView)
    → StepsText text p ↔ ◌≡◌ {A = Option (List SelectorView)} None (Some p))
    → (p : List SelectorView)
    → PathText text p ↔ ◌≡◌ {A = Option (List SelectorView)} None (Some p)
without_steps text none p = (λ is. (none p).0 is.steps, λ e. absurd (cc))

-- nor is one with several lists,
pub with_lists : (text : List ℕ) (read : List SelectorView) → 2 ≤ list_count read
    → ((p : List SelectorView) → StepsText text p ↔ (Some read ≡ Some p))
    → (p : List SelectorView)
    → PathText text p ↔ ◌≡◌ {A = Option (List SelectorView)} None (Some p)
with_lists text read many steps p = (
  λ is. let found : Some read ≡ Some p = (steps p).0 is.steps in
      let same : read ≡ p = cc in
      absurd (omega (arith, subst (λ x. 2 ≤ list_count x) same many, is.one_list)),
  λ e. absurd (cc),
)

-- and with at most one it is.
pub with_one_list : (text : List ℕ) (read : List SelectorView) → list_count read ≤ 1
    → ((p : List SelectorView) → StepsText text p ↔ (Some read ≡ Some p))
    → (p : List SelectorView) → PathText text p ↔ (Some read ≡ Some p)
with_one_list text read few steps p = (
  λ is. (steps p).0 is.steps,
  λ found. let same : read ≡ p = cc in record {
    steps = (steps p).1 found;
    one_list = subst (λ x. list_count x ≤ 1) same few;
  },
)

-- The steps of a filter's path.
pub going_on : (left : List ℕ) → ends_path left ≡ false → EndsAs true left → ⊥
going_on left other ends = let both : false ≡ true = sym other ∙ ends in absurd (cc)

pub filter_steps_read : (text : List ℕ) (left : Bor (List ℕ)) (read : Vec Selector)
    → ends_path left.now ≡ true → IsRead (StepBegins true) true text left.now read.items
    → Reads path_view (AreFilterSteps text) (Some (read, left))
filter_steps_read text left read ends h = record {
  is = (all_steps (StepBegins true) true path_begins text left.now read.items h, ends);
  only = λ p later is.
      read_only (StepBegins true) true path_begins text left.now read.items ends h later is.1 p
      is.0;
}

pub filter_steps_none : (text left : List ℕ) (read : List Selector) → ends_path left ≡ false
    → ReadsStep (StepBegins true) true left None
    → IsRead (StepBegins true) true text left read
    → Reads {A = Vec Selector} path_view (AreFilterSteps text) None
filter_steps_none text left read other step h = record {
  is = tt;
  only = λ p later is.
      none_read (StepBegins true) true path_begins text left read
      (going_on left other) step h later is.1 p is.0;
}

-- The path of a filter, by its steps.
module _ (text : List ℕ) where
  pub no_steps : Reads {A = Vec Selector} path_view (AreFilterSteps text) None
      → Reads {A = Vec Step} steps_view (IsFilterPath text) None
  no_steps read = record {
    is = tt;
    only = λ steps later (path, are, single). read.only path later are;
  }

  module _ (path : Vec Selector) (end : Bor (List ℕ))
      (read : Reads path_view (AreFilterSteps text) (Some (path, end))) where
    pub filter_path_read : (steps : Vec Step)
        → Some (steps_view steps) ≡ single_steps (path_view path)
        → Reads steps_view (IsFilterPath text) (Some (steps, end))
    filter_path_read steps single = record {
      is = (path_view path, read.is, sym single);
      only = λ found later (other, are, is).
          let same = read.only other later are in
          let both : Some (steps_view steps) ≡ Some found =
          single ∙ ap single_steps same.0 ∙ is in
          (cc, same.1);
    }

    pub not_single : None ≡ single_steps (path_view path)
        → Reads {A = Vec Step} steps_view (IsFilterPath text) None
    not_single none = record {
      is = tt;
      only = λ found later (other, are, is).
          let same = read.only other later are in
          let both : None ≡ Some found = none ∙ ap single_steps same.0 ∙ is in
          absurd (cc);
    }

-- The steps of a path, behind a reference.
pub single_path : (path : Vec Selector) (now : List Selector) → now ≡ path.items
    → (o : Option (List StepView)) → o ≡ single_steps (map selector_view now)
    → o ≡ single_steps (path_view path)
single_path path now same o is =
    is ∙ ap (λ l. single_steps (map selector_view l)) same
