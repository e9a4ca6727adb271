-- The results of the calls on paths.
use Rattle.std.proofs.Common.{◌≡◌, ◌⊎◌, ◌<◌, ◌≤◌, ℕ, List, map, Option, None, Some, Result, Ok}
use Rattle.std.proofs.Common.{Err, IfErr, IfOk}
use Rattle.std.proofs.Common.{Vec, refl, ap, sym, subst, ◌∙◌, inl, inr}
use Rattle.std.specs.Prelude.{◌↔◌, OnOk}
use Rattle.std.specs.declared.alloc.Global.{Global}
use Rattle.jsonb_value.specs.declared.error.Error.{Error}
use Rattle.jsonb_value.specs.declared.error.Error.TheVariants.{InvalidJsonb, OutOfMemory}
use Rattle.std.specs.Str.{IsUtf8}
use Rattle.jsonb_codec.specs.Canon.{Fits, canon}
use Rattle.jsonb_codec.specs.Depth.{IsDocumentWithin}
use Rattle.jsonb.specs.Document.{tree_in}
use Rattle.jsonb.specs.declared.entries.Entry.{Entry}
use Rattle.jsonb.specs.declared.owned.OwnedJsonb.{OwnedJsonb}
use Rattle.jsonb.specs.Owned.{result_bytes, owned_bytes}
use Rattle.jsonb_functions.specs.PathDocument.{path_tree}
use Rattle.jsonb_functions.specs.PathText.{PathText, SelectorView, selector_view, single_steps}
use Rattle.jsonb_functions.specs.SelectSteps.{select_steps}
use Rattle.jsonb_functions.specs.StoredPath.{StepView}
use Rattle.jsonb_functions.specs.declared.selection.Selector.{Selector}
use Rattle.kohiblad.specs.declared.places.KohibladPlace.{KohibladPlace}
use Rattle.kohiblad.specs.PathCalls.{AreStepPlaces, AreTextPlaces, GivesSteps, IsAskedWithin}
use Rattle.kohiblad.specs.PathCalls.{IsPathTextRead, found_answer}
use Rattle.jsonb_functions.specs.PathPlaces.{selected_places}
use Rattle.kohiblad.specs.Status.{code, too_many_steps, IsAnswered, IsHandedOver, IsRefused}

-- The document of a path, which is made or not.
module _ (text before after : List ℕ) (size status : ℕ) (path : List StepView)
    (gives : GivesSteps text path) where
  refused_by : (e : Error) → (e ≡ InvalidJsonb) ⊎ (e ≡ OutOfMemory)
      → (e ≡ InvalidJsonb → Fits (path_tree path) → ⊥)
      → IsAnswered (Err e) before after size status
      → IsPathTextRead text before after size status
  refused_by e (inl is) past answered =
      inl (
        path,
        (
          gives,
          (
            Err InvalidJsonb,
            (
              past is,
              subst
                  (λ (e : Error). IsAnswered (Err e) before after size status) is answered,
            ),
          ),
        ),
      )
  refused_by e (inr is) past answered =
      inr (inr (subst (λ (e : Error). IsAnswered (Err e) before after size status) is answered))

  pub path_answered : (r : Result OwnedJsonb Error)
      → IfOk r (λ owned. owned_bytes owned ≡ canon (path_tree path))
      → OnOk r (Fits (path_tree path))
      → (r ≡ Err InvalidJsonb → Fits (path_tree path) → ⊥)
      → IfErr r (λ e. (e ≡ InvalidJsonb) ⊎ (e ≡ OutOfMemory))
      → IsAnswered (result_bytes r) before after size status
      → IsPathTextRead text before after size status
  path_answered (Ok owned) is fits past only answered =
      inl (path, (gives, (Ok (owned_bytes owned), ((fits, is), answered))))
  path_answered (Err e) is fits past only answered =
      refused_by e only (λ same. past (ap (λ (e : Error). Err e) same)) answered

pub none_some : {A : Type 0} (x : A) → None ≡ Some x → ⊥
none_some x is = let never : ⊥ = cc in never

-- The path that was read, behind a reference.
pub same_views : (text : List ℕ) (items now : List Selector) → now ≡ items
    → ((path : List SelectorView) → PathText text path
    ↔ (Some (map selector_view items) ≡ Some path))
    → (path : List SelectorView) → PathText text path ↔ (Some (map selector_view now) ≡ Some path)
same_views text items now same reads =
    subst
    (λ (l : List Selector). (path : List SelectorView) → PathText text path
    ↔ (Some (map selector_view l) ≡ Some path)) (sym same) reads

-- The steps that a text gives, by the path that was read in it.
module _ (text : List ℕ) where
  pub gives_steps : (views : List SelectorView)
      → ((path : List SelectorView) → PathText text path ↔ (Some views ≡ Some path))
      → (o : Option (List StepView)) → o ≡ single_steps views → (steps : List StepView)
      → GivesSteps text steps ↔ (o ≡ Some steps)
  gives_steps views reads o is steps = (
    λ given. let same : views ≡ given.0 = cc ((reads given.0).0 given.1.0) in
        is ∙ ap single_steps same ∙ given.1.1,
    λ found. (views, ((reads views).1 refl, sym is ∙ found)),
  )

  pub gives_none : ((path : List SelectorView) → PathText text path ↔ (None ≡ Some path))
      → (steps : List StepView) → GivesSteps text steps ↔ (None ≡ Some steps)
  gives_none reads steps = (
    λ given. absurd (none_some given.0 ((reads given.0).0 given.1.0)),
    λ found. absurd (none_some steps found),
  )

-- The places that a path selects, which are found or not.
pub places_answered : (bytes text : List ℕ) (before after : List KohibladPlace) (count status : ℕ)
    (path : List Selector) → PathText text (map selector_view path)
    → (r : Result (Vec KohibladPlace Global) Error)
    → IfOk r (λ found. found.items ≡ map found_answer (selected_places path bytes))
    → IfErr r (λ e. e ≡ OutOfMemory)
    → IfOk r (λ found. IsHandedOver found.items before after count status)
    → IfErr r (λ e. IsRefused (code e) before after count status)
    → AreTextPlaces bytes text before after count status
places_answered bytes text before after count status path reads (Ok found) is only over refused =
    inl (
      path,
      (
        reads,
        subst
            (λ (items : List KohibladPlace). IsHandedOver items before after count status) is over,
      ),
    )
places_answered bytes text before after count status path reads (Err e) is only over refused =
    inr (inr (subst (λ (e : Error). IsRefused (code e) before after count status) only refused))

-- What is answered of a UTF-8 text and a document within the depth.
pub asked_at : (depth : ℕ) (bytes text : List ℕ) (before after : List KohibladPlace)
    (count status : ℕ) (Answered : List ℕ → List ℕ → Type 0) (given read : List ℕ)
    → given ≡ bytes → (read ≡ text) × IsUtf8 text → IsDocumentWithin depth bytes
    → Answered given read
    → IsAskedWithin depth bytes text before after count status (Answered bytes text)
asked_at depth bytes text before after count status Answered given read same utf8 within answered =
    inr (
      utf8.1,
      inr (
        within,
        subst (λ (b : List ℕ). Answered b text) same
            (subst (λ (t : List ℕ). Answered given t) utf8.0 answered),
      ),
    )

-- The places that a path selects in so many steps, which are found or not.
module _ (steps : ℕ) (bytes text : List ℕ) (before after : List KohibladPlace) (count status : ℕ)
    (path : List Selector) (reads : PathText text (map selector_view path)) where
  pub found_in_steps : (found : List Entry) → found ≡ selected_places path bytes
      → select_steps path (tree_in bytes) ≤ steps → (r : Result (Vec KohibladPlace Global) Error)
      → IfOk r (λ answers. answers.items ≡ map found_answer found)
      → IfErr r (λ e. e ≡ OutOfMemory)
      → IfOk r (λ answers. IsHandedOver answers.items before after count status)
      → IfErr r (λ e. IsRefused (code e) before after count status)
      → AreStepPlaces steps bytes text before after count status
  found_in_steps found are enough (Ok answers) is only over refused =
      inl (
        path,
        (
          reads,
          inl (
            enough,
            subst (λ (items : List KohibladPlace). IsHandedOver items before after count status)
                (is ∙ ap (map found_answer) are) over,
          ),
        ),
      )
  found_in_steps found are enough (Err e) is only over refused =
      inr (inr (subst (λ (e : Error). IsRefused (code e) before after count status) only refused))

  pub given_up : steps < select_steps path (tree_in bytes)
      → IsRefused too_many_steps before after count status
      → AreStepPlaces steps bytes text before after count status
  given_up few refused = inl (path, (reads, inr (few, refused)))
