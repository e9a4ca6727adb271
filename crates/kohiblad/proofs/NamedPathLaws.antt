-- The results of reading a path in a document.
use Rattle.std.proofs.Common.{◌≡◌, ◌⊎◌, ℕ, List, None, Some, Option, Result, Ok, Err, IfOk, IfErr}
use Rattle.std.proofs.Common.{refl, ap, subst, inl, inr}
use Rattle.std.specs.Prelude.{◌↔◌, MatchOption, OnOk, String, Vec, option_map}
use Rattle.std.specs.declared.alloc.Global.{Global}
use Rattle.jsonb_value.specs.declared.error.Error.{Error}
use Rattle.jsonb_value.specs.declared.error.Error.TheVariants.{InvalidJsonb, OutOfMemory}
use Rattle.jsonb_value.specs.Meaning.{document}
use Rattle.jsonb_value.specs.Tree.{Tree}
use Rattle.jsonb_codec.specs.Canon.{Fits, canon}
use Rattle.jsonb.specs.declared.owned.OwnedJsonb.{OwnedJsonb}
use Rattle.jsonb.specs.Owned.{result_bytes, owned_bytes}
use Rattle.jsonb_functions.specs.NamedSteps.{steps_by}
use Rattle.jsonb_functions.specs.NameList.{NameList}
use Rattle.jsonb_functions.specs.Names.{names_of}
use Rattle.jsonb_functions.specs.PathDocument.{path_tree}
use Rattle.jsonb_functions.specs.Pointer.{pointer_of}
use Rattle.jsonb_functions.specs.StoredPath.{StepView}
use Rattle.kohiblad.specs.NamedPaths.{GivesNames, IsPathMade, IsPathOf}
use Rattle.kohiblad.specs.PathCalls.{IsPathTextRead}
use Rattle.kohiblad.specs.Status.{IsAnswered}
use Rattle.kohiblad.proofs.PathCallLaws.{none_some}

-- The document of a path, which is made or not.
module _ (before after : List ℕ) (size status : ℕ) (path : List StepView) where
  not_made : (e : Error) → (e ≡ InvalidJsonb) ⊎ (e ≡ OutOfMemory)
      → (e ≡ InvalidJsonb → Fits (path_tree path) → ⊥)
      → IsAnswered (Err e) before after size status → IsPathMade path before after size status
  not_made e (inl is) past answered =
      inl (
        Err InvalidJsonb,
        (
          past is,
          subst (λ (e : Error). IsAnswered (Err e) before after size status) is answered,
        ),
      )
  not_made e (inr is) past answered =
      inr (subst (λ (e : Error). IsAnswered (Err e) before after size status) is answered)

  pub path_made : (r : Result OwnedJsonb Error)
      → IfOk r (λ owned. owned_bytes owned ≡ canon (path_tree path))
      → OnOk r (Fits (path_tree path))
      → (r ≡ Err InvalidJsonb → Fits (path_tree path) → ⊥)
      → IfErr r (λ e. (e ≡ InvalidJsonb) ⊎ (e ≡ OutOfMemory))
      → IsAnswered (result_bytes r) before after size status
      → IsPathMade path before after size status
  path_made (Ok owned) is fits past only answered =
      inl (Ok (owned_bytes owned), ((fits, is), answered))
  path_made (Err e) is fits past only answered =
      not_made e only (λ same. past (ap (λ (e : Error). Err e) same)) answered

-- The path that is read in a tree.
module _ (t : Tree) (text before after : List ℕ) (size status : ℕ) where
  pub named_path : (names : List (List ℕ)) → GivesNames text names
      → IsPathMade (steps_by names (Some t)) before after size status
      → IsPathOf (document t) text before after size status
  named_path names gives (inl answered) =
      inl (steps_by names (Some t), (inr (names, (gives, refl)), answered))
  named_path names gives (inr refused) = inr (inr refused)

  pub path_as_text : ((names : List (List ℕ)) → GivesNames text names → ⊥)
      → IsPathTextRead text before after size status
      → IsPathOf (document t) text before after size status
  path_as_text none (inl found) = inl (found.0, (inl found.1.0, found.1.1))
  path_as_text none (inr (inl refused)) =
      inr (inl (
        λ path gives.
            elim gives [ inl steps ↦ refused.0 path steps | inr named ↦ none named.0 named.1.0 ],
        refused.1,
      ))
  path_as_text none (inr (inr refused)) = inr (inr refused)

-- The names of a text, by what its readers return.
module _ (text : List ℕ) where
  pub pointer_names : (names : List (List ℕ))
      → ((all : List (List ℕ)) → (text ≡ pointer_of all) ↔ (Some names ≡ Some all))
      → GivesNames text names
  pointer_names names reads = inl ((reads names).1 refl)

  pub listed_names : (read : Option (Vec (String Global) Global))
      → ((all : List (List ℕ)) → (text ≡ pointer_of all)
      ↔ ◌≡◌ {A = Option (List (List ℕ))} None (Some all))
      → ((all : List (List ℕ)) → NameList text all ↔ (option_map names_of read ≡ Some all))
      → MatchOption read ((all : List (List ℕ)) → GivesNames text all → ⊥)
      (λ names. GivesNames text (names_of names))
  listed_names None other reads = λ all gives.
      elim gives [
        | inl is ↦ none_some all ((other all).0 is)
        | inr is ↦ none_some all ((reads all).0 is)
      ]
  listed_names (Some names) other reads = inr ((reads (names_of names)).1 refl)
