-- Keys that a document gives, tested as the library tests names.
use Rattle.std.proofs.Common.{◌≡◌, ℕ, List, [], ◌∷◌, inl, inr, refl, ap, sym, ◌∙◌, Bor, map}
use Rattle.std.specs.Prelude.{Bool, ◌||◌, IfErr, IfOk, Option, Some, Result, Ok, Err}
use Rattle.std.specs.List.{list_all, list_any}
use Rattle.std.proofs.lemmas.List.Folds.{list_all-map}
use Rattle.jsonb_value.specs.declared.error.Error.{Error}
use Rattle.jsonb_value.specs.declared.error.Error.TheVariants.{OutOfMemory}
use Rattle.jsonb_value.specs.Meaning.{document}
use Rattle.jsonb_value.specs.Tree.{Tree}
use Rattle.jsonb_functions.specs.Contains.{has_top_key}
use Rattle.kohiblad.specs.KeyTests.{AreKeysAnswered, has_all_keys, has_some_key, keys_answer}
use Rattle.kohiblad.specs.Names.{names_in}
use Rattle.kohiblad.specs.Scalars.{no_truth, truth_answer}
use Rattle.kohiblad.specs.Status.{code}
use Rattle.kohiblad.specs.declared.scalar.KohibladTruth.{KohibladTruth}

-- The bytes of the names.
abbrev pub texts : List (Bor (List ℕ)) → List (List ℕ)
texts = map (λ name. name.now)

pub tested_by : (has : List (List ℕ) → Tree → Bool) (t u : Tree) (keys : List (List ℕ)) (b : Bool)
    (r : Result Bool Error) (answer : KohibladTruth) → Some keys ≡ names_in u → b ≡ has keys t
    → IfOk r (λ found. found ≡ b) → IfErr r (λ e. e ≡ OutOfMemory)
    → IfOk r (λ found. answer ≡ truth_answer found) → IfErr r (λ e. answer ≡ no_truth (code e))
    → AreKeysAnswered has (document t) (document u) answer
tested_by has t u keys b (Ok found) answer e same ok memory answered refused =
    inl (answered ∙ ap truth_answer (ok ∙ same)
    ∙ ap (λ (it : Option (List (List ℕ))). keys_answer has t it) e)
tested_by has t u keys b (Err error) answer e same ok memory answered refused =
    inr (refused ∙ ap (λ (x : Error). no_truth (code x)) memory)

pub some_named : (names : List (Bor (List ℕ))) (t : Tree)
    → list_any (λ name. has_top_key name.now t) names ≡ has_some_key (texts names) t
some_named [] t = refl
some_named (name ∷ names) t = ap (λ b. has_top_key name.now t || b) (some_named names t)

pub all_named : (names : List (Bor (List ℕ))) (t : Tree)
    → list_all (λ name. has_top_key name.now t) names ≡ has_all_keys (texts names) t
all_named names t =
    sym (list_all-map (λ k. has_top_key k t) (λ (name : Bor (List ℕ)). name.now) names)
