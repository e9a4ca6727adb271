-- The names that were read, followed by those of the items that are left.
use Rattle.std.proofs.Common.{◌≡◌, ◌++◌, ℕ, List, [], ◌∷◌, map, refl, sym, ap, ◌∙◌, append_assoc}
use Rattle.std.specs.Prelude.{Option, Some, None}
use Rattle.std.specs.Borrow.{Bor}
use Rattle.jsonb_value.specs.Tree.{Tree}
use Rattle.jsonb_value.specs.Value.{trees_of}
use Rattle.jsonb.specs.Node.{array_of}
use Rattle.std.proofs.lemmas.List.{map-append}
use Rattle.kohiblad.specs.Names.{all_names, name_in, name_then, names_in}

-- The bytes that names refer to.
abbrev pub texts : List (Bor (List ℕ)) → List (List ℕ)
texts = map (λ name. name.now)

-- Names before others, if there are others.
abbrev pub names_then : List (List ℕ) → Option (List (List ℕ)) → Option (List (List ℕ))
names_then before None = None
names_then before (Some names) = Some (before ++ names)

none_before : (names : Option (List (List ℕ))) → names ≡ names_then [] names
none_before None = refl
none_before (Some names) = refl

one_moved : (before : List (List ℕ)) (s : List ℕ) (names : Option (List (List ℕ)))
    → names_then before (name_then (Some s) names) ≡ names_then (before ++ (s ∷ [])) names
one_moved before s None = refl
one_moved before s (Some names) = ap (λ x. Some x) (sym (append_assoc before (s ∷ []) names))

-- After one more name was read.
pub names_on : (left others : List Tree) (t : Tree) (name : Bor (List ℕ))
    (now new : List (Bor (List ℕ))) (whole : Option (List (List ℕ))) → left ≡ t ∷ others
    → Some name.now ≡ name_in t → new ≡ now ++ (name ∷ [])
    → whole ≡ names_then (texts now) (all_names (trees_of left))
    → whole ≡ names_then (texts new) (all_names (trees_of others))
names_on left others t name now new whole e f g h =
    h ∙ ap (λ x. names_then (texts now) (all_names (trees_of x))) e
    ∙ ap (λ x. names_then (texts now) (name_then x (all_names (trees_of others)))) (sym f)
    ∙ one_moved (texts now) name.now (all_names (trees_of others))
    ∙ ap (λ x. names_then x (all_names (trees_of others)))
    (sym (ap texts g ∙ map-append (λ (name : Bor (List ℕ)). name.now) now (name ∷ [])))

pub first_names : (t : Tree) (ts : List Tree) → t ≡ array_of ts
    → names_in t ≡ names_then [] (all_names (trees_of ts))
first_names t ts e = ap names_in e ∙ none_before (all_names (trees_of ts))
