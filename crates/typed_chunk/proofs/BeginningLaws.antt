-- The laws of common beginnings.
use Rattle.std.proofs.Common.{◌≡◌, ℕ, ◌+◌, ◌<◌, ◌≤◌, Bool, true, false, List, [], ◌∷◌}
use Rattle.std.proofs.Common.{fold, length, get_or, min, take, drop, refl, ap, ap₂, ◌∙◌}
use Rattle.std.proofs.Common.{arith, inl, inr, eq-eqb}
use Rattle.std.specs.List.{common_prefix_len}
use Rattle.std.specs.Prelude.{◌==◌}
use Rattle.std.proofs.lemmas.Bool.{cases_lt, ne_eqb}
use Rattle.std.proofs.lemmas.List.{drop_all, drop_more, length-take, take_min}
use Rattle.std.proofs.lemmas.List.Sums.{common_prefix_len-drop_no, common_prefix_len-drop_yes}
use Rattle.typed_vector.specs.ZoneMap.{set_values}
use Rattle.typed_chunk.specs.Texts.{common, shared}

-- How many first bytes of two are the same.
abbrev pub same_len : List ℕ → List ℕ → ℕ
same_len text other = common_prefix_len (λ x y. x == y) text other

pub shared_step : (text other : List ℕ) (i n : ℕ) → i + same_len (drop i text) (drop i other) ≡ n
    → i < length text → i < length other → get_or text i 0 ≡ get_or other i 0
    → i + 1 + same_len (drop (i + 1) text) (drop (i + 1) other) ≡ n
shared_step text other i n is inside within same =
    let more = common_prefix_len-drop_yes (λ x y. x == y) text other i 0 0 inside within
    (eq-eqb (get_or text i 0) (get_or other i 0) same) in
    omega (arith, is, more)

pub shared_stop : (text other : List ℕ) (i : ℕ)
    → i + same_len (drop i text) (drop i other) ≡ same_len text other
    → i < length text → i < length other → (get_or text i 0 ≡ get_or other i 0 → ⊥)
    → take i text ≡ shared text other
shared_stop text other i is inside within differ =
    let none = common_prefix_len-drop_no (λ x y. x == y) text other i 0 0 inside within
    (ne_eqb (get_or text i 0) (get_or other i 0) differ) in
    let same : i ≡ same_len text other = omega (arith, is, none) in
    ap (λ (n : ℕ). take n text) same

none_behind : (text : List ℕ) → same_len text [] ≡ 0
none_behind [] = refl
none_behind (x ∷ text) = refl

pub shared_end : (text other : List ℕ) (i : ℕ)
    → i + same_len (drop i text) (drop i other) ≡ same_len text other
    → i ≡ min (length text) (length other) → take i text ≡ shared text other
shared_end text other i is most = elim (cases_lt (length other) (length text)) [
  | inl low ↦
      let all : length other ≤ i = omega (arith, most, low) in
      let none : same_len (drop i text) (drop i other) ≡ 0 =
      ap (same_len (drop i text)) (drop_all i other all) ∙ none_behind (drop i text) in
      let same : i ≡ same_len text other = omega (arith, is, none) in
      ap (λ (n : ℕ). take n text) same
  | inr high ↦
      let all : length text ≤ i = omega (arith, most, high) in
      let none : same_len (drop i text) (drop i other) ≡ 0 =
      ap (λ (xs : List ℕ). same_len xs (drop i other)) (drop_all i text all) in
      let same : i ≡ same_len text other = omega (arith, is, none) in
      ap (λ (n : ℕ). take n text) same
]

pub ruleset shared_steps = (shared_step, shared_stop, shared_end)

-- The rows from one on that have a text.
pub set_here : (texts : List (List ℕ)) (has : List Bool) (i : ℕ) → i < length texts
    → i < length has → get_or has i false ≡ true
    → set_values (drop i texts) (drop i has)
    ≡ get_or texts i [] ∷ set_values (drop (i + 1) texts) (drop (i + 1) has)
set_here texts has i inside within some =
    ap₂ set_values (drop_more texts i [] inside)
    (drop_more has i false within ∙ ap (λ (b : Bool). b ∷ drop (i + 1) has) some)

pub unset_here : (texts : List (List ℕ)) (has : List Bool) (i : ℕ) → i < length texts
    → i < length has → get_or has i false ≡ false
    → set_values (drop i texts) (drop i has)
    ≡ set_values (drop (i + 1) texts) (drop (i + 1) has)
unset_here texts has i inside within none =
    ap₂ set_values (drop_more texts i [] inside)
    (drop_more has i false within ∙ ap (λ (b : Bool). b ∷ drop (i + 1) has) none)

none_set : (texts : List (List ℕ)) → set_values texts [] ≡ []
none_set [] = refl
none_set (text ∷ texts) = refl

pub none_left : (texts : List (List ℕ)) (has : List Bool) (i : ℕ) → length has ≤ i
    → set_values (drop i texts) (drop i has) ≡ []
none_left texts has i past =
    ap (set_values (drop i texts)) (drop_all i has past) ∙ none_set (drop i texts)

pub ruleset first_steps = (set_here, unset_here, none_left)

-- A beginning is at most as long as what it is begun with.
shared_short : (text other : List ℕ) → length (shared text other) ≤ length text
shared_short text other = omega (arith, length-take (same_len text other) text)

fold_short : (start : List ℕ) (texts : List (List ℕ))
    → length (fold shared start texts) ≤ length start
fold_short start [] = omega arith
fold_short start (text ∷ texts) =
    omega (arith, fold_short (shared start text) texts, shared_short start text)

pub common_short : (most : ℕ) (texts : List (List ℕ)) → length (common most texts) ≤ most
common_short most texts =
    let first = get_or texts 0 [] in
    omega (arith, fold_short (take most first) texts, length-take most first)

pub ruleset common_steps = (set_here, unset_here, none_left, take_min)
