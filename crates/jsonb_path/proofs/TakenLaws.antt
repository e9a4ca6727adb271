-- The items from an index to another, one after the other.
use Rattle.std.proofs.Common.{◌≡◌, ℕ, suc, ℤ, pos, negsuc, ◌+◌, ◌<◌, Bool, true, false, List, []}
use Rattle.std.proofs.Common.{◌∷◌, ◌++◌, ◌∙◌}
use Rattle.std.proofs.Common.{ap, arith, drop, length, map, refl, sym, take, zero, ◌-◌, ◌≤◌}
use Rattle.std.specs.Prelude.{◌&&◌, if◌then◌else◌, int_le, int_lt, Ok, Err}
use Rattle.std.proofs.Math.Seq.{take-length}
use Rattle.std.proofs.lemmas.List.{drop-map, length-drop}
use Rattle.std.proofs.lemmas.Bool.{lt-leb, lt-ltb, ltb-true}
use Rattle.jsonb_value.specs.Tree.{Tree}
use Rattle.jsonb.specs.declared.node.Node.{Node}
use Rattle.jsonb.specs.Node.{node_tree}
use Rattle.jsonb_path.specs.declared.outcome.WalkError.{WalkError}
use Rattle.jsonb_path.specs.Found.{Finds, found_then}
use Rattle.jsonb_path.specs.Meaning.{Outcome, gives, joined, taken}
use Rattle.jsonb_path.proofs.FoundLaws.{onward, stopped}

-- one item, and then the others
one_by : (b : Bool) (t : Tree) (ts : List Tree)
    → (if b then t ∷ ts else ts) ≡ (if b then t ∷ [] else []) ++ ts
one_by true t ts = refl
one_by false t ts = refl

one_more : (at next : ℕ) (first last : ℤ) (t : Tree) (ts : List Tree) → next ≡ at + 1
    → taken at first last (t ∷ ts) ≡ taken at first last (t ∷ []) ++ taken next first last ts
one_more at next first last t ts e =
    let same : suc at ≡ next = omega (arith, e) in
    one_by (int_le first (pos at) && int_le (pos at) last) t (taken (suc at) first last ts)
    ∙ ap (λ n. taken at first last (t ∷ []) ++ taken n first last ts) same

module _ (at : ℕ) (first last : ℤ) (t : Tree) (all rest : List Tree) (split : all ≡ t ∷ rest) where
  whole_is : (before : List Node) (next : ℕ) → next ≡ at + 1
      → found_then before
      (joined (gives (taken at first last (t ∷ []))) (gives (taken next first last rest)))
      ≡ found_then before (gives (taken at first last all))
  whole_is before next e =
      ap (λ ts. found_then before (gives ts)) (sym (one_more at next first last t rest e))
      ∙ ap (λ ts. found_then before (gives (taken at first last ts))) (sym split)

  pub taken_on : (before found : List Node) (a : Unit {0}) (w : Outcome) (next : ℕ)
      → next ≡ at + 1 → found_then before (gives (taken at first last all)) ≡ w
      → Finds before found (Ok a) (gives (taken at first last (t ∷ [])))
      → found_then found (gives (taken next first last rest)) ≡ w
  taken_on before found a w next e whole is =
      onward before found a (gives (taken at first last (t ∷ [])))
      (gives (taken next first last rest)) w (whole_is before next e ∙ whole) is

  pub taken_stops : (before found old : List Node) (x : WalkError) (o : Outcome)
      → found_then before (gives (taken at first last all)) ≡ found_then old o
      → Finds before found (Err x) (gives (taken at first last (t ∷ [])))
      → Finds old found (Err x) o
  taken_stops before found old x o whole is =
      stopped before found old x (gives (taken at first last (t ∷ [])))
      (gives (taken (at + 1) first last rest)) o (whole_is before (at + 1) refl ∙ whole) is

pub taken_end : (at : ℕ) (first last : ℤ) (all : List Tree) → all ≡ []
    → (found old : List Node) (a : Unit {0}) (o : Outcome)
    → found_then found (gives (taken at first last all)) ≡ found_then old o
    → Finds old found (Ok a) o
taken_end at first last all none found old a o whole =
    ap (λ ts. found_then found (gives (taken at first last ts))) (sym none) ∙ whole

-- ---- past the last index

past_not : (last : ℤ) (at : ℕ) → int_lt last (pos at) ≡ true → int_le (pos at) last ≡ false
past_not (pos n) at h = lt-leb at n (ltb-true n at h)
past_not (negsuc n) at h = refl

past_next : (last : ℤ) (at : ℕ) → int_lt last (pos at) ≡ true → int_lt last (pos (suc at)) ≡ true
past_next (pos n) at h = let less : n < at = ltb-true n at h in lt-ltb n (suc at) (omega arith)
past_next (negsuc n) at h = refl

and_no : (a b : Bool) → b ≡ false → (a && b) ≡ false
and_no true b e = e
and_no false b e = refl

none_past : (at : ℕ) (first last : ℤ) (ts : List Tree) → int_lt last (pos at) ≡ true
    → taken at first last ts ≡ []
none_past at first last [] h = refl
none_past at first last (t ∷ ts) h =
    let out : (int_le first (pos at) && int_le (pos at) last) ≡ false =
    and_no (int_le first (pos at)) (int_le (pos at) last) (past_not last at h) in
    ap (λ b. if b then t ∷ taken (suc at) first last ts else taken (suc at) first last ts) out
    ∙ none_past (suc at) first last ts (past_next last at h)

pub taken_past : (at : ℕ) (first last : ℤ) (all : List Tree)
    → int_lt last (pos at) ≡ true → (found old : List Node) (a : Unit {0}) (o : Outcome)
    → found_then found (gives (taken at first last all)) ≡ found_then old o
    → Finds old found (Ok a) o
taken_past at first last all past found old a o whole =
    ap (λ ts. found_then found (gives ts)) (sym (none_past at first last all past)) ∙ whole

pub ruleset takings = (taken_on, taken_stops, taken_end, taken_past)

-- ---- from the first index on

-- before the first index nothing is taken
one_before : (n at : ℕ) (last : ℤ) (t : Tree) (ts : List Tree) → at < n
    → taken at (pos n) last (t ∷ ts) ≡ taken (suc at) (pos n) last ts
one_before n at last t ts h =
    ap (λ b. if b && int_le (pos at) last then t ∷ taken (suc at) (pos n) last ts
    else taken (suc at) (pos n) last ts) (lt-leb n at h)

taken_on_from : (k at n : ℕ) (last : ℤ) (ts : List Tree) → at + k ≤ n
    → taken (at + k) (pos n) last (drop k ts) ≡ taken at (pos n) last ts
taken_on_from zero at n last ts h =
    ap (λ i. taken i (pos n) last ts) (omega arith)
taken_on_from (suc k) at n last [] h = refl
taken_on_from (suc k) at n last (t ∷ ts) h =
    let next : at + suc k ≡ suc at + k = omega arith in
    ap (λ i. taken i (pos n) last (drop k ts)) next
    ∙ taken_on_from k (suc at) n last ts (omega (arith, h, next))
    ∙ sym (one_before n at last t ts (omega (arith, h)))

pub taken_from_start : (k n : ℕ) (last : ℤ) (ts : List Tree) → k ≤ n
    → taken k (pos n) last (drop k ts) ≡ taken 0 (pos n) last ts
taken_from_start k n last ts h =
    ap (λ i. taken i (pos n) last (drop k ts)) (omega arith)
    ∙ taken_on_from k 0 n last ts (omega (arith, h))

-- what is left of a list from an index on, as a slice takes it
pub listed_from : (found : List Node) (k : ℕ) (first last : ℤ) (xs : List Node) → k ≤ length xs
    → ((ts : List Tree) → taken k first last (drop k ts) ≡ taken 0 first last ts)
    → found_then found
    (gives (taken k first last (map node_tree (take (length xs - k) (drop k xs)))))
    ≡ found_then found (gives (taken 0 first last (map node_tree xs)))
listed_from found k first last xs h same =
    let fewer : length xs - k ≡ length (drop k xs) = sym (length-drop k xs) in
    let rest : take (length xs - k) (drop k xs) ≡ drop k xs =
    ap (λ n. take n (drop k xs)) fewer ∙ take-length (drop k xs) in
    ap (λ ys. found_then found (gives (taken k first last (map node_tree ys)))) rest
    ∙ ap (λ ts. found_then found (gives (taken k first last ts))) (sym (drop-map node_tree k xs))
    ∙ ap (λ ts. found_then found (gives ts)) (same (map node_tree xs))
