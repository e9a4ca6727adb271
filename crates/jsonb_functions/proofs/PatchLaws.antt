-- Patching the pairs of an object from the front.
use Rattle.std.proofs.Common.{◌≡◌, ◌≢◌, ◌⊎◌, ℕ, List, refl, sym, ap, ◌∙◌, Some, inl, inr}
use Rattle.std.specs.declared.cmp.Ordering.{Ordering}
use Rattle.std.specs.declared.cmp.Ordering.TheVariants.{Less, Equal, Greater}
use Rattle.std.specs.Ordering.{nat_cmp}
use Rattle.std.specs.Cmp.Lexicographic.{slice_cmp}
use Rattle.jsonb_value.specs.Tree.{Tree, null, boolean, number, text, extension, array, object}
use Rattle.jsonb_value.specs.Tree.{Pairs, no_pairs, pair, Ascends, Ascend}
use Rattle.jsonb_functions.specs.Joined.{with_key}
use Rattle.jsonb_functions.specs.Patched.{patched, pairs_patched, value_or_null, without_key}
use Rattle.jsonb_functions.specs.Patched.{unless_equal}
use Rattle.jsonb_functions.specs.PatchSource.{AreChanged}
use Rattle.jsonb_functions.proofs.KeyOrder.{Below, flipped}
use Rattle.jsonb_functions.proofs.JoinLaws.{ascends_from, ascends_at, ascends_after, with_lesser}
use Rattle.jsonb_functions.proofs.JoinLaws.{with_ascends}

-- What a pair of the patch does to the pairs that the others make: it removes one, or puts one.
abbrev Removes : List ℕ → Tree → Pairs → Pairs → Type 0
Removes k u ps qs =
    (u ≡ null) × (pairs_patched ps (pair k u qs) ≡ without_key k (pairs_patched ps qs))

abbrev Puts : List ℕ → Tree → Pairs → Pairs → Type 0
Puts k u ps qs = (u ≢ null) × (pairs_patched ps (pair k u qs)
    ≡ with_key k (patched (value_or_null k ps) u) (pairs_patched ps qs))

does : (k : List ℕ) (u : Tree) (ps qs : Pairs) → Removes k u ps qs ⊎ Puts k u ps qs
does k null ps qs = inl (refl, refl)
does k (boolean b) ps qs = inr (λ e. absurd (cc), refl)
does k (number x) ps qs = inr (λ e. absurd (cc), refl)
does k (text s) ps qs = inr (λ e. absurd (cc), refl)
does k (extension x) ps qs = inr (λ e. absurd (cc), refl)
does k (array ts) ps qs = inr (λ e. absurd (cc), refl)
does k (object rs) ps qs = inr (λ e. absurd (cc), refl)

puts : (k : List ℕ) (u : Tree) (ps qs : Pairs) → u ≢ null
    → pairs_patched ps (pair k u qs)
    ≡ with_key k (patched (value_or_null k ps) u) (pairs_patched ps qs)
puts k u ps qs n = elim (does k u ps qs) [
  | inl h ↦ absurd (n h.0)
  | inr h ↦ h.1
]

-- No pair has a lesser key.
pub without_lesser : (k : List ℕ) (ps : Pairs) → Ascends (Some k) ps → without_key k ps ≡ ps
without_lesser k no_pairs h = refl
without_lesser k (pair j t ps) h =
    rw (flipped k j Less h.0) (ap (λ x. pair j t x)
    (without_lesser k ps (ascends_from k j ps h.0 h.1)))

value_of_lesser : (k : List ℕ) (ps : Pairs) → Ascends (Some k) ps → value_or_null k ps ≡ null
value_of_lesser k no_pairs h = refl
value_of_lesser k (pair j t ps) h =
    rw (flipped k j Less h.0) (value_of_lesser k ps (ascends_from k j ps h.0 h.1))

-- A pair with a lesser key, and one with this key.
value_passed : (k j : List ℕ) (t : Tree) (ps : Pairs) → Below j k
    → value_or_null k (pair j t ps) ≡ value_or_null k ps
value_passed k j t ps h = rw h refl

with_passed : (k j : List ℕ) (v t : Tree) (ps : Pairs) → Below j k
    → with_key k v (pair j t ps) ≡ pair j t (with_key k v ps)
with_passed k j v t ps h = rw h refl

value_met : (k j : List ℕ) (t : Tree) (ps : Pairs) → slice_cmp nat_cmp j k ≡ Equal
    → value_or_null k (pair j t ps) ≡ t
value_met k j t ps h = rw h refl

with_met : (k j : List ℕ) (v t : Tree) (ps : Pairs) → slice_cmp nat_cmp j k ≡ Equal
    → with_key k v (pair j t ps) ≡ pair k v ps
with_met k j v t ps h = rw h refl

pub without_met : (k j : List ℕ) (t : Tree) (ps : Pairs) → slice_cmp nat_cmp j k ≡ Equal
    → without_key k (pair j t ps) ≡ without_key k ps
without_met k j t ps h = rw h refl

unless_ascends : (b j : List ℕ) (t : Tree) (ps : Pairs) (o : Ordering) → Below b j
    → Ascends (Some j) ps → Ascends (Some b) (unless_equal o j t ps)
unless_ascends b j t ps Less l h = (l, h)
unless_ascends b j t ps Equal l h = ascends_from b j ps l h
unless_ascends b j t ps Greater l h = (l, h)

without_ascends : (b k : List ℕ) (ps : Pairs) → Ascends (Some b) ps
    → Ascends (Some b) (without_key k ps)
without_ascends b k no_pairs h = h
without_ascends b k (pair j t ps) h =
    unless_ascends b j t (without_key k ps) (slice_cmp nat_cmp j k) h.0
    (without_ascends j k ps h.1)

patched_ascends : (b : List ℕ) (ps qs : Pairs) → Ascends (Some b) ps → Ascends (Some b) qs
    → Ascends (Some b) (pairs_patched ps qs)
patched_ascends b ps no_pairs h g = h
patched_ascends b ps (pair k u qs) h g =
    let rest = patched_ascends b ps qs h (ascends_from b k qs g.0 g.1) in
    elim (does k u ps qs) [
      | inl e ↦ rw (e.1) (without_ascends b k (pairs_patched ps qs) rest)
      | inr e ↦ rw (e.1) (with_ascends b k _ (pairs_patched ps qs) g.0 rest)
    ]

-- A pair before all of the patch comes first.
patched_less : (j : List ℕ) (t : Tree) (ps qs : Pairs) → Ascends (Some j) qs
    → pairs_patched (pair j t ps) qs ≡ pair j t (pairs_patched ps qs)
patched_less j t ps no_pairs h = refl
patched_less j t ps (pair k u qs) h =
    let rest = patched_less j t ps qs (ascends_from j k qs h.0 h.1) in
    elim (does k u ps qs) [
      | inl e ↦ rw (e.0) (rw (rest, h.0) refl)
      | inr e ↦ puts k u (pair j t ps) qs e.0
          ∙ ap (λ v. with_key k (patched v u) (pairs_patched (pair j t ps) qs))
          (value_passed k j t ps h.0)
          ∙ ap (λ x. with_key k (patched (value_or_null k ps) u) x) rest
          ∙ with_passed k j (patched (value_or_null k ps) u) t (pairs_patched ps qs) h.0
          ∙ ap (λ x. pair j t x) (sym e.1)
    ]

pub first_left : (ps others qs rest : Pairs) (j k : List ℕ) (t u : Tree) → ps ≡ pair j t others
    → qs ≡ pair k u rest → Below j k → Ascend qs
    → pairs_patched ps qs ≡ pair j t (pairs_patched others qs)
first_left ps others qs rest j k t u e f l h =
    let after : Ascends (Some k) rest = (rw f at h).1 in
    let all : Ascends (Some j) qs = rw f (l, after) in
    rw e (patched_less j t others qs all)

pub first_alone : (ps others qs : Pairs) (k : List ℕ) (t : Tree) → qs ≡ no_pairs
    → ps ≡ pair k t others → pairs_patched ps qs ≡ pair k t (pairs_patched others qs)
first_alone ps others qs k t n e = rw (n, e) refl

-- The first of both have one key.
pub both_changed : (ps others qs rest : Pairs) (j k : List ℕ) (t u : Tree)
    → ps ≡ pair j t others → qs ≡ pair k u rest → slice_cmp nat_cmp j k ≡ Equal → Ascend ps
    → Ascend qs → AreChanged (pairs_patched ps qs) k t u others rest
both_changed ps others qs rest j k t u e f same g h =
    let after : Ascends (Some k) rest = (rw f at h).1 in
    let beyond : Ascends (Some k) others = ascends_after j k others same (rw e at g).1 in
    let less = patched_less j t others rest (ascends_at j k rest same after) in
    let left = pairs_patched others rest in (
      λ n. rw (e, f, n) (ap (λ x. without_key k x) less ∙ without_met k j t left same
          ∙ without_lesser k left (patched_ascends k others rest beyond after)),
      λ n. rw (e, f) (puts k u (pair j t others) rest n
          ∙ ap (λ v. with_key k (patched v u) (pairs_patched (pair j t others) rest))
          (value_met k j t others same)
          ∙ ap (λ x. with_key k (patched t u) x) less
          ∙ with_met k j (patched t u) t left same),
    )

-- All keys of the target are greater than the patch's first.
pub right_changed : (ps qs rest : Pairs) (k : List ℕ) (u : Tree) → Ascends (Some k) ps
    → qs ≡ pair k u rest → Ascend qs → AreChanged (pairs_patched ps qs) k null u ps rest
right_changed ps qs rest k u all f h =
    let after : Ascends (Some k) rest = (rw f at h).1 in
    let beyond = patched_ascends k ps rest all after in (
      λ n. rw (f, n) (without_lesser k (pairs_patched ps rest) beyond),
      λ n. rw f (puts k u ps rest n
          ∙ ap (λ v. with_key k (patched v u) (pairs_patched ps rest)) (value_of_lesser k ps all)
          ∙ with_lesser k (patched null u) (pairs_patched ps rest) beyond),
    )

-- All pairs are greater than a key that comes before the first, or there are none.
pub all_beyond : (ps others : Pairs) (j k : List ℕ) (t : Tree) → ps ≡ pair j t others
    → slice_cmp nat_cmp j k ≡ Greater → Ascend ps → Ascends (Some k) ps
all_beyond ps others j k t e late g =
    let beyond : Ascends (Some j) others = (rw e at g).1 in
    rw e (flipped j k Greater late, beyond)

pub none_beyond : (ps : Pairs) (k : List ℕ) → ps ≡ no_pairs → Ascends (Some k) ps
none_beyond ps k e = rw e tt
