-- The keys and the contents of maps.
use Rattle.std.proofs.Common.{◌≡◌, ℕ, zero, suc, ◌<◌, List, [], ◌∷◌, length, Bor, Bool}
use Rattle.std.proofs.Common.{true, false, cond, refl, arith, Option, Some, ◌||◌, slice_index_or}
use Rattle.std.proofs.lemmas.Map.Text.{is_eq-slice_cmp}
use Rattle.std.specs.Prelude.{is_some}
use Rattle.std.specs.List.{All, AllByRecursion}
use Rattle.std.specs.Map.{keys_of, values_of, lookup}
use Rattle.std.specs.List.Sorted.{IsStrictlySortedBy}
use Rattle.std.specs.BTreeMap.{insert_entry, is_at}
use Rattle.std.specs.Ordering.{nat_cmp}
use Rattle.std.specs.Cmp.Lexicographic.{slice_cmp}
use Rattle.std.specs.Str.{IsUtf8}
use Rattle.std.specs.declared.cmp.Ordering.{Ordering}
use Rattle.std.specs.declared.cmp.Ordering.TheVariants.{Less}
use Rattle.jsonb.specs.ItemView.{ItemView}
use Rattle.jsonb.specs.Children.{pairs_by, map_keys}
use Rattle.jsonb.specs.Building.{AreTexts, AreKeys, has_key, with_pair}
use Rattle.jsonb.proofs.InputLaws.{map-insert_entry}

-- Whether a map has a key, and inserting a pair, by the bytes of the keys.
abbrev pub key_test : List ℕ → Bor (List ℕ) → Bool
key_test key = is_at (λ k. slice_cmp nat_cmp key k.now)

abbrev pub key_cmp : Bor (List ℕ) → Bor (List ℕ) → Ordering
key_cmp a b = slice_cmp nat_cmp a.now b.now

pub is_some-cond : {A : Type 0} (b : Bool) (x : A) (o : Option A)
    → is_some (cond b (Some x) o) ≡ b || is_some o
is_some-cond true x o = refl
is_some-cond false x o = refl

module _ {A : Type 0} (view : A → ItemView) where
  pub has_key-entries : (es : List (Bor (List ℕ) × A)) (key : List ℕ)
      → is_some (lookup (key_test key) es) ≡ has_key (pairs_by view es) key
  has_key-entries [] key = refl
  has_key-entries (e ∷ es) key =
      rw (is_eq-slice_cmp key e.0.now, ← has_key-entries es key) (is_some-cond _ e.1 _)

  pub with_pair-entries : (es : List (Bor (List ℕ) × A)) (key : Bor (List ℕ)) (x : A)
      → pairs_by view (insert_entry key_cmp es key x)
      ≡ with_pair (pairs_by view es) key.now (view x)
  with_pair-entries = map-insert_entry (slice_cmp nat_cmp) (λ k. k.now) view

-- The keys of a map ascend.
above-keys : {A : Type 0} (k : Bor (List ℕ)) (es : List (Bor (List ℕ) × A))
    → AllByRecursion (λ y. key_cmp k y ≡ Less) (keys_of es)
    → AllByRecursion (λ y. slice_cmp nat_cmp k.now y ≡ Less) (map_keys es)
above-keys k [] h = tt
above-keys k (e ∷ es) h = (h.0, above-keys k es h.1)

pub ascend-keys : {A : Type 0} (es : List (Bor (List ℕ) × A))
    → IsStrictlySortedBy key_cmp (keys_of es)
    → IsStrictlySortedBy (slice_cmp nat_cmp) (map_keys es)
unfolding IsStrictlySortedBy
ascend-keys [] h = tt
ascend-keys (e ∷ es) h = (above-keys e.0 es h.0, ascend-keys es h.1)

-- The keys of a map are UTF-8.
module _ {A : Type 0} (held : A → Type 0) where
  texts-held : (es : List (Bor (List ℕ) × A))
      → AllByRecursion (λ e. IsUtf8 e.0.now × held e.1) es → AreTexts (map_keys es)
  texts-held [] h = tt
  texts-held (e ∷ es) h = (h.0.0, texts-held es h.1)

  pub AreKeys-held : (es : List (Bor (List ℕ) × A))
      → AllByRecursion (λ e. IsUtf8 e.0.now × held e.1) es
      → IsStrictlySortedBy (slice_cmp nat_cmp) (map_keys es) → AreKeys (map_keys es)
  AreKeys-held es h ascend = record { texts = texts-held es h; ascend = ascend }

  pub values-held : (es : List (Bor (List ℕ) × A))
      → AllByRecursion (λ e. IsUtf8 e.0.now × held e.1) es → AllByRecursion held (values_of es)
  values-held [] h = tt
  values-held (e ∷ es) h = (h.0.1, values-held es h.1)

-- What holds of all values holds at each key.
module _ {A : Type 0} (P : A → Type 0) where
  pub at_pairs : (es : List (Bor (List ℕ) × A)) → All P (values_of es)
      → AllByRecursion (λ e. P e.1) es
  at_pairs [] h = tt
  at_pairs (e ∷ es) h = (
    h 0 e.1 (omega arith),
    at_pairs es (λ k x less. h (suc k) x (omega (arith, less))),
  )

  pub of_pairs : (es : List (Bor (List ℕ) × A)) → AllByRecursion (λ e. P e.1) es
      → (k : ℕ) (x : A) → k < length (values_of es) → P (slice_index_or (values_of es) k x)
  of_pairs [] h k x less = absurd (omega (arith, less))
  of_pairs (e ∷ es) h zero x less = h.0
  of_pairs (e ∷ es) h (suc k) x less = of_pairs es h.1 k x (omega (arith, less))
