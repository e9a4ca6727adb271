-- Inserting pairs one by one, in the order of their keys.
use Rattle.std.proofs.Common.{◌≡◌, ℕ, List, [], ◌∷◌, ◌++◌, map, Bool, false, ◌||◌}
use Rattle.std.proofs.Common.{refl, sym, ap, ◌∙◌}
use Rattle.std.proofs.Math.Bool.{or_assoc, or_comm, or_self_left, or-false}
use Rattle.std.specs.BTreeMap.{insert_entry}
use Rattle.std.proofs.lemmas.List.{map-append}
use Rattle.std.proofs.lemmas.Cmp.{nat_list_cmp_total, eq_by_cmp_equiv}
use Rattle.std.proofs.lemmas.Map.Keys.{IsDistinct-push}
use Rattle.std.proofs.lemmas.Map.Lookups.{exact_bytes}
use Rattle.std.proofs.lemmas.Map.Text.{is_eq-slice_cmp}
use Rattle.std.specs.Cmp.{IsEquivalence}
use Rattle.std.specs.List.{IsDistinct}
use Rattle.std.specs.Map.{keys_of}
use Rattle.std.specs.Str.{bytes_eq}
use Rattle.std.specs.Ordering.{nat_cmp, match_ordering}
use Rattle.std.specs.Cmp.Lexicographic.{slice_cmp}
use Rattle.std.specs.declared.cmp.Ordering.{Ordering}
use Rattle.std.specs.declared.cmp.Ordering.TheVariants.{Less, Equal, Greater}
use Rattle.jsonb.specs.ItemView.{ItemView, raw}
use Rattle.jsonb.specs.Building.{has_key, with_pair, with_pairs, in_order}
use Rattle.jsonb.specs.Results.{AreDistinctWith, raw_pairs}

or_left_comm : (a b c : Bool) → a || (b || c) ≡ b || (a || c)
or_left_comm a b c = rw (← or_assoc a b c, or_comm a b, or_assoc b a c)

bytes_equiv : IsEquivalence bytes_eq
bytes_equiv =
    let laws = eq_by_cmp_equiv nat_list_cmp_total in
    record {
      refl = λ x. sym (is_eq-slice_cmp x x) ∙ laws.refl x;
      symm = λ x y. sym (is_eq-slice_cmp x y) ∙ laws.symm x y ∙ is_eq-slice_cmp y x;
      congr = λ x y z same. sym (is_eq-slice_cmp x z)
          ∙ laws.congr x y z (is_eq-slice_cmp x y ∙ same) ∙ is_eq-slice_cmp y z;
    }

-- inserting commutes with mapping the keys by f and the values by g
pub map-insert_entry : {K J X Y : Type 0} (cmp : J → J → Ordering) (f : K → J) (g : X → Y)
    (es : List (K × X)) (k : K) (v : X)
    → map (λ e. (f e.0, g e.1)) (insert_entry (λ a b. cmp (f a) (f b)) es k v)
    ≡ insert_entry cmp (map (λ e. (f e.0, g e.1)) es) (f k) (g v)
map-insert_entry cmp f g [] k v = refl
map-insert_entry {K} {J} {X} {Y} cmp f g (e ∷ es) k v =
    elim (cmp (f k) (f e.0)) as
    (λ o. map {B = J × Y} (λ e. (f e.0, g e.1)) (match_ordering o ((k, v) ∷ e ∷ es) ((e.0, v) ∷ es)
    (e ∷ insert_entry (λ a b. cmp (f a) (f b)) es k v))
    ≡ match_ordering o ((f k, g v) ∷ (f e.0, g e.1) ∷ map (λ e. (f e.0, g e.1)) es)
    ((f e.0, g v) ∷ map (λ e. (f e.0, g e.1)) es)
    ((f e.0, g e.1) ∷ insert_entry cmp (map (λ e. (f e.0, g e.1)) es) (f k) (g v))) [
      | Less ↦ refl
      | Equal ↦ refl
      | Greater ↦ ap (λ es. (f e.0, g e.1) ∷ es) (map-insert_entry cmp f g es k v)
    ]

-- the keys after inserting one pair
keys-step : {A : Type 0} (o : Ordering) (e : List ℕ × A) (es : List (List ℕ × A)) (j k : List ℕ)
    (x : A) → slice_cmp nat_cmp j e.0 ≡ o
    → has_key (with_pair es j x) k ≡ bytes_eq k j || has_key es k
    → has_key (match_ordering o ((j, x) ∷ e ∷ es) ((e.0, x) ∷ es) (e ∷ with_pair es j x)) k
    ≡ bytes_eq k j || has_key (e ∷ es) k
keys-step Less e es j k x is more = refl
keys-step Equal e es j k x is more = rw (exact_bytes j e.0 is, or_self_left)
keys-step Greater e es j k x is more =
    rw more (or_left_comm (bytes_eq k e.0) (bytes_eq k j) (has_key es k))

has_key-with_pair : {A : Type 0} (ps : List (List ℕ × A)) (j k : List ℕ) (x : A)
    → has_key (with_pair ps j x) k ≡ bytes_eq k j || has_key ps k
has_key-with_pair [] j k x = refl
has_key-with_pair (e ∷ es) j k x =
    keys-step (slice_cmp nat_cmp j e.0) e es j k x refl (has_key-with_pair es j k x)

-- the keys after inserting several pairs
has_key-with_pairs : {A : Type 0} (ps xs : List (List ℕ × A)) (k : List ℕ)
    → has_key (with_pairs ps xs) k ≡ has_key xs k || has_key ps k
has_key-with_pairs ps [] k = refl
has_key-with_pairs ps (x ∷ xs) k =
    rw (has_key-with_pairs (with_pair ps x.0 x.1) xs k, has_key-with_pair ps x.0 k x.1)
    (or_left_comm (has_key xs k) (bytes_eq k x.0) (has_key ps k) ∙ sym (or_assoc (bytes_eq k x.0)
    (has_key xs k) (has_key ps k)))

has_key-in_order : {A : Type 0} (xs : List (List ℕ × A)) (k : List ℕ)
    → has_key (in_order xs) k ≡ has_key xs k
has_key-in_order xs k = has_key-with_pairs [] xs k ∙ or-false (has_key xs k)

with_pairs-append : {A : Type 0} (ps xs : List (List ℕ × A)) (x : List ℕ × A)
    → with_pairs ps (xs ++ x ∷ []) ≡ with_pair (with_pairs ps xs) x.0 x.1
with_pairs-append ps [] x = refl
with_pairs-append ps (y ∷ xs) x = with_pairs-append (with_pair ps y.0 y.1) xs x

keys_of-raw_pairs : (ps : List (List ℕ × List ℕ)) → keys_of (raw_pairs ps) ≡ keys_of ps
keys_of-raw_pairs [] = refl
keys_of-raw_pairs (p ∷ ps) = ap (λ ks. p.0 ∷ ks) (keys_of-raw_pairs ps)

-- the inputs that were inserted so far, each of them as a key and bytes
module _ {A : Type 0} (input : A → List ℕ × List ℕ) (builder : List (List ℕ × ItemView))
    (xs : List A) (built : builder ≡ raw_pairs (in_order (map input xs))) where
  pub key_there : (k : List ℕ) → has_key builder k ≡ has_key (map input xs) k
  key_there k =
      rw (built, keys_of-raw_pairs (in_order (map input xs))) (has_key-in_order (map input xs) k)

  pub one_more : (after : List (List ℕ × ItemView)) (x : A)
      → after ≡ with_pair builder (input x).0 (raw (input x).1)
      → after ≡ raw_pairs (in_order (map input (xs ++ x ∷ [])))
  one_more after x pushed =
      let inserted = map-insert_entry (slice_cmp nat_cmp) (λ k. k) raw
      (in_order (map input xs)) (input x).0 (input x).1 in
      rw (
        pushed,
        built,
        map-append input xs (x ∷ []),
        with_pairs-append [] (map input xs) (input x),
      ) (sym inserted)

  pub distinct_with : (x : A) → has_key builder (input x).0 ≡ false
      → IsDistinct bytes_eq (keys_of (map input xs)) → AreDistinctWith (map input xs) (input x)
  distinct_with x new distinct =
      rw (map-append (λ p. p.0) (map input xs) (input x ∷ []))
      (IsDistinct-push bytes_equiv (keys_of (map input xs)) (input x).0 distinct
      (sym (key_there (input x).0) ∙ new))

  pub still_distinct : (x : A) → has_key builder (input x).0 ≡ false
      → IsDistinct bytes_eq (keys_of (map input xs))
      → IsDistinct bytes_eq (keys_of (map input (xs ++ x ∷ [])))
  still_distinct x new distinct =
      rw (map-append input xs (x ∷ [])) (distinct_with x new distinct)
