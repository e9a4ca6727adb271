-- The keys of the rows so far tell which row is the first of its key.
use Rattle.std.proofs.Common.{◌≡◌, ◌∙◌, ◌++◌, ◌||◌, ℕ, Bool, true, false, List, [], ◌∷◌, map}
use Rattle.std.proofs.Common.{Vec, Global, refl, sym, ap}
use Rattle.std.proofs.lemmas.List.{map-append}
use Rattle.std.proofs.lemmas.List.Folds.{list_any-append}
use Rattle.std.specs.Prelude.{nat_eq}
use Rattle.std.specs.Cmp.Lexicographic.{bytes_decides, pointwise}
use Rattle.std.specs.List.{list_any}
use Rattle.indexmap.specs.IndexSet.{insert_key}
use Rattle.kept_rows.specs.FirstRows.{AreFirstByKeys, Row, first_rows, has_key, new_rows, row_key}
use Rattle.kept_rows.specs.FirstRows.{with_key}

abbrev Key : Type 0
Key = Vec ℕ Global

abbrev is_key : List ℕ → List ℕ → Bool
is_key k l = pointwise nat_eq k l

-- ---- the keys that are stored

-- a stored key is one of the keys
pub stored_has : (keys : List Key) (k : List ℕ)
    → list_any (λ (l : Key). is_key k l.items) keys ≡ has_key (map (λ (l : Key). l.items) keys) k
stored_has [] k = refl
stored_has (l ∷ keys) k = ap (λ b. is_key k l.items || b) (stored_has keys k)

-- a key is stored once
pub stored_with : (keys : List Key) (k : Key) (b : Bool)
    → has_key (map (λ (l : Key). l.items) keys) k.items ≡ b
    → map (λ (l : Key). l.items) (insert_key (λ (x y : Key). is_key x.items y.items) keys k)
    ≡ with_key (map (λ (l : Key). l.items) keys) k.items
stored_with keys k true is = rw (stored_has keys k.items, is) refl
stored_with keys k false is =
    rw (stored_has keys k.items, is) (map-append (λ (l : Key). l.items) keys (k ∷ []))

-- ---- rows

either_false : (b : Bool) → (b || false) ≡ b
either_false true = refl
either_false false = refl

-- one more key is there, or another one is
has_more : (keys : List (List ℕ)) (k l : List ℕ)
    → has_key (keys ++ k ∷ []) l ≡ (has_key keys l || is_key l k)
has_more keys k l =
    list_any-append (λ m. is_key l m) keys (k ∷ [])
    ∙ ap (λ b. has_key keys l || b) (either_false (is_key l k))

-- a key that is there already changes nothing
absorbed : (keys : List (List ℕ)) (k l : List ℕ) (b : Bool) → is_key l k ≡ b
    → has_key keys k ≡ true → has_key keys l ≡ (has_key keys l || is_key l k)
absorbed keys k l true is there =
    let same : l ≡ k = (bytes_decides l k).0 is in
    let here : has_key keys l ≡ true = rw same there in rw here refl
absorbed keys k l false is there = rw is (sym (either_false (has_key keys l)))

has_with : (keys : List (List ℕ)) (k l : List ℕ) (b : Bool) → has_key keys k ≡ b
    → has_key (with_key keys k) l ≡ (has_key keys l || is_key l k)
has_with keys k l true is = rw is (absorbed keys k l (is_key l k) refl is)
has_with keys k l false is = rw is (has_more keys k l)

abbrev AreAlike : List (List ℕ) → List Row → Type 0
AreAlike keys earlier = (l : List ℕ) → has_key keys l ≡ has_key (map row_key earlier) l

alike_more : (keys : List (List ℕ)) (earlier : List Row) (r : Row) → AreAlike keys earlier
    → AreAlike (with_key keys r.key) (earlier ++ r ∷ [])
alike_more keys earlier r alike l =
    has_with keys r.key l (has_key keys r.key) refl
    ∙ ap (λ b. b || is_key l r.key) (alike l)
    ∙ sym (has_more (map row_key earlier) r.key l)
    ∙ ap (λ (ks : List (List ℕ)). has_key ks l) (sym (map-append row_key earlier (r ∷ [])))

first_at : (keys : List (List ℕ)) (earlier rows : List Row) (r : Row) (b : Bool)
    → has_key keys r.key ≡ b → has_key (map row_key earlier) r.key ≡ b
    → new_rows (with_key keys r.key) rows ≡ first_rows (earlier ++ r ∷ []) rows
    → new_rows keys (r ∷ rows) ≡ first_rows earlier (r ∷ rows)
first_at keys earlier rows r true is there rest = rw (is, there) (rw is at rest)
first_at keys earlier rows r false is there rest =
    rw (is, there) (ap (λ (rs : List Row). r ∷ rs) (rw is at rest))

new_are_first : (keys : List (List ℕ)) (earlier rows : List Row) → AreAlike keys earlier
    → new_rows keys rows ≡ first_rows earlier rows
new_are_first keys earlier [] alike = refl
new_are_first keys earlier (r ∷ rows) alike =
    first_at keys earlier rows r (has_key keys r.key) refl (sym (alike r.key))
    (new_are_first (with_key keys r.key) (earlier ++ r ∷ []) rows
    (alike_more keys earlier r alike))

pub first_by_keys : AreFirstByKeys
first_by_keys rows = new_are_first [] [] rows (λ l. refl)
