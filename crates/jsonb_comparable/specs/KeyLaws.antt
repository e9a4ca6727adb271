-- The laws of keys: of one key, and of the keys of any bytes.
use Rattle.std.specs.Prelude.{◌≡◌, ◌↔◌, ◌++◌, ◌∷◌, ℕ, List, take, ⊤}
use Rattle.std.specs.Cmp.Lexicographic.{slice_cmp}
use Rattle.std.specs.List.{All, flat_map}
use Rattle.std.specs.Ordering.{nat_cmp, ordering_then}
use Rattle.std.specs.declared.cmp.Ordering.{Ordering}
use Rattle.std.specs.declared.cmp.Ordering.TheVariants.{Less, Equal, Greater}
use Rattle.jsonb_value.specs.Meaning.{Meaning, document, other_bytes, meaning_cmp}
use Rattle.jsonb_value.specs.WellFormed.{IsTree}
use Rattle.jsonb_value.proofs.BigEndian.{AreBytes}
use Rattle.jsonb_comparable.specs.TreeKey.{meaning_key}

-- What bytes can mean: a tree that a document can have, or other bytes.
abbrev pub IsMeaning : Meaning → Type 0
IsMeaning (document t) = IsTree t
IsMeaning (other_bytes b) = ⊤

-- The key of this meaning, beside the keys of all meanings,
pub record IsKeyOf (m : Meaning) (key : List ℕ) : Type 0 where
  -- compares with them as the meaning with theirs,
  pub order : (n : Meaning) → IsMeaning n → slice_cmp nat_cmp key (meaning_key n) ≡ meaning_cmp m n
  -- is the same exactly where the meanings are equal,
  pub equal : (n : Meaning) → IsMeaning n → (key ≡ meaning_key n) ↔ (meaning_cmp m n ≡ Equal)
  -- decides before all that follows it,
  pub followed : (n : Meaning) → IsMeaning n → (x y : List ℕ)
      → slice_cmp nat_cmp (key ++ x) (meaning_key n ++ y)
      ≡ ordering_then (meaning_cmp m n) (slice_cmp nat_cmp x y)
  -- begins no other, and no other begins it,
  pub no_beginning : (n : Meaning) → IsMeaning n → (x y : List ℕ) → key ++ x ≡ meaning_key n ++ y
      → (meaning_cmp m n ≡ Equal) × (x ≡ y)
  -- and compares with others as lists, one after another.
  pub lists : (ms ns : List Meaning) → All IsMeaning ms → All IsMeaning ns
      → slice_cmp nat_cmp (key ++ flat_map meaning_key ms) (flat_map meaning_key ns)
      ≡ slice_cmp meaning_cmp (m ∷ ms) ns

-- The key of bytes that have these meanings, and the order of such bytes.
abbrev pub key_by : (List ℕ → Meaning) → List ℕ → List ℕ
key_by means bytes = meaning_key (means bytes)

abbrev pub cmp_by : (List ℕ → Meaning) → List ℕ → List ℕ → Ordering
cmp_by means left right = meaning_cmp (means left) (means right)

-- The keys of bytes that have these meanings
pub record KeyLaws (means : List ℕ → Meaning) : Type 0 where
  -- compare as the bytes do,
  pub order : (l r : List ℕ) → AreBytes l → AreBytes r
      → slice_cmp nat_cmp (key_by means l) (key_by means r) ≡ cmp_by means l r
  -- are the same exactly where the bytes are equal,
  pub equal : (l r : List ℕ) → AreBytes l → AreBytes r
      → (key_by means l ≡ key_by means r) ↔ (cmp_by means l r ≡ Equal)
  -- decide before all that follows them,
  pub followed : (l r : List ℕ) → AreBytes l → AreBytes r → (x y : List ℕ)
      → slice_cmp nat_cmp (key_by means l ++ x) (key_by means r ++ y)
      ≡ ordering_then (cmp_by means l r) (slice_cmp nat_cmp x y)
  -- do not begin one another,
  pub no_beginning : (l r : List ℕ) → AreBytes l → AreBytes r → (x y : List ℕ)
      → key_by means l ++ x ≡ key_by means r ++ y → (cmp_by means l r ≡ Equal) × (x ≡ y)
  -- compare as lists, one after another,
  pub lists : (ls rs : List (List ℕ)) → All AreBytes ls → All AreBytes rs
      → slice_cmp nat_cmp (flat_map (key_by means) ls) (flat_map (key_by means) rs)
      ≡ slice_cmp (cmp_by means) ls rs
  -- are lower bounds where they are cut,
  pub cut : (l r : List ℕ) → AreBytes l → AreBytes r → (n : ℕ)
      → slice_cmp nat_cmp (take n (key_by means l)) (key_by means r) ≡ Greater
      → cmp_by means l r ≡ Greater
  -- and decide where both are cut to one length and differ.
  pub cut_both : (l r : List ℕ) → AreBytes l → AreBytes r → (n : ℕ)
      → slice_cmp nat_cmp (take n (key_by means l)) (take n (key_by means r)) ≡ Less
      → cmp_by means l r ≡ Less
