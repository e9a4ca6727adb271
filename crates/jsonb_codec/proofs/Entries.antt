-- Entry words and their payloads determine each other.
use Rattle.std.proofs.Common.{◌≡◌, ℕ, ◌+◌, ◌*◌, ◌%◌, ◌^◌, ◌<◌, ◌≤◌, List, ◌++◌, length, refl, sym}
use Rattle.std.proofs.Common.{ap, ◌∙◌, arith, length-append}
use Rattle.jsonb_value.specs.Tree.{Tree, text, Trees, no_trees, tree, Pairs, no_pairs, pair, count}
use Rattle.jsonb_value.specs.Tree.{pair_count}
use Rattle.jsonb_codec.specs.WordBytes.{word}
use Rattle.jsonb_codec.specs.Doc.{type_of, IsKey, NoMore, One, Children, Keys, Values, Payload}
use Rattle.jsonb_codec.proofs.Words.{length-word-append, same_words}

-- the tag of a word whose lower 28 bits are a length
pub record IsType (t : ℕ) : Type 0 where
  pub high : t % 2 ^ 28 ≡ 0
  pub room : t + 2 ^ 28 ≤ 2 ^ 32

pub IsType-type_of : (t : Tree) → IsType (type_of t)
IsType-type_of t = grind arith

-- the sum of a type and a length determines both
pub same_entry : {t u m n : ℕ} → IsType t → IsType u → m < 2 ^ 28 → n < 2 ^ 28 → t + m ≡ u + n
    → (t ≡ u) × (m ≡ n)
same_entry ht hu hm hn e = omega (arith, ht.high, hu.high)

-- what two readings of the same entry words have in common
pub record SameFront (t u m n : ℕ) (es fs : List ℕ) : Type 0 where
  pub type : t ≡ u
  pub len : m ≡ n
  pub other_entries : es ≡ fs

pub same_front : {t u : ℕ} {M N : List ℕ → Type 0} {O Q : List ℕ → List ℕ → Type 0}
    {e p q : List ℕ} → IsType t → IsType u → (h : One t M O e p) → (k : One u N Q e q)
    → SameFront t u (length h.payload) (length k.payload) h.other_entries k.other_entries
same_front ht hu h k =
    let parts = same_words (omega (arith, h.short, ht.room)) (omega (arith, k.short, hu.room))
    (sym h.entries_are ∙ k.entries_are) in
    let entry = same_entry ht hu h.short k.short parts.0 in
    record { type = entry.0; len = entry.1; other_entries = parts.1 }

-- an entry word takes four bytes, and its payload precedes the others
pub length-One : {t : ℕ} {M : List ℕ → Type 0} {O : List ℕ → List ℕ → Type 0} {e p : List ℕ}
    → (h : One t M O e p) → length e ≡ 4 + length h.other_entries
length-One h = grind (arith, length-word-append)

pub length-One-payloads : {t : ℕ} {M : List ℕ → Type 0} {O : List ℕ → List ℕ → Type 0}
    {e p : List ℕ}
    → (h : One t M O e p) → length p ≡ length h.payload + length h.other_payloads
length-One-payloads h = grind (arith, length-append)

pub one_more : {t : ℕ} {M : List ℕ → Type 0} {O : List ℕ → List ℕ → Type 0}
    (q es ps : List ℕ) → length q < 2 ^ 28 → M q → O es ps
    → One t M O (word (t + length q) ++ es) (q ++ ps)
one_more q es ps short means others = record {
  payload = q;
  other_entries = es;
  other_payloads = ps;
  entries_are = refl;
  payloads_are = refl;
  short = short;
  means = means;
  others = others;
}

-- no entry begins where the words end
pub not_ended : {t : ℕ} {M : List ℕ → Type 0} {O : List ℕ → List ℕ → Type 0} {e p q : List ℕ}
    → NoMore e p → One t M O e q → ⊥
not_ended h k = omega (arith, ap length h.no_entries, length-One k)

-- Keys are children whose trees are texts, and values are children.
abbrev pub keys_and : Pairs → Trees → Trees
keys_and no_pairs us = us
keys_and (pair k t ps) us = tree (text k) (keys_and ps us)

abbrev pub keys_of : Pairs → Trees
keys_of ps = keys_and ps no_trees

abbrev pub values_of : Pairs → Trees
values_of no_pairs = no_trees
values_of (pair k t ps) = tree t (values_of ps)

pub Keys-children : (ps : Pairs) → Keys ps ≡ Children (keys_of ps)
Keys-children no_pairs = refl
Keys-children (pair k t ps) = ap (One 268435456 (IsKey k)) (Keys-children ps)

pub Values-children : (ps : Pairs) → Values ps ≡ Children (values_of ps)
Values-children no_pairs = refl
Values-children (pair k t ps) = ap (One (type_of t) (Payload t)) (Values-children ps)

pub length-Children : (ts : Trees) (e p : List ℕ) → Children ts e p → length e ≡ 4 * count ts
length-Children no_trees e p h = ap length h.no_entries
length-Children (tree t ts) e p h = omega (arith, length-One h, length-Children ts _ _ h.others)

pub length-Values : (ps : Pairs) (e p : List ℕ) → Values ps e p → length e ≡ 4 * pair_count ps
length-Values no_pairs e p h = ap length h.no_entries
length-Values (pair k t ps) e p h = omega (arith, length-One h, length-Values ps _ _ h.others)

pub length-Keys : (ps : Pairs) (e p : List ℕ) → Keys ps e p → length e ≡ 4 * pair_count ps
length-Keys no_pairs e p h = ap length h.no_entries
length-Keys (pair k t ps) e p h = omega (arith, length-One h, length-Keys ps _ _ h.others)
