-- A document without a zero byte is long: in every count and every length in it the lower three
-- bytes are nonzero.
use Rattle.std.proofs.Common.{◌≡◌, ◌≢◌, ◌≤◌, ◌<◌, ◌*◌, ◌%◌, ◌^◌, ℕ, suc, List, [], ◌∷◌, ◌++◌}
use Rattle.std.proofs.Common.{length, inl, inr, refl, ap, subst, arith, length-append}
use Rattle.std.proofs.lemmas.List.Elements.{All-nil, All-cons, All-head, All-tail, All-append}
use Rattle.std.specs.List.{All}
use Rattle.jsonb_value.specs.Tree.{Tree, text, array, object, Trees, no_trees, tree, Pairs}
use Rattle.jsonb_value.specs.Tree.{no_pairs, pair, count, pair_count}
use Rattle.jsonb_codec.specs.WordBytes.{word}
use Rattle.jsonb_codec.specs.Doc.{type_of, One, Keys, Values, Children, Payload, Doc}
use Rattle.jsonb_codec.specs.Payloads.{item_payloads, keys_in, values_in, payloads_in}
use Rattle.jsonb_codec.proofs.Entries.{IsType, IsType-type_of, length-One-payloads}
use Rattle.jsonb_codec.proofs.Containers.{members, count_of, two_kinds, count-members, Container}
use Rattle.jsonb_codec.proofs.Containers.{array_container, object_container, container}
use Rattle.jsonb_codec.proofs.Containers.{length-Container}

-- no byte is zero
abbrev pub NoZero : List ℕ → Type 0
NoZero bs = All (λ b. b ≢ 0) bs

NoZero-append : (xs ys : List ℕ) → NoZero (xs ++ ys) → NoZero xs × NoZero ys
NoZero-append [] ys h = (All-nil (λ b. b ≢ 0), h)
NoZero-append (x ∷ xs) ys h =
    let P = λ (b : ℕ). b ≢ 0 in
    let both = NoZero-append xs ys (All-tail P x (xs ++ ys) h) in
    (All-cons P x xs (All-head P x (xs ++ ys) h) both.0, both.1)

NoZero-parts : {bs : List ℕ} (xs ys : List ℕ) → bs ≡ xs ++ ys → NoZero bs → NoZero xs × NoZero ys
NoZero-parts xs ys e h = NoZero-append xs ys (subst NoZero e h)

-- a lower bound on the lower three bytes of such a word
word_least : (k : ℕ) → NoZero (word k) → 65793 ≤ k % 2 ^ 24
unfolding word
word_least k h = grind arith

-- at least as long as the payload length, or the count, in such a word
abbrev Long : List ℕ → Type 0
Long q = 65793 ≤ length q

-- the first payload is long, and the entry words after its own have no zero byte either
one_least : {ty : ℕ} {M : List ℕ → Type 0} {O : List ℕ → List ℕ → Type 0} {e p : List ℕ}
    → IsType ty → NoZero e → (h : One ty M O e p) → Long h.payload × NoZero h.other_entries
one_least is zero_free h =
    let parts = NoZero-parts _ h.other_entries h.entries_are zero_free in
    (omega (arith, word_least _ parts.0, is.high, h.short), parts.1)

-- Each payload is long.
items_long : (ts : Trees) (e p : List ℕ) → NoZero e → (h : Children ts e p)
    → All Long (item_payloads ts e p h)
items_long no_trees e p zero_free h = All-nil Long
items_long (tree t ts) e p zero_free h =
    let first = one_least (IsType-type_of t) zero_free h in
    All-cons Long h.payload _ first.0 (items_long ts _ _ first.1 h.others)

keys_long : (ps : Pairs) (e p : List ℕ) → NoZero e → (h : Keys ps e p) → All Long (keys_in ps e p h)
keys_long no_pairs e p zero_free h = All-nil Long
keys_long (pair k t ps) e p zero_free h =
    let first = one_least (IsType-type_of (text k)) zero_free h in
    All-cons Long h.payload _ first.0 (keys_long ps _ _ first.1 h.others)

values_long : (ps : Pairs) (e p : List ℕ) → NoZero e → (h : Values ps e p)
    → All Long (values_in ps e p h)
values_long no_pairs e p zero_free h = All-nil Long
values_long (pair k t ps) e p zero_free h =
    let first = one_least (IsType-type_of t) zero_free h in
    All-cons Long h.payload _ first.0 (values_long ps _ _ first.1 h.others)

-- There are as many payloads as the header counts.
length-items : (ts : Trees) (e p : List ℕ) (h : Children ts e p)
    → length (item_payloads ts e p h) ≡ count ts
length-items no_trees e p h = refl
length-items (tree t ts) e p h = ap suc (length-items ts _ _ h.others)

length-keys : (ps : Pairs) (e p : List ℕ) (h : Keys ps e p)
    → length (keys_in ps e p h) ≡ pair_count ps
length-keys no_pairs e p h = refl
length-keys (pair k t ps) e p h = ap suc (length-keys ps _ _ h.others)

Children-least : (ts : Trees) (e p : List ℕ) → NoZero e → Children ts e p
    → 65793 * count ts ≤ length p
Children-least no_trees e p zero_free h = omega arith
Children-least (tree t ts) e p zero_free h =
    let first = one_least (IsType-type_of t) zero_free h in
    omega (arith, first.0, Children-least ts _ _ first.1 h.others, length-One-payloads h)

header_least : {t : Tree} {b : List ℕ} → NoZero b → (f : Container t b)
    → (65793 ≤ count_of t) × NoZero f.entries
header_least {t} zero_free f =
    let parts = NoZero-parts _ f.rest f.parts zero_free in (
      omega (arith, word_least _ parts.0, two_kinds t, f.few),
      (NoZero-parts f.entries f.payloads f.body parts.1).0,
    )

-- A document without a zero byte has more than this many bytes.
pub Doc-least : (b : List ℕ) (t : Tree) → Doc b t → NoZero b → 4294967296 < length b
Doc-least b t (inr h) zero_free =
    let f = container t b h.0 h.1 in
    let least = header_least zero_free f in
    omega (
      arith,
      least.0,
      Children-least (members t) f.entries f.payloads least.1 f.items,
      count-members t h.0,
      length-Container f,
    )
Doc-least b t (inl h) zero_free =
    absurd (omega (arith, word_least 536870912 (NoZero-parts _ _ h.1.parts zero_free).0))

-- There are many payloads, each of them long.
abbrev pub AreLong : List (List ℕ) → Type 0
AreLong ps = (65793 ≤ length ps) × All (λ p. 65793 ≤ length p) ps

container-long : (b : List ℕ) (t : Tree) → (is : type_of t ≡ 1342177280) → NoZero b
    → (h : Payload t b) → AreLong (payloads_in b t (inr (is, h)))
container-long b (array ts) is zero_free h =
    let least = header_least zero_free (array_container ts b h) in
    let items = h.later.items in
    (omega (arith, least.0, length-items ts _ _ items), items_long ts _ _ least.1 items)
container-long b (object ps) is zero_free h =
    let least = header_least zero_free (object_container ps b h) in
    let k = h.1.later in
    let words = NoZero-append k.key_entries k.value_entries least.1 in (
      omega (
        arith,
        least.0,
        length-keys ps _ _ k.keys,
        length-append (keys_in ps _ _ k.keys) (values_in ps _ _ k.values),
      ),
      All-append Long _ _ (keys_long ps _ _ words.0 k.keys) (values_long ps _ _ words.1 k.values),
    )
container-long b t is zero_free h = absurd (grind arith)

pub Doc-long : (b : List ℕ) (t : Tree) → (h : Doc b t) → NoZero b → AreLong (payloads_in b t h)
Doc-long b t (inr h) zero_free = container-long b t h.0 zero_free h.1
Doc-long b t (inl h) zero_free =
    absurd (omega (arith, word_least 536870912 (NoZero-parts _ _ h.1.parts zero_free).0))
