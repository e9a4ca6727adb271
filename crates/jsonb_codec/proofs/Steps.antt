-- How one more word constrains the bytes after it.
use Rattle.std.proofs.Common.{◌≡◌, ◌≢◌, ◌↔◌, ◌⊎◌, inl, inr, ℕ, ◌+◌, ◌-◌, ◌*◌, ◌%◌, ◌^◌, ◌<◌, ◌≤◌}
use Rattle.std.proofs.Common.{List, [], ◌∷◌, ◌++◌, length, take, drop, refl, sym, ap, subst, ◌∙◌}
use Rattle.std.proofs.Common.{arith, length-append}
use Rattle.std.specs.Prelude.{⊤}
use Rattle.std.proofs.lemmas.List.{take-append-drop, length-take-le, take_all}
use Rattle.jsonb_value.specs.Tree.{Tree, array, object, Trees, no_trees, tree, Pairs}
use Rattle.jsonb_value.proofs.ExtCodes.{front_of, back_of}
use Rattle.jsonb_codec.specs.WordBytes.{word}
use Rattle.jsonb_codec.specs.Canon.{document_of}
use Rattle.jsonb_codec.specs.Doc.{IsDocument, Doc, type_of, NoMore, One, Children, Payload, Scalar}
use Rattle.jsonb_codec.specs.Depth.{depth, IsDocumentWithin}
use Rattle.jsonb_codec.specs.Parts.{IsPayloadOf, IsArray, IsObject, HasPayload, HasScalar}
use Rattle.jsonb_codec.specs.Parts.{HasChildren, HasArray, HasObject}
use Rattle.jsonb_codec.specs.Rewriting.{FirstChild}
use Rattle.jsonb_codec.proofs.Words.{same_words, same_parts, length-word-append}
use Rattle.jsonb_codec.proofs.Entries.{IsType, IsType-type_of, same_entry, length-One}
use Rattle.jsonb_codec.proofs.Entries.{length-One-payloads, length-Children}
use Rattle.jsonb_codec.proofs.Containers.{kind_of, two_kinds, container, header_small}
use Rattle.jsonb_codec.proofs.Containers.{length-Container}
use Rattle.jsonb_codec.proofs.DepthLaws.{Doc-depth}
use Rattle.jsonb_codec.proofs.Lengths.{document_of-scalar}

-- The first word, as it was read: a tag, and a number below the bound.
pub record Read (bound tag n : ℕ) (rest bytes : List ℕ) : Type 0 where
  pub found : bytes ≡ word (tag + n) ++ rest
  pub high : tag % bound ≡ 0
  pub number : n < bound
  pub small : tag + n < 2 ^ 32

-- the form in which a reading function ensures it
pub reading : {bound ty n : ℕ} {rest bytes : List ℕ}
    → record {
      found : bytes ≡ word (ty + n) ++ rest;
      tag : ty % bound ≡ 0;
      number : n < bound;
      small : ty + n < 2 ^ 32;
      none : ⊤;
    }
    → Read bound ty n rest bytes
reading k = record { found = k.found; high = k.tag; number = k.number; small = k.small }

pub length-Read : {bound tag n : ℕ} {rest bytes : List ℕ} → Read bound tag n rest bytes
    → length bytes ≡ 4 + length rest
length-Read read = ap length read.found ∙ length-word-append _ _

pub read_type : {ty n : ℕ} {rest e : List ℕ} → Read (2 ^ 28) ty n rest e → IsType ty
read_type read = record { high = read.high; room = omega (arith, read.high, read.small) }

-- what a reading determines about the first entry and payload
pub record Front (u ty n : ℕ) (Means : List ℕ → Type 0) (Others : List ℕ → List ℕ → Type 0)
    (rest p : List ℕ) : Type 0 where
  pub type : u ≡ ty
  pub fits : n ≤ length p
  pub means : Means (take n p)
  pub others : Others rest (drop n p)

pub front_one : {ty n u : ℕ} {M : List ℕ → Type 0} {O : List ℕ → List ℕ → Type 0}
    {rest e p : List ℕ}
    → Read (2 ^ 28) ty n rest e → IsType u → One u M O e p → Front u ty n M O rest p
front_one {n = n} {M = M} {O = O} {p = p} read hu h =
    let words = same_words (omega (arith, h.short, hu.room)) read.small
    (sym h.entries_are ∙ read.found) in
    let entry = same_entry hu (read_type read) h.short read.number words.0 in
    let front = front_of n h.payload h.other_payloads p h.payloads_are entry.1 in
    let back = back_of n h.payload h.other_payloads p h.payloads_are entry.1 in
    record {
      type = entry.0;
      fits = omega (arith, length-One-payloads h, entry.1);
      means = subst M (sym front) h.means;
      others = subst (λ x. O x (drop n p)) words.1 (subst (O h.other_entries) (sym back) h.others);
    }

pub one_front : {ty n u : ℕ} {M : List ℕ → Type 0} {O : List ℕ → List ℕ → Type 0}
    {rest e p : List ℕ}
    → Read (2 ^ 28) ty n rest e → u ≡ ty → n ≤ length p → M (take n p) → O rest (drop n p)
    → One u M O e p
one_front {n = n} {rest = rest} {p = p} read is fits means others =
    let long : length (take n p) ≡ n = length-take-le n p fits in
    record {
      payload = take n p;
      other_entries = rest;
      other_payloads = drop n p;
      entries_are = rw (long, is) read.found;
      payloads_are = sym (take-append-drop n p);
      short = omega (arith, long, read.number);
      means = means;
      others = others;
    }

pub not_at_end : {bound tag n : ℕ} {rest e p : List ℕ} → Read bound tag n rest e → NoMore e p → ⊥
not_at_end read h = omega (arith, ap length h.no_entries, length-Read read)

module _ {ty n : ℕ} {rest e : List ℕ} (read : Read (2 ^ 28) ty n rest e) where
  -- the first of children, given a split of the payloads
  pub first_child : (p : List ℕ) {front back : List ℕ} → front ≡ take n p → back ≡ drop n p
      → (ts : Trees) → Children ts e p → FirstChild ts ty front rest back
  first_child p is_front is_back no_trees h = absurd (not_at_end read h)
  first_child p is_front is_back (tree t ts) h =
      let f = front_one read (IsType-type_of t) h in
      record {
        first = t;
        others = ts;
        are = refl;
        is = (f.type, subst (Payload t) (sym is_front) f.means);
        later = subst (Children ts rest) (sym is_back) f.others;
      }

  pub first_fits : (ts : Trees) (p : List ℕ) → Children ts e p → n ≤ length p
  first_fits no_trees p h = absurd (not_at_end read h)
  first_fits (tree t ts) p h = (front_one read (IsType-type_of t) h).fits

  -- Children are a first one, whose payload length is in its entry word, and the others.
  pub children_iff : (d : ℕ) (p : List ℕ)
      → ((n ≤ length p) × (HasPayload d ty (take n p) × HasChildren d rest (drop n p)))
      ↔ HasChildren d e p
  children_iff d p = (
    λ (fits, ((t, (v, (q, h))), (ts, (w, k)))).
        (tree t ts, (omega arith, one_front read q fits h k)),
    onward,
  )
    where
      onward : HasChildren d e p
          → (n ≤ length p) × (HasPayload d ty (take n p) × HasChildren d rest (drop n p))
      onward (no_trees, (w, h)) = absurd (not_at_end read h)
      onward (tree t ts, (w, h)) =
          let f = front_one read (IsType-type_of t) h in
          (f.fits, ((t, (omega arith, (f.type, f.means))), (ts, (omega arith, f.others))))

pub children_end : (ts : Trees) (e p : List ℕ) → length e < 4 → Children ts e p → (ts ≡ no_trees)
    × ((e ≡ []) × (p ≡ []))
children_end no_trees e p short h = (refl, (h.no_entries, h.no_payloads))
children_end (tree t ts) e p short h = absurd (omega (arith, length-One h))

-- words that end before the next one
pub no_words : (e : List ℕ) → length e < 4 → length e % 4 ≡ 0 → e ≡ []
no_words [] short whole = refl
no_words (x ∷ e) short whole = absurd (omega arith)

pub children_none : {d : ℕ} {e p : List ℕ} → e ≡ [] → p ≡ [] → HasChildren d e p
children_none h k = (no_trees, (omega arith, record { no_entries = h; no_payloads = k }))

-- a split of bytes
pub cut : (n : ℕ) {body front back : List ℕ} → front ≡ take n body → back ≡ drop n body
    → body ≡ front ++ back
cut n {body} f b = rw (f, b, take-append-drop n body)

-- an array is its children, whose entry words and payloads are separated by their count
module _ {n : ℕ} {body e p : List ℕ} (front : e ≡ take (4 * n) body) (back : p ≡ drop (4 * n) body)
    (long : length e ≡ 4 * n) where
  pub array_children : (ts : Trees) → IsArray n body ts → Children ts e p
  array_children ts (c, b) =
      let m : length b.entries ≡ length e = omega (arith, length-Children ts _ _ b.items) in
      let split = same_parts b.entries e b.payloads p m (sym b.parts ∙ cut (4 * n) front back) in
      subst (λ x. Children ts x p) split.0 (subst (Children ts b.entries) split.1 b.items)

  pub array_iff : (d : ℕ) → n < 2 ^ 29 → HasChildren d e p ↔ HasArray d n body
  array_iff d few = (
    λ (ts, (w, h)).
        let m = length-Children ts e p h in (
          ts,
          (
            w,
            (
              omega arith,
              record {
                few = few;
                entries = e;
                payloads = p;
                parts = cut (4 * n) front back;
                items = h;
              },
            ),
          ),
        ),
    λ (ts, (w, h)). (ts, (w, array_children ts h)),
  )

pub array_room : (n : ℕ) (body : List ℕ) (ts : Trees) → IsArray n body ts → 4 * n ≤ length body
array_room n body ts (c, b) = omega (
  arith,
  length-Children ts _ _ b.items,
  ap length b.parts ∙ length-append b.entries b.payloads,
)

-- no container has depth 0
pub container_too_deep : (b : List ℕ) → HasPayload 0 1342177280 b → ⊥
container_too_deep b (t, (w, h)) = deep t h.0 w
  where
    deep : (t : Tree) → type_of t ≡ 1342177280 → depth t ≤ 0 → ⊥
    deep (array ts) q w = omega arith
    deep (object ps) q w = omega arith
    deep t q w = grind arith

pub has_depth : (d : ℕ) (b : List ℕ) → HasPayload d 1342177280 b → d ≢ 0
has_depth d b h none = container_too_deep b (subst (λ (k : ℕ). HasPayload k 1342177280 b) none h)

-- The header of a container, as it was read, determines whether it is an array or object, and its
-- count.
module _ {tag n : ℕ} {rest b : List ℕ} (read : Read (2 ^ 29) tag n rest b) where
  pub kind_is : (t : Tree) → IsPayloadOf 1342177280 b t → tag ≡ kind_of t
  kind_is t (q, h) =
      let f = container t b q h in
      let words = same_words read.small (header_small f) (sym read.found ∙ f.parts) in
      omega (arith, words.0, f.few, read.high, read.number, two_kinds t)

  same_header : {kind m : ℕ} {r : List ℕ} → kind % 2 ^ 29 ≡ 0 → kind + 2 ^ 29 ≤ 2 ^ 32
      → m < 2 ^ 29 → b ≡ word (kind + m) ++ r → (tag ≡ kind) × ((m ≡ n) × (r ≡ rest))
  same_header kinds room few h = grind (arith, same_words)

  pub array_in : tag ≡ 2147483648 → (t : Tree) → IsPayloadOf 1342177280 b t → (ts : Trees)
      × ((t ≡ array ts) × IsArray n rest ts)
  array_in is (array ts) (q, h) = grind (arith, same_header)
  array_in is t k = absurd (grind (arith, kind_is t k))

  pub object_in : tag ≢ 2147483648 → (t : Tree) → IsPayloadOf 1342177280 b t → (ps : Pairs)
      × ((t ≡ object ps) × IsObject n rest ps)
  object_in other (object ps) (q, (ascend, h)) = grind (arith, same_header)
  object_in other t k = absurd (grind (arith, kind_is t k))

  pub container_array : (d : ℕ) → d ≢ 0 → tag ≡ 2147483648 → HasArray (d - 1) n rest
      ↔ HasPayload d 1342177280 b
  container_array d some is = (
    λ (ts, (w, (c, h))). (
      array ts,
      (omega arith, (refl, record { rest = rest; parts = cc (read.found); later = rw c h })),
    ),
    λ (t, (w, h)).
        let x = array_in is t h in
        let deep = ap depth x.1.0 in (x.0, (omega arith, x.1.1)),
  )

  pub container_object : (d : ℕ) → d ≢ 0 → tag ≡ 1073741824 → HasObject (d - 1) n rest
      ↔ HasPayload d 1342177280 b
  container_object d some is = (
    λ (ps, (w, (c, (a, h)))). (
      object ps,
      (omega arith, (refl, (a, record { rest = rest; parts = cc (read.found); later = rw c h }))),
    ),
    λ (t, (w, h)).
        let x = object_in (omega arith) t h in
        let deep = ap depth x.1.0 in (x.0, (omega arith, x.1.1)),
  )

  pub no_container : tag ≢ 2147483648 → tag ≢ 1073741824 → (d : ℕ) → HasPayload d 1342177280 b → ⊥
  no_container x y d (t, (w, h)) = omega (arith, kind_is t h, two_kinds t)

  -- a header of another kind
  pub no_scalar : tag ≢ 536870912 → (t : Tree) → Scalar t b → ⊥
  no_scalar other t h =
      other (same_header {m = 0} refl (omega arith) (omega arith) h.parts).0

  -- the header of a document determines whether it is a scalar
  pub document_scalar : tag ≡ 536870912 → (t : Tree) → Doc b t → (type_of t ≢ 1342177280)
      × Scalar t (word (536870912 + n) ++ rest)
  document_scalar is t (inl (q, h)) = (q, subst (Scalar t) (cc (read.found)) h)
  document_scalar is t (inr h) = absurd (omega (arith, kind_is t h, two_kinds t))

  pub document_container : tag ≢ 536870912 → (t : Tree) → Doc b t → IsPayloadOf 1342177280 b t
  document_container other t (inl (q, h)) = absurd (no_scalar other t h)
  document_container other t (inr h) = h

pub container_room : (t : Tree) (b : List ℕ) → IsPayloadOf 1342177280 b t → 4 ≤ length b
container_room t b (q, h) = omega (arith, length-Container (container t b q h))

-- only arrays and objects have a depth above 0
pub depth-scalar : (t : Tree) → type_of t ≢ 1342177280 → depth t ≡ 0
depth-scalar (array ts) q = absurd (q refl)
depth-scalar (object ps) q = absurd (q refl)
depth-scalar t q = refl

-- what is not a container has the same payloads at every depth
pub payload_within : (d ty : ℕ) (p : List ℕ) → HasPayload 0 ty p → HasPayload d ty p
payload_within d ty p (t, (w, h)) = (t, (omega arith, h))

pub payload_flat : (d ty : ℕ) (p : List ℕ) → ty ≢ 1342177280 → HasPayload d ty p → HasPayload 0 ty p
payload_flat d ty p other (t, (w, h)) =
    (t, (omega (arith, depth-scalar t (λ is. other (sym h.0 ∙ is))), h))

-- what follows the header of a scalar
module _ (n : ℕ) (rest : List ℕ) (few : n < 2 ^ 29) where
  pub scalar_words : (t : Tree) → (h : Scalar t (word (536870912 + n) ++ rest))
      → (536870912 ≡ 536870912 + n) × (word (type_of t + length h.payload) ++ h.payload ≡ rest)
  scalar_words t h = same_words (omega arith) (omega arith) (sym h.parts)

  pub scalar_count : (t : Tree) → Scalar t (word (536870912 + n) ++ rest) → n ≡ 0
  scalar_count t h = omega (arith, (scalar_words t h).0)

  pub scalar_entry : (t : Tree) → Scalar t (word (536870912 + n) ++ rest) → 4 ≤ length rest
  scalar_entry t h = omega (
    arith,
    ap length (scalar_words t h).1,
    length-word-append (type_of t + length h.payload) h.payload,
  )

  module _ {ty k : ℕ} {p : List ℕ} (read : Read (2 ^ 28) ty k p rest) where
    pub scalar_in : (t : Tree) → Scalar t (word (536870912 + n) ++ rest) → (k ≡ length p)
        × IsPayloadOf ty p t
    scalar_in t h = grind (arith, IsType-type_of, read_type, same_entry, same_words, scalar_words)

    pub scalar_iff : ((n ≡ 0) × ((ty ≢ 1342177280) × ((k ≡ length p) × HasPayload 0 ty (take k p))))
        ↔ HasScalar (word (536870912 + n) ++ rest)
    scalar_iff = (
      λ (zero_is, (other, (len, (t, (w, (q, h)))))).
          let all : take k p ≡ p = take_all k p (omega (arith, len)) in (
            t,
            (
              λ e. other (sym q ∙ e),
              record {
                payload = p;
                parts = cc (read.found);
                short = omega (arith, len, read.number);
                means = subst (Payload t) all h;
              },
            ),
          ),
      λ (t, (q, h)).
          let x = scalar_in t h in
          let all : take k p ≡ p = take_all k p (omega (arith, x.0)) in (
            scalar_count t h,
            (
              λ e. q (x.1.0 ∙ e),
              (x.0, (t, (omega (arith, depth-scalar t q), (x.1.0, rw all x.1.1)))),
            ),
          ),
    )

-- a document is a scalar after its header, or an array or object
pub document_iff : (d : ℕ) (b : List ℕ) → (HasScalar b ⊎ HasPayload d 1342177280 b)
    ↔ IsDocumentWithin d b
document_iff d b = (onward, back)
  where
    onward : HasScalar b ⊎ HasPayload d 1342177280 b → IsDocumentWithin d b
    onward (inl (t, h)) = (t, (omega (arith, depth-scalar t h.0), inl h))
    onward (inr (t, (w, h))) = (t, (w, inr h))

    back : IsDocumentWithin d b → HasScalar b ⊎ HasPayload d 1342177280 b
    back (t, (w, inl h)) = inl (t, h)
    back (t, (w, inr h)) = inr (t, (w, h))

pub document_room : (t : Tree) (b : List ℕ) → Doc b t → 4 ≤ length b
document_room t b (inl (q, h)) = omega (arith, ap length h.parts, length-word-append)
document_room t b (inr h) = container_room t b h

-- the depth of a document is less than its number of bytes
pub document_within_length : (b : List ℕ) → IsDocumentWithin (length b) b ↔ IsDocument b
document_within_length b = grind (arith, Doc-depth)

-- a scalar's document, from its entry word and its payload
pub scalar_document_of : {tag n ty k : ℕ} {rest b p : List ℕ} → tag ≡ 536870912
    → n ≡ 0 → ty ≢ 1342177280 → k ≡ length p → Read (2 ^ 29) tag n rest b
    → Read (2 ^ 28) ty k p rest → document_of ty p ≡ b
scalar_document_of {ty = ty} {p = p} is none other long header read =
    document_of-scalar ty p other ∙ cc (header.found, read.found)
