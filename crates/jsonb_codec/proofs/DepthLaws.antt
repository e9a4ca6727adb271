-- Bounds on the depth and the size of a document by its length.
use Rattle.std.proofs.Common.{◌≡◌, ℕ, ◌+◌, ◌*◌, ◌≤◌, List, length, inl, inr, ap, arith}
use Rattle.std.proofs.Common.{length-append}
use Rattle.jsonb_value.specs.Tree.{Tree, array, object, Trees, no_trees, tree, Pairs, no_pairs}
use Rattle.jsonb_value.specs.Tree.{pair, pair_count}
use Rattle.jsonb_codec.specs.Doc.{type_of, Children, Values, Payload, Doc}
use Rattle.jsonb_codec.specs.Depth.{depth, depths, pair_depths, size, sizes, pair_sizes}
use Rattle.jsonb_codec.specs.Parts.{IsObject}
use Rattle.jsonb_codec.proofs.Words.{length-word-append}
use Rattle.jsonb_codec.proofs.Entries.{length-One, length-One-payloads, length-Keys}
use Rattle.jsonb_codec.proofs.Containers.{array_container, object_container, length-Container}

mutual
  -- A child has an entry word of four bytes beside its payload; a whole array or object has none.
  Payload-bounds : (t : Tree) (p : List ℕ) → Payload t p → (8 * depth t ≤ length p + 4)
      × (4 * size t ≤ length p + 4) × (type_of t ≡ 1342177280 → 4 * size t ≤ length p)
  Payload-bounds (array ts) p h = omega (
    arith,
    length-Container (array_container ts p h),
    Children-bounds ts _ _ h.later.items,
  )
  Payload-bounds (object ps) p h =
      let b = h.1.later in
      omega (
        arith,
        length-Container (object_container ps p h),
        length-append b.key_entries b.value_entries,
        length-append b.key_payloads b.value_payloads,
        length-Keys ps _ _ b.keys,
        Values-bounds ps _ _ b.values,
      )
  Payload-bounds t p h = grind arith

  Children-bounds : (ts : Trees) (e p : List ℕ) → Children ts e p
      → (8 * depths ts ≤ length e + length p) × (4 * sizes ts ≤ length e + length p)
  Children-bounds no_trees e p h = omega arith
  Children-bounds (tree t ts) e p h = omega (
    arith,
    length-One h,
    length-One-payloads h,
    Payload-bounds t _ h.means,
    Children-bounds ts _ _ h.others,
  )

  -- A key has an entry word too, which is elsewhere.
  Values-bounds : (ps : Pairs) (e p : List ℕ) → Values ps e p
      → (8 * pair_depths ps ≤ length e + length p)
      × (4 * pair_sizes ps ≤ 4 * pair_count ps + (length e + length p))
  Values-bounds no_pairs e p h = omega arith
  Values-bounds (pair k t ps) e p h = omega (
    arith,
    length-One h,
    length-One-payloads h,
    Payload-bounds t _ h.means,
    Values-bounds ps _ _ h.others,
  )

pub Payload-depth : (t : Tree) (p : List ℕ) → Payload t p → 8 * depth t ≤ length p + 4
Payload-depth t p h = (Payload-bounds t p h).0

pub Children-depth : (ts : Trees) (e p : List ℕ) → Children ts e p
    → 8 * depths ts ≤ length e + length p
Children-depth ts e p h = (Children-bounds ts e p h).0

pub Object-depth : (n : ℕ) (body : List ℕ) (ps : Pairs) → IsObject n body ps
    → 8 * pair_depths ps ≤ length body
Object-depth n body ps (c, (a, b)) = omega (
  arith,
  ap length b.parts,
  length-append {A = ℕ},
  Values-bounds ps _ _ b.values,
)

-- The depth is at most an eighth of the number of bytes plus 4, the size at most a quarter of the
-- number of bytes.
Doc-bounds : (b : List ℕ) (t : Tree) → Doc b t → (8 * depth t ≤ length b + 4)
    × (4 * size t ≤ length b)
Doc-bounds b t (inl h) = omega (
  arith,
  Payload-bounds t h.1.payload h.1.means,
  ap length h.1.parts,
  length-word-append,
)
Doc-bounds b t (inr h) =
    let all = Payload-bounds t b h.1 in (all.0, all.2 h.0)

pub Doc-depth : (b : List ℕ) (t : Tree) → Doc b t → 8 * depth t ≤ length b + 4
Doc-depth b t h = (Doc-bounds b t h).0

pub Doc-size : (b : List ℕ) (t : Tree) → Doc b t → 4 * size t ≤ length b
Doc-size b t h = (Doc-bounds b t h).1
