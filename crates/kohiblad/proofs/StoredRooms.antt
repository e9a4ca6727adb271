-- A tree takes at most a quarter more bytes than one of its documents.
use Rattle.std.proofs.Common.{◌≡◌, ℕ, ◌+◌, ◌*◌, ◌≤◌, List, ◌++◌, length, inl, inr, refl, ap}
use Rattle.std.proofs.Common.{arith, length-append}
use Rattle.jsonb_value.specs.Tree.{Tree, null, boolean, number, text, extension, array, object}
use Rattle.jsonb_value.specs.Tree.{Trees, no_trees, tree, Pairs, no_pairs, pair, count, pair_count}
use Rattle.jsonb_value.proofs.BigEndian.{AreBytes, AreBytes-front, AreBytes-back, AreBytes-equal}
use Rattle.jsonb_codec.specs.Canon.{canon, payload_of, shape_of, items_shapes, pairs_shapes}
use Rattle.jsonb_codec.specs.Doc.{Doc, Payload, Children, Keys, Values, type_of}
use Rattle.jsonb_codec.specs.Shape.{entries, payloads, key_entries, key_payloads, shape_count, shape_type}
use Rattle.jsonb_codec.specs.WordBytes.{word}
use Rattle.kohiblad.proofs.Rooms.{room, rooms, pair_rooms}
use Rattle.jsonb_codec.proofs.Words.{length-word-append}
use Rattle.kohiblad.proofs.PayloadRooms.{number_len, extension_len}

mutual
  payload_room : (t : Tree) (p : List ℕ) → AreBytes p → Payload t p
      → 4 * room t ≤ 5 * (4 + length p)
  payload_room null p b h = omega arith
  payload_room (boolean v) p b h = omega arith
  payload_room (number x) p b h = omega (arith, number_len p x b h)
  payload_room (text s) p b h = omega (arith, ap length h.0)
  payload_room (extension e) p b h = omega (arith, extension_len p e h)
  payload_room (array ts) p b h =
      let whole = AreBytes-equal p _ h.parts b in
      let rest = AreBytes-back (word _) h.rest whole in
      let body = AreBytes-equal h.rest (h.later.entries ++ h.later.payloads) h.later.parts rest in
      let payloads = AreBytes-back h.later.entries h.later.payloads body in
      let all = children_room ts h.later.entries h.later.payloads payloads h.later.items in
      let given = length-word-append (2147483648 + count ts) h.rest in
      omega (
        arith,
        ap length h.parts,
        ap length h.later.parts,
        given,
        all,
        length-append h.later.entries h.later.payloads,
      )
  payload_room (object ps) p b (ascend, h) =
      let whole = AreBytes-equal p _ h.parts b in
      let rest = AreBytes-back (word _) h.rest whole in
      let it = h.later in
      let body = AreBytes-equal h.rest _ it.parts rest in
      let later = AreBytes-back it.key_entries _ body in
      let payloads = AreBytes-back it.value_entries _ later in
      let values = AreBytes-back it.key_payloads it.value_payloads payloads in
      let all = pairs_room ps it.key_entries it.value_entries it.key_payloads it.value_payloads
      values it.keys it.values in
      let given = length-word-append (1073741824 + pair_count ps) h.rest in
      omega (
        arith,
        ap length h.parts,
        ap length it.parts,
        given,
        all,
        length-append it.key_entries (it.value_entries ++ (it.key_payloads ++ it.value_payloads)),
        length-append it.value_entries (it.key_payloads ++ it.value_payloads),
        length-append it.key_payloads it.value_payloads,
      )

  children_room : (ts : Trees) (e p : List ℕ) → AreBytes p → Children ts e p
      → 4 * rooms ts ≤ 5 * (length e + length p)
  children_room no_trees e p b h = omega arith
  children_room (tree t ts) e p b h =
      let whole = AreBytes-equal p _ h.payloads_are b in
      let here = payload_room t h.payload (AreBytes-front h.payload h.other_payloads whole) h.means in
      let more = children_room ts h.other_entries h.other_payloads
      (AreBytes-back h.payload h.other_payloads whole) h.others in
      let given = length-word-append (type_of t + length h.payload) h.other_entries in
      omega (
        arith,
        ap length h.entries_are,
        ap length h.payloads_are,
        given,
        here,
        more,
        length-append h.payload h.other_payloads,
      )

  pairs_room : (ps : Pairs) (ke ve kp vp : List ℕ) → AreBytes vp → Keys ps ke kp
      → Values ps ve vp
      → 4 * pair_rooms ps ≤ 5 * (length ke + length ve + length kp + length vp)
  pairs_room no_pairs ke ve kp vp b k h = omega arith
  pairs_room (pair key t ps) ke ve kp vp b k h =
      let whole = AreBytes-equal vp _ h.payloads_are b in
      let here = payload_room t h.payload (AreBytes-front h.payload h.other_payloads whole) h.means in
      let more = pairs_room ps k.other_entries h.other_entries k.other_payloads h.other_payloads
      (AreBytes-back h.payload h.other_payloads whole) k.others h.others in
      let given = length-word-append (type_of t + length h.payload) h.other_entries in
      let keys = length-word-append (268435456 + length k.payload) k.other_entries in
      omega (
        arith,
        ap length h.entries_are,
        ap length h.payloads_are,
        given,
        here,
        more,
        ap length k.entries_are,
        ap length k.payloads_are,
        keys,
        ap length k.means.0,
        length-append h.payload h.other_payloads,
        length-append k.payload k.other_payloads,
      )

-- a document of the tree
pub document_room : (b : List ℕ) (t : Tree) → AreBytes b → Doc b t
    → 4 * room t ≤ 5 * (4 + length b)
document_room b t h (inr (is, means)) = payload_room t b h means
document_room b t h (inl (other, it)) =
    let whole = AreBytes-equal b _ it.parts h in
    let later = AreBytes-back (word _) _ whole in
    let payload = AreBytes-back (word _) it.payload later in
    let here = payload_room t it.payload payload it.means in
    omega (
      arith,
      ap length it.parts,
      here,
      length-word-append 536870912 (word (type_of t + length it.payload) ++ it.payload),
      length-word-append (type_of t + length it.payload) it.payload,
    )

-- the canonical document
mutual
  pub written_room : (t : Tree) → 4 + length (payload_of t) ≡ room t
  written_room null = refl
  written_room (boolean v) = refl
  written_room (number x) = refl
  written_room (text s) = refl
  written_room (extension e) = refl
  written_room (array ts) =
      omega (
        arith,
        length-word-append (2147483648 + shape_count (items_shapes ts))
            (entries (items_shapes ts) ++ payloads (items_shapes ts)),
        length-append (entries (items_shapes ts)) (payloads (items_shapes ts)),
        items_written ts,
      )
  written_room (object ps) =
      let ss = pairs_shapes ps in
      omega (
        arith,
        length-word-append (1073741824 + shape_count ss)
            (key_entries ss ++ (entries ss ++ (key_payloads ss ++ payloads ss))),
        length-append (key_entries ss) (entries ss ++ (key_payloads ss ++ payloads ss)),
        length-append (entries ss) (key_payloads ss ++ payloads ss),
        length-append (key_payloads ss) (payloads ss),
        pairs_written ps,
      )

  items_written : (ts : Trees)
      → length (entries (items_shapes ts)) + length (payloads (items_shapes ts)) ≡ rooms ts
  items_written no_trees = refl
  items_written (tree t ts) =
      omega (
        arith,
        items_written ts,
        written_room t,
        length-word-append (shape_type (shape_of t) + length (payload_of t)) (entries (items_shapes ts)),
        length-append (payload_of t) (payloads (items_shapes ts)),
      )

  pairs_written : (ps : Pairs)
      → length (key_entries (pairs_shapes ps)) + length (entries (pairs_shapes ps))
      + (length (key_payloads (pairs_shapes ps)) + length (payloads (pairs_shapes ps)))
      ≡ pair_rooms ps
  pairs_written no_pairs = refl
  pairs_written (pair k t ps) =
      omega (
        arith,
        pairs_written ps,
        written_room t,
        length-word-append (268435456 + length k) (key_entries (pairs_shapes ps)),
        length-word-append (shape_type (shape_of t) + length (payload_of t)) (entries (pairs_shapes ps)),
        length-append k (key_payloads (pairs_shapes ps)),
        length-append (payload_of t) (payloads (pairs_shapes ps)),
      )

pub canon_room : (t : Tree) → length (canon t) ≤ room t + 4
canon_room null = omega (arith, length-word-append)
canon_room (boolean v) = omega (arith, length-word-append)
canon_room (number x) = omega (arith, length-word-append)
canon_room (text s) = omega (arith, length-word-append)
canon_room (extension e) = omega (arith, length-word-append)
canon_room (array ts) = omega (arith, written_room (array ts))
canon_room (object ps) = omega (arith, written_room (object ps))
