-- The canonical document means the tree with signed zeros made unsigned.
use Rattle.std.proofs.Common.{arith, ◌≡◌, ◌↔◌, ℕ, suc, List, ◌++◌, Option, Some, None, refl, sym}
use Rattle.std.proofs.Common.{ap, subst, ◌∙◌}
use Rattle.std.proofs.lemmas.Bool.{cases_eq}
use Rattle.jsonb_value.specs.Tree.{Tree, null, boolean, number, text, extension, array, object}
use Rattle.jsonb_value.specs.Tree.{Trees, no_trees, tree, Pairs, no_pairs, pair, count, pair_count}
use Rattle.jsonb_value.specs.Tree.{Ascends}
use Rattle.jsonb_value.specs.Norm.{norm, norms, norm_pairs}
use Rattle.jsonb_value.specs.WellFormed.{IsTree, AreTrees, ArePairs}
use Rattle.jsonb_value.proofs.PayloadLaws.{NumCode-number_payload, ExtCode-extension_payload}
use Rattle.jsonb_value.proofs.PayloadLaws.{number_payload-norm_number}
use Rattle.jsonb_codec.specs.Doc.{type_of, Keys, Values, Children, Payload, Doc}
use Rattle.jsonb_codec.specs.Shape as shapes
use Rattle.jsonb_codec.specs.Shape.{leaf, document}
use Rattle.jsonb_codec.specs.Canon.{shape_of, items_shapes, pairs_shapes, payload_of, canon, Fits}
use Rattle.jsonb_codec.proofs.TreeShapes.{entries_of, payloads_of, key_entries, key_payloads}
use Rattle.jsonb_codec.proofs.TreeShapes.{value_entries, value_payloads, FitsInside, AllFit}
use Rattle.jsonb_codec.proofs.TreeShapes.{PairsFit, Fits-parts, type_of-shape_of}
use Rattle.jsonb_codec.proofs.TreeShapes.{count-items_shapes, count-pairs_shapes}
use Rattle.jsonb_codec.proofs.Entries.{one_more}
use Rattle.jsonb_codec.proofs.Lengths.{canon-scalar, canon-container}
use Rattle.jsonb_codec.proofs.Unique.{Doc-unique}

-- the normal form keeps the type, the counts and the keys
pub type_of-norm : (t : Tree) → type_of (norm t) ≡ type_of t
type_of-norm t = grind arith

pub count-norms : (ts : Trees) → count (norms ts) ≡ count ts
count-norms no_trees = refl
count-norms (tree t ts) = ap suc (count-norms ts)

pub pair_count-norm_pairs : (ps : Pairs) → pair_count (norm_pairs ps) ≡ pair_count ps
pair_count-norm_pairs no_pairs = refl
pair_count-norm_pairs (pair k t ps) = ap suc (pair_count-norm_pairs ps)

pub Ascends-norm_pairs : (before : Option (List ℕ)) (ps : Pairs) → Ascends before ps
    → Ascends before (norm_pairs ps)
Ascends-norm_pairs before no_pairs a = tt
Ascends-norm_pairs before (pair k t ps) a = (a.0, Ascends-norm_pairs (Some k) ps a.1)

-- the canonical parts satisfy the definition of documents
Keys-canonical : (ps : Pairs) → ArePairs ps → PairsFit ps
    → Keys (norm_pairs ps) (key_entries ps) (key_payloads ps)
Keys-canonical no_pairs h f = record { no_entries = refl; no_payloads = refl }
Keys-canonical (pair k t ps) h f =
    one_more k _ _ f.0.0 (refl, h.0) (Keys-canonical ps h.1.1 f.1)

mutual
  pub Payload-canonical : (t : Tree) → IsTree t → FitsInside t → Payload (norm t) (payload_of t)
  Payload-canonical (boolean b) h f = refl
  Payload-canonical null h f = refl
  Payload-canonical (number x) h f = NumCode-number_payload x h
  Payload-canonical (text s) h f = (refl, h)
  Payload-canonical (extension e) h f = ExtCode-extension_payload e h
  Payload-canonical (array ts) h f = record {
    rest = entries_of ts ++ payloads_of ts;
    parts = rw (count-norms ts, count-items_shapes ts);
    later = record {
      few = rw (count-norms ts) (rw (count-items_shapes ts) at f.0);
      entries = entries_of ts;
      payloads = payloads_of ts;
      parts = refl;
      items = Children-canonical ts h f.1;
    };
  }
  Payload-canonical (object ps) h f = (
    Ascends-norm_pairs None ps h.0,
    record {
      rest = key_entries ps ++ (value_entries ps ++ (key_payloads ps ++ value_payloads ps));
      parts = rw (pair_count-norm_pairs ps, count-pairs_shapes ps);
      later = record {
        few = rw (pair_count-norm_pairs ps) (rw (count-pairs_shapes ps) at f.0);
        key_entries = key_entries ps;
        value_entries = value_entries ps;
        key_payloads = key_payloads ps;
        value_payloads = value_payloads ps;
        parts = refl;
        keys = Keys-canonical ps h.1 f.1;
        values = Values-canonical ps h.1 f.1;
      };
    },
  )

  Children-canonical : (ts : Trees) → AreTrees ts → AllFit ts
      → Children (norms ts) (entries_of ts) (payloads_of ts)
  Children-canonical no_trees h f = record { no_entries = refl; no_payloads = refl }
  Children-canonical (tree t ts) h f = rw (type_of-shape_of t, ← type_of-norm t)
      (one_more (payload_of t) _ _ f.0.1.1 (Payload-canonical t h.0 f.0.1.0)
      (Children-canonical ts h.1 f.1))

  Values-canonical : (ps : Pairs) → ArePairs ps → PairsFit ps
      → Values (norm_pairs ps) (value_entries ps) (value_payloads ps)
  Values-canonical no_pairs h f = record { no_entries = refl; no_payloads = refl }
  Values-canonical (pair k t ps) h f = rw (type_of-shape_of t, ← type_of-norm t)
      (one_more (payload_of t) _ _ f.0.1.1 (Payload-canonical t h.1.0 f.0.1.0)
      (Values-canonical ps h.1.1 f.1))

-- The canonical document of a tree means its normal form.
pub Doc-canon : (t : Tree) → IsTree t → Fits t → Doc (canon t) (norm t)
Doc-canon t h f =
    let fit = (Fits-parts t).0 f in
    grind (arith, Payload-canonical, canon-container, canon-scalar, cases_eq, type_of-norm)

-- The normal form has the shape of the tree itself.
mutual
  pub shape_of-norm : (t : Tree) → shape_of (norm t) ≡ shape_of t
  shape_of-norm (number x) = ap (leaf 536870912) (number_payload-norm_number x)
  shape_of-norm (array ts) = ap shapes.array (items_shapes-norms ts)
  shape_of-norm (object ps) = ap shapes.object (pairs_shapes-norm_pairs ps)
  shape_of-norm t = refl

  items_shapes-norms : (ts : Trees) → items_shapes (norms ts) ≡ items_shapes ts
  items_shapes-norms no_trees = refl
  items_shapes-norms (tree t ts) = rw (shape_of-norm t, items_shapes-norms ts)

  pairs_shapes-norm_pairs : (ps : Pairs) → pairs_shapes (norm_pairs ps) ≡ pairs_shapes ps
  pairs_shapes-norm_pairs no_pairs = refl
  pairs_shapes-norm_pairs (pair k t ps) = rw (shape_of-norm t, pairs_shapes-norm_pairs ps)

pub canon-norm : (t : Tree) → canon (norm t) ≡ canon t
canon-norm t = ap document (shape_of-norm t)

-- Two trees have the same canonical document exactly if they have the same normal form.
pub norm-canon : (t u : Tree) → IsTree t → IsTree u → Fits t → Fits u → (canon t ≡ canon u)
    ↔ (norm t ≡ norm u)
norm-canon t u ht hu ft fu = (
  λ e. Doc-unique (canon u) (norm t) (norm u) (subst (λ b. Doc b (norm t)) e (Doc-canon t ht ft))
      (Doc-canon u hu fu),
  λ e. sym (canon-norm t) ∙ ap canon e ∙ canon-norm u,
)
