-- The lengths of the canonical parts.
use Rattle.std.proofs.Common.{◌≡◌, ℕ, suc, ◌+◌, ◌*◌, List, [], ◌∷◌, ◌++◌, length, String, Global}
use Rattle.std.proofs.Common.{refl, ap, ◌∙◌, arith, length-append, eqb, false, inl, inr}
use Rattle.std.proofs.lemmas.Bool.Decides.{eqb_tells}
use Rattle.jsonb_value.specs.Tree.{Tree, array, object, Trees, no_trees, tree, Pairs, no_pairs}
use Rattle.jsonb_value.specs.Tree.{pair, count, pair_count}
use Rattle.std.specs.declared.borrow.CowStr.{CowStr}
use Rattle.jsonb_value.specs.declared.ast.JsonAst.{JsonAst}
use Rattle.jsonb_value.specs.declared.value.Value.{Value}
use Rattle.jsonb_value.specs.Ast.{asts_view, ast_pairs_view}
use Rattle.jsonb_value.specs.Value.{items_view, pairs_view}
use Rattle.jsonb_codec.specs.WordBytes.{word}
use Rattle.jsonb_codec.specs.Doc.{type_of}
use Rattle.jsonb_codec.specs.Canon.{document_of, canon, payload_of}
use Rattle.jsonb_codec.proofs.TreeShapes.{entries_of, payloads_of, key_entries, value_entries}
use Rattle.jsonb_codec.proofs.TreeShapes.{key_payloads, value_payloads, canon-parts}
use Rattle.jsonb_codec.proofs.TreeShapes.{count-items_shapes, count-pairs_shapes}
use Rattle.jsonb_codec.proofs.Words.{length-word-append}

pub count-items_view : (vs : List Value) → count (items_view vs) ≡ length vs
count-items_view [] = refl
count-items_view (v ∷ vs) = ap suc (count-items_view vs)

pub pair_count-pairs_view : (ms : List (String Global × Value))
    → pair_count (pairs_view ms) ≡ length ms
pair_count-pairs_view [] = refl
pair_count-pairs_view (m ∷ ms) = ap suc (pair_count-pairs_view ms)

pub count-asts_view : (vs : List JsonAst) → count (asts_view vs) ≡ length vs
count-asts_view [] = refl
count-asts_view (v ∷ vs) = ap suc (count-asts_view vs)

pub pair_count-ast_pairs_view : (ms : List (CowStr Global × JsonAst × ℕ))
    → pair_count (ast_pairs_view ms) ≡ length ms
pair_count-ast_pairs_view [] = refl
pair_count-ast_pairs_view (m ∷ ms) = ap suc (pair_count-ast_pairs_view ms)

pub length-entries_of : (ts : Trees) → length (entries_of ts) ≡ 4 * count ts
length-entries_of no_trees = refl
length-entries_of (tree t ts) =
    omega (arith, length-entries_of ts, length-word-append)

pub length-key_entries : (ps : Pairs) → length (key_entries ps) ≡ 4 * pair_count ps
length-key_entries no_pairs = refl
length-key_entries (pair k t ps) =
    omega (arith, length-key_entries ps, length-word-append)

pub length-value_entries : (ps : Pairs) → length (value_entries ps) ≡ 4 * pair_count ps
length-value_entries no_pairs = refl
length-value_entries (pair k t ps) =
    omega (arith, length-value_entries ps, length-word-append)

pub length-payload_of-array : (ts : Trees)
    → length (payload_of (array ts)) ≡ 4 + 4 * count ts + length (payloads_of ts)
length-payload_of-array ts =
    omega (
      arith,
      length-word-append,
      length-append {A = ℕ},
      length-entries_of ts,
      count-items_shapes ts,
    )

pub length-payload_of-object : (ps : Pairs)
    → length (payload_of (object ps))
    ≡ 4 + 8 * pair_count ps + (length (key_payloads ps) + length (value_payloads ps))
length-payload_of-object ps =
    omega (
      arith,
      length-word-append,
      length-append {A = ℕ},
      length-key_entries ps,
      length-value_entries ps,
      count-pairs_shapes ps,
    )

ne-eqb : (a b : ℕ) → (a ≡ b → ⊥) → eqb a b ≡ false
ne-eqb a b other = elim (eqb_tells a b) [ inl h ↦ absurd (other h.1) | inr h ↦ h.0 ]

pub document_of-scalar : (ty : ℕ) (p : List ℕ) → (ty ≡ 1342177280 → ⊥)
    → document_of ty p ≡ word 536870912 ++ (word (ty + length p) ++ p)
document_of-scalar ty p other = rw (ne-eqb ty 1342177280 other)

-- a scalar's document, and a container's
pub canon-scalar : (t : Tree) → (type_of t ≡ 1342177280 → ⊥)
    → canon t ≡ word 536870912 ++ (word (type_of t + length (payload_of t)) ++ payload_of t)
canon-scalar t other = canon-parts t ∙ document_of-scalar (type_of t) (payload_of t) other

pub canon-container : (t : Tree) → type_of t ≡ 1342177280 → canon t ≡ payload_of t
canon-container t is = canon-parts t ∙ rw is refl

pub length-canon-scalar : (t : Tree) → (type_of t ≡ 1342177280 → ⊥)
    → length (canon t) ≡ 8 + length (payload_of t)
length-canon-scalar t other = grind (arith, canon-scalar, length-word-append)
