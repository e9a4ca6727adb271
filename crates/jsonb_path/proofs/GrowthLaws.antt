-- Parts that are appended to others change no node of these.
use Rattle.std.proofs.Common.{◌≡◌, ℕ, zero, suc, ◌<◌, ◌+◌, Bool, true, false, List, [], ◌∷◌, ◌++◌}
use Rattle.std.proofs.Common.{◌∙◌, ap, arith, get_or, length, refl, subst, sym}
use Rattle.std.specs.Prelude.{◌&&◌, IsTrue, Option, None, Some}
use Rattle.std.specs.List.{list_all}
use Rattle.std.proofs.lemmas.Bool.{false≢true}
use Rattle.std.proofs.lemmas.Bool.Decides.{nat_tests}
use Rattle.std.proofs.lemmas.List.{append-nil, append_assoc, length-append}
use Rattle.std.proofs.Math.Seq.{get_or-append_seam}
use Rattle.jsonb_path.specs.declared.path.Accessor.{Accessor}
use Rattle.jsonb_path.specs.declared.path.Part.{Part}
use Rattle.jsonb_path.specs.declared.path.Part.TheVariants as parts
use Rattle.jsonb_path.specs.declared.path.Source.TheVariants as sources
use Rattle.jsonb_path.specs.declared.path.Subscript.{Subscript}
use Rattle.jsonb_path.specs.Grammar.{accessors_and, subscripts_and}
use Rattle.jsonb_path.specs.Growth.{PartsGrow, is_operand}
use Rattle.jsonb_path.specs.PathParts.{are_parts_after, is_expression, is_part}
use Rattle.jsonb_path.specs.PathParts.{is_source, is_test}
use Rattle.jsonb_path.specs.PathTree.{PathNode, accessor_of, accessors_of, expression}
use Rattle.jsonb_path.specs.PathTree.{expression_at, node_at, node_of, nodes_of, subscript_onto}
use Rattle.jsonb_path.specs.PathTree.{subscripts_of}
use Rattle.jsonb_path.specs.Syntax.{Subscripts}
use Rattle.jsonb_path.specs.Syntax as syntax
use Rattle.jsonb_path.proofs.PathTreeLaws.{expression_within, node_stays, nodes_length}
use Rattle.jsonb_path.proofs.PathTreeLaws.{nodes_of_more, test_within}
use Rattle.jsonb_value.proofs.Json.Tests.{and_true}

pub both_true : (a b : Bool) → IsTrue a → IsTrue b → IsTrue (a && b)
both_true true b h k = k
both_true false b h k = absurd (false≢true h)

-- ---- what is named stays

pub expression_stays : (ps more : List Part) (i : ℕ) → IsTrue (is_expression ps i)
    → IsTrue (is_expression (ps ++ more) i)
expression_stays [] more i h = absurd (false≢true h)
expression_stays (p ∷ ps) more zero h = h
expression_stays (p ∷ ps) more (suc i) h = expression_stays ps more i h

pub test_stays : (ps more : List Part) (i : ℕ) → IsTrue (is_test ps i)
    → IsTrue (is_test (ps ++ more) i)
test_stays [] more i h = absurd (false≢true h)
test_stays (p ∷ ps) more zero h = h
test_stays (p ∷ ps) more (suc i) h = test_stays ps more i h

operand_stays : (wanted : Bool) (ps more : List Part) (i : ℕ) → IsTrue (is_operand wanted ps i)
    → IsTrue (is_operand wanted (ps ++ more) i)
operand_stays true ps more i h = test_stays ps more i h
operand_stays false ps more i h = expression_stays ps more i h

operand_within : (wanted : Bool) (ps : List Part) (i : ℕ) → IsTrue (is_operand wanted ps i)
    → i < length ps
operand_within true ps i h = test_within ps i h
operand_within false ps i h = expression_within ps i h

-- ---- one accessor or subscript more

pub accessors_onto : (nodes : List PathNode) (steps : List Accessor) (a : Accessor)
    → accessors_of nodes (steps ++ (a ∷ []))
    ≡ accessors_and (accessors_of nodes steps) (accessor_of nodes a)
accessors_onto nodes [] a = refl
accessors_onto nodes (b ∷ steps) a =
    ap (syntax.accessor (accessor_of nodes b)) (accessors_onto nodes steps a)

subscript_first : (i : ℕ) (o : Option ℕ) (nodes : List PathNode) (rest all more : Subscripts)
    → all ≡ subscripts_and rest more
    → subscript_onto nodes i o all ≡ subscripts_and (subscript_onto nodes i o rest) more
subscript_first i None nodes rest all more e = ap (syntax.index (expression_at nodes i)) e
subscript_first i (Some j) nodes rest all more e =
    ap (syntax.range (expression_at nodes i) (expression_at nodes j)) e

pub subscripts_onto : (nodes : List PathNode) (ss : List Subscript) (s : Subscript)
    → subscripts_of nodes (ss ++ (s ∷ []))
    ≡ subscripts_and (subscripts_of nodes ss) (subscripts_of nodes (s ∷ []))
subscripts_onto nodes [] s = refl
subscripts_onto nodes (r ∷ ss) s =
    subscript_first r.first r.last nodes (subscripts_of nodes ss)
    (subscripts_of nodes (ss ++ (s ∷ []))) (subscripts_of nodes (s ∷ []))
    (subscripts_onto nodes ss s)

pub all_onto : {X : Type 0} (P : X → Bool) (xs : List X) (x : X) → IsTrue (list_all P xs)
    → IsTrue (P x) → IsTrue (list_all P (xs ++ (x ∷ [])))
all_onto P [] x h k = both_true (P x) true k refl
all_onto P (y ∷ xs) x h k =
    let both = and_true (P y) (list_all P xs) h in
    both_true (P y) (list_all P (xs ++ (x ∷ []))) both.0 (all_onto P xs x both.1 k)

-- ---- one part more

one_more : (before ps : List Part) (p : Part) → IsTrue (are_parts_after before ps)
    → IsTrue (is_part (before ++ ps) p) → IsTrue (are_parts_after before (ps ++ (p ∷ [])))
one_more before [] p h k =
    both_true (is_part before p) true
    (subst (λ qs. IsTrue (is_part qs p)) (append-nil before) k) refl
one_more before (q ∷ ps) p h k =
    let both = and_true (is_part before q) (are_parts_after (before ++ (q ∷ [])) ps) h in
    both_true (is_part before q) (are_parts_after (before ++ (q ∷ [])) (ps ++ (p ∷ []))) both.0
    (one_more (before ++ (q ∷ [])) ps p both.1
    (subst (λ qs. IsTrue (is_part qs p)) (sym (append_assoc before (q ∷ []) ps)) k))

-- a part that is appended
pub pushed_grows : (before after : List Part) (p : Part) → IsTrue (are_parts_after [] before)
    → IsTrue (is_part before p) → after ≡ before ++ (p ∷ []) → PartsGrow before after
pushed_grows before after p h k e = record {
  more = p ∷ [];
  is = e;
  parts = subst (λ qs. IsTrue (are_parts_after [] qs)) (sym e) (one_more [] before p h k);
}

-- its node
pub pushed_node : (before after : List Part) (p : Part) (i : ℕ) → after ≡ before ++ (p ∷ [])
    → i ≡ length before → node_at (nodes_of after) i ≡ node_of (nodes_of before) p
pushed_node before after p i e f =
    let none = expression (syntax.chain syntax.root syntax.no_accessors) in
    let place : i ≡ length (nodes_of before) = f ∙ sym (nodes_length before) in
    ap (λ qs. node_at (nodes_of qs) i) e
    ∙ ap (λ nodes. node_at nodes i) (nodes_of_more [] before (p ∷ []))
    ∙ ap (λ n. get_or (nodes_of before ++ (node_of (nodes_of before) p ∷ [])) n none) place
    ∙ get_or-append_seam (nodes_of before) (node_of (nodes_of before) p) [] none

-- it may be named
pub pushed_source : (before after : List Part) (p : Part) (i : ℕ) → after ≡ before ++ (p ∷ [])
    → i ≡ length before → IsTrue (is_source after (sources.Part i))
pushed_source before after p i e f =
    let size : length after ≡ length before + 1 = ap length e ∙ length-append before (p ∷ []) in
    let less : i < length after = omega arith in grind (arith, nat_tests)

-- ---- parts that have grown

pub grown_same : (ps : List Part) → IsTrue (are_parts_after [] ps) → PartsGrow ps ps
grown_same ps h = record { more = []; is = sym (append-nil ps); parts = h }

pub grown_twice : (a b c : List Part) → PartsGrow a b → PartsGrow b c → PartsGrow a c
grown_twice a b c g h = record {
  more = g.more ++ h.more;
  is = h.is ∙ ap (λ qs. qs ++ h.more) g.is ∙ append_assoc a g.more h.more;
  parts = h.parts;
}

pub grown_operand : (wanted : Bool) (a b : List Part) (i : ℕ) → PartsGrow a b
    → IsTrue (is_operand wanted a i) → IsTrue (is_operand wanted b i)
grown_operand wanted a b i g h =
    subst (λ qs. IsTrue (is_operand wanted qs i)) (sym g.is) (operand_stays wanted a g.more i h)

pub grown_node : (wanted : Bool) (a b : List Part) (i : ℕ) → PartsGrow a b
    → IsTrue (is_operand wanted a i) → node_at (nodes_of b) i ≡ node_at (nodes_of a) i
grown_node wanted a b i g h =
    ap (λ qs. node_at (nodes_of qs) i) g.is
    ∙ node_stays a g.more i (operand_within wanted a i h)

pub ruleset growth =
    (pushed_grows, pushed_node, grown_same, grown_twice, grown_operand, grown_node, accessors_onto)
