-- The nodes of a path's parts: each is made of those before it, and more parts change none.
use Rattle.std.proofs.Common.{◌≡◌, ℕ, suc, zero, ◌+◌, ◌<◌, true, List, [], ◌∷◌, ◌++◌, ◌∙◌}
use Rattle.std.proofs.Common.{ap, drop, get_or, length, sym, take, arith, refl}
use Rattle.std.specs.Prelude.{◌&&◌, IsTrue, Option, None, Some}
use Rattle.std.specs.List.{list_all}
use Rattle.std.proofs.lemmas.Bool.{false≢true, ltb-true}
use Rattle.std.proofs.lemmas.List.{append-nil, append_assoc, get_or_append_left, length-append}
use Rattle.std.proofs.lemmas.List.{length-take-le, take-append-drop}
use Rattle.std.proofs.Math.Seq.{get_or-append_seam}
use Rattle.jsonb_path.specs.declared.path.Accessor.{Accessor}
use Rattle.jsonb_path.specs.declared.path.Accessor.TheVariants as accessors
use Rattle.jsonb_path.specs.declared.path.Part.{Part}
use Rattle.jsonb_path.specs.declared.path.Part.TheVariants as parts
use Rattle.jsonb_path.specs.declared.path.Source.{Source}
use Rattle.jsonb_path.specs.declared.path.Source.TheVariants as sources
use Rattle.jsonb_path.specs.declared.path.Subscript.{Subscript}
use Rattle.jsonb_path.specs.declared.path.Test.{Test}
use Rattle.jsonb_path.specs.declared.path.Test.TheVariants as tests
use Rattle.jsonb_path.specs.PathParts.{are_parts, are_parts_after, is_accessor, is_expression}
use Rattle.jsonb_path.specs.PathParts.{is_part, is_prefix, is_some_part, is_source, is_subscript}
use Rattle.jsonb_path.specs.PathParts.{is_test}
use Rattle.jsonb_path.specs.PathTree.{PathNode, accessor_of, accessors_of, as_expression}
use Rattle.jsonb_path.specs.PathTree.{as_test}
use Rattle.jsonb_path.specs.PathTree.{expression, expression_at, node_at, node_of, nodes_of}
use Rattle.jsonb_path.specs.PathTree.{nodes_onto, predicate_of, primary_of, subscript_onto, test}
use Rattle.jsonb_path.specs.PathTree.{subscripts_of, test_at}
use Rattle.jsonb_path.specs.Syntax as syntax
use Rattle.jsonb_value.proofs.Json.Tests.{and_true}
use Rattle.jsonb_path.proofs.PartLaws.{front}

-- ---- more parts

-- the nodes that parts add
added : List PathNode → List Part → List PathNode
added nodes [] = []
added nodes (p ∷ ps) = node_of nodes p ∷ added (nodes ++ (node_of nodes p ∷ [])) ps

onto_is : (nodes : List PathNode) (ps : List Part) → nodes_onto nodes ps ≡ nodes ++ added nodes ps
unfolding added
onto_is nodes [] = sym (append-nil nodes)
onto_is nodes (p ∷ ps) =
    let x = node_of nodes p in
    onto_is (nodes ++ (x ∷ [])) ps
    ∙ append_assoc nodes (x ∷ []) (added (nodes ++ (x ∷ [])) ps)

-- more parts after these
pub nodes_of_more : (nodes : List PathNode) (ps qs : List Part)
    → nodes_onto nodes (ps ++ qs) ≡ nodes_onto (nodes_onto nodes ps) qs
nodes_of_more nodes [] qs = refl
nodes_of_more nodes (p ∷ ps) qs = nodes_of_more (nodes ++ (node_of nodes p ∷ [])) ps qs

nodes_onto_length : (nodes : List PathNode) (ps : List Part)
    → length (nodes_onto nodes ps) ≡ length nodes + length ps
nodes_onto_length nodes [] = omega arith
nodes_onto_length nodes (p ∷ ps) =
    let e : length (nodes ++ (node_of nodes p ∷ [])) ≡ length nodes + 1 =
    length-append nodes (node_of nodes p ∷ []) in
    nodes_onto_length (nodes ++ (node_of nodes p ∷ [])) ps
    ∙ ap (λ n. n + length ps) e
    ∙ omega arith

-- there are as many nodes as parts
pub nodes_length : (ps : List Part) → length (nodes_of ps) ≡ length ps
nodes_length ps = nodes_onto_length [] ps ∙ omega arith

-- more parts leave the nodes before them as they are
pub node_stays : (ps qs : List Part) (i : ℕ) → i < length ps
    → node_at (nodes_of (ps ++ qs)) i ≡ node_at (nodes_of ps) i
node_stays ps qs i h =
    let e : length (nodes_of ps) ≡ length ps = nodes_length ps in
    ap (λ nodes. node_at nodes i) (nodes_of_more [] ps qs ∙ onto_is (nodes_of ps) qs)
    ∙ get_or_append_left (nodes_of ps) (added (nodes_of ps) qs)
    (expression (syntax.chain syntax.root syntax.no_accessors)) i (omega arith)

-- the node of a part is made of the nodes of those before it
pub node_is : (ps : List Part) (i : ℕ) (x : Part) → i < length ps → x ≡ get_or ps i x
    → node_at (nodes_of ps) i ≡ node_of (nodes_of (take i ps)) x
node_is ps i x h e =
    let before = nodes_of (take i ps) in
    let rest = drop (i + 1) ps in
    let y = node_of before x in
    let split : ps ≡ take i ps ++ (x ∷ rest) =
    sym (take-append-drop i ps) ∙ ap (λ qs. take i ps ++ qs) (front ps i x h e) in
    let made : nodes_of ps ≡ before ++ (y ∷ added (before ++ (y ∷ [])) rest) =
    ap nodes_of split ∙ nodes_of_more [] (take i ps) (x ∷ rest)
    ∙ onto_is (before ++ (y ∷ [])) rest
    ∙ append_assoc before (y ∷ []) (added (before ++ (y ∷ [])) rest) in
    let place : length before ≡ i = nodes_length (take i ps) ∙ length-take-le i ps (omega arith) in
    let none = expression (syntax.chain syntax.root syntax.no_accessors) in
    ap (λ nodes. node_at nodes i) made
    ∙ ap (λ n. get_or (before ++ (y ∷ added (before ++ (y ∷ [])) rest)) n none) (sym place)
    ∙ get_or-append_seam before y (added (before ++ (y ∷ [])) rest) none

-- ---- a part names none but parts before it

-- Both lists have the same node at each index before this one.
unfoldable pub Agree : ℕ → List PathNode → List PathNode → Type 0
Agree n xs ys = (i : ℕ) → i < n → node_at xs i ≡ node_at ys i

pub expression_within : (before : List Part) (i : ℕ) → IsTrue (is_expression before i) → i < length before
expression_within [] i h = absurd (false≢true h)
expression_within (p ∷ ps) zero h = omega arith
expression_within (p ∷ ps) (suc i) h = let less : i < length ps = expression_within ps i h in omega arith

pub test_within : (before : List Part) (i : ℕ) → IsTrue (is_test before i) → i < length before
test_within [] i h = absurd (false≢true h)
test_within (p ∷ ps) zero h = omega arith
test_within (p ∷ ps) (suc i) h = let less : i < length ps = test_within ps i h in omega arith

same_expression : (before : List Part) (xs ys : List PathNode) → Agree (length before) xs ys
    → (i : ℕ) → IsTrue (is_expression before i) → expression_at xs i ≡ expression_at ys i
unfolding Agree
same_expression before xs ys same i h = ap as_expression (same i (expression_within before i h))

same_test : (before : List Part) (xs ys : List PathNode) → Agree (length before) xs ys
    → (i : ℕ) → IsTrue (is_test before i) → test_at xs i ≡ test_at ys i
unfolding Agree
same_test before xs ys same i h = ap as_test (same i (test_within before i h))

pub same_source : (before : List Part) (xs ys : List PathNode) → Agree (length before) xs ys
    → (s : Source) → IsTrue (is_source before s) → primary_of xs s ≡ primary_of ys s
unfolding Agree
same_source before xs ys same (sources.Part i) h =
    ap (λ x. syntax.inner (as_expression x)) (same i (ltb-true i (length before) h))
same_source before xs ys same sources.Root h = refl
same_source before xs ys same sources.Current h = refl
same_source before xs ys same sources.Last h = refl
same_source before xs ys same (sources.Literal l) h = refl
same_source before xs ys same (sources.Variable s) h = refl

pub one_subscript : (before : List Part) (xs ys : List PathNode) → Agree (length before) xs ys
    → (i : ℕ) (o : Option ℕ) (left right : syntax.Subscripts) → left ≡ right
    → IsTrue (is_subscript before (record { first = i; last = o }))
    → subscript_onto xs i o left ≡ subscript_onto ys i o right
one_subscript before xs ys same i None left right rest h =
    let e = same_expression before xs ys same i (and_true (is_expression before i) true h).0 in
    λ k. syntax.index (e k) (rest k)
one_subscript before xs ys same i (Some j) left right rest h =
    let both = and_true (is_expression before i) (is_expression before j) h in
    let e = same_expression before xs ys same i both.0 in
    let f = same_expression before xs ys same j both.1 in
    λ k. syntax.range (e k) (f k) (rest k)

pub same_subscripts : (before : List Part) (xs ys : List PathNode) → Agree (length before) xs ys
    → (ss : List Subscript) → IsTrue (list_all (is_subscript before) ss)
    → subscripts_of xs ss ≡ subscripts_of ys ss
same_subscripts before xs ys same [] h = refl
same_subscripts before xs ys same (s ∷ ss) h =
    let both = and_true (is_subscript before s) (list_all (is_subscript before) ss) h in
    one_subscript before xs ys same s.first s.last (subscripts_of xs ss) (subscripts_of ys ss)
    (same_subscripts before xs ys same ss both.1) both.0

pub same_accessor : (before : List Part) (xs ys : List PathNode) → Agree (length before) xs ys
    → (a : Accessor) → IsTrue (is_accessor before a) → accessor_of xs a ≡ accessor_of ys a
same_accessor before xs ys same (accessors.Items ss) h =
    ap syntax.items_at (same_subscripts before xs ys same ss.items h)
same_accessor before xs ys same (accessors.Filter i) h =
    ap syntax.filter (same_test before xs ys same i h)
same_accessor before xs ys same (accessors.Member s) h = refl
same_accessor before xs ys same accessors.AllMembers h = refl
same_accessor before xs ys same accessors.AllItems h = refl
same_accessor before xs ys same (accessors.Descendants a b) h = refl
same_accessor before xs ys same (accessors.Method m) h = refl

pub same_accessors : (before : List Part) (xs ys : List PathNode) → Agree (length before) xs ys
    → (steps : List Accessor) → IsTrue (list_all (is_accessor before) steps)
    → accessors_of xs steps ≡ accessors_of ys steps
same_accessors before xs ys same [] h = refl
same_accessors before xs ys same (a ∷ steps) h =
    let both = and_true (is_accessor before a) (list_all (is_accessor before) steps) h in
    let e = same_accessor before xs ys same a both.0 in
    let f = same_accessors before xs ys same steps both.1 in
    λ k. syntax.accessor (e k) (f k)

-- what stands after `starts with` names no part
pub same_prefix : (xs ys : List PathNode) (s : Source) → IsTrue (is_prefix s)
    → primary_of xs s ≡ primary_of ys s
same_prefix xs ys (sources.Part i) h = absurd (false≢true h)
same_prefix xs ys sources.Root h = refl
same_prefix xs ys sources.Current h = refl
same_prefix xs ys sources.Last h = refl
same_prefix xs ys (sources.Literal l) h = refl
same_prefix xs ys (sources.Variable s) h = refl

same_predicate : (before : List Part) (xs ys : List PathNode) → Agree (length before) xs ys
    → (t : Test) → IsTrue (is_part before (parts.Test t)) → predicate_of xs t ≡ predicate_of ys t
same_predicate before xs ys same (tests.And i j) h =
    let both = and_true (is_test before i) (is_test before j) h in
    let e = same_test before xs ys same i both.0 in
    let f = same_test before xs ys same j both.1 in
    λ k. syntax.conjunction (e k) (f k)
same_predicate before xs ys same (tests.Or i j) h =
    let both = and_true (is_test before i) (is_test before j) h in
    let e = same_test before xs ys same i both.0 in
    let f = same_test before xs ys same j both.1 in
    λ k. syntax.disjunction (e k) (f k)
same_predicate before xs ys same (tests.Not i) h =
    ap syntax.denial (same_test before xs ys same i h)
same_predicate before xs ys same (tests.IsUnknown i) h =
    ap syntax.is_unknown (same_test before xs ys same i h)
same_predicate before xs ys same (tests.Compare c i j) h =
    let both = and_true (is_expression before i) (is_expression before j) h in
    let e = same_expression before xs ys same i both.0 in
    let f = same_expression before xs ys same j both.1 in
    λ k. syntax.comparison c (e k) (f k)
same_predicate before xs ys same (tests.StartsWith i s) h =
    let both = and_true (is_expression before i) (is_prefix s) h in
    let e = same_expression before xs ys same i both.0 in
    let f = same_prefix xs ys s both.1 in
    λ k. syntax.starting (e k) (syntax.chain (f k) syntax.no_accessors)
same_predicate before xs ys same (tests.Exists i) h =
    ap syntax.exists (same_expression before xs ys same i h)

pub same_node : (before : List Part) (xs ys : List PathNode) → Agree (length before) xs ys
    → (p : Part) → IsTrue (is_part before p) → node_of xs p ≡ node_of ys p
same_node before xs ys same (parts.Chain s steps) h =
    let both = and_true (is_source before s) (list_all (is_accessor before) steps.items) h in
    let e = same_source before xs ys same s both.0 in
    let f = same_accessors before xs ys same steps.items both.1 in
    λ k. expression (syntax.chain (e k) (f k))
same_node before xs ys same (parts.Sign sign i) h =
    ap (λ e. expression (syntax.signed sign e)) (same_expression before xs ys same i h)
same_node before xs ys same (parts.Arithmetic op i j) h =
    let both = and_true (is_expression before i) (is_expression before j) h in
    let e = same_expression before xs ys same i both.0 in
    let f = same_expression before xs ys same j both.1 in
    λ k. expression (syntax.arithmetic op (e k) (f k))
same_node before xs ys same (parts.Test t) h = ap test (same_predicate before xs ys same t h)

-- each part of a path names none but parts before it
part_at_after : (before ps : List Part) (i : ℕ) (x : Part) → IsTrue (are_parts_after before ps)
    → i < length ps → x ≡ get_or ps i x → IsTrue (is_part (before ++ take i ps) x)
part_at_after before [] i x h less e = absurd (omega arith)
part_at_after before (p ∷ ps) zero x h less e =
    let both = and_true (is_part before p) (are_parts_after (before ++ (p ∷ [])) ps) h in
    (λ k. is_part (append-nil before k) (e k)) ∙ both.0
part_at_after before (p ∷ ps) (suc i) x h less e =
    let both = and_true (is_part before p) (are_parts_after (before ++ (p ∷ [])) ps) h in
    ap (λ qs. is_part qs x) (sym (append_assoc before (p ∷ []) (take i ps)))
    ∙ part_at_after (before ++ (p ∷ [])) ps i x both.1 (omega arith) e

pub part_at : (ps : List Part) (i : ℕ) (x : Part) → IsTrue (are_parts_after [] ps)
    → i < length ps → x ≡ get_or ps i x → IsTrue (is_part (take i ps) x)
part_at ps i x h less e = part_at_after [] ps i x h less e

parts_after_before : (before ps : List Part) (i : ℕ) → IsTrue (are_parts_after before ps)
    → IsTrue (are_parts_after before (take i ps))
parts_after_before before ps zero h = refl
parts_after_before before [] (suc i) h = refl
parts_after_before before (p ∷ ps) (suc i) h =
    let both = and_true (is_part before p) (are_parts_after (before ++ (p ∷ [])) ps) h in
    (λ k. both.0 k && are_parts_after (before ++ (p ∷ [])) (take i ps))
    ∙ parts_after_before (before ++ (p ∷ [])) ps i both.1

-- the parts before one of them
pub parts_before : (ps : List Part) (i : ℕ) → IsTrue (are_parts_after [] ps)
    → IsTrue (are_parts_after [] (take i ps))
parts_before ps i h = parts_after_before [] ps i h

pub parts_of_path : (ps : List Part) → IsTrue (are_parts ps) → IsTrue (are_parts_after [] ps)
parts_of_path ps h = (and_true (are_parts_after [] ps) (is_some_part ps) h).0

pub path_has_parts : (ps : List Part) → IsTrue (are_parts ps) → 0 < length ps
path_has_parts [] h = absurd (false≢true h)
path_has_parts (p ∷ ps) h = omega arith

-- the node of a path's part is made of the nodes of the path
pub node_of_part : (ps : List Part) (i : ℕ) (x : Part) → IsTrue (are_parts ps) → i < length ps
    → x ≡ get_or ps i x → node_at (nodes_of ps) i ≡ node_of (nodes_of ps) x
unfolding Agree
node_of_part ps i x h less e =
    let before = take i ps in
    let same : Agree (length before) (nodes_of before) (nodes_of ps) =
    λ j near. sym (node_stays before (drop i ps) j near)
    ∙ ap (λ qs. node_at (nodes_of qs) j) (take-append-drop i ps) in
    node_is ps i x less e
    ∙ same_node before (nodes_of before) (nodes_of ps) same x
    (part_at ps i x (parts_of_path ps h) less e)

-- ---- which kind of node stands where

read_test : (ps : List Part) (i : ℕ) → IsTrue (is_test ps i) → (p : Part) × (i < length ps)
    × (p ≡ get_or ps i p) × IsTrue (is_test (p ∷ []) zero)
read_test [] i h = absurd (false≢true h)
read_test (p ∷ ps) zero h = (p, omega arith, refl, h)
read_test (p ∷ ps) (suc i) h =
    let read = read_test ps i h in
    let less : i < length ps = read.1 in
    (read.0, omega arith, read.2, read.3)

test_of_test : (nodes : List PathNode) (p : Part) → IsTrue (is_test (p ∷ []) zero)
    → node_of nodes p ≡ test (as_test (node_of nodes p))
test_of_test nodes (parts.Chain s steps) h = absurd (false≢true h)
test_of_test nodes (parts.Sign sign i) h = absurd (false≢true h)
test_of_test nodes (parts.Arithmetic op i j) h = absurd (false≢true h)
test_of_test nodes (parts.Test t) h = refl

-- a test stands exactly where a part is one
pub test_stands : (ps : List Part) (i : ℕ) → IsTrue (is_test ps i)
    → node_at (nodes_of ps) i ≡ test (test_at (nodes_of ps) i)
test_stands ps i h =
    let read = read_test ps i h in
    let before = nodes_of (take i ps) in
    let is : node_at (nodes_of ps) i ≡ node_of before read.0 =
    node_is ps i read.0 read.1 read.2 in
    is ∙ test_of_test before read.0 read.3 ∙ ap (λ x. test (as_test x)) (sym is)

-- ---- one part more
