-- The texts of a path's parts.
use Rattle.std.proofs.Common.{◌≡◌, ℕ, ◌<◌, List, [], ◌∷◌, ◌++◌, ◌∙◌, ap, arith, drop, get_or, length, refl}
use Rattle.std.proofs.Common.{◌≤◌, ◌-◌, Bool, sym, take}
use Rattle.std.specs.Prelude.{◌==◌, IsTrue, None, Option, Some, codes, not}
use Rattle.std.proofs.Math.Seq.{take-length}
use Rattle.std.proofs.lemmas.List.{append-nil, append_assoc}
use Rattle.jsonb_path.specs.declared.path.Accessor.{Accessor}
use Rattle.jsonb_path.specs.declared.path.Mode.{Mode}
use Rattle.jsonb_path.specs.declared.path.Part.{Part}
use Rattle.jsonb_path.specs.declared.path.Source.{Source}
use Rattle.jsonb_path.specs.declared.path.Subscript.{Subscript}
use Rattle.jsonb_path.specs.declared.path.Source.TheVariants as sources
use Rattle.jsonb_path.specs.PathParts.{PathParts, is_prefix, is_source, is_subscript, is_test}
use Rattle.jsonb_path.specs.PathText.{expression_text, has_accessors, predicate_text}
use Rattle.jsonb_path.specs.PathText.{mode_text, path_text, subscripts_text}
use Rattle.jsonb_path.specs.PathTree.{PathNode, accessors_of, as_expression, expression_at}
use Rattle.jsonb_path.specs.PathTree.{node_of, nodes_of, subscript_onto, test_at}
use Rattle.jsonb_path.specs.PathTree.{subscripts_of, tree_of_parts}
use Rattle.jsonb_path.specs.Syntax.{Subscripts, no_subscripts}
use Rattle.std.proofs.lemmas.Bool.{false≢true}
use Rattle.jsonb_path.proofs.PathTreeLaws.{expression_within, node_is, part_at, parts_before}
use Rattle.jsonb_path.proofs.PathTreeLaws.{parts_of_path, path_has_parts}
use Rattle.jsonb_path.proofs.PathTreeLaws.{test_stands, test_within}
use Rattle.jsonb_value.proofs.Json.Tests.{and_true}
use Rattle.jsonb_value.proofs.Writing.{joins}
use Rattle.std.specs.Fmt.{HasWrittenStyled, IsFlush}
use Rattle.std.specs.List.{list_all}
use Rattle.std.specs.declared.fmt.Formatter.{Formatter}

-- two operands and what stands around them, written in two
pub operation_parts : (o l w r c : List ℕ)
    → (o ++ (l ++ w)) ++ (r ++ c) ≡ o ++ (l ++ (w ++ (r ++ c)))
operation_parts o l w r c =
    append_assoc o (l ++ w) (r ++ c) ∙ ap (λ s. o ++ s) (append_assoc l w (r ++ c))

three_parts : (a b c d : List ℕ) → (a ++ (b ++ c)) ++ d ≡ a ++ (b ++ (c ++ d))
three_parts a b c d = append_assoc a (b ++ c) d ∙ ap (λ s. a ++ s) (append_assoc b c d)

-- a test's text is that of its truth
pub test_text : (rank : ℕ) (ps : List Part) (i : ℕ) → IsTrue (is_test ps i)
    → expression_text rank (expression_at (nodes_of ps) i)
    ≡ predicate_text rank (test_at (nodes_of ps) i)
test_text rank ps i h =
    ap (λ x. expression_text rank (as_expression x)) (test_stands ps i h)

-- what stands after `starts with` names no part
pub prefix_source : (ps : List Part) (s : Source) → IsTrue (is_prefix s) → IsTrue (is_source ps s)
prefix_source ps (sources.Part i) h = absurd (false≢true h)
prefix_source ps sources.Root h = refl
prefix_source ps sources.Current h = refl
prefix_source ps sources.Last h = refl
prefix_source ps (sources.Literal l) h = refl
prefix_source ps (sources.Variable s) h = refl

-- the text of the part of an index
pub part_text : (rank : ℕ) (ps : List Part) (i : ℕ) (x : Part) → i < length ps → x ≡ get_or ps i x
    → expression_text rank (as_expression (node_of (nodes_of (take i ps)) x))
    ≡ expression_text rank (expression_at (nodes_of ps) i)
part_text rank ps i x h e =
    ap (λ n. expression_text rank (as_expression n)) (sym (node_is ps i x h e))

-- one text more
pub one_more : (done text left whole : List ℕ) → done ++ (text ++ left) ≡ whole
    → (done ++ text) ++ left ≡ whole
one_more done text left whole h = append_assoc done text left ∙ h

-- the first subscript alone, and then the others
pub subscript_first : (nodes : List PathNode) (before : List ℕ) (i : ℕ) (o : Option ℕ)
    (rest : Subscripts) → subscripts_text before (subscript_onto nodes i o rest)
    ≡ subscripts_text before (subscript_onto nodes i o no_subscripts)
    ++ subscripts_text (codes ",") rest
subscript_first nodes before i None rest =
    let e = expression_text 0 (expression_at nodes i) in
    let left = subscripts_text (codes ",") rest in
    ap (λ s. before ++ (s ++ left)) (sym (append-nil e))
    ∙ sym (append_assoc before (e ++ []) left)
subscript_first nodes before i (Some j) rest =
    let e = expression_text 0 (expression_at nodes i) in
    let f = expression_text 0 (expression_at nodes j) in
    let left = subscripts_text (codes ",") rest in
    ap (λ s. before ++ (e ++ (codes " to " ++ (s ++ left)))) (sym (append-nil f))
    ∙ ap (λ s. before ++ s) (sym (three_parts e (codes " to ") (f ++ []) left))
    ∙ sym (append_assoc before (e ++ (codes " to " ++ (f ++ []))) left)

-- one subscript more
pub subscripts_step : (nodes : List PathNode) (before : List ℕ) (i : ℕ) (o : Option ℕ)
    (rest : Subscripts) (done whole : List ℕ)
    → done ++ (subscripts_text before (subscript_onto nodes i o rest) ++ codes "]") ≡ whole
    → (done ++ subscripts_text before (subscript_onto nodes i o no_subscripts))
    ++ (subscripts_text (codes ",") rest ++ codes "]") ≡ whole
subscripts_step nodes before i o rest done whole h =
    let t = subscripts_text before (subscript_onto nodes i o no_subscripts) in
    let left = subscripts_text (codes ",") rest in
    append_assoc done t (left ++ codes "]")
    ∙ ap (λ s. done ++ s) (sym (append_assoc t left (codes "]")))
    ∙ ap (λ s. done ++ (s ++ codes "]")) (sym (subscript_first nodes before i o rest))
    ∙ h

-- whether accessors follow
pub has_any : (nodes : List PathNode) (steps : List Accessor) (b : Bool) → b ≡ (length steps == 0)
    → has_accessors (accessors_of nodes steps) ≡ not b
has_any nodes [] b e = grind (arith, e)
has_any nodes (a ∷ steps) b e = grind (arith, e)

pub nothing_left : {X : Type 0} (xs : List X) → length xs < 1 → xs ≡ []
nothing_left [] h = refl
nothing_left (x ∷ xs) h = absurd (omega (arith, h))

-- what is left after the first, as a slice's pattern takes it
abbrev pub later : {X : Type 0} → List X → List X
later xs = take (length xs - 1) (drop 1 xs)

-- the first of what is left, and the others
pub first_left : {X : Type 0} (xs : List X) (x : X) → 1 ≤ length xs → x ≡ get_or xs 0 x
    → xs ≡ x ∷ later xs
first_left [] x h e = absurd (omega (arith, h))
first_left (y ∷ xs) x h e =
    let fewer : length (y ∷ xs) - 1 ≡ length xs = omega arith in
    let all : later (y ∷ xs) ≡ xs = rw fewer (take-length xs) in
    rw (all, e) refl

-- the texts before and after a prefix
pub starting_parts : (o l w p c : List ℕ)
    → (o ++ (l ++ w)) ++ (p ++ c) ≡ o ++ (l ++ (w ++ ((p ++ []) ++ c)))
starting_parts o l w p c =
    operation_parts o l w p c ∙ ap (λ s. o ++ (l ++ (w ++ (s ++ c)))) (sym (append-nil p))

-- the texts of a first and a last index
pub range_text : (nodes : List PathNode) (before : List ℕ) (i : ℕ) (o : Option ℕ) (j : ℕ)
    → o ≡ Some j
    → (before ++ (expression_text 0 (expression_at nodes i) ++ []))
    ++ (codes " to " ++ (expression_text 0 (expression_at nodes j) ++ []))
    ≡ subscripts_text before (subscript_onto nodes i o no_subscripts)
range_text nodes before i o j is =
    let e = expression_text 0 (expression_at nodes i) in
    let rest = codes " to " ++ (expression_text 0 (expression_at nodes j) ++ []) in
    append_assoc before (e ++ []) rest
    ∙ ap (λ s. before ++ s) (append_assoc e [] rest)
    ∙ ap (λ x. subscripts_text before (subscript_onto nodes i x no_subscripts)) (sym is)

-- the first subscript is written, and the others are left
pub subscripts_onward : {V : Type 0} (took : V → List ℕ → V → Type 0) (f h : Formatter V)
    (ps : List Part) (left : List Subscript) (d : Subscript) (before done whole : List ℕ)
    → (IsFlush f → HasWrittenStyled took f (done ++ subscripts_text before
    (subscript_onto (nodes_of ps) (get_or left 0 d).first (get_or left 0 d).last no_subscripts)) h)
    → 1 ≤ length left → IsTrue (list_all (is_subscript ps) left)
    → done ++ (subscripts_text before (subscripts_of (nodes_of ps) left) ++ codes "]") ≡ whole
    → IsTrue (list_all (is_subscript ps) (later left)) × (x : List ℕ)
    × (x ++ (subscripts_text (codes ",") (subscripts_of (nodes_of ps) (later left)) ++ codes "]")
    ≡ whole) × (IsFlush f → HasWrittenStyled took f x h)
subscripts_onward took f h ps [] d before done whole write some all is =
    absurd (omega (arith, some))
subscripts_onward took f h ps (s ∷ ss) d before done whole write some all is =
    let nodes = nodes_of ps in
    let fewer : length (s ∷ ss) - 1 ≡ length ss = omega arith in
    let rest : later (s ∷ ss) ≡ ss = rw fewer (take-length ss) in
    let both = and_true (is_subscript ps s) (list_all (is_subscript ps) ss) all in
    rw rest (
      both.1,
      done ++ subscripts_text before (subscript_onto nodes s.first s.last no_subscripts),
      subscripts_step nodes before s.first s.last (subscripts_of nodes ss) done whole is,
      write,
    )

-- a path's mode and its last part
pub path_parts_text : (path : PathParts) (m : Mode) (word : List ℕ) (ps : List Part)
    → m ≡ path.mode → word ≡ mode_text m → ps ≡ path.parts
    → word ++ (expression_text 6 (expression_at (nodes_of ps) (length ps - 1)) ++ [])
    ≡ path_text path
path_parts_text path m word ps mode_is word_is parts_are =
    let tree = expression_text 6 (expression_at (nodes_of ps) (length ps - 1)) in
    ap (λ s. word ++ s) (append-nil tree)
    ∙ ap (λ s. s ++ tree) (word_is ∙ ap mode_text mode_is)
    ∙ ap (λ qs. mode_text path.mode ++ expression_text 6 (tree_of_parts qs)) parts_are

pub ruleset texts = (joins, expression_within, test_within, part_at, parts_before, prefix_source)

pub ruleset path_parts = (parts_of_path, path_has_parts)
