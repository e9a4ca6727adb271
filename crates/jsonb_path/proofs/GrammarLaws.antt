-- What is read stays as it is while more parts are appended.
use Rattle.std.proofs.Common.{◌≡◌, ℕ, ◌<◌, ◌≤◌, ◌+◌, Bool, List, [], ◌∷◌, ◌++◌}
use Rattle.std.proofs.Common.{◌∙◌, ap, arith, length, refl, subst, sym}
use Rattle.std.specs.Prelude.{◌&&◌, IsTrue, Option, None, Some}
use Rattle.std.specs.List.{list_all}
use Rattle.std.proofs.lemmas.Bool.{ltb-true}
use Rattle.std.proofs.lemmas.Bool.Decides.{nat_tests}
use Rattle.std.proofs.lemmas.List.{length-append}
use Rattle.jsonb_path.specs.declared.path.Accessor.{Accessor}
use Rattle.jsonb_path.specs.declared.path.Accessor.TheVariants as accessors
use Rattle.jsonb_path.specs.declared.path.Part.{Part}
use Rattle.jsonb_path.specs.declared.path.Part.TheVariants as parts
use Rattle.jsonb_path.specs.declared.path.Source.{Source}
use Rattle.jsonb_path.specs.declared.path.Source.TheVariants as sources
use Rattle.jsonb_path.specs.declared.path.Subscript.{Subscript}
use Rattle.jsonb_path.specs.declared.path.Test.{Test}
use Rattle.jsonb_path.specs.declared.path.Test.TheVariants as tests
use Rattle.jsonb_path.specs.Grammar.{literal_number, number_alone}
use Rattle.jsonb_path.specs.Growth.{PartsGrow}
use Rattle.jsonb_path.specs.PathParts.{are_parts_after, is_accessor, is_expression, is_part}
use Rattle.jsonb_path.specs.PathParts.{is_expression_if, is_prefix, is_source, is_subscript, is_test}
use Rattle.jsonb_path.specs.PathTree.{PathNode, accessor_of, accessors_of, expression, node_at}
use Rattle.jsonb_path.specs.PathTree.{node_of, nodes_of}
use Rattle.jsonb_path.specs.PathTree.{primary_of, subscripts_of}
use Rattle.jsonb_path.specs.Syntax.{Primary}
use Rattle.jsonb_path.specs.Syntax as syntax
use Rattle.jsonb_path.proofs.GrowthLaws.{accessors_onto, all_onto, both_true, expression_stays}
use Rattle.jsonb_path.proofs.GrowthLaws.{grown_node, grown_operand, grown_same, grown_twice}
use Rattle.jsonb_path.proofs.GrowthLaws.{pushed_grows, pushed_node, subscripts_onto}
use Rattle.jsonb_path.proofs.GrowthLaws.{test_stays}
use Rattle.jsonb_path.proofs.PathTreeLaws.{Agree, node_stays, same_accessor, same_node, same_prefix}
use Rattle.jsonb_path.proofs.PathTreeLaws.{same_source, same_subscripts}
use Rattle.jsonb_value.proofs.Json.Tests.{and_true}

-- ---- what is named stays

all_stay : {X : Type 0} (P Q : X → Bool) (xs : List X) → ((x : X) → IsTrue (P x) → IsTrue (Q x))
    → IsTrue (list_all P xs) → IsTrue (list_all Q xs)
all_stay P Q [] stays h = refl
all_stay P Q (x ∷ xs) stays h =
    let both = and_true (P x) (list_all P xs) h in
    both_true (Q x) (list_all Q xs) (stays x both.0) (all_stay P Q xs stays both.1)

source_stays : (ps more : List Part) (s : Source) → IsTrue (is_source ps s)
    → IsTrue (is_source (ps ++ more) s)
source_stays ps more (sources.Part i) h =
    let less : i < length ps = ltb-true i (length ps) h in
    let size : length (ps ++ more) ≡ length ps + length more = length-append ps more in
    let more_less : i < length (ps ++ more) = omega arith in
    grind (arith, nat_tests)
source_stays ps more sources.Root h = refl
source_stays ps more sources.Current h = refl
source_stays ps more sources.Last h = refl
source_stays ps more (sources.Literal l) h = refl
source_stays ps more (sources.Variable s) h = refl

if_stays : (ps more : List Part) (o : Option ℕ) → IsTrue (is_expression_if ps o)
    → IsTrue (is_expression_if (ps ++ more) o)
if_stays ps more None h = refl
if_stays ps more (Some i) h = expression_stays ps more i h

subscript_stays : (ps more : List Part) (s : Subscript) → IsTrue (is_subscript ps s)
    → IsTrue (is_subscript (ps ++ more) s)
subscript_stays ps more s h =
    let both = and_true (is_expression ps s.first) (is_expression_if ps s.last) h in
    both_true (is_expression (ps ++ more) s.first) (is_expression_if (ps ++ more) s.last)
    (expression_stays ps more s.first both.0) (if_stays ps more s.last both.1)

accessor_stays : (ps more : List Part) (a : Accessor) → IsTrue (is_accessor ps a)
    → IsTrue (is_accessor (ps ++ more) a)
accessor_stays ps more (accessors.Items ss) h =
    all_stay (is_subscript ps) (is_subscript (ps ++ more)) ss.items
    (λ s k. subscript_stays ps more s k) h
accessor_stays ps more (accessors.Filter i) h = test_stays ps more i h
accessor_stays ps more (accessors.Member s) h = refl
accessor_stays ps more accessors.AllMembers h = refl
accessor_stays ps more accessors.AllItems h = refl
accessor_stays ps more (accessors.Descendants a b) h = refl
accessor_stays ps more (accessors.Method m) h = refl

two_tests : (ps more : List Part) (i j : ℕ) → IsTrue (is_test ps i && is_test ps j)
    → IsTrue (is_test (ps ++ more) i && is_test (ps ++ more) j)
two_tests ps more i j h =
    let both = and_true (is_test ps i) (is_test ps j) h in
    both_true (is_test (ps ++ more) i) (is_test (ps ++ more) j) (test_stays ps more i both.0)
    (test_stays ps more j both.1)

two_expressions : (ps more : List Part) (i j : ℕ)
    → IsTrue (is_expression ps i && is_expression ps j)
    → IsTrue (is_expression (ps ++ more) i && is_expression (ps ++ more) j)
two_expressions ps more i j h =
    let both = and_true (is_expression ps i) (is_expression ps j) h in
    both_true (is_expression (ps ++ more) i) (is_expression (ps ++ more) j)
    (expression_stays ps more i both.0) (expression_stays ps more j both.1)

part_stays : (ps more : List Part) (p : Part) → IsTrue (is_part ps p)
    → IsTrue (is_part (ps ++ more) p)
part_stays ps more (parts.Chain s steps) h =
    let both = and_true (is_source ps s) (list_all (is_accessor ps) steps.items) h in
    both_true (is_source (ps ++ more) s) (list_all (is_accessor (ps ++ more)) steps.items)
    (source_stays ps more s both.0)
    (all_stay (is_accessor ps) (is_accessor (ps ++ more)) steps.items
    (λ a k. accessor_stays ps more a k) both.1)
part_stays ps more (parts.Sign sign i) h = expression_stays ps more i h
part_stays ps more (parts.Arithmetic op i j) h = two_expressions ps more i j h
part_stays ps more (parts.Test (tests.And i j)) h = two_tests ps more i j h
part_stays ps more (parts.Test (tests.Or i j)) h = two_tests ps more i j h
part_stays ps more (parts.Test (tests.Not i)) h = test_stays ps more i h
part_stays ps more (parts.Test (tests.IsUnknown i)) h = test_stays ps more i h
part_stays ps more (parts.Test (tests.Compare c i j)) h = two_expressions ps more i j h
part_stays ps more (parts.Test (tests.StartsWith i s)) h =
    let both = and_true (is_expression ps i) (is_prefix s) h in
    both_true (is_expression (ps ++ more) i) (is_prefix s) (expression_stays ps more i both.0)
    both.1
part_stays ps more (parts.Test (tests.Exists i)) h = expression_stays ps more i h

-- ---- parts that have grown

agree : (a b : List Part) → PartsGrow a b → Agree (length a) (nodes_of b) (nodes_of a)
unfolding Agree
agree a b g i less = ap (λ qs. node_at (nodes_of qs) i) g.is ∙ node_stays a g.more i less

pub grown_part : (a b : List Part) (p : Part) → PartsGrow a b → IsTrue (is_part a p)
    → IsTrue (is_part b p)
grown_part a b p g h = subst (λ qs. IsTrue (is_part qs p)) (sym g.is) (part_stays a g.more p h)

pub grown_part_node : (a b : List Part) (p : Part) → PartsGrow a b → IsTrue (is_part a p)
    → node_of (nodes_of b) p ≡ node_of (nodes_of a) p
grown_part_node a b p g h = same_node a (nodes_of b) (nodes_of a) (agree a b g) p h

pub grown_accessor : (a b : List Part) (x : Accessor) → PartsGrow a b → IsTrue (is_accessor a x)
    → IsTrue (is_accessor b x)
grown_accessor a b x g h =
    subst (λ qs. IsTrue (is_accessor qs x)) (sym g.is) (accessor_stays a g.more x h)

pub grown_accessor_of : (a b : List Part) (x : Accessor) → PartsGrow a b → IsTrue (is_accessor a x)
    → accessor_of (nodes_of b) x ≡ accessor_of (nodes_of a) x
grown_accessor_of a b x g h = same_accessor a (nodes_of b) (nodes_of a) (agree a b g) x h

pub grown_subscripts : (a b : List Part) (ss : List Subscript) → PartsGrow a b
    → IsTrue (list_all (is_subscript a) ss) → IsTrue (list_all (is_subscript b) ss)
grown_subscripts a b ss g h =
    subst (λ qs. IsTrue (list_all (is_subscript qs) ss)) (sym g.is)
    (all_stay (is_subscript a) (is_subscript (a ++ g.more)) ss
    (λ s k. subscript_stays a g.more s k) h)

pub grown_subscripts_of : (a b : List Part) (ss : List Subscript) → PartsGrow a b
    → IsTrue (list_all (is_subscript a) ss)
    → subscripts_of (nodes_of b) ss ≡ subscripts_of (nodes_of a) ss
grown_subscripts_of a b ss g h =
    same_subscripts a (nodes_of b) (nodes_of a) (agree a b g) ss h

-- ---- what names no part

from_none : (ps : List Part) → IsTrue (are_parts_after [] ps) → PartsGrow [] ps
from_none ps h = record { more = ps; is = refl; parts = h }

pub source_anywhere : (ps : List Part) (s : Source) → IsTrue (are_parts_after [] ps)
    → IsTrue (is_source [] s) → IsTrue (is_source ps s)
source_anywhere ps s h k = source_stays [] ps s k

pub primary_anywhere : (ps : List Part) (s : Source) → IsTrue (are_parts_after [] ps)
    → IsTrue (is_source [] s) → primary_of (nodes_of ps) s ≡ primary_of [] s
primary_anywhere ps s h k = same_source [] (nodes_of ps) [] (agree [] ps (from_none ps h)) s k

pub accessor_anywhere : (ps : List Part) (a : Accessor) → IsTrue (are_parts_after [] ps)
    → IsTrue (is_accessor [] a) → IsTrue (is_accessor ps a)
accessor_anywhere ps a h k = accessor_stays [] ps a k

pub accessor_of_anywhere : (ps : List Part) (a : Accessor) → IsTrue (are_parts_after [] ps)
    → IsTrue (is_accessor [] a) → accessor_of (nodes_of ps) a ≡ accessor_of [] a
accessor_of_anywhere ps a h k =
    same_accessor [] (nodes_of ps) [] (agree [] ps (from_none ps h)) a k

pub prefix_anywhere : (ps : List Part) (s : Source) → IsTrue (is_prefix s)
    → primary_of (nodes_of ps) s ≡ primary_of [] s
prefix_anywhere ps s h = same_prefix (nodes_of ps) [] s h

-- ---- numbers alone

pub number_with_steps : (nodes : List PathNode) (p : Primary) (steps : List Accessor)
    → 1 ≤ length steps
    → number_alone (expression (syntax.chain p (accessors_of nodes steps))) ≡ None
number_with_steps nodes p [] h = absurd (omega arith)
number_with_steps nodes p (a ∷ steps) h = refl

pub number_without_steps : (nodes : List PathNode) (p : Primary) (steps : List Accessor)
    → length steps < 1
    → number_alone (expression (syntax.chain p (accessors_of nodes steps))) ≡ literal_number p
number_without_steps nodes p [] h = refl
number_without_steps nodes p (a ∷ steps) h = absurd (omega arith)

pub grown_parts : (a b : List Part) → PartsGrow a b → IsTrue (are_parts_after [] b)
grown_parts a b g = g.parts

pub ruleset grammar = (
  grown_parts,
  accessors_onto,
  all_onto,
  pushed_grows,
  pushed_node,
  number_with_steps,
  number_without_steps,
  grown_same,
  grown_twice,
  grown_operand,
  grown_node,
  grown_part,
  grown_part_node,
  grown_accessor,
  grown_accessor_of,
  grown_subscripts,
  grown_subscripts_of,
  subscripts_onto,
  source_anywhere,
  primary_anywhere,
  accessor_anywhere,
  accessor_of_anywhere,
  prefix_anywhere,
)
