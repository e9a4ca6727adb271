-- What paths give of documents, the rows of a table that a server answered, and how their texts are
-- read.
use Rattle.std.specs.Prelude.{◌≡◌, pos, List, [], ◌∷◌, codes, None, Some, true, false}
use Prim.Native.String.{String}
use Rattle.jsonb_value.specs.Notation.{whole, scaled, string, items, members, neg}
use Rattle.jsonb_value.specs.Tree.{Tree, null, boolean, number}
use Rattle.jsonb_value.specs.declared.number.Number.TheVariants.{Int64}
use Rattle.jsonb_path.specs.declared.compare.Comparison.TheVariants.{Equal, NotEqual, Greater}
use Rattle.jsonb_path.specs.declared.path.Level.TheVariants as levels
use Rattle.jsonb_path.specs.declared.path.Method.TheVariants as methods
use Rattle.jsonb_path.specs.declared.path.Mode.TheVariants.{Lax, Strict}
use Rattle.jsonb_path.specs.declared.path.Operator.TheVariants.{Add, Subtract, Multiply}
use Rattle.jsonb_path.specs.declared.path.PathError.{PathError}
use Rattle.jsonb_path.specs.declared.path.PathError.TheVariants as errors
use Rattle.jsonb_path.specs.declared.path.Sign.TheVariants.{Minus}
use Rattle.jsonb_path.specs.Grammar.{path_of_text}
use Rattle.jsonb_path.specs.Meaning.{Outcome, gives, path_gives}
use Rattle.jsonb_path.specs.Syntax.{Expression, Accessor, Accessors}
use Rattle.jsonb_path.specs.Syntax.{chain, signed, arithmetic, tested, root, current, last, literal}
use Rattle.jsonb_path.specs.Syntax.{variable, inner, member, all_members, all_items, items_at}
use Rattle.jsonb_path.specs.Syntax.{descendants, filter, method, no_accessors, accessor}
use Rattle.jsonb_path.specs.Syntax.{no_subscripts, index, range, conjunction, disjunction, denial}
use Rattle.jsonb_path.specs.Syntax.{is_unknown, comparison, starting, exists}

-- ---- short forms

abbrev steps : List Accessor → Accessors
steps [] = no_accessors
steps (a ∷ rest) = accessor a (steps rest)

-- `$` and `@` with accessors, and literals.
abbrev from_root : List Accessor → Expression
from_root accessors = chain root (steps accessors)

abbrev from_current : List Accessor → Expression
from_current accessors = chain current (steps accessors)

abbrev value : Tree → Expression
value t = chain (literal t) no_accessors

abbrev last_index : Expression
last_index = chain last no_accessors

abbrev key : String → Accessor
key name = member (codes name)

abbrev item : Expression → Accessor
item e = items_at (index e no_subscripts)

abbrev items_in : Expression → Expression → Accessor
items_in e f = items_at (range e f no_subscripts)

-- What a path gives in each mode, and an error after values.
abbrev lax : Expression → Tree → Outcome
lax e t = path_gives (record { mode = Lax; tree = e }) [] t

abbrev strict : Expression → Tree → Outcome
strict e t = path_gives (record { mode = Strict; tree = e }) [] t

abbrev ends : List Tree → PathError → Outcome
ends ts e = record { values = ts; error = Some e }

-- ---- documents

abbrev a_1 : Tree
a_1 = members (("a", whole 1) ∷ [])

abbrev one_two_three : Tree
one_two_three = items (whole 1 ∷ whole 2 ∷ whole 3 ∷ [])

abbrev three_objects : Tree
three_objects =
    items (a_1 ∷ members (("b", whole 2) ∷ []) ∷ members (("a", whole 3) ∷ []) ∷ [])

abbrev b_in_a : Tree
b_in_a = members (("a", items (members (("b", whole 2) ∷ []) ∷ [])) ∷ [])

abbrev two_arrays : Tree
two_arrays = items (items (whole 1 ∷ whole 5 ∷ []) ∷ items (whole 2 ∷ []) ∷ [])

abbrev mixed : Tree
mixed = items (whole 1 ∷ string "a" ∷ null ∷ boolean true ∷ items (whole 1 ∷ []) ∷ [])

-- Members.
pub record MemberExamples : Type 0 where
  pub member : lax (from_root (key "a" ∷ [])) a_1 ≡ gives (whole 1 ∷ [])
  pub no_member : strict (from_root (key "b" ∷ [])) a_1 ≡ ends [] errors.MemberNotFound
  pub of_items : lax (from_root (key "a" ∷ [])) three_objects ≡ gives (whole 1 ∷ whole 3 ∷ [])
  pub of_array : strict (from_root (key "a" ∷ [])) three_objects ≡ ends [] errors.MemberNotFound
  pub unwrapped_once : lax (from_root (key "a" ∷ [])) (items (items (a_1 ∷ []) ∷ [])) ≡ gives []
  pub of_each_item : lax (from_root (all_items ∷ key "a" ∷ [])) (items (items (a_1 ∷ []) ∷ []))
      ≡ gives (whole 1 ∷ [])
  pub of_number : lax (from_root (key "a" ∷ [])) (whole 1) ≡ gives []
  pub all : lax (from_root (all_members ∷ [])) (members (("bb", whole 1) ∷ ("c", whole 2) ∷ []))
      ≡ gives (whole 1 ∷ whole 2 ∷ [])
  pub all_of_array : strict (from_root (all_members ∷ [])) (items (a_1 ∷ []))
      ≡ ends [] errors.ObjectNotFound
  pub names : lax (from_root (method methods.MemberNames ∷ [])) (items (a_1 ∷ []))
      ≡ gives (string "a" ∷ [])

-- Subscripts.
pub record SubscriptExamples : Type 0 where
  pub of_number : lax (from_root (item (value (whole 0)) ∷ [])) (whole 1) ≡ gives (whole 1 ∷ [])
  pub of_no_array : strict (from_root (item (value (whole 0)) ∷ [])) (whole 1)
      ≡ ends [] errors.ArrayNotFound
  pub past_the_end : lax (from_root
      (items_in (arithmetic Subtract last_index (value (whole 1))) (value (whole 7)) ∷ []))
      one_two_three ≡ gives (whole 2 ∷ whole 3 ∷ [])
  pub out_of_bounds : strict (from_root (items_in (value (whole 1)) (value (whole 3)) ∷ []))
      one_two_three ≡ ends [] errors.InvalidSubscript
  pub in_their_order : lax (from_root (items_at (index (value (whole 2)) (index (value (whole 0))
      (range (value (whole 0)) (value (whole 1)) no_subscripts))) ∷ [])) one_two_three
      ≡ gives (whole 3 ∷ whole 1 ∷ whole 1 ∷ whole 2 ∷ [])
  pub cut_towards_zero : lax (from_root (items_at (index (value (number (scaled (pos 19) 1)))
      (index (value (number (scaled (neg 9) 1))) no_subscripts)) ∷ [])) one_two_three
      ≡ gives (whole 2 ∷ whole 1 ∷ [])
  pub below_zero : lax (from_root (item (value (number (Int64 (neg 1)))) ∷ [])) one_two_three
      ≡ gives []
  pub text : lax (from_root (item (value (string "a")) ∷ [])) one_two_three
      ≡ ends [] errors.InvalidSubscript
  pub past_32_bits : lax (from_root (item (value (whole 2147483648)) ∷ [])) one_two_three
      ≡ ends [] errors.InvalidSubscript
  pub turned : strict (from_root (items_in (value (whole 2)) (value (whole 1)) ∷ []))
      one_two_three ≡ ends [] errors.InvalidSubscript
  pub last_of_none : strict (from_root (item last_index ∷ [])) (items [])
      ≡ ends [] errors.InvalidSubscript
  pub of_the_document : lax (from_root (item (from_root (item (value (whole 1)) ∷ [])) ∷ []))
      (items (whole 5 ∷ whole 1 ∷ [])) ≡ gives (whole 1 ∷ [])
  pub array : lax (from_root (item (from_root []) ∷ [])) (items (whole 0 ∷ []))
      ≡ ends [] errors.InvalidSubscript

-- `.**`
pub record DescendantExamples : Type 0 where
  pub at_a_level : lax
      (from_root (descendants (levels.Number 2) (levels.Number 2) ∷ []))
      (members (("a", items (whole 1 ∷ members (("b", whole 2) ∷ []) ∷ [])) ∷ []))
      ≡ gives (whole 1 ∷ members (("b", whole 2) ∷ []) ∷ [])
  pub scalars : lax (from_root (descendants levels.Last levels.Last ∷ []))
      (members (("a", items (whole 1 ∷ members (("b", whole 2) ∷ []) ∷ [])) ∷ []))
      ≡ gives (whole 1 ∷ whole 2 ∷ [])
  pub of_scalar : lax (from_root (descendants levels.Last levels.Last ∷ [])) (whole 1) ≡ gives []
  pub met_twice : lax (from_root (descendants (levels.Number 0) levels.Last ∷ key "b" ∷ [])) b_in_a
      ≡ gives (whole 2 ∷ whole 2 ∷ [])
  pub forgiven : strict (from_root (descendants (levels.Number 0) levels.Last ∷ key "b" ∷ []))
      b_in_a ≡ gives (whole 2 ∷ [])

-- Filters.
pub record FilterExamples : Type 0 where
  pub of_array : strict
      (from_root (filter (comparison Greater (from_current []) (value (whole 1))) ∷ []))
      one_two_three ≡ gives []
  pub of_items : lax
      (from_root (filter (comparison Greater (from_current []) (value (whole 1))) ∷ []))
      two_arrays ≡ gives (items (whole 1 ∷ whole 5 ∷ []) ∷ items (whole 2 ∷ []) ∷ [])
  pub unwrapped_again : lax
      (from_root (all_items ∷ filter (comparison Greater (from_current []) (value (whole 1))) ∷ []))
      two_arrays ≡ gives (whole 5 ∷ whole 2 ∷ [])
  pub differing : strict
      (from_root (all_items ∷ filter (comparison NotEqual (from_current []) (value (whole 1)))
      ∷ [])) mixed ≡ gives (null ∷ [])
  pub not_known : strict (from_root (all_items ∷ filter (is_unknown
      (comparison NotEqual (from_current []) (value (whole 1)))) ∷ [])) mixed
      ≡ gives (string "a" ∷ boolean true ∷ items (whole 1 ∷ []) ∷ [])
  pub error_within : strict (from_root (key "a" ∷ filter (denial
      (comparison Equal (from_current (key "b" ∷ [])) (value (whole 1)))) ∷ [])) a_1 ≡ gives []
  pub nothing_within : lax (from_root (key "a" ∷ filter (denial
      (comparison Equal (from_current (key "b" ∷ [])) (value (whole 1)))) ∷ [])) a_1
      ≡ gives (whole 1 ∷ [])
  pub unknown_or_true : lax (from_root (key "a" ∷ filter (disjunction
      (comparison Greater (from_current []) (value (whole 1)))
      (comparison Equal (value (whole 1)) (value (whole 1)))) ∷ []))
      (members (("a", string "x") ∷ [])) ≡ gives (string "x" ∷ [])
  pub sum_within : lax (from_root (key "a" ∷ filter (is_unknown (comparison Greater
      (arithmetic Add (from_current []) (value (whole 1))) (value (whole 1)))) ∷ []))
      (members (("a", string "x") ∷ [])) ≡ gives (string "x" ∷ [])
  pub type_of_items : lax (from_root (all_items ∷ filter (comparison Equal
      (from_current (method methods.Type ∷ [])) (value (string "array"))) ∷ []))
      (items (items (whole 1 ∷ whole 2 ∷ []) ∷ [])) ≡ gives []
  pub then_member : lax (from_root (key "a" ∷ filter (comparison Greater
      (from_current (key "b" ∷ [])) (value (whole 1))) ∷ key "b" ∷ []))
      (members ((
        "a",
        items (members (("b", whole 1) ∷ []) ∷ members (("b", whole 2) ∷ [])
            ∷ []),
      ) ∷ [])) ≡ gives (whole 2 ∷ [])
  pub variable_missing : lax (from_root (all_items ∷ filter (comparison Equal (from_current [])
      (chain (variable (codes "nosuch")) no_accessors)) ∷ []))
      (items (whole 1 ∷ whole 2 ∷ [])) ≡ ends [] errors.UndefinedVariable

-- Tests.
pub record TestExamples : Type 0 where
  pub some_in_lax : lax (tested (comparison Equal (from_root []) (value (whole 1))))
      (items (string "a" ∷ whole 1 ∷ [])) ≡ gives (boolean true ∷ [])
  pub none_in_strict : strict
      (tested (comparison Equal (from_root (all_items ∷ [])) (value (whole 1))))
      (items (string "a" ∷ whole 1 ∷ [])) ≡ gives (null ∷ [])
  pub not_known : lax (tested (comparison Equal (from_root []) (value (whole 1))))
      (items (string "a" ∷ whole 2 ∷ [])) ≡ gives (null ∷ [])
  pub no_pair : lax (tested (comparison NotEqual (from_root []) (value (whole 1)))) (items [])
      ≡ gives (boolean false ∷ [])
  pub error_on_the_right : lax (tested (comparison Equal (from_root (key "b" ∷ []))
      (arithmetic Add (value (whole 1)) (value (string "a"))))) (members [])
      ≡ gives (null ∷ [])
  pub null_and_true : strict (tested (conjunction (exists (from_root (key "x" ∷ [])))
      (comparison Equal (value (whole 1)) (value (whole 1))))) a_1 ≡ gives (null ∷ [])
  pub null_and_false : strict (tested (conjunction (exists (from_root (key "x" ∷ [])))
      (comparison Equal (value (whole 1)) (value (whole 2))))) a_1 ≡ gives (boolean false ∷ [])
  pub value_before_error : lax (tested (exists
      (from_root (all_items ∷ method methods.Abs ∷ [])))) (items (whole 1 ∷ string "a" ∷ []))
      ≡ gives (boolean true ∷ [])
  pub error_before_value : lax (tested (exists
      (from_root (all_items ∷ method methods.Abs ∷ [])))) (items (string "a" ∷ whole 1 ∷ []))
      ≡ gives (null ∷ [])
  pub starts : strict (tested (starting (from_root (all_items ∷ [])) (value (string "b"))))
      (items (string "abc" ∷ string "b" ∷ whole 1 ∷ [])) ≡ gives (null ∷ [])
  pub type_of_unknown : lax (chain (inner (tested
      (comparison Equal (from_root []) (value (string "a"))))) (steps (method methods.Type ∷ [])))
      (whole 1) ≡ gives (string "null" ∷ [])
  pub no_null : lax (tested (comparison NotEqual (from_root (key "a" ∷ [])) (value null)))
      (members (("a", members (("c", whole 1) ∷ [])) ∷ [])) ≡ gives (boolean true ∷ [])

-- Arithmetic and methods.
pub record NumberExamples : Type 0 where
  pub two_numbers : lax (arithmetic Add (from_root (all_items ∷ [])) (value (whole 1)))
      (items (whole 1 ∷ whole 2 ∷ [])) ≡ ends [] errors.SingletonRequired
  pub one_item : lax (arithmetic Add (from_root []) (value (whole 1))) (items (whole 1 ∷ []))
      ≡ gives (whole 2 ∷ [])
  pub array : strict (arithmetic Add (from_root []) (value (whole 1))) (items (whole 1 ∷ []))
      ≡ ends [] errors.SingletonRequired
  pub negative : lax (signed Minus (from_root [])) (items (whole 1 ∷ string "a" ∷ []))
      ≡ ends (number (Int64 (neg 1)) ∷ []) errors.NumberNotFound
  pub product : lax (arithmetic Multiply (from_root (item (value (whole 0)) ∷ []))
      (from_root (item (value (whole 1)) ∷ [])))
      (items (number (scaled (pos 150) 2) ∷ whole 2 ∷ []))
      ≡ gives (number (scaled (pos 300) 2) ∷ [])
  pub absolute : lax (from_root (all_items ∷ method methods.Abs ∷ []))
      (items (whole 1 ∷ string "a" ∷ [])) ≡ ends (whole 1 ∷ []) errors.NonNumericItem
  pub floor : lax (from_root (method methods.Floor ∷ []))
      (items (number (scaled (neg 150) 2) ∷ number (scaled (pos 21) 1) ∷ []))
      ≡ gives (number (Int64 (neg 2)) ∷ whole 2 ∷ [])
  pub sizes : lax (from_root (all_items ∷ method methods.Size ∷ []))
      (items (items (whole 1 ∷ whole 2 ∷ []) ∷ whole 3 ∷ [])) ≡ gives (whole 2 ∷ whole 1 ∷ [])
  pub size_of_number : strict (from_root (all_items ∷ method methods.Size ∷ []))
      (items (items (whole 1 ∷ whole 2 ∷ []) ∷ whole 3 ∷ []))
      ≡ ends (whole 2 ∷ []) errors.ArrayNotFound

-- A text is read as this in lax, or is no path.
abbrev reads : String → Expression → Type 0
reads s e = path_of_text (codes s) ≡ Some (record { mode = Lax; tree = e })

abbrev is_no_path : String → Type 0
is_no_path s = path_of_text (codes s) ≡ None

-- Texts of paths.
pub record TextExamples : Type 0 where
  pub in_strict : path_of_text (codes "strict$.a")
      ≡ Some (record { mode = Strict; tree = from_root (key "a" ∷ []) })
  pub keys : reads "$.last . \"exists\"" (from_root (key "last" ∷ key "exists" ∷ []))
  pub tighter : reads "1 + 2 * 3" (arithmetic Add (value (whole 1))
      (arithmetic Multiply (value (whole 2)) (value (whole 3))))
  pub to_the_left : reads "1 - 2 - 3" (arithmetic Subtract
      (arithmetic Subtract (value (whole 1)) (value (whole 2))) (value (whole 3)))
  pub in_parentheses : reads "1 - (2 - 3)" (arithmetic Subtract (value (whole 1))
      (arithmetic Subtract (value (whole 2)) (value (whole 3))))
  pub negative : reads "-1" (value (number (Int64 (neg 1))))
  pub twice_negative : reads "- -1" (value (whole 1))
  pub sign_of_a_chain : reads "-1.5.type()" (signed Minus
      (chain (literal (number (scaled (pos 15) 1))) (steps (method methods.Type ∷ []))))
  pub chain_goes_on : reads "($.a)[0]" (from_root (key "a" ∷ item (value (whole 0)) ∷ []))
  pub type_of_test : reads "($ == 1).type()" (chain (inner (tested
      (comparison Equal (from_root []) (value (whole 1))))) (steps (method methods.Type ∷ [])))
  pub and_before_or : reads "exists($) || !($ == 1) && ($ > 1) is unknown" (tested (disjunction
      (exists (from_root [])) (conjunction
      (denial (comparison Equal (from_root []) (value (whole 1))))
      (is_unknown (comparison Greater (from_root []) (value (whole 1)))))))
  pub begins_so : reads "$ starts with \"a\"" (tested (starting (from_root []) (value (string "a"))))
  pub filtered : reads "$?(@.a == $x)" (from_root (filter (comparison Equal
      (from_current (key "a" ∷ [])) (chain (variable (codes "x")) no_accessors)) ∷ []))
  pub last_ones : reads "$[last, 0 to last]" (from_root
      (items_at (index last_index (range (value (whole 0)) last_index no_subscripts)) ∷ []))
  pub below : reads "$.** {1 to last}[*].*"
      (from_root (descendants (levels.Number 1) levels.Last ∷ all_items ∷ all_members ∷ []))
  pub empty : is_no_path ""
  pub compared_twice : is_no_path "1 < 2 < 3"
  pub two_expressions : is_no_path "$.a && $.b"
  pub test_compared : is_no_path "($.a > 1) == true"
  pub current_without_filter : is_no_path "$[@]"
  pub last_without_subscript : is_no_path "last"
  pub denied_twice : is_no_path "!!($ == 1)"
  pub existence_known : is_no_path "exists($) is unknown"
