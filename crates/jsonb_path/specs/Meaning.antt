-- What a path means over a document.
use Rattle.std.specs.Prelude.{ℕ, zero, suc, ℤ, pos, negsuc, ◌-ℤ◌, Bool, true, false, List, [], ◌∷◌}
use Rattle.std.specs.Prelude.{◌++◌, ◌&&◌, ◌||◌, not, nat_le, int_le, int_lt, if◌then◌else◌}
use Rattle.std.specs.Prelude.{codes, length, Option, None, Some, Result, Ok, Err}
use Rattle.std.specs.Cmp.Lexicographic.{pointwise}
use Rattle.std.specs.Prelude.{nat_eq}
use Rattle.jsonb_value.specs.declared.number.Number.{Number}
use Rattle.jsonb_value.specs.NumCode.{is_within}
use Rattle.jsonb_value.specs.Order.{fraction_of}
use Rattle.jsonb_value.specs.Tree.{Tree, null, boolean, number, text, extension, array, object}
use Rattle.jsonb_value.specs.Tree.{Trees, no_trees, tree, Pairs, no_pairs, pair, Extension}
use Rattle.jsonb_value.specs.Tree.{binary, date, timestamp, timestamp_tz, interval, opaque}
use Rattle.jsonb_value.specs.declared.number.Number.TheVariants.{Int64, UInt64}
use Rattle.jsonb_path.specs.declared.compare.Truth.{Truth}
use Rattle.jsonb_path.specs.declared.compare.Truth.TheVariants.{True, False, Unknown}
use Rattle.jsonb_path.specs.declared.number.NumberError.{NumberError}
use Rattle.jsonb_path.specs.declared.number.NumberError.TheVariants as faults
use Rattle.jsonb_path.specs.declared.path.Level.{Level}
use Rattle.jsonb_path.specs.declared.path.Level.TheVariants as levels
use Rattle.jsonb_path.specs.declared.path.Method.{Method}
use Rattle.jsonb_path.specs.declared.path.Method.TheVariants as methods
use Rattle.jsonb_path.specs.declared.path.Mode.{Mode}
use Rattle.jsonb_path.specs.declared.path.Mode.TheVariants.{Lax, Strict}
use Rattle.jsonb_path.specs.declared.path.Operator.{Operator}
use Rattle.jsonb_path.specs.declared.path.Operator.TheVariants as operators
use Rattle.jsonb_path.specs.declared.path.PathError.{PathError}
use Rattle.jsonb_path.specs.declared.path.PathError.TheVariants as errors
use Rattle.jsonb_path.specs.declared.path.Sign.{Sign}
use Rattle.jsonb_path.specs.declared.path.Sign.TheVariants.{Plus, Minus}
use Rattle.jsonb_path.specs.Arithmetic.{sum, difference, product, negated, unsigned, floor_of}
use Rattle.jsonb_path.specs.Arithmetic.{ceiling_of, whole_part_of, number_within, remainder_within}
use Rattle.jsonb_path.specs.Comparison.{both, either, negation, unknown, compares, starts_with}
use Rattle.jsonb_path.specs.Comparison.{comparand_of, truth_of}
use Rattle.jsonb_path.specs.Syntax.{Expression, Primary, Accessor, Accessors, Subscripts, Predicate}
use Rattle.jsonb_path.specs.Syntax as syntax

-- What an expression gives: values in order, then an end or an error.
pub record Outcome : Type 0 where
  pub values : List Tree
  pub error : Option PathError

abbrev pub gives : List Tree → Outcome
gives vs = record { values = vs; error = None }

abbrev pub fails : PathError → Outcome
fails e = record { values = []; error = Some e }

-- The first outcome, and after its values the second, unless it ends with an error.
abbrev pub before_end : List Tree → Option PathError → Outcome → Outcome
before_end vs None o = record { values = vs ++ o.values; error = o.error }
before_end vs (Some e) o = record { values = vs; error = Some e }

abbrev pub joined : Outcome → Outcome → Outcome
joined o p = before_end o.values o.error p

abbrev pub each : (Tree → Outcome) → List Tree → Option PathError → Outcome
each step [] end = record { values = []; error = end }
each step (v ∷ vs) end = before_end (step v).values (step v).error (each step vs end)

-- What a step gives of each value, joined: the first error ends it, and what came before stays.
abbrev pub through : (Tree → Outcome) → Outcome → Outcome
through step o = each step o.values o.error

-- Where an expression is asked: of a document, in a filter of `current`, and in a subscript of an
-- array whose last index is `last`. What is not there is passed over, or refused.
pub record Place : Type 0 where
  pub mode : Mode
  pub forgives : Bool
  pub root : Tree
  pub current : Tree
  pub last : ℤ
  pub variables : List (List ℕ × Tree)

-- Nothing, or the error where nothing is forgiven.
abbrev pub unless_forgiven : Place → PathError → Outcome
unless_forgiven place e = if place.forgives then gives [] else fails e

abbrev pub list_of : Trees → List Tree
list_of no_trees = []
list_of (tree t ts) = t ∷ list_of ts

-- In lax the items of an array; otherwise the value itself.
abbrev pub unwrapped : Mode → Tree → List Tree
unwrapped Lax (array ts) = list_of ts
unwrapped mode t = t ∷ []

abbrev pub all_unwrapped : Mode → List Tree → List Tree
all_unwrapped mode [] = []
all_unwrapped mode (t ∷ ts) = unwrapped mode t ++ all_unwrapped mode ts

-- The items of an array; in lax any other value is the one item of an array.
abbrev pub items_of : Mode → Tree → Option (List Tree)
items_of mode (array ts) = Some (list_of ts)
items_of Lax t = Some (t ∷ [])
items_of Strict t = None

abbrev pub given : Place → Option (List Tree) → (List Tree → Outcome) → Outcome
given place None ask = unless_forgiven place errors.ArrayNotFound
given place (Some ts) ask = ask ts

-- What is asked of the items of an array.
abbrev pub of_items : Place → (List Tree → Outcome) → Tree → Outcome
of_items place ask t = given place (items_of place.mode t) ask

-- In lax an array is not asked itself: its items are.
abbrev pub of_each : Place → (Tree → Outcome) → Tree → Outcome
of_each place ask t = each ask (unwrapped place.mode t) None

-- ---- members

abbrev pub keys_of : Pairs → List Tree
keys_of no_pairs = []
keys_of (pair k t ps) = text k ∷ keys_of ps

abbrev pub values_of : Pairs → List Tree
values_of no_pairs = []
values_of (pair k t ps) = t ∷ values_of ps

abbrev pub values_named : List ℕ → Pairs → List Tree
values_named name no_pairs = []
values_named name (pair k t ps) =
    if pointwise nat_eq name k then t ∷ [] else values_named name ps

abbrev pub found : Place → List Tree → Outcome
found place [] = unless_forgiven place errors.MemberNotFound
found place (t ∷ ts) = gives (t ∷ ts)

-- The value of the member of this name.
abbrev pub member_of : Place → List ℕ → Tree → Outcome
member_of place name (object ps) = found place (values_named name ps)
member_of place name t = unless_forgiven place errors.MemberNotFound

-- The values of all members, in their order.
abbrev pub members_of : Place → Tree → Outcome
members_of place (object ps) = gives (values_of ps)
members_of place t = unless_forgiven place errors.ObjectNotFound

-- The names or the values of all members, of an object alone.
abbrev pub pairs_in : (Pairs → List Tree) → Tree → Outcome
pairs_in part (object ps) = gives (part ps)
pairs_in part t = fails errors.ObjectNotFound

-- ---- descendants

-- Whether a value so far below is meant: `last` means those that hold none.
abbrev pub is_meant : Level → Level → ℕ → Bool → Bool
is_meant (levels.Number a) (levels.Number b) level holds = nat_le a level && nat_le level b
is_meant (levels.Number a) levels.Last level holds = nat_le a level
is_meant levels.Last (levels.Number b) level holds = false
is_meant levels.Last levels.Last level holds = not holds

abbrev pub is_container : Tree → Bool
is_container (array ts) = true
is_container (object ps) = true
is_container t = false

abbrev pub meant : Level → Level → ℕ → Tree → List Tree
meant a b level t = if is_meant a b level (is_container t) then t ∷ [] else []

abbrev mutual
  -- The values below, each before those below it, as far as their levels are meant.
  pub below : Level → Level → ℕ → Tree → List Tree
  below a b level null = []
  below a b level (boolean x) = []
  below a b level (number x) = []
  below a b level (text x) = []
  below a b level (extension x) = []
  below a b level (array ts) = below_items a b level ts
  below a b level (object ps) = below_members a b level ps

  pub below_items : Level → Level → ℕ → Trees → List Tree
  below_items a b level no_trees = []
  below_items a b level (tree t ts) =
      meant a b (suc level) t ++ (below a b (suc level) t ++ below_items a b level ts)

  pub below_members : Level → Level → ℕ → Pairs → List Tree
  below_members a b level no_pairs = []
  below_members a b level (pair k t ps) =
      meant a b (suc level) t ++ (below a b (suc level) t ++ below_members a b level ps)

-- The value itself is at level 0.
abbrev pub itself : Level → Tree → List Tree
itself (levels.Number zero) t = t ∷ []
itself a t = []

-- ---- methods

abbrev pub extension_name : Extension → List ℕ
extension_name (binary bytes) = codes "binary"
extension_name (date d) = codes "date"
extension_name (timestamp t) = codes "timestamp"
extension_name (timestamp_tz t) = codes "timestamp_tz"
extension_name (interval i) = codes "interval"
extension_name (opaque tag bytes) = codes "opaque"

abbrev pub type_name : Tree → List ℕ
type_name null = codes "null"
type_name (boolean b) = codes "boolean"
type_name (number x) = codes "number"
type_name (text s) = codes "string"
type_name (extension e) = extension_name e
type_name (array ts) = codes "array"
type_name (object ps) = codes "object"

abbrev fault_of : NumberError → PathError
fault_of faults.DivisionByZero = errors.DivisionByZero
fault_of faults.OutOfRange = errors.OutOfRange

-- The number, or why there is none.
abbrev pub calculated : Result Number NumberError → Outcome
calculated (Ok x) = gives (number x ∷ [])
calculated (Err e) = fails (fault_of e)

abbrev pub of_number : PathError → (Number → Outcome) → Tree → Outcome
of_number e ask (number x) = ask x
of_number e ask t = fails e

abbrev whole_within : ℤ → Outcome
whole_within z = calculated (number_within (record { value = z; scale = 0 }))

-- What a method gives of a value.
abbrev pub called : Place → Method → Tree → Outcome
called place methods.Type t = gives (text (type_name t) ∷ [])
called place methods.Size t =
    of_items place (λ ts. gives (number (UInt64 (length ts)) ∷ [])) t
called place methods.Abs t =
    of_each place (of_number errors.NonNumericItem
    (λ x. calculated (number_within (unsigned (fraction_of x))))) t
called place methods.Floor t =
    of_each place (of_number errors.NonNumericItem (λ x. whole_within (floor_of (fraction_of x)))) t
called place methods.Ceiling t =
    of_each place (of_number errors.NonNumericItem
    (λ x. whole_within (ceiling_of (fraction_of x)))) t
called place methods.MemberNames t = of_each place (pairs_in keys_of) t
called place methods.MemberValues t = of_each place (pairs_in values_of) t

-- ---- arithmetic

abbrev pub operated : Operator → Number → Number → Result Number NumberError
operated operators.Add x y = number_within (sum (fraction_of x) (fraction_of y))
operated operators.Subtract x y = number_within (difference (fraction_of x) (fraction_of y))
operated operators.Multiply x y = number_within (product (fraction_of x) (fraction_of y))
operated operators.Remainder x y = remainder_within (fraction_of x) (fraction_of y)

-- Exactly one number, or the error.
abbrev pub only_number : PathError → (Number → Outcome) → List Tree → Outcome
only_number e ask (number x ∷ []) = ask x
only_number e ask ts = fails e

abbrev before : Option PathError → Outcome → Outcome
before None o = o
before (Some e) o = fails e

-- What two lists of values give, one number each; the left side is looked at first.
abbrev on_numbers : Operator → List Tree → List Tree → Outcome
on_numbers op xs ys =
    only_number errors.SingletonRequired (λ x. only_number errors.SingletonRequired
    (λ y. calculated (operated op x y)) ys) xs

-- An operator over what both sides give: an error of either is that of the whole.
abbrev pub computed : Mode → Operator → Outcome → Outcome → Outcome
computed mode op o p =
    before o.error (before p.error
    (on_numbers op (all_unwrapped mode o.values) (all_unwrapped mode p.values)))

abbrev pub signed_as : Sign → Number → Result Number NumberError
signed_as Plus x = Ok x
signed_as Minus x = number_within (negated (fraction_of x))

-- A sign before each value, once all are there.
abbrev pub with_sign : Mode → Sign → Outcome → Outcome
with_sign mode sign o =
    before o.error
    (each (of_number errors.NumberNotFound (λ x. calculated (signed_as sign x)))
    (all_unwrapped mode o.values) None)

-- ---- subscripts

abbrev pub index_number : ℤ → Number
index_number (pos n) = UInt64 n
index_number (negsuc n) = Int64 (negsuc n)

abbrev pub cut : ℤ → Result ℤ PathError
cut z = if is_within 31 z then Ok z else Err errors.InvalidSubscript

abbrev pub one_index : List Tree → Result ℤ PathError
one_index (number x ∷ []) = cut (whole_part_of (fraction_of x))
one_index ts = Err errors.InvalidSubscript

abbrev index_unless : Option PathError → List Tree → Result ℤ PathError
index_unless None ts = one_index ts
index_unless (Some e) ts = Err e

-- The index that an expression gives: one number, cut towards zero, of 32 bits.
abbrev pub index_in : Outcome → Result ℤ PathError
index_in o = index_unless o.error o.values

abbrev pub taken : ℕ → ℤ → ℤ → List Tree → List Tree
taken at first last [] = []
taken at first last (t ∷ ts) =
    if int_le first (pos at) && int_le (pos at) last then t ∷ taken (suc at) first last ts
    else taken (suc at) first last ts

abbrev pub in_bounds : ℤ → ℤ → ℕ → Bool
in_bounds first last n = int_le (pos 0) first && int_le first last && int_lt last (pos n)

-- The items from the first index to the last one. Where they are out of bounds, those that there
-- are, or the error where nothing is forgiven.
abbrev pub items_between : Bool → Result ℤ PathError → Result ℤ PathError → List Tree → Outcome
items_between forgives (Err e) last ts = fails e
items_between forgives (Ok first) (Err e) ts = fails e
items_between forgives (Ok first) (Ok last) ts =
    if forgives || in_bounds first last (length ts) then gives (taken 0 first last ts)
    else fails errors.InvalidSubscript

-- ---- tests

abbrev pub is_true : Truth → Bool
is_true True = true
is_true False = false
is_true Unknown = false

-- A truth as a value: null is unknown.
abbrev pub truth_value : Truth → Tree
truth_value True = boolean true
truth_value False = boolean false
truth_value Unknown = null

abbrev pub row : (Tree → Truth) → List Tree → List Truth
row test [] = []
row test (u ∷ us) = test u ∷ row test us

abbrev pub table : (Tree → Tree → Truth) → List Tree → List Tree → List Truth
table test [] us = []
table test (t ∷ ts) us = row (test t) us ++ table test ts us

abbrev pub some_true : List Truth → Truth
some_true [] = False
some_true (t ∷ ts) = either t (some_true ts)

abbrev pub some_unknown : List Truth → Bool
some_unknown [] = false
some_unknown (Unknown ∷ ts) = true
some_unknown (t ∷ ts) = some_unknown ts

-- Whether some pair passes: in lax also beside unknown ones, in strict only if none is unknown.
abbrev pub some_passes : Mode → List Truth → Truth
some_passes Lax ts = some_true ts
some_passes Strict ts = if some_unknown ts then Unknown else some_true ts

abbrev known : Option PathError → Truth → Truth
known None t = t
known (Some e) t = Unknown

-- Whether some value of the left side passes with one of the right side.
abbrev pub some_pair : Mode → (Tree → Tree → Truth) → Outcome → Outcome → Truth
some_pair mode test o p =
    known o.error (known p.error (some_passes mode (table test o.values p.values)))

abbrev pub in_lax_unwrapped : Mode → Outcome → Outcome
in_lax_unwrapped mode o = record { values = all_unwrapped mode o.values; error = o.error }

abbrev exists_before : Mode → Option PathError → List Tree → Truth
exists_before mode None [] = False
exists_before mode None (t ∷ ts) = True
exists_before mode (Some e) [] = Unknown
exists_before Lax (Some e) (t ∷ ts) = True
exists_before Strict (Some e) (t ∷ ts) = Unknown

-- Whether there is a value: in lax also one before an error.
abbrev pub exists_in : Mode → Outcome → Truth
exists_in mode o = exists_before mode o.error o.values

-- The truth that a value is: null is unknown.
abbrev pub truth_in : Tree → Option Truth
truth_in (boolean b) = Some (truth_of b)
truth_in null = Some Unknown
truth_in t = None

-- The truth of a list of one value.
abbrev pub lone_truth : List Tree → Option Truth
lone_truth [] = None
lone_truth (t ∷ []) = truth_in t
lone_truth (t ∷ u ∷ us) = None

abbrev match_before : Option PathError → Option Truth → Result Truth PathError
match_before (Some e) found = Err e
match_before None (Some truth) = Ok truth
match_before None None = Err errors.BooleanRequired

-- The truth that is the one value, or the error by which there is none.
abbrev pub match_in : Outcome → Result Truth PathError
match_in o = match_before o.error (lone_truth o.values)

-- A silent call hides all errors but that of a variable that is not given.
abbrev pub is_hidden : PathError → Bool
is_hidden errors.UndefinedVariable = false
is_hidden e = true

-- ---- the whole

abbrev pub given_as : List ℕ → List (List ℕ × Tree) → Outcome
given_as name [] = fails errors.UndefinedVariable
given_as name (v ∷ vs) =
    if pointwise nat_eq name v.0 then gives (v.1 ∷ []) else given_as name vs

-- All errors of what is not there are forgiven after `.**`, also in strict.
abbrev pub past : Place → Accessor → Place
past place (syntax.descendants a b) = record place { forgives = true }
past place a = place

abbrev mutual
  -- What an expression gives at a place.
  pub follow : Place → Expression → Outcome
  follow place (syntax.chain p steps) = along place steps (begin place p)
  follow place (syntax.signed sign e) = with_sign place.mode sign (follow place e)
  follow place (syntax.arithmetic op e f) =
      computed place.mode op (follow place e) (follow place f)
  follow place (syntax.tested p) = gives (truth_value (judge place p) ∷ [])

  pub begin : Place → Primary → Outcome
  begin place syntax.root = gives (place.root ∷ [])
  begin place syntax.current = gives (place.current ∷ [])
  begin place syntax.last = gives (number (index_number place.last) ∷ [])
  begin place (syntax.literal t) = gives (t ∷ [])
  begin place (syntax.variable name) = given_as name place.variables
  begin place (syntax.inner e) = follow place e

  -- One accessor after the other.
  pub along : Place → Accessors → Outcome → Outcome
  along place syntax.no_accessors o = o
  along place (syntax.accessor a steps) o =
      along (past place a) steps (through (λ t. access place a t) o)

  -- What an accessor gives of one value.
  pub access : Place → Accessor → Tree → Outcome
  access place (syntax.member name) t = of_each place (member_of place name) t
  access place syntax.all_members t = of_each place (members_of place) t
  access place syntax.all_items t = of_items place gives t
  access place (syntax.items_at subscripts) t =
      of_items place (λ ts. select (record place { last = pos (length ts) -ℤ pos 1 }) subscripts ts)
      t
  access place (syntax.descendants a b) t = gives (itself a t ++ below a b 0 t)
  access place (syntax.filter p) t =
      of_each place
      (λ u. gives (if is_true (judge (record place { current = u }) p) then u ∷ [] else [])) t
  access place (syntax.method m) t = called place m t

  -- The items that subscripts name, in their order.
  pub select : Place → Subscripts → List Tree → Outcome
  select place syntax.no_subscripts ts = gives []
  select place (syntax.index e rest) ts =
      let at = index_in (follow place e) in
      joined (items_between place.forgives at at ts) (select place rest ts)
  select place (syntax.range e f rest) ts =
      joined
      (items_between place.forgives (index_in (follow place e)) (index_in (follow place f)) ts)
      (select place rest ts)

  -- Whether a test holds at a place.
  pub judge : Place → Predicate → Truth
  judge place (syntax.conjunction p q) = both (judge place p) (judge place q)
  judge place (syntax.disjunction p q) = either (judge place p) (judge place q)
  judge place (syntax.denial p) = negation (judge place p)
  judge place (syntax.is_unknown p) = unknown (judge place p)
  judge place (syntax.comparison c e f) =
      some_pair place.mode (λ t u. compares c (comparand_of t) (comparand_of u))
      (in_lax_unwrapped place.mode (follow place e)) (in_lax_unwrapped place.mode (follow place f))
  judge place (syntax.starting e f) =
      some_pair place.mode (λ t u. starts_with (comparand_of t) (comparand_of u))
      (in_lax_unwrapped place.mode (follow place e)) (follow place f)
  judge place (syntax.exists e) = exists_in place.mode (follow place e)

abbrev mutual
  -- The variables that a path names.
  pub names_in : Expression → List (List ℕ)
  names_in (syntax.chain p steps) = names_begin p ++ names_along steps
  names_in (syntax.signed sign e) = names_in e
  names_in (syntax.arithmetic op e f) = names_in e ++ names_in f
  names_in (syntax.tested p) = names_judged p

  pub names_begin : Primary → List (List ℕ)
  names_begin syntax.root = []
  names_begin syntax.current = []
  names_begin syntax.last = []
  names_begin (syntax.literal t) = []
  names_begin (syntax.variable name) = name ∷ []
  names_begin (syntax.inner e) = names_in e

  pub names_along : Accessors → List (List ℕ)
  names_along syntax.no_accessors = []
  names_along (syntax.accessor a steps) = names_access a ++ names_along steps

  pub names_access : Accessor → List (List ℕ)
  names_access (syntax.member name) = []
  names_access syntax.all_members = []
  names_access syntax.all_items = []
  names_access (syntax.items_at subscripts) = names_select subscripts
  names_access (syntax.descendants a b) = []
  names_access (syntax.filter p) = names_judged p
  names_access (syntax.method m) = []

  pub names_select : Subscripts → List (List ℕ)
  names_select syntax.no_subscripts = []
  names_select (syntax.index e rest) = names_in e ++ names_select rest
  names_select (syntax.range e f rest) = names_in e ++ (names_in f ++ names_select rest)

  pub names_judged : Predicate → List (List ℕ)
  names_judged (syntax.conjunction p q) = names_judged p ++ names_judged q
  names_judged (syntax.disjunction p q) = names_judged p ++ names_judged q
  names_judged (syntax.denial p) = names_judged p
  names_judged (syntax.is_unknown p) = names_judged p
  names_judged (syntax.comparison c e f) = names_in e ++ names_in f
  names_judged (syntax.starting e f) = names_in e ++ names_in f
  names_judged (syntax.exists e) = names_in e

abbrev pub is_given : List (List ℕ × Tree) → List ℕ → Bool
is_given [] name = false
is_given (v ∷ vs) name = pointwise nat_eq name v.0 || is_given vs name

abbrev pub all_given : List (List ℕ × Tree) → List (List ℕ) → Bool
all_given vs [] = true
all_given vs (name ∷ names) = is_given vs name && all_given vs names

abbrev pub is_lax : Mode → Bool
is_lax Lax = true
is_lax Strict = false

-- A path: whether what is not there is passed over, and what it asks.
pub record Query : Type 0 where
  pub mode : Mode
  pub tree : Expression

-- What a path gives of a document with these variables: all variables are looked for first.
abbrev pub path_gives : Query → List (List ℕ × Tree) → Tree → Outcome
path_gives query variables t =
    if all_given variables (names_in query.tree) then follow record {
      mode = query.mode;
      forgives = is_lax query.mode;
      root = t;
      current = t;
      last = pos 0;
      variables = variables;
    } query.tree else fails errors.UndefinedVariable
