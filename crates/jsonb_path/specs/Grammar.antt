-- Paths of tokens. Each definition reads a front of tokens, and gives what it is and the tokens
-- after it; `None` if nothing is written so.
use Rattle.std.specs.Prelude.{ℕ, zero, suc, Bool, true, false, not, ◌&&◌, ◌||◌, ◌==◌, nat_eq}
use Rattle.std.specs.Prelude.{if◌then◌else◌, List, [], ◌∷◌, length, map, codes}
use Rattle.std.specs.Prelude.{Option, Some, None, Result, Ok, Err}
use Rattle.jsonb_value.specs.declared.number.Number.{Number}
use Rattle.jsonb_value.specs.Json.Bind.{◌>>=◌}
use Rattle.jsonb_value.specs.Tree as values
use Rattle.jsonb_path.specs.declared.compare.Comparison.TheVariants as comparisons
use Rattle.jsonb_path.specs.declared.number.NumberError.{NumberError}
use Rattle.jsonb_path.specs.declared.path.Mode.{Mode}
use Rattle.jsonb_path.specs.declared.path.Mode.TheVariants.{Lax, Strict}
use Rattle.jsonb_path.specs.declared.path.Operator.TheVariants as operators
use Rattle.jsonb_path.specs.declared.path.Sign.{Sign}
use Rattle.jsonb_path.specs.declared.path.Sign.TheVariants.{Plus, Minus}
use Rattle.jsonb_path.specs.declared.read.infix.Infix.{Infix}
use Rattle.jsonb_path.specs.declared.read.infix.Infix.TheVariants as infixes
use Rattle.jsonb_path.specs.declared.read.infix.Operation.{Operation}
use Rattle.jsonb_path.specs.declared.read.infix.Operation.TheVariants as operations
use Rattle.jsonb_path.specs.declared.read.literal.Scope.{Scope}
use Rattle.jsonb_path.specs.Dotted.{Front, after_mark, after_word, dotted, is_word}
use Rattle.jsonb_path.specs.Height.{is_low}
use Rattle.jsonb_path.specs.Literal.{number_in_tree, prefix_at, primary_at, within_filter}
use Rattle.jsonb_path.specs.Literal.{within_subscript}
use Rattle.jsonb_path.specs.Meaning.{Query, signed_as}
use Rattle.jsonb_path.specs.PathTree.{PathNode, as_expression, as_test, expression, test}
use Rattle.jsonb_path.specs.Syntax.{Expression, Primary, Accessor, Accessors, Subscripts}
use Rattle.jsonb_path.specs.Syntax as syntax
use Rattle.jsonb_path.specs.Token.{Lexeme, Placed, word, mark, two_marks, tokens_of}
use Rattle.jsonb_path.specs.Turns.{Turn, ends_with, goes_on, turns}

-- What reads an expression or a test whose operators bind so loosely at most.
abbrev pub Reading : Type 0
Reading = ℕ → Scope → List Lexeme → Front PathNode

abbrev pub is_test_node : PathNode → Bool
is_test_node (expression e) = false
is_test_node (test p) = true

abbrev pub alone : Primary → PathNode
alone p = expression (syntax.chain p syntax.no_accessors)

-- ---- operators between two operands

-- How loosely an operator binds: `*` and `%`, `+` and `-`, comparisons, `&&`, `||`.
abbrev pub looseness : Infix → ℕ
looseness infixes.StartsWith = 3
looseness (infixes.Operation operations.Or) = 5
looseness (infixes.Operation operations.And) = 4
looseness (infixes.Operation (operations.Compare c)) = 3
looseness (infixes.Operation (operations.Arithmetic operators.Add)) = 2
looseness (infixes.Operation (operations.Arithmetic operators.Subtract)) = 2
looseness (infixes.Operation (operations.Arithmetic operators.Multiply)) = 1
looseness (infixes.Operation (operations.Arithmetic operators.Remainder)) = 1

unfoldable pub operation_of_mark : ℕ → Option Operation
operation_of_mark c =
    if c == 42 then Some (operations.Arithmetic operators.Multiply)
    else if c == 37 then Some (operations.Arithmetic operators.Remainder)
    else if c == 43 then Some (operations.Arithmetic operators.Add)
    else if c == 45 then Some (operations.Arithmetic operators.Subtract)
    else if c == 60 then Some (operations.Compare comparisons.Less)
    else if c == 62 then Some (operations.Compare comparisons.Greater) else None

unfoldable pub operation_of_marks : ℕ → ℕ → Option Operation
operation_of_marks c d =
    if (c == 124) && (d == 124) then Some operations.Or
    else if (c == 38) && (d == 38) then Some operations.And
    else if (c == 61) && (d == 61) then Some (operations.Compare comparisons.Equal)
    else if (c == 33) && (d == 61) then Some (operations.Compare comparisons.NotEqual)
    else if (c == 60) && (d == 62) then Some (operations.Compare comparisons.NotEqual)
    else if (c == 60) && (d == 61) then Some (operations.Compare comparisons.LessOrEqual)
    else if (c == 62) && (d == 61) then Some (operations.Compare comparisons.GreaterOrEqual)
    else None

abbrev pub operation_then : List Lexeme → Operation → Option (Infix × List Lexeme)
operation_then ts op = Some (infixes.Operation op, ts)

abbrev pub starts_after : List Lexeme → Option (Infix × List Lexeme)
starts_after ts = after_word (codes "with") ts >>= λ rest. Some (infixes.StartsWith, rest)

-- An operator: marks, or `starts with`.
abbrev pub infix_front : List Lexeme → Option (Infix × List Lexeme)
infix_front (mark c ∷ ts) = operation_of_mark c >>= operation_then ts
infix_front (two_marks c d ∷ ts) = operation_of_marks c d >>= operation_then ts
infix_front (word s ∷ ts) = if is_word (codes "starts") s then starts_after ts else None
infix_front _ = None

abbrev pub if_as_loose : ℕ → Infix × List Lexeme → Option (Infix × List Lexeme)
if_as_loose r x = if nat_eq (looseness x.0) r then Some x else None

-- An operator that binds just so loosely.
abbrev pub infix_at : ℕ → List Lexeme → Option (Infix × List Lexeme)
infix_at r ts = infix_front ts >>= if_as_loose r

-- The operands of `&&` and `||` are tests, those of other operators are expressions.
abbrev pub wants_test : Operation → Bool
wants_test operations.Or = true
wants_test operations.And = true
wants_test (operations.Compare c) = false
wants_test (operations.Arithmetic op) = false

abbrev pub suits : Bool → PathNode → Bool
suits true n = is_test_node n
suits false n = not (is_test_node n)

-- A test, or an expression, if it is one.
abbrev pub as_operand : Bool → PathNode → Option PathNode
as_operand wanted n = if suits wanted n then Some n else None

-- An operator and its operands.
abbrev pub with_operands : Operation → PathNode → PathNode → PathNode
with_operands operations.Or n m = test (syntax.disjunction (as_test n) (as_test m))
with_operands operations.And n m = test (syntax.conjunction (as_test n) (as_test m))
with_operands (operations.Compare c) n m =
    test (syntax.comparison c (as_expression n) (as_expression m))
with_operands (operations.Arithmetic op) n m =
    expression (syntax.arithmetic op (as_expression n) (as_expression m))

-- After `starts with`.
abbrev pub starting_at : PathNode → List Lexeme → Front PathNode
starting_at n ts = prefix_at ts >>= λ p.
    Some (test (syntax.starting (as_expression n) (syntax.chain p.0 syntax.no_accessors)), p.1)

abbrev pub operated_at : (List Lexeme → Front PathNode) → Operation → PathNode → List Lexeme
    → Front PathNode
operated_at tighter op n ts = tighter ts >>= λ x.
    (as_operand (wants_test op) x.0 >>= λ m. Some (with_operands op n m, x.1))

-- After an operator: its right operand, of operators that bind tighter.
abbrev pub infixed : (List Lexeme → Front PathNode) → PathNode → Infix → List Lexeme
    → Front PathNode
infixed tighter n infixes.StartsWith ts = as_operand false n >>= λ m. starting_at m ts
infixed tighter n (infixes.Operation op) ts =
    as_operand (wants_test op) n >>= λ m. operated_at tighter op m ts

abbrev pub turn_of : {A : Type 0} → Front A → Turn (A × List Lexeme) (Front A)
turn_of None = ends_with None
turn_of (Some x) = goes_on x

abbrev pub and_infix : (List Lexeme → Front PathNode) → PathNode → List Lexeme
    → Option (Infix × List Lexeme) → Turn (PathNode × List Lexeme) (Front PathNode)
and_infix tighter n ts None = ends_with (Some (n, ts))
and_infix tighter n ts (Some i) = turn_of (infixed tighter n i.0 i.1)

abbrev pub infix_turn : (List Lexeme → Front PathNode) → ℕ → PathNode × List Lexeme
    → Turn (PathNode × List Lexeme) (Front PathNode)
infix_turn tighter r x = and_infix tighter x.0 x.1 (infix_at r x.1)

-- A left operand, and all operators after it that bind so loosely, to the left.
unfoldable pub all_infixed : (List Lexeme → Front PathNode) → ℕ → PathNode × List Lexeme
    → Front PathNode
all_infixed tighter r x = turns (infix_turn tighter r) None (suc (length x.1)) x

-- ---- parentheses

abbrev pub closed : {A : Type 0} → A × List Lexeme → Front A
closed x = after_mark 41 x.1 >>= λ rest. Some (x.0, rest)

-- What parentheses hold.
unfoldable pub in_parentheses : Reading → Scope → List Lexeme → Front PathNode
in_parentheses inner scope ts = after_mark 40 ts >>= λ begun. (inner 5 scope begun >>= closed)

-- ---- accessors

abbrev pub filter_of : PathNode × List Lexeme → Front Accessor
filter_of x = as_operand true x.0 >>= λ n. Some (syntax.filter (as_test n), x.1)

-- After `?`.
unfoldable pub filtered : Reading → Scope → List Lexeme → Front Accessor
filtered inner scope ts = in_parentheses inner (within_filter scope) ts >>= filter_of

-- An index of a subscript.
abbrev pub index_of : PathNode × List Lexeme → Front Expression
index_of x = as_operand false x.0 >>= λ n. Some (as_expression n, x.1)

unfoldable pub index_at : Reading → Scope → List Lexeme → Front Expression
index_at inner scope ts = inner 5 (within_subscript scope) ts >>= index_of

abbrev pub range_to : Expression → Expression × List Lexeme → Front Subscripts
range_to e x = Some (syntax.range e x.0 syntax.no_subscripts, x.1)

abbrev pub range_from : Reading → Scope → Expression → List Lexeme → Option (List Lexeme)
    → Front Subscripts
range_from inner scope e ts None = Some (syntax.index e syntax.no_subscripts, ts)
range_from inner scope e ts (Some begun) = index_at inner scope begun >>= range_to e

-- A subscript: an index, or a first and a last one.
unfoldable pub subscript_at : Reading → Scope → List Lexeme → Front Subscripts
subscript_at inner scope ts = index_at inner scope ts
    >>= λ x. range_from inner scope x.0 x.1 (after_word (codes "to") x.1)

-- Subscripts, and others after them.
abbrev pub subscripts_and : Subscripts → Subscripts → Subscripts
subscripts_and syntax.no_subscripts more = more
subscripts_and (syntax.index e rest) more = syntax.index e (subscripts_and rest more)
subscripts_and (syntax.range e f rest) more = syntax.range e f (subscripts_and rest more)

abbrev pub one_more_subscript : Subscripts → Front Subscripts
    → Turn (Subscripts × List Lexeme) (Front Subscripts)
one_more_subscript so_far None = ends_with None
one_more_subscript so_far (Some x) = goes_on (subscripts_and so_far x.0, x.1)

abbrev pub and_comma : Reading → Scope → Subscripts × List Lexeme → Option (List Lexeme)
    → Turn (Subscripts × List Lexeme) (Front Subscripts)
and_comma inner scope x None = ends_with (Some x)
and_comma inner scope x (Some rest) = one_more_subscript x.0 (subscript_at inner scope rest)

abbrev pub subscript_turn : Reading → Scope → Subscripts × List Lexeme
    → Turn (Subscripts × List Lexeme) (Front Subscripts)
subscript_turn inner scope x = and_comma inner scope x (after_mark 44 x.1)

-- A subscript, and all others after it and commas.
unfoldable pub all_subscripts : Reading → Scope → Subscripts × List Lexeme → Front Subscripts
all_subscripts inner scope x =
    turns (subscript_turn inner scope) None (suc (length x.1)) x

abbrev pub items_closed : Subscripts × List Lexeme → Front Accessor
items_closed x = after_mark 93 x.1 >>= λ rest. Some (syntax.items_at x.0, rest)

unfoldable pub items_within : Reading → Scope → List Lexeme → Front Accessor
items_within inner scope ts =
    (subscript_at inner scope ts >>= all_subscripts inner scope) >>= items_closed

abbrev pub all_or_items : Reading → Scope → List Lexeme → Option (List Lexeme) → Front Accessor
all_or_items inner scope ts None = items_within inner scope ts
all_or_items inner scope ts (Some star) = after_mark 93 star >>= λ rest. Some (syntax.all_items, rest)

-- After `[`.
abbrev pub bracketed : Reading → Scope → List Lexeme → Front Accessor
bracketed inner scope ts = all_or_items inner scope ts (after_mark 42 ts)

abbrev pub begins_accessor : List Lexeme → Bool
begins_accessor (mark c ∷ ts) = (c == 46) || (c == 91) || (c == 63)
begins_accessor _ = false

-- An accessor: after `.`, `[` or `?`.
unfoldable pub accessor_at : Reading → Scope → List Lexeme → Front Accessor
accessor_at inner scope (mark c ∷ ts) =
    if c == 46 then dotted ts else if c == 91 then bracketed inner scope ts
    else if c == 63 then filtered inner scope ts else None
accessor_at inner scope _ = None

abbrev pub one_accessor : Accessor → Accessors
one_accessor a = syntax.accessor a syntax.no_accessors

abbrev pub accessors_and : Accessors → Accessor → Accessors
accessors_and syntax.no_accessors a = one_accessor a
accessors_and (syntax.accessor b rest) a = syntax.accessor b (accessors_and rest a)

-- An expression with one more accessor: a chain goes on, all else stands in parentheses.
abbrev pub with_accessor : Expression → Accessor → Expression
with_accessor (syntax.chain p steps) a = syntax.chain p (accessors_and steps a)
with_accessor e a = syntax.chain (syntax.inner e) (one_accessor a)

abbrev pub one_more_accessor : PathNode → Front Accessor
    → Turn (PathNode × List Lexeme) (Front PathNode)
one_more_accessor n None = ends_with None
one_more_accessor n (Some a) = goes_on (expression (with_accessor (as_expression n) a.0), a.1)

abbrev pub accessor_turn : Reading → Scope → PathNode × List Lexeme
    → Turn (PathNode × List Lexeme) (Front PathNode)
accessor_turn inner scope x =
    if begins_accessor x.1 then one_more_accessor x.0 (accessor_at inner scope x.1)
    else ends_with (Some x)

-- What is read, and all accessors after it.
unfoldable pub all_accessors : Reading → Scope → PathNode × List Lexeme → Front PathNode
all_accessors inner scope x = turns (accessor_turn inner scope) None (suc (length x.1)) x

-- ---- operands

abbrev pub literal_number : Primary → Option Number
literal_number (syntax.literal t) = number_in_tree (Some t)
literal_number _ = None

-- A number alone, without accessors.
abbrev pub number_alone : PathNode → Option Number
number_alone (expression (syntax.chain p syntax.no_accessors)) = literal_number p
number_alone _ = None

abbrev pub number_node : Result Number NumberError → Option PathNode
number_node (Ok x) = Some (alone (syntax.literal (values.number x)))
number_node (Err e) = None

abbrev pub sign_or_number : Sign → PathNode → Option Number → Option PathNode
sign_or_number sign n (Some x) = number_node (signed_as sign x)
sign_or_number sign n None =
    as_operand false n >>= λ m. Some (expression (syntax.signed sign (as_expression m)))

-- An expression after a sign, which is part of a number alone.
unfoldable pub with_sign_before : Sign → PathNode → Option PathNode
with_sign_before sign n = sign_or_number sign n (number_alone n)

abbrev pub signed_front : Sign → PathNode × List Lexeme → Front PathNode
signed_front sign x = with_sign_before sign x.0 >>= λ n. Some (n, x.1)

-- After a sign.
unfoldable pub signed_at : Reading → Scope → Sign → List Lexeme → Front PathNode
signed_at inner scope sign ts = inner 0 scope ts >>= signed_front sign

abbrev pub unknown_after : List Lexeme → Option (List Lexeme)
unknown_after ts = after_word (codes "is") ts >>= after_word (codes "unknown")

abbrev pub unknown_or : Reading → Scope → PathNode × List Lexeme → Option (List Lexeme)
    → Front PathNode
unknown_or inner scope x None = all_accessors inner scope x
unknown_or inner scope x (Some rest) =
    if is_test_node x.0 then Some (test (syntax.is_unknown (as_test x.0)), rest)
    else all_accessors inner scope x

-- After parentheses: `is unknown` after a test, or accessors.
abbrev pub after_parentheses : Reading → Scope → PathNode × List Lexeme → Front PathNode
after_parentheses inner scope x = unknown_or inner scope x (unknown_after x.1)

abbrev pub exists_of : PathNode × List Lexeme → Front PathNode
exists_of x = as_operand false x.0 >>= λ n. Some (test (syntax.exists (as_expression n)), x.1)

-- After `exists`.
unfoldable pub exists_at : Reading → Scope → List Lexeme → Front PathNode
exists_at inner scope ts = in_parentheses inner scope ts >>= exists_of

abbrev pub exists_or : Reading → Scope → List Lexeme → Option (List Lexeme) → Front PathNode
exists_or inner scope ts None = in_parentheses inner scope ts
exists_or inner scope ts (Some rest) = exists_at inner scope rest

-- What may stand after `!`: parentheses, or `exists`.
unfoldable pub closed_test : Reading → Scope → List Lexeme → Front PathNode
closed_test inner scope ts = exists_or inner scope ts (after_word (codes "exists") ts)

abbrev pub denied : PathNode × List Lexeme → Front PathNode
denied x = as_operand true x.0 >>= λ n. Some (test (syntax.denial (as_test n)), x.1)

unfoldable pub chain_at : Reading → Scope → List Lexeme → Front PathNode
chain_at inner scope ts = primary_at scope ts >>= λ p. all_accessors inner scope (alone p.0, p.1)

-- A sign, `!`, parentheses, `exists`, or a chain.
unfoldable pub operand : Reading → Scope → List Lexeme → Front PathNode
operand inner scope (mark c ∷ ts) =
    if c == 40 then in_parentheses inner scope (mark c ∷ ts) >>= after_parentheses inner scope
    else if c == 33 then closed_test inner scope ts >>= denied
    else if c == 43 then signed_at inner scope Plus ts
    else if c == 45 then signed_at inner scope Minus ts
    else chain_at inner scope (mark c ∷ ts)
operand inner scope (word s ∷ ts) =
    if is_word (codes "exists") s then exists_at inner scope ts
    else chain_at inner scope (word s ∷ ts)
operand inner scope ts = chain_at inner scope ts

-- ---- paths

-- An expression or a test of operators that bind so loosely at most; what stands in parentheses
-- and after signs is read by `inner`.
unfoldable pub ranked : Reading → Reading
ranked inner zero scope ts = operand inner scope ts
ranked inner (suc r) scope ts =
    ranked inner r scope ts >>= all_infixed (ranked inner r scope) (suc r)

-- What so many levels of parentheses, filters, subscripts and signs may hold.
unfoldable pub deeper : ℕ → Reading
deeper zero r scope ts = None
deeper (suc n) r scope ts = ranked (deeper n) r scope ts

abbrev pub top_scope : Scope
top_scope = record { in_filter = false; in_subscript = false }

abbrev pub lax_front : List Lexeme → Option (List Lexeme) → Mode × List Lexeme
lax_front ts None = (Lax, ts)
lax_front ts (Some rest) = (Lax, rest)

abbrev pub strict_or_lax : List Lexeme → Option (List Lexeme) → Mode × List Lexeme
strict_or_lax ts None = lax_front ts (after_word (codes "lax") ts)
strict_or_lax ts (Some rest) = (Strict, rest)

-- `strict`, `lax` or neither, which is lax.
abbrev pub mode_front : List Lexeme → Mode × List Lexeme
mode_front ts = strict_or_lax ts (after_word (codes "strict") ts)

abbrev pub query_if_end : Mode → PathNode × List Lexeme → Option Query
query_if_end mode (n, []) = Some (record { mode = mode; tree = as_expression n })
query_if_end mode (n, t ∷ ts) = None

abbrev pub query_if_low : Query → Option Query
query_if_low query = if is_low query.tree then Some query else None

-- The path of tokens, of 64 levels of parentheses, filters, subscripts and signs at most, and not
-- higher than 400.
unfoldable pub path_of_lexemes : List Lexeme → Option Query
path_of_lexemes ts = ranked (deeper 64) 5 top_scope (mode_front ts).1
    >>= query_if_end (mode_front ts).0 >>= query_if_low

abbrev pub lexemes_of : {E : Type 0} → Result (List Placed) E → Option (List Lexeme)
lexemes_of (Ok ts) = Some (map (λ t. t.lexeme) ts)
lexemes_of (Err e) = None

-- The path of a text.
abbrev pub path_of_text : List ℕ → Option Query
path_of_text s = lexemes_of (tokens_of s) >>= path_of_lexemes
