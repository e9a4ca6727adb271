-- What is read, step by step: one level deeper, and the turns of loops.
use Rattle.std.proofs.Common.{◌≡◌, ◌∙◌, ℕ, zero, suc, ◌<◌, ◌-◌, Bool, true, false, List, length, ap}
use Rattle.std.proofs.Common.{arith, refl, subst, sym}
use Rattle.std.specs.Prelude.{Option, None, Some, codes, if◌then◌else◌}
use Rattle.std.proofs.lemmas.List.{length-map}
use Rattle.jsonb_value.specs.Json.Bind.{◌>>=◌}
use Rattle.jsonb_path.specs.declared.read.infix.Infix.{Infix}
use Rattle.jsonb_path.specs.declared.read.infix.Infix.TheVariants as infixes
use Rattle.jsonb_path.specs.declared.read.infix.Operation.{Operation}
use Rattle.jsonb_path.specs.declared.read.literal.Scope.{Scope}
use Rattle.jsonb_path.specs.declared.token.PlacedToken.{PlacedToken}
use Rattle.jsonb_path.specs.Dotted.{Front, after_mark, after_word, lexeme_in, lexemes}
use Rattle.jsonb_path.specs.Grammar.{Reading, accessor_at, accessor_turn, all_accessors}
use Rattle.jsonb_path.specs.Grammar.{all_infixed, all_subscripts, and_comma, and_infix}
use Rattle.jsonb_path.specs.Grammar.{begins_accessor, deeper, infix_at, infix_turn, infixed}
use Rattle.jsonb_path.specs.Grammar.{one_more_accessor, one_more_subscript, operand, ranked}
use Rattle.jsonb_path.specs.Grammar.{subscript_at, subscript_turn, subscripts_and, turn_of}
use Rattle.jsonb_path.specs.Grammar.{as_operand, index_at, operated_at, range_from, range_to}
use Rattle.jsonb_path.specs.Grammar.{wants_test, with_accessor, with_operands}
use Rattle.jsonb_path.specs.PathTree.{PathNode, as_expression, expression}
use Rattle.jsonb_path.specs.Syntax.{Accessor, Expression, Subscripts}
use Rattle.jsonb_path.specs.Syntax as syntax
use Rattle.jsonb_path.specs.Token.{Lexeme}
use Rattle.jsonb_path.specs.Turns.{ends_with, turns}
use Rattle.jsonb_path.proofs.TurnLaws.{Leads, leads_begin, leads_end, leads_on}

-- ---- levels

pub deeper_none : (n r : ℕ) (scope : Scope) (ts : List Lexeme) → n ≡ 0
    → deeper n r scope ts ≡ None
unfolding deeper
deeper_none zero r scope ts e = refl
deeper_none (suc n) r scope ts e = absurd (omega arith)

pub deeper_more : (n r : ℕ) (scope : Scope) (ts : List Lexeme) → 0 < n
    → deeper n r scope ts ≡ ranked (deeper (n - 1)) r scope ts
unfolding deeper
deeper_more zero r scope ts e = absurd (omega arith)
deeper_more (suc n) r scope ts e =
    let same : n ≡ suc n - 1 = omega arith in ap (λ m. ranked (deeper m) r scope ts) same

pub ranked_operand : (inner : Reading) (r : ℕ) (scope : Scope) (ts : List Lexeme) → r ≡ 0
    → ranked inner r scope ts ≡ operand inner scope ts
unfolding ranked
ranked_operand inner zero scope ts e = refl
ranked_operand inner (suc r) scope ts e = absurd (omega arith)

ranked_more : (inner : Reading) (r : ℕ) (scope : Scope) (ts : List Lexeme) → 0 < r
    → ranked inner r scope ts
    ≡ (ranked inner (r - 1) scope ts >>= all_infixed (ranked inner (r - 1) scope) r)
unfolding ranked
ranked_more inner zero scope ts e = absurd (omega arith)
ranked_more inner (suc r) scope ts e =
    let same : r ≡ suc r - 1 = omega arith in
    ap (λ m. ranked inner m scope ts >>= all_infixed (ranked inner m scope) (suc r)) same

pub ranked_none : (inner : Reading) (r : ℕ) (scope : Scope) (ts : List Lexeme) → 0 < r
    → ranked inner (r - 1) scope ts ≡ None → ranked inner r scope ts ≡ None
ranked_none inner r scope ts less e =
    ranked_more inner r scope ts less
    ∙ ap (λ o. o >>= all_infixed (ranked inner (r - 1) scope) r) e

-- ---- operators

infixed_is : (tighter : List Lexeme → Front PathNode) (r : ℕ) (n : PathNode) (ts : List Lexeme)
    (size : ℕ) → size ≡ length ts
    → Leads (infix_turn tighter r) None (all_infixed tighter r (n, ts)) (n, ts) size
unfolding all_infixed
infixed_is tighter r n ts size e =
    subst (λ (k : ℕ). Leads (infix_turn tighter r) None
    (turns (infix_turn tighter r) None (suc (length ts)) (n, ts)) (n, ts) k) (sym e)
    (leads_begin (infix_turn tighter r) None (n, ts) (length ts))

pub ranked_begins : (inner : Reading) (r : ℕ) (scope : Scope) (ts : List Lexeme) (n : PathNode)
    (rest : List Lexeme) (size : ℕ) → 0 < r → ranked inner (r - 1) scope ts ≡ Some (n, rest)
    → size ≡ length rest
    → Leads (infix_turn (ranked inner (r - 1) scope) r) None (ranked inner r scope ts) (n, rest) size
ranked_begins inner r scope ts n rest size less e same =
    let tighter = ranked inner (r - 1) scope in
    let is : all_infixed tighter r (n, rest) ≡ ranked inner r scope ts =
    ap (λ o. o >>= all_infixed tighter r) (sym e) ∙ sym (ranked_more inner r scope ts less) in
    subst (λ (o : Front PathNode). Leads (infix_turn tighter r) None o (n, rest) size) is
    (infixed_is tighter r n rest size same)

pub infixed_on : (tighter : List Lexeme → Front PathNode) (r : ℕ) (total : Front PathNode)
    (n m : PathNode) (ts after rest : List Lexeme) (i : Infix) (size less : ℕ)
    → Leads (infix_turn tighter r) None total (n, ts) size → infix_at r ts ≡ Some (i, after)
    → infixed tighter n i after ≡ Some (m, rest) → less < size
    → Leads (infix_turn tighter r) None total (m, rest) less
infixed_on tighter r total n m ts after rest i size less h e f smaller =
    leads_on (infix_turn tighter r) None total (n, ts) (m, rest) size less h
    (ap (and_infix tighter n ts) e ∙ ap turn_of f) smaller

pub infixed_fails : (tighter : List Lexeme → Front PathNode) (r : ℕ) (total : Front PathNode)
    (n : PathNode) (ts after : List Lexeme) (i : Infix) (size : ℕ)
    → Leads (infix_turn tighter r) None total (n, ts) size → infix_at r ts ≡ Some (i, after)
    → infixed tighter n i after ≡ None → total ≡ None
infixed_fails tighter r total n ts after i size h e f =
    leads_end (infix_turn tighter r) None total (n, ts) size None h
    (ap (and_infix tighter n ts) e ∙ ap turn_of f)

pub infixed_ends : (tighter : List Lexeme → Front PathNode) (r : ℕ) (total : Front PathNode)
    (n : PathNode) (ts : List Lexeme) (size : ℕ)
    → Leads (infix_turn tighter r) None total (n, ts) size → infix_at r ts ≡ None
    → total ≡ Some (n, ts)
infixed_ends tighter r total n ts size h e =
    leads_end (infix_turn tighter r) None total (n, ts) size (Some (n, ts)) h
    (ap (and_infix tighter n ts) e)

-- an operator between two operands
pub operated : (tighter : List Lexeme → Front PathNode) (op : Operation) (wanted : Bool)
    (n l kept r p q : PathNode) (ts rest : List Lexeme) → wanted ≡ wants_test op
    → as_operand wanted n ≡ Some l → tighter ts ≡ Some (p, rest) → as_operand wanted p ≡ Some r
    → kept ≡ l → q ≡ with_operands op kept r
    → infixed tighter n (infixes.Operation op) ts ≡ Some (q, rest)
operated tighter op wanted n l kept r p q ts rest same e f g stays made =
    ap (λ (o : Option PathNode). o >>= λ m. operated_at tighter op m ts)
    (ap (λ w. as_operand w n) (sym same) ∙ e)
    ∙ ap (λ (o : Front PathNode). o >>= λ x.
    (as_operand (wants_test op) x.0 >>= λ k. Some (with_operands op l k, x.1))) f
    ∙ ap (λ (o : Option PathNode). o >>= λ k. Some (with_operands op l k, rest))
    (ap (λ w. as_operand w p) (sym same) ∙ g)
    ∙ ap (λ k. Some (with_operands op k r, rest)) (sym stays)
    ∙ ap (λ k. Some (k, rest)) (sym made)

-- ---- accessors

pub accessors_begin : (inner : Reading) (scope : Scope) (n : PathNode) (ts : List Lexeme) (size : ℕ)
    → size ≡ length ts
    → Leads (accessor_turn inner scope) None (all_accessors inner scope (n, ts)) (n, ts) size
unfolding all_accessors
accessors_begin inner scope n ts size e =
    subst (λ (k : ℕ). Leads (accessor_turn inner scope) None
    (turns (accessor_turn inner scope) None (suc (length ts)) (n, ts)) (n, ts) k) (sym e)
    (leads_begin (accessor_turn inner scope) None (n, ts) (length ts))

turn_begun : (inner : Reading) (scope : Scope) (n : PathNode) (ts : List Lexeme)
    (o : Front Accessor) → begins_accessor ts ≡ true → accessor_at inner scope ts ≡ o
    → accessor_turn inner scope (n, ts) ≡ one_more_accessor n o
turn_begun inner scope n ts o e f =
    ap (λ b. if b then one_more_accessor n (accessor_at inner scope ts)
    else ends_with (Some (n, ts))) e
    ∙ ap (one_more_accessor n) f

pub accessors_on : (inner : Reading) (scope : Scope) (total : Front PathNode) (n m : PathNode)
    (ts rest : List Lexeme) (a : Accessor) (size less : ℕ)
    → Leads (accessor_turn inner scope) None total (n, ts) size → begins_accessor ts ≡ true
    → accessor_at inner scope ts ≡ Some (a, rest)
    → m ≡ expression (with_accessor (as_expression n) a) → less < size
    → Leads (accessor_turn inner scope) None total (m, rest) less
accessors_on inner scope total n m ts rest a size less h e f same smaller =
    subst (λ (k : PathNode). Leads (accessor_turn inner scope) None total (k, rest) less) (sym same)
    (leads_on (accessor_turn inner scope) None total (n, ts)
    (expression (with_accessor (as_expression n) a), rest) size less h
    (turn_begun inner scope n ts (Some (a, rest)) e f) smaller)

pub accessors_fail : (inner : Reading) (scope : Scope) (total : Front PathNode) (n : PathNode)
    (ts : List Lexeme) (size : ℕ)
    → Leads (accessor_turn inner scope) None total (n, ts) size → begins_accessor ts ≡ true
    → accessor_at inner scope ts ≡ None → total ≡ None
accessors_fail inner scope total n ts size h e f =
    leads_end (accessor_turn inner scope) None total (n, ts) size None h
    (turn_begun inner scope n ts None e f)

pub accessors_end : (inner : Reading) (scope : Scope) (total : Front PathNode) (n : PathNode)
    (ts : List Lexeme) (size : ℕ)
    → Leads (accessor_turn inner scope) None total (n, ts) size → begins_accessor ts ≡ false
    → total ≡ Some (n, ts)
accessors_end inner scope total n ts size h e =
    leads_end (accessor_turn inner scope) None total (n, ts) size (Some (n, ts)) h
    (ap (λ b. if b then one_more_accessor n (accessor_at inner scope ts)
    else ends_with (Some (n, ts))) e)

-- ---- subscripts

pub subscripts_begin : (inner : Reading) (scope : Scope) (ss : Subscripts) (ts : List Lexeme)
    (size : ℕ) → size ≡ length ts
    → Leads (subscript_turn inner scope) None (all_subscripts inner scope (ss, ts)) (ss, ts) size
unfolding all_subscripts
subscripts_begin inner scope ss ts size e =
    subst (λ (k : ℕ). Leads (subscript_turn inner scope) None
    (turns (subscript_turn inner scope) None (suc (length ts)) (ss, ts)) (ss, ts) k) (sym e)
    (leads_begin (subscript_turn inner scope) None (ss, ts) (length ts))

comma_turn : (inner : Reading) (scope : Scope) (ss : Subscripts) (ts after : List Lexeme)
    (o : Front Subscripts) → after_mark 44 ts ≡ Some after → subscript_at inner scope after ≡ o
    → subscript_turn inner scope (ss, ts) ≡ one_more_subscript ss o
comma_turn inner scope ss ts after o e f =
    ap (and_comma inner scope (ss, ts)) e ∙ ap (one_more_subscript ss) f

pub subscripts_on : (inner : Reading) (scope : Scope) (total : Front Subscripts)
    (ss rs more : Subscripts) (ts after rest : List Lexeme) (size less : ℕ)
    → Leads (subscript_turn inner scope) None total (ss, ts) size → after_mark 44 ts ≡ Some after
    → subscript_at inner scope after ≡ Some (more, rest) → rs ≡ subscripts_and ss more
    → less < size → Leads (subscript_turn inner scope) None total (rs, rest) less
subscripts_on inner scope total ss rs more ts after rest size less h e f same smaller =
    subst (λ (k : Subscripts). Leads (subscript_turn inner scope) None total (k, rest) less)
    (sym same)
    (leads_on (subscript_turn inner scope) None total (ss, ts) (subscripts_and ss more, rest) size
    less h (comma_turn inner scope ss ts after (Some (more, rest)) e f) smaller)

pub subscripts_fail : (inner : Reading) (scope : Scope) (total : Front Subscripts)
    (ss : Subscripts) (ts after : List Lexeme) (size : ℕ)
    → Leads (subscript_turn inner scope) None total (ss, ts) size → after_mark 44 ts ≡ Some after
    → subscript_at inner scope after ≡ None → total ≡ None
subscripts_fail inner scope total ss ts after size h e f =
    leads_end (subscript_turn inner scope) None total (ss, ts) size None h
    (comma_turn inner scope ss ts after None e f)

pub subscripts_end : (inner : Reading) (scope : Scope) (total : Front Subscripts)
    (ss : Subscripts) (ts : List Lexeme) (size : ℕ)
    → Leads (subscript_turn inner scope) None total (ss, ts) size → after_mark 44 ts ≡ None
    → total ≡ Some (ss, ts)
subscripts_end inner scope total ss ts size h e =
    leads_end (subscript_turn inner scope) None total (ss, ts) size (Some (ss, ts)) h
    (ap (and_comma inner scope (ss, ts)) e)

-- a first and a last index
pub ranged : (inner : Reading) (scope : Scope) (e kept f : Expression)
    (ts between begun rest : List Lexeme) → index_at inner scope ts ≡ Some (e, between)
    → after_word (codes "to") between ≡ Some begun → index_at inner scope begun ≡ Some (f, rest)
    → kept ≡ e
    → subscript_at inner scope ts ≡ Some (syntax.range kept f syntax.no_subscripts, rest)
unfolding subscript_at
ranged inner scope e kept f ts between begun rest first to last stays =
    ap (λ (o : Front Expression). o >>= λ x.
    range_from inner scope x.0 x.1 (after_word (codes "to") x.1)) first
    ∙ ap (range_from inner scope e between) to
    ∙ ap (λ (o : Front Expression). o >>= range_to e) last
    ∙ ap (λ k. Some (syntax.range k f syntax.no_subscripts, rest)) (sym stays)

-- as many lexemes as tokens
pub lexemes_length : (ts : List PlacedToken) → length ts ≡ length (lexemes ts)
lexemes_length ts = sym (length-map ts lexeme_in)

pub ruleset reading = (
  deeper_none,
  deeper_more,
  ranked_operand,
  ranked_none,
  ranked_begins,
  infixed_on,
  infixed_fails,
  infixed_ends,
  accessors_begin,
  accessors_on,
  accessors_fail,
  accessors_end,
  subscripts_begin,
  subscripts_on,
  subscripts_fail,
  subscripts_end,
  lexemes_length,
)
