-- The paths that texts give.
use Rattle.std.specs.Prelude.{◌≡◌, ◌⊎◌, ⊤, ℕ, zero, suc, ◌≤◌, ◌-◌, ◌^◌, min, List, [], ◌∷◌, ◌++◌}
use Rattle.std.specs.Prelude.{Bool, true, false, not, ◌&&◌, ◌||◌, ◌==◌, if◌then◌else◌, bytes_eq}
use Rattle.std.specs.Prelude.{codes, chars, map, nat_lt}
use Rattle.std.specs.Prelude.{Option, Some, None, option_map, IfSome, MatchOption}
use Rattle.std.specs.Borrow.{Bor}
use Rattle.std.specs.Global.{Vec}
use Rattle.std.specs.Str.Parse.{digits_value}
use Rattle.jsonb_value.specs.Json.Numeral.{are_digits}
use Rattle.jsonb_value.specs.Json.Syntax.{JsonWithExponents}
use Rattle.jsonb_value.specs.Tree as trees
use Rattle.jsonb_value.specs.Tree.{Tree}
use Rattle.jsonb.specs.Node.{node_tree}
use Rattle.std.specs.Option.{option_or}
use Rattle.jsonb_functions.specs.declared.filter.Comparison.{Comparison}
use Rattle.jsonb_functions.specs.declared.filter.Comparison.TheVariants as comparisons
use Rattle.jsonb_functions.specs.declared.filter.Term.{Term}
use Rattle.jsonb_functions.specs.declared.filter.Term.TheVariants as terms
use Rattle.jsonb_functions.specs.declared.path.Step.{Step}
use Rattle.jsonb_functions.specs.declared.selection.Bound.{Bound}
use Rattle.jsonb_functions.specs.declared.selection.Bound.TheVariants as bounds
use Rattle.jsonb_functions.specs.declared.selection.Selector.{Selector}
use Rattle.jsonb_functions.specs.declared.selection.Selector.TheVariants as selectors
use Rattle.jsonb_functions.specs.Selected.{step_at}
use Rattle.jsonb_functions.specs.StoredPath.{StepView, key, step_then, step_view}

-- A term of a condition, without where its keys are stored; a test has the steps of its path, the
-- comparison and the tree to compare with, and a path that is to lead to a value, or is not to,
-- whether it is to.
pub data TermView : Type 0 where
  tested : List StepView → Comparison → Tree → TermView
  finds : Bool → List StepView → TermView
  also : TermView
  or_else : TermView
  opens : TermView
  opens_not : TermView
  closes : TermView

abbrev pub term_view : Term → TermView
term_view (terms.Test t) = tested (map step_view t.path.items) t.comparison (node_tree t.value)
term_view (terms.Exists path) = finds true (map step_view path.items)
term_view (terms.NotExists path) = finds false (map step_view path.items)
term_view terms.And = also
term_view terms.Or = or_else
term_view terms.Open = opens
term_view terms.OpenNot = opens_not
term_view terms.Close = closes

-- A step of a path with wildcards, without where its key is stored; a filter has the terms of its
-- condition.
pub data SelectorView : Type 0 where
  step : StepView → SelectorView
  all_items : SelectorView
  all_members : SelectorView
  range : Bound → Bound → SelectorView
  indexes : List Bound → SelectorView
  filter : List TermView → SelectorView

abbrev pub selector_view : Selector → SelectorView
selector_view (selectors.Step s) = step (step_view s)
selector_view selectors.AllItems = all_items
selector_view selectors.AllMembers = all_members
selector_view (selectors.Range first last) = range first last
selector_view (selectors.Indexes l) = indexes l.items
selector_view (selectors.Filter condition) = filter (map term_view condition.terms.items)

-- The step that leads to one value, if it is one.
abbrev pub single_step : SelectorView → Option StepView
single_step (step s) = Some s
single_step all_items = None
single_step all_members = None
single_step (range first last) = None
single_step (indexes l) = None
single_step (filter ts) = None

-- The steps of a path that each lead to one value, if each does.
abbrev pub single_steps : List SelectorView → Option (List StepView)
single_steps [] = Some []
single_steps (s ∷ path) = step_then (single_step s) (single_steps path)

-- Whether a step is a list of indexes.
abbrev pub is_list : SelectorView → Bool
is_list (indexes l) = true
is_list (step s) = false
is_list all_items = false
is_list all_members = false
is_list (range first last) = false
is_list (filter ts) = false

-- How many lists of indexes a path has.
abbrev pub list_count : List SelectorView → ℕ
list_count [] = 0
list_count (s ∷ path) = if is_list s then suc (list_count path) else list_count path

-- A step as it is written: a key as it is, a key between quotes, or a place between brackets.
pub data Written : Type 0 where
  plain : List ℕ → Written
  quoted : List ℕ → Written
  bracketed : List ℕ → Written

-- Its bytes: `.name`, `."name"`, or `[place]`.
abbrev pub written_bytes : Written → List ℕ
written_bytes (plain name) = 46 ∷ name
written_bytes (quoted name) = 46 ∷ (34 ∷ (name ++ (34 ∷ [])))
written_bytes (bracketed place) = 91 ∷ (place ++ (93 ∷ []))

-- Each byte passes the test.
abbrev pub all_are : (ℕ → Bool) → List ℕ → Bool
all_are test [] = true
all_are test (c ∷ cs) = test c && all_are test cs

-- A key as it is has no `.`, `[`, `?`, `(` and `)`, and in a filter no space.
abbrev pub is_in_name : Bool → ℕ → Bool
is_in_name in_filter c = not (c == 46) && not (c == 91) && not (c == 63) && not (c == 40)
    && not (c == 41) && not (in_filter && (c == 32))

abbrev pub is_not : ℕ → ℕ → Bool
is_not end c = not (c == end)

abbrev pub is_space : ℕ → Bool
is_space c = c == 32

-- The last byte is a space.
abbrev pub ends_in_space : List ℕ → Bool
ends_in_space [] = false
ends_in_space (c ∷ []) = is_space c
ends_in_space (c ∷ (d ∷ cs)) = ends_in_space (d ∷ cs)

-- So many spaces.
abbrev pub spaces : ℕ → List ℕ
spaces zero = []
spaces (suc n) = 32 ∷ spaces n

-- The bytes without the spaces at their beginning.
abbrev pub after_spaces : List ℕ → List ℕ
after_spaces [] = []
after_spaces (c ∷ cs) = if is_space c then after_spaces cs else c ∷ cs

-- A key can be written as it is: it is not empty, begins with no quote and ends in no space.
abbrev pub is_unquoted_key : Bool → List ℕ → Bool
is_unquoted_key in_filter [] = false
is_unquoted_key in_filter (c ∷ name) = is_not 34 c && not (ends_in_space (c ∷ name))
    && all_are (is_in_name in_filter) (c ∷ name)

-- `*` is each member, and any other name a key.
abbrev pub member_step : List ℕ → SelectorView
member_step name = if bytes_eq name (codes "*") then all_members else step (key name)

-- The number of decimal digits, or the greatest of 64 bits if it exceeds that.
abbrev pub capped_number : List ℕ → Option ℕ
capped_number ds = if are_digits ds then Some (min (digits_value 10 ds) (2 ^ 64 - 1)) else None

-- The item so far from the end, where 1 is the last item, and 0 is past the last one of any array.
abbrev pub from_end_of : ℕ → Bound
from_end_of zero = bounds.End
from_end_of (suc n) = bounds.FromEnd n

-- An item: a number from the start, `#-` and a number from the end, or `#`, past the last one.
abbrev pub counted_in : List ℕ → Option Bound
counted_in [] = None
counted_in (c ∷ []) =
    if c == 35 then Some (from_end_of 0)
    else option_map (λ n. bounds.FromStart n) (capped_number (c ∷ []))
counted_in (c ∷ (d ∷ ds)) =
    if (c == 35) && (d == 45) then option_map from_end_of (capped_number ds)
    else option_map (λ n. bounds.FromStart n) (capped_number (c ∷ (d ∷ ds)))

-- What is after a byte, if it is the first one.
abbrev pub tail_after : ℕ → List ℕ → Option (List ℕ)
tail_after c [] = None
tail_after c (d ∷ ds) = if d == c then Some ds else None

abbrev pub if_after : {A : Type 0} → Option (List ℕ) → (List ℕ → Option A) → Option A
if_after None f = None
if_after (Some rest) f = f rest

-- What is after a word, if it comes first.
abbrev pub tail_after_word : List ℕ → List ℕ → Option (List ℕ)
tail_after_word [] text = Some text
tail_after_word (c ∷ word) text = if_after (tail_after c text) (tail_after_word word)

-- How far before the last item: nothing is 0, and else there is a `-`, with spaces around it or
-- none, and a number.
abbrev pub back_in : List ℕ → Option ℕ
back_in [] = Some 0
back_in (c ∷ cs) =
    if_after (tail_after 45 (after_spaces (c ∷ cs))) (λ ds. capped_number (after_spaces ds))

-- An item: so far before the last one, after `last`, or one that is counted.
abbrev pub bound_after : Option (List ℕ) → List ℕ → Option Bound
bound_after None text = counted_in text
bound_after (Some rest) text = option_map (λ n. bounds.FromEnd n) (back_in rest)

abbrev pub bound_in : List ℕ → Option Bound
bound_in text = bound_after (tail_after_word (codes "last") text) text

-- The range of two items, if both are there.
abbrev pub range_of : Option Bound → Option Bound → Option SelectorView
range_of (Some first) (Some last) = Some (range first last)
range_of (Some first) None = None
range_of None last = None

-- What is before the first ` to `, and what is after it.
abbrev pub ends_with : Option (List ℕ) → ℕ → Option (List ℕ × List ℕ)
    → Option (List ℕ × List ℕ)
ends_with (Some rest) c later = Some ([], rest)
ends_with None c (Some ends) = Some (c ∷ ends.0, ends.1)
ends_with None c None = None

abbrev pub ends_in : List ℕ → Option (List ℕ × List ℕ)
ends_in [] = None
ends_in (c ∷ cs) = ends_with (tail_after_word (codes " to ") (c ∷ cs)) c (ends_in cs)

-- The items from one to another: `first to last`, with single spaces.
abbrev pub range_at : Option (List ℕ × List ℕ) → Option SelectorView
range_at None = None
range_at (Some ends) = range_of (bound_in ends.0) (bound_in ends.1)

abbrev pub range_in : List ℕ → Option SelectorView
range_in place = range_at (ends_in place)

-- An item, or the items from one to another.
abbrev pub items_in : List ℕ → Option SelectorView
items_in place =
    option_or (option_map (λ bound. step (step_view (step_at bound))) (bound_in place))
    (range_in place)

-- The parts of bytes between commas.
abbrev pub onto_first : ℕ → List (List ℕ) → List (List ℕ)
onto_first c [] = (c ∷ []) ∷ []
onto_first c (part ∷ parts) = (c ∷ part) ∷ parts

abbrev pub parts_of : List ℕ → List (List ℕ)
parts_of [] = [] ∷ []
parts_of (c ∷ cs) = if c == 44 then [] ∷ parts_of cs else onto_first c (parts_of cs)

-- The items of these parts, if each is one, after spaces or none.
abbrev pub bound_then : Option Bound → Option (List Bound) → Option (List Bound)
bound_then (Some bound) (Some more) = Some (bound ∷ more)
bound_then (Some bound) None = None
bound_then None more = None

abbrev pub bounds_in : List (List ℕ) → Option (List Bound)
bounds_in [] = Some []
bounds_in (part ∷ parts) = bound_then (bound_in (after_spaces part)) (bounds_in parts)

abbrev pub indexes_in : List ℕ → Option (List Bound)
indexes_in place = bounds_in (parts_of place)

-- What is between brackets: `*` is each item, and else an item or a range, or a list of items if
-- there is a comma.
abbrev pub place_in : List ℕ → Option SelectorView
place_in place =
    if bytes_eq place (codes "*") then Some all_items
    else if all_are (is_not 44) place then items_in place
    else option_map indexes (indexes_in place)

-- The step that is written so, if it is one. There is no quote between quotes, and no bracket
-- between brackets.
abbrev pub written_step : Bool → Written → Option SelectorView
written_step in_filter (plain name) =
    if is_unquoted_key in_filter name then Some (member_step name) else None
written_step in_filter (quoted name) =
    if all_are (is_not 34) name then Some (step (key name)) else None
written_step in_filter (bracketed place) =
    if all_are (is_not 93) place then place_in place else None

-- The bytes are those of this step, which is no filter.
abbrev pub IsWrittenStep : Bool → List ℕ → SelectorView → Type 0
IsWrittenStep in_filter bytes s =
    (w : Written) × (bytes ≡ written_bytes w) × (written_step in_filter w ≡ Some s)

-- The text begins with this step, which is no filter, and goes on so.
abbrev pub StepBegins : Bool → List ℕ → SelectorView → List ℕ → Type 0
StepBegins in_filter text s rest =
    (front : List ℕ) × (text ≡ front ++ rest) × IsWrittenStep in_filter front s

-- The text is these steps, each as `Begins` says, and then the end.
abbrev pub AreSteps : (List ℕ → SelectorView → List ℕ → Type 0) → List ℕ → List ℕ
    → List SelectorView → Type 0
AreSteps Begins end text [] = text ≡ end
AreSteps Begins end text (s ∷ path) =
    (rest : List ℕ) × Begins text s rest × AreSteps Begins end rest path

-- A word has no control character, no space, no quote, no `&`, no `|` and no closing parenthesis.
abbrev pub is_in_word : ℕ → Bool
is_in_word c = nat_lt 32 c && not (c == 34) && not (c == 38) && not (c == 41) && not (c == 124)

-- Null, a truth value or a number.
abbrev pub scalar_tree : Tree → Option Tree
scalar_tree trees.null = Some trees.null
scalar_tree (trees.boolean b) = Some (trees.boolean b)
scalar_tree (trees.number x) = Some (trees.number x)
scalar_tree t = None

-- The word is null, a truth value or a number, with or without an exponent, as JSON spells it.
abbrev pub IsLiteralWord : List ℕ → Tree → Type 0
IsLiteralWord w t = JsonWithExponents (chars w) t × (scalar_tree t ≡ Some t)

-- The comparison that is written so, if it is one.
abbrev pub comparison_in : List ℕ → Option Comparison
comparison_in c =
    if bytes_eq c (codes "==") then Some comparisons.Equal
    else if bytes_eq c (codes "!=") then Some comparisons.NotEqual
    else if bytes_eq c (codes "<>") then Some comparisons.NotEqual
    else if bytes_eq c (codes "<") then Some comparisons.Less
    else if bytes_eq c (codes "<=") then Some comparisons.LessOrEqual
    else if bytes_eq c (codes ">") then Some comparisons.Greater
    else if bytes_eq c (codes ">=") then Some comparisons.GreaterOrEqual
    else None

-- The bytes are none, or begin with one that does not pass the test.
abbrev pub StopsAt : (ℕ → Bool) → List ℕ → Type 0
StopsAt test [] = ⊤
StopsAt test (c ∷ cs) = test c ≡ false

-- A filter's path ends before a space or a closing parenthesis.
abbrev pub ends_path : List ℕ → Bool
ends_path [] = false
ends_path (c ∷ cs) = (c == 32) || (c == 41)

-- The text begins with the steps of a filter's path, which ends there.
abbrev pub AreFilterSteps : List ℕ → List SelectorView → List ℕ → Type 0
AreFilterSteps text path rest =
    AreSteps (StepBegins true) rest text path × (ends_path rest ≡ true)

-- The text begins with a filter's path. There are no wildcards, ranges, lists and filters in it.
abbrev pub IsFilterPath : List ℕ → List StepView → List ℕ → Type 0
IsFilterPath text steps rest = (path : List SelectorView)
    × AreFilterSteps text path rest × (single_steps path ≡ Some steps)

-- The text begins with a comparison and a space.
abbrev pub IsComparison : List ℕ → Comparison → List ℕ → Type 0
IsComparison text comparison rest = (c : List ℕ)
    × (text ≡ c ++ (32 ∷ rest)) × (comparison_in c ≡ Some comparison)

-- The text begins with a string between quotes, in which there is no quote.
abbrev pub BeginsWithString : List ℕ → Tree → List ℕ → Type 0
BeginsWithString text t rest = (s : List ℕ) × (text ≡ 34 ∷ (s ++ (34 ∷ rest)))
    × (all_are (is_not 34) s ≡ true) × (t ≡ trees.text s)

-- The text begins with a word, which goes as far as it can.
abbrev pub BeginsWithWord : List ℕ → Tree → List ℕ → Type 0
BeginsWithWord text t rest = (w : List ℕ) × (text ≡ w ++ rest)
    × (all_are is_in_word w ≡ true) × (w ≡ [] → ⊥) × StopsAt is_in_word rest × IsLiteralWord w t

-- The text begins with a literal: a string, or a word that means a scalar.
abbrev pub BeginsWithLiteral : List ℕ → Tree → List ℕ → Type 0
BeginsWithLiteral text t rest = BeginsWithString text t rest ⊎ BeginsWithWord text t rest

-- The text begins with a test after its `@`: a path, a space, a comparison, a space and a literal.
pub record BeginsWithTest (text : List ℕ) (t : TermView) (rest : List ℕ) : Type 0 where
  pub steps : List StepView
  pub after_path : List ℕ
  pub comparison : Comparison
  pub after_comparison : List ℕ
  pub value : Tree
  pub is_path : IsFilterPath text steps (32 ∷ after_path)
  pub is_comparison : IsComparison after_path comparison after_comparison
  pub is_value : BeginsWithLiteral after_comparison value rest
  pub is : t ≡ tested steps comparison value

-- What is after two such bytes.
abbrev pub tail_after_two : ℕ → List ℕ → Option (List ℕ)
tail_after_two c text = if_after (tail_after c text) (tail_after c)

-- What is after `!`, spaces and `(`.
abbrev pub tail_after_not : List ℕ → Option (List ℕ)
tail_after_not text = if_after (tail_after 33 text) (λ rest. tail_after 40 (after_spaces rest))

-- The mark with which the text begins, and what is after it.
abbrev pub mark_or : Option (List ℕ) → TermView → Option (TermView × List ℕ)
    → Option (TermView × List ℕ)
mark_or None mark others = others
mark_or (Some rest) mark others = Some (mark, rest)

abbrev pub mark_in : List ℕ → Option (TermView × List ℕ)
mark_in text =
    mark_or (tail_after 40 text) opens
    (mark_or (tail_after 41 text) closes
    (mark_or (tail_after_two 38 text) also
    (mark_or (tail_after_two 124 text) or_else
    (mark_or (tail_after_not text) opens_not None))))

-- What is after `exists`, `(` and `@`, with spaces between these or none.
abbrev pub tail_after_exists : List ℕ → Option (List ℕ)
tail_after_exists text =
    if_after (tail_after_word (codes "exists") text) (λ rest.
    if_after (tail_after 40 (after_spaces rest)) (λ inner. tail_after 64 (after_spaces inner)))

-- Whether a path is to lead to a value, by `exists(@`, or is not to, by `!exists(@` with spaces
-- after its `!` or none, and what is after that.
abbrev pub exists_after : Option (List ℕ) → List ℕ → Option (Bool × List ℕ)
exists_after (Some rest) text =
    option_map (λ path. (false, path)) (tail_after_exists (after_spaces rest))
exists_after None text = option_map (λ path. (true, path)) (tail_after_exists text)

abbrev pub exists_in : List ℕ → Option (Bool × List ℕ)
exists_in text = exists_after (tail_after 33 text) text

-- The text begins with a path after its `@`, spaces or none, and `)`.
abbrev pub IsExists : Bool → List ℕ → TermView → List ℕ → Type 0
IsExists is_wanted text t rest = (steps : List StepView) × (end : List ℕ)
    × IsFilterPath text steps end × (after_spaces end ≡ 41 ∷ rest) × (t ≡ finds is_wanted steps)

-- The text begins with `exists` or `!exists` and a path between parentheses.
abbrev pub BeginsWithExists : List ℕ → TermView → List ℕ → Type 0
BeginsWithExists text t rest = (is_wanted : Bool) × (path : List ℕ)
    × (exists_in text ≡ Some (is_wanted, path)) × IsExists is_wanted path t rest

-- The text begins with a term, after spaces: a test after `@`, a path that is to lead to a value or
-- is not to, or a mark.
abbrev pub BeginsWithTerm : List ℕ → TermView → List ℕ → Type 0
BeginsWithTerm text t rest =
    ((inner : List ℕ) × (after_spaces text ≡ 64 ∷ inner) × BeginsWithTest inner t rest)
    ⊎ BeginsWithExists (after_spaces text) t rest
    ⊎ (mark_in (after_spaces text) ≡ Some (t, rest))

-- Whether a value is to come, and in how many groups, after a term where it can stand: a test, a
-- path or an open group where a value is to come, and else `&&`, `||`, or `)` in a group.
abbrev pub state_after : Bool → ℕ → TermView → Option (Bool × ℕ)
state_after true depth (tested path comparison t) = Some (false, depth)
state_after true depth (finds is_wanted path) = Some (false, depth)
state_after true depth opens = Some (true, suc depth)
state_after true depth opens_not = Some (true, suc depth)
state_after false depth also = Some (true, depth)
state_after false depth or_else = Some (true, depth)
state_after false (suc depth) closes = Some (false, depth)
state_after wants depth t = None

-- The text begins with these terms, each where it can stand, and the `)` of the filter.
abbrev pub AreTerms : Bool → ℕ → List ℕ → List TermView → List ℕ → Type 0
AreTerms wants depth text [] rest =
    (wants ≡ false) × (depth ≡ 0) × (after_spaces text ≡ 41 ∷ rest)
AreTerms wants depth text (t ∷ ts) rest = (after : List ℕ) × (state : Bool × ℕ)
    × BeginsWithTerm text t after × (state_after wants depth t ≡ Some state)
    × AreTerms state.0 state.1 after ts rest

-- The text is `(` after spaces, and then the terms of the filter and its `)`.
abbrev pub IsFilter : List ℕ → SelectorView → List ℕ → Type 0
IsFilter text s rest = (inner : List ℕ) × (ts : List TermView)
    × (after_spaces text ≡ 40 ∷ inner) × AreTerms true 0 inner ts rest × (s ≡ filter ts)

-- The text begins with this step: one that is no filter, or spaces, `?` and a filter.
abbrev pub BeginsWithStep : List ℕ → SelectorView → List ℕ → Type 0
BeginsWithStep text s rest = StepBegins false text s rest
    ⊎ ((condition : List ℕ) × (after_spaces text ≡ 63 ∷ condition) × IsFilter condition s rest)

-- The text is `$` and these steps.
abbrev pub StepsText : List ℕ → List SelectorView → Type 0
StepsText text path = (rest : List ℕ) × (text ≡ 36 ∷ rest) × AreSteps BeginsWithStep [] rest path

-- The text of a path: such a text with at most one list of indexes. Lists one after the other would
-- lead to as many values as the product of their lengths.
pub record PathText (text : List ℕ) (path : List SelectorView) : Type 0 where
  pub steps : StepsText text path
  pub one_list : list_count path ≤ 1

-- A name as it is ends before these bytes, or before the spaces with which they begin.
abbrev pub EndsName : Bool → List ℕ → Type 0
EndsName true rest = StopsAt (is_in_name true) rest
EndsName false rest = StopsAt (is_in_name false) (after_spaces rest)

-- How many bytes a name has with one more at its front: a space is no name by itself.
abbrev pub longer_name : ℕ → ℕ → ℕ
longer_name c zero = if is_space c then 0 else 1
longer_name c (suc n) = suc (suc n)

-- How many bytes the name as it is has at the beginning of the bytes.
abbrev pub name_len : Bool → List ℕ → ℕ
name_len in_filter [] = 0
name_len in_filter (c ∷ cs) =
    if is_in_name in_filter c then longer_name c (name_len in_filter cs) else 0

-- The first step was read, and there is no other where a name as it is ends.
pub record ReadsStep (Begins : List ℕ → SelectorView → List ℕ → Type 0) (in_filter : Bool)
    (text : List ℕ) (read : Option (Selector × Bor (List ℕ))) : Type 0 where
  pub is : IfSome read (λ r. Begins text (selector_view r.0) r.1.now)
  pub only : (s : SelectorView) (rest : List ℕ) → Begins text s rest
      → EndsName in_filter rest
      → MatchOption read ⊥ (λ r. (selector_view r.0 ≡ s) × (r.1.now ≡ rest))

-- The beginning of a text was read, and there is no other reading.
pub record Reads {A B : Type 0} (view : A → B) (Begins : B → List ℕ → Type 0)
    (read : Option (A × Bor (List ℕ))) : Type 0 where
  pub is : IfSome read (λ r. Begins (view r.0) r.1.now)
  pub only : (x : B) (rest : List ℕ) → Begins x rest
      → MatchOption read ⊥ (λ r. (view r.0 ≡ x) × (r.1.now ≡ rest))

-- The steps of a path, without where their keys are stored.
abbrev pub path_view : Vec Selector → List SelectorView
path_view path = map selector_view path.items

abbrev pub steps_view : Vec Step → List StepView
steps_view path = map step_view path.items

abbrev pub terms_view : Vec Term → List TermView
terms_view ts = map term_view ts.items
