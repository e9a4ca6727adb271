-- How many steps a path with wildcards takes.
use Rattle.std.specs.Prelude.{ℕ, suc, ◌+◌, ◌*◌, List, [], ◌∷◌, length, Option, None, Some}
use Rattle.std.specs.List.{sum_by}
use Rattle.jsonb_value.specs.Order.{extension_data}
use Rattle.jsonb_value.specs.Tree.{Tree, text, extension, array, object, count, pair_count}
use Rattle.jsonb_functions.specs.declared.filter.Term.{Term}
use Rattle.jsonb_functions.specs.declared.filter.Term.TheVariants as terms
use Rattle.jsonb_functions.specs.declared.path.Step.{Step}
use Rattle.jsonb_functions.specs.declared.selection.Selector.{Selector}
use Rattle.jsonb_functions.specs.declared.selection.Selector.TheVariants.{Filter, Indexes}
use Rattle.jsonb_functions.specs.Found.{child_at}
use Rattle.jsonb_functions.specs.Selected.{children_at}

-- The number of an array's items, of an object's members, or of the bytes of a text or of data.
abbrev pub extent : Tree → ℕ
extent (text s) = length s
extent (extension e) = length (extension_data e)
extent (array ts) = count ts
extent (object ps) = pair_count ps
extent t = 0

-- Where there is a tree, a number of it.
abbrev pub number_there : Option Tree → (Tree → ℕ) → ℕ
number_there None f = 0
number_there (Some t) f = f t

-- The extents of a tree and of those to which a path leads on its way, together.
abbrev pub extents : List Step → Tree → ℕ
extents [] t = extent t
extents (s ∷ path) t = extent t + number_there (child_at s t) (λ u. extents path u)

-- The steps to ask a term of a tree: one, and for a term with a path those on the way of that.
abbrev pub term_steps : Term → Tree → ℕ
term_steps (terms.Test test) t = suc (extents test.path.items t)
term_steps (terms.Exists path) t = suc (extents path.items t)
term_steps (terms.NotExists path) t = suc (extents path.items t)
term_steps term t = 1

-- The steps to ask a selector of a tree: one and its extent, for a list of indexes as often as it
-- has one, and for a filter those of its terms.
abbrev pub asked : Selector → Tree → ℕ
asked (Indexes indexes) t = sum_by (λ index. suc (extent t)) indexes.items
asked (Filter condition) t = sum_by (λ term. term_steps term t) condition.terms.items
asked s t = suc (extent t)

-- How many selectors a path has, where each term of a filter and each index of a list counts as
-- one, and those after a list as often as it has an index.
abbrev pub selector_size : Selector → ℕ
selector_size (Indexes indexes) = length indexes.items
selector_size (Filter condition) = length condition.terms.items
selector_size s = 1

abbrev pub ways : Selector → ℕ
ways (Indexes indexes) = length indexes.items
ways s = 1

abbrev pub path_size : List Selector → ℕ
path_size [] = 0
path_size (s ∷ path) = selector_size s + ways s * path_size path

-- The steps to follow a path from a tree: to ask its first selector, and to follow the others from
-- each child to which that leads.
abbrev pub select_steps : List Selector → Tree → ℕ
select_steps [] t = 0
select_steps (s ∷ path) t = asked s t + sum_by (λ u. select_steps path u) (children_at s t)
