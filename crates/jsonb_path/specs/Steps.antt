-- Paths of keys and indexes alone, as the steps to one child after another.
use Rattle.std.specs.Prelude.{◌==◌, List, [], Option, None, Some, if◌then◌else◌}
use Rattle.jsonb_value.specs.declared.number.Number.TheVariants.{UInt64}
use Rattle.jsonb_value.specs.Tree.{Tree, number}
use Rattle.jsonb_functions.specs.StoredPath.{StepView, key, index, from_end, past_end, step_then}
use Rattle.jsonb_path.specs.declared.path.Operator.{Operator}
use Rattle.jsonb_path.specs.declared.path.Operator.TheVariants.{Add, Subtract}
use Rattle.jsonb_path.specs.Syntax.{Accessor, Accessors, Expression, Primary, Subscripts}
use Rattle.jsonb_path.specs.Syntax as syntax

-- The step to an item whose index is a literal: a whole number.
abbrev pub step_of_literal : Tree → Option StepView
step_of_literal (number (UInt64 n)) = Some (index n)
step_of_literal t = None

-- The step to what an operator leads to from `last` by a literal: an item from the end, and the
-- place past the last item.
abbrev pub step_by : Operator → Tree → Option StepView
step_by Subtract (number (UInt64 n)) = Some (from_end n)
step_by Add (number (UInt64 n)) = if n == 1 then Some past_end else None
step_by op t = None

-- The step of an operator on what two chains without accessors begin with: `last`, and a literal.
abbrev pub step_of_pair : Operator → Primary → Primary → Option StepView
step_of_pair op syntax.last (syntax.literal t) = step_by op t
step_of_pair op p q = None

-- The step of a chain without accessors: a whole number, or `last`.
abbrev pub step_of_primary : Primary → Option StepView
step_of_primary (syntax.literal t) = step_of_literal t
step_of_primary syntax.last = Some (from_end 0)
step_of_primary p = None

-- What a chain without accessors begins with.
abbrev pub primary_alone : Expression → Option Primary
primary_alone (syntax.chain p syntax.no_accessors) = Some p
primary_alone e = None

-- The step of an operator on two chains without accessors.
abbrev pub step_of_both : Operator → Option Primary → Option Primary → Option StepView
step_of_both op (Some p) (Some q) = step_of_pair op p q
step_of_both op (Some p) None = None
step_of_both op None q = None

-- The step of an index: a whole number counts from the first item, `last` is the last one,
-- `last - 1` the one before it, and `last + 1` the place past it.
abbrev pub step_of_index : Expression → Option StepView
step_of_index (syntax.chain p syntax.no_accessors) = step_of_primary p
step_of_index (syntax.arithmetic op e f) = step_of_both op (primary_alone e) (primary_alone f)
step_of_index e = None

-- The step of a list of one index.
abbrev pub step_of_subscripts : Subscripts → Option StepView
step_of_subscripts (syntax.index e syntax.no_subscripts) = step_of_index e
step_of_subscripts ss = None

-- The step of an accessor that leads to one child: `.k` or `[..]`.
abbrev pub step_of : Accessor → Option StepView
step_of (syntax.member k) = Some (key k)
step_of (syntax.items_at ss) = step_of_subscripts ss
step_of a = None

-- The steps of accessors, if each leads to one child.
abbrev pub steps_along : Accessors → Option (List StepView)
steps_along syntax.no_accessors = Some []
steps_along (syntax.accessor a rest) = step_then (step_of a) (steps_along rest)

-- The steps of a path from `$`, if each of its accessors leads to one child.
abbrev pub steps_of : Expression → Option (List StepView)
steps_of (syntax.chain syntax.root accessors) = steps_along accessors
steps_of e = None
