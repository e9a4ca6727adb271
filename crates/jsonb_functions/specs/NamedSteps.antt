-- The steps that names mean in a tree.
use Rattle.std.specs.Prelude.{ℕ, zero, suc, List, [], ◌∷◌, length, slice_index, nat_lt}
use Rattle.std.specs.Prelude.{Bool, ◌&&◌, ◌==◌, if◌then◌else◌, Option, None, Some}
use Rattle.jsonb_value.specs.Tree.{Tree, array}
use Rattle.jsonb.specs.Node.{value_of_key}
use Rattle.jsonb_functions.specs.declared.path.Step.TheVariants.{Index, FromEnd, End}
use Rattle.jsonb_functions.specs.Found.{child_at, if_there}
use Rattle.jsonb_functions.specs.PathText.{capped_number}
use Rattle.jsonb_functions.specs.StoredPath.{StepView, key, index, from_end, past_end}

-- There are digits after a first `0`.
abbrev pub has_leading_zero : List ℕ → Bool
has_leading_zero ds = nat_lt 1 (length ds) && (slice_index ds 0 == 48)

-- The number of decimal digits without a leading zero, or the greatest of 64 bits if it exceeds
-- that.
abbrev pub index_in : List ℕ → Option ℕ
index_in ds = if has_leading_zero ds then None else capped_number ds

-- The step to the item of this index, if there is one, and otherwise to a key.
abbrev pub index_or_key : List ℕ → Option ℕ → StepView
index_or_key name (Some n) = index n
index_or_key name None = key name

-- The same, counted from the end, where 1 is the last item.
abbrev pub end_or_key : List ℕ → Option ℕ → StepView
end_or_key name (Some (suc n)) = from_end n
end_or_key name (Some zero) = key name
end_or_key name None = key name

-- The step that a name is in an array: digits are an index, a `-` before them counts from the end,
-- and `-` alone is past the last item. What leads to no item is a key.
abbrev pub item_step : List ℕ → StepView
item_step [] = key []
item_step (c ∷ []) =
    if c == 45 then past_end else index_or_key (c ∷ []) (index_in (c ∷ []))
item_step (c ∷ (d ∷ ds)) =
    if c == 45 then end_or_key (c ∷ (d ∷ ds)) (index_in (d ∷ ds))
    else index_or_key (c ∷ (d ∷ ds)) (index_in (c ∷ (d ∷ ds)))

-- The step that a name is at a place, if that is there: a key, but in an array.
abbrev pub step_by : List ℕ → Option Tree → StepView
step_by name (Some (array ts)) = item_step name
step_by name (Some t) = key name
step_by name None = key name

-- The child that a step leads to.
abbrev pub child_by : StepView → Tree → Option Tree
child_by (key k) (array ts) = None
child_by (key k) t = value_of_key k t
child_by (index i) t = child_at (Index i) t
child_by (from_end i) t = child_at (FromEnd i) t
child_by past_end t = child_at End t

-- The steps that names are from a place on: each at the place to which those before it lead.
abbrev pub steps_by : List (List ℕ) → Option Tree → List StepView
steps_by [] place = []
steps_by (name ∷ names) place =
    step_by name place ∷ steps_by names (if_there place (child_by (step_by name place)))
