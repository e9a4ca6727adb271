-- Parts that are appended to others.
use Rattle.std.specs.Prelude.{◌≡◌, ℕ, ◌++◌, Bool, true, false, List, [], IsTrue}
use Rattle.jsonb_path.specs.declared.path.Part.{Part}
use Rattle.jsonb_path.specs.PathParts.{are_parts_after, is_expression, is_test}

-- More parts are after those before, and each names parts before it.
pub record PartsGrow (before after : List Part) : Type 0 where
  pub more : List Part
  pub is : after ≡ before ++ more
  pub parts : IsTrue (are_parts_after [] after)

-- There is a test of this index, or an expression, as is wanted.
abbrev pub is_operand : Bool → List Part → ℕ → Bool
is_operand true ps i = is_test ps i
is_operand false ps i = is_expression ps i
