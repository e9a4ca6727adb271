-- What is appended to the children of a container that is made.
use Rattle.std.specs.Prelude.{◌≡◌, ◌++◌, ℕ, List, [], ◌∷◌, Option, None, Some, String, string_bytes}
use Rattle.std.specs.declared.alloc.Global.{Global}
use Rattle.jsonb_value.specs.declared.value.Value.{Value}

-- A value was appended, if there is one.
abbrev pub IsPushed : Option Value → List Value → List Value → Type 0
IsPushed None before after = after ≡ before
IsPushed (Some v) before after = after ≡ before ++ (v ∷ [])

-- Names with their values.
abbrev pub Members : Type 0
Members = List (String Global × Value)

-- A name was appended with a value, if there is one.
abbrev pub IsMemberPushed : List ℕ → Option Value → Members → Members → Type 0
IsMemberPushed name None before after = after ≡ before
IsMemberPushed name (Some v) before after =
    (key : String Global) × ((string_bytes key ≡ name) × (after ≡ before ++ ((key, v) ∷ [])))
