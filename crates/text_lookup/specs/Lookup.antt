-- What a look-up in a text finds.
use Rattle.std.specs.Prelude.{◌≡◌, ◌≤◌, ◌⊎◌, ℕ, List, Option, Some, None, chars, length}
use Rattle.jsonb_value.specs.declared.parser.number.Exponents.{Exponents}
use Rattle.jsonb_value.specs.Json.Syntax.{JsonText}
use Rattle.jsonb_value.specs.TextDepth.{text_depth}
use Rattle.jsonb_value.specs.Tree.{Tree, object}
use Rattle.jsonb_value.specs.Value.{tree_of}
use Rattle.jsonb_value.specs.WellFormed.{IsTree}
use Rattle.jsonb_codec.specs.Canon.{Fits}
use Rattle.jsonb.specs.Node.{IsContainer, value_of_key}
use Rattle.text_lookup.specs.declared.member.TheConstants.{MAX_LOOKUP_LEN}
use Rattle.text_lookup.specs.declared.member.TextMember.{TextMember}
use Rattle.text_lookup.specs.declared.member.TextMember.TheVariants.{Scalar, Missing, Unread}

-- This is the value at a key: a scalar as it is; there is none; or it is an array or object.
abbrev pub IsMember : TextMember → Option Tree → Type 0
IsMember (Scalar value) found =
    (found ≡ Some (tree_of value)) × (IsContainer (tree_of value) → ⊥)
IsMember Missing found = found ≡ None
IsMember Unread found = (t : Tree) × ((found ≡ Some t) × IsContainer t)

-- This is what is found at a key of the value: of any but an object nothing is read.
abbrev pub IsLookedUp : List ℕ → TextMember → Tree → Type 0
IsLookedUp key member (object ps) = IsMember member (value_of_key key (object ps))
IsLookedUp key member t = member ≡ Unread

-- A text that is too long is not read. Any other one is JSON that nests at most so deep, its value
-- has a canonical document, and this is what is found at the key.
abbrev pub IsMemberOf : Exponents → ℕ → List ℕ → TextMember → List ℕ → Type 0
IsMemberOf rule depth key member text =
    ((MAX_LOOKUP_LEN ≤ length text) × (member ≡ Unread))
    ⊎ ((text_depth text ≤ depth) × ((t : Tree) × (JsonText rule (chars text) t
    × (IsTree t × (Fits t × IsLookedUp key member t)))))
