-- How deep a text nests.
use Rattle.std.specs.Prelude.{◌≡◌, ◌≤◌, ℕ, suc, ◌-◌, ◌==◌, ◌||◌, if◌then◌else◌, max, List, []}
use Rattle.std.specs.Prelude.{◌∷◌, Some, chars}
use Rattle.jsonb_value.specs.declared.text_depth.ScanState.{ScanState}
use Rattle.jsonb_value.specs.declared.text_depth.ScanState.TheVariants.{Outside, Inside, Escaped}
use Rattle.jsonb_value.specs.declared.parser.number.Exponents.{Exponents}
use Rattle.jsonb_value.specs.Depth.{depth}
use Rattle.jsonb_value.specs.Tree.{Tree}
use Rattle.jsonb_value.specs.Json.Syntax.{Syntax, nothing, truth, numeral, string, empty_array}
use Rattle.jsonb_value.specs.Json.Syntax.{items, empty_object, members, Element, element, Items}
use Rattle.jsonb_value.specs.Json.Syntax.{no_item, next_item, Member, member, Members, no_member}
use Rattle.jsonb_value.specs.Json.Syntax.{next_member, element_text, element_meaning}

-- whether the next character is outside strings, inside one, or after its backslash
abbrev pub state_after : ScanState → ℕ → ScanState
state_after Outside c = if c == 34 then Inside else Outside
state_after Inside c = if c == 34 then Outside else if c == 92 then Escaped else Inside
state_after Escaped c = Inside

-- how many brackets are open after this character, of those outside strings
abbrev pub level_after : ScanState → ℕ → ℕ → ℕ
level_after Outside level c = if (c == 91) || (c == 123) then suc level
    else if (c == 93) || (c == 125) then level - 1 else level
level_after Inside level c = level
level_after Escaped level c = level

-- the greatest number of brackets that are open at once, if this many are open before the text
abbrev pub greatest_level : ScanState → ℕ → List ℕ → ℕ
greatest_level state level [] = level
greatest_level state level (c ∷ text) =
    max level (greatest_level (state_after state c) (level_after state level c) text)

-- The depth of a text: the greatest number of its brackets [ and { outside strings that are open at
-- once.
abbrev pub text_depth : List ℕ → ℕ
text_depth text = greatest_level Outside 0 text

-- the depth of what is spelled: 0 of a scalar; of an array or object one more than the deepest part
-- has, and 1 where it is empty
abbrev mutual
  pub syntax_depth : Syntax → ℕ
  syntax_depth nothing = 0
  syntax_depth (truth b) = 0
  syntax_depth (numeral n) = 0
  syntax_depth (string pieces) = 0
  syntax_depth (empty_array blank) = 1
  syntax_depth (items x xs) = suc (max (element_depth x) (items_depth xs))
  syntax_depth (empty_object blank) = 1
  syntax_depth (members m ms) = suc (max (member_depth m) (members_depth ms))

  pub element_depth : Element → ℕ
  element_depth (element before x after) = syntax_depth x

  pub items_depth : Items → ℕ
  items_depth no_item = 0
  items_depth (next_item x xs) = max (element_depth x) (items_depth xs)

  pub member_depth : Member → ℕ
  member_depth (member before key after x) = element_depth x

  pub members_depth : Members → ℕ
  members_depth no_member = 0
  members_depth (next_member m ms) = max (member_depth m) (members_depth ms)

-- A text of JSON under this rule for exponents is as deep as what it spells, and its tree is no
-- deeper. The tree is less deep only where a deeper value is not kept, since its key is repeated.
abbrev pub HasDepthOfSpelled : Exponents → List ℕ → Type 0
HasDepthOfSpelled rule text = (syntax : Element) (t : Tree) → chars text ≡ element_text syntax
    → element_meaning rule syntax ≡ Some t
    → (text_depth text ≡ element_depth syntax) × (depth t ≤ element_depth syntax)
