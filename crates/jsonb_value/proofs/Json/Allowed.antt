-- What a text means without exponents, it means where they are allowed.
use Rattle.std.proofs.Common.{◌≡◌, ℕ, true, Option, Some, None, refl, List}
use Rattle.std.specs.Prelude.{◌&&◌, option_map}
use Rattle.jsonb_value.specs.declared.number.Number.{Number}
use Rattle.jsonb_value.specs.declared.parser.number.Exponents.TheVariants.{Forbidden, Allowed}
use Rattle.jsonb_value.specs.Tree.{Tree, number}
use Rattle.jsonb_value.specs.Json.Characters.{all_blank, all_digits}
use Rattle.jsonb_value.specs.Json.Numeral.{Numeral, Exponent, numeral_meaning, is_numeral, is_whole}
use Rattle.jsonb_value.specs.Json.Numeral.{is_exponent}
use Rattle.jsonb_value.specs.Json.Piece.{pieces_meaning}
use Rattle.jsonb_value.specs.Json.Syntax.{Syntax, nothing, truth, numeral, string, empty_array}
use Rattle.jsonb_value.specs.Json.Syntax.{items, empty_object, members, Element, element, Items}
use Rattle.jsonb_value.specs.Json.Syntax.{no_item, next_item, Member, member, Members, no_member}
use Rattle.jsonb_value.specs.Json.Syntax.{next_member, Entries, between, meaning, element_meaning}
use Rattle.jsonb_value.specs.Json.Syntax.{items_meaning, member_meaning, members_meaning, Json}
use Rattle.jsonb_value.specs.Json.Syntax.{JsonWithExponents}
use Rattle.jsonb_value.proofs.Json.Tests.{bind_then, bound, by_true, cond_some, and_true, and_both}

exponent_allowed : (x : Option Exponent) → is_exponent Forbidden x ≡ true
    → is_exponent Allowed x ≡ true
exponent_allowed None e = refl
exponent_allowed (Some x) e = absurd (let h : ⊥ = cc in h)

numeral_allowed : (n : Numeral) (x : Number) → numeral_meaning Forbidden n ≡ Some x
    → numeral_meaning Allowed n ≡ Some x
numeral_allowed n x e =
    let parts = cond_some (is_numeral Forbidden n) _ x e in
    let digits = is_whole n.whole && all_digits n.fraction in
    let proper = and_true digits (is_exponent Forbidden n.exponent) parts.0 in
    by_true (is_numeral Allowed n) _ None (Some x)
    (and_both digits (is_exponent Allowed n.exponent) proper.0
    (exponent_allowed n.exponent proper.1)) parts.1

option_was : {A B : Type 0} (f : A → B) (o p : Option A) (y : B)
    → ((x : A) → o ≡ Some x → p ≡ Some x) → option_map f o ≡ Some y → option_map f p ≡ Some y
option_was f None p y go e = absurd (let h : ⊥ = cc in h)
option_was f (Some x) p y go e = rw (go x refl) e

mutual
  syntax_allowed : (x : Syntax) (t : Tree) → meaning Forbidden x ≡ Some t
      → meaning Allowed x ≡ Some t
  syntax_allowed nothing t e = e
  syntax_allowed (truth b) t e = e
  syntax_allowed (numeral n) t e =
      option_was number (numeral_meaning Forbidden n) (numeral_meaning Allowed n) t
      (numeral_allowed n) e
  syntax_allowed (string pieces) t e = e
  syntax_allowed (empty_array blank) t e = e
  syntax_allowed (empty_object blank) t e = e
  syntax_allowed (items x xs) t e =
      bind_then (element_meaning Forbidden x) _ _ e (λ y is more.
      bind_then (items_meaning Forbidden xs) _ _ more (λ ys are end.
      bound _ _ _ y (element_allowed x y is) (bound _ _ _ ys (items_allowed xs ys are) end)))
  syntax_allowed (members m ms) t e =
      bind_then (member_meaning Forbidden m) _ _ e (λ y is more.
      bind_then (members_meaning Forbidden ms) _ _ more (λ ys are end.
      bound _ _ _ y (member_allowed m y is) (bound _ _ _ ys (members_allowed ms ys are) end)))

  element_allowed : (x : Element) (t : Tree) → element_meaning Forbidden x ≡ Some t
      → element_meaning Allowed x ≡ Some t
  element_allowed (element before x after) t e =
      let parts = cond_some (all_blank before && all_blank after) (meaning Forbidden x) t e in
      by_true _ _ _ _ parts.0 (syntax_allowed x t parts.1)

  items_allowed : (xs : Items) (ts : List Tree) → items_meaning Forbidden xs ≡ Some ts
      → items_meaning Allowed xs ≡ Some ts
  items_allowed no_item ts e = e
  items_allowed (next_item x xs) ts e =
      bind_then (element_meaning Forbidden x) _ _ e (λ y is more.
      bind_then (items_meaning Forbidden xs) _ _ more (λ ys are end.
      bound _ _ _ y (element_allowed x y is) (bound _ _ _ ys (items_allowed xs ys are) end)))

  member_allowed : (m : Member) (y : List ℕ × Tree) → member_meaning Forbidden m ≡ Some y
      → member_meaning Allowed m ≡ Some y
  member_allowed (member before key after x) y e =
      bind_then (between before after (pieces_meaning key)) _ _ e (λ k is_key more.
      bind_then (element_meaning Forbidden x) _ _ more (λ t is_value end.
      bound _ _ _ k is_key (bound _ _ _ t (element_allowed x t is_value) end)))

  members_allowed : (ms : Members) (es : Entries) → members_meaning Forbidden ms ≡ Some es
      → members_meaning Allowed ms ≡ Some es
  members_allowed no_member es e = e
  members_allowed (next_member m ms) es e =
      bind_then (member_meaning Forbidden m) _ _ e (λ y is more.
      bind_then (members_meaning Forbidden ms) _ _ more (λ ys are end.
      bound _ _ _ y (member_allowed m y is) (bound _ _ _ ys (members_allowed ms ys are) end)))

pub text_allowed : (s : List ℕ) (t : Tree) → Json s t → JsonWithExponents s t
text_allowed s t json = record {
  syntax = json.syntax;
  is_spelled = json.is_spelled;
  is_meant = element_allowed json.syntax t json.is_meant;
}
