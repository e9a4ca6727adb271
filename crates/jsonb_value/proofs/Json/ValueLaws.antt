-- What is read as a value is spelled that way.
use Rattle.std.proofs.Common.{arith}
use Rattle.std.proofs.Common.{◌≡◌, ℕ, zero, suc, true, false, inl, inr, Option, Some, None, refl}
use Rattle.std.proofs.Common.{List, [], ◌∷◌, ◌++◌, length, append_assoc}
use Rattle.std.proofs.Common.{append-nil, eqb-true}
use Rattle.std.specs.Prelude.{◌==◌}
use Rattle.std.specs.Ordering.{nat_cmp}
use Rattle.std.specs.Cmp.Lexicographic.{slice_cmp}
use Rattle.std.specs.BTreeMap.{insert_entry}
use Rattle.jsonb_value.specs.declared.parser.number.Exponents.{Exponents}
use Rattle.jsonb_value.specs.Tree.{Tree, null, array, object, boolean, no_trees}
use Rattle.jsonb_value.specs.Tree.{no_pairs}
use Rattle.jsonb_value.specs.Json.Characters.{quote, comma, colon, open_bracket, close_bracket}
use Rattle.jsonb_value.specs.Json.Characters.{open_brace, close_brace, is_blank, all_blank}
use Rattle.jsonb_value.specs.Value.{trees_of}
use Rattle.jsonb_value.specs.Json.Syntax.{Syntax, nothing, truth, numeral, string, empty_array}
use Rattle.jsonb_value.specs.Json.Syntax.{items, empty_object, members, Element, element, Items}
use Rattle.jsonb_value.specs.Json.Syntax.{no_item, next_item, Member, member, Members, no_member}
use Rattle.jsonb_value.specs.Json.Syntax.{next_member, syntax_text, element_text, items_text}
use Rattle.jsonb_value.specs.Json.Syntax.{member_text, members_text, Entries, pairs, insert_all}
use Rattle.jsonb_value.specs.Json.Syntax.{meaning, element_meaning, items_meaning, member_meaning}
use Rattle.jsonb_value.specs.Json.Syntax.{members_meaning, JsonText}
use Rattle.jsonb_value.specs.Reader.Reading.{Reader, skip_blank, expect, expect_all, empty_or}
use Rattle.jsonb_value.specs.Reader.Reading.{read_word, read_text, read_element, after_item}
use Rattle.jsonb_value.specs.Reader.Reading.{read_items, read_member, after_member, read_members}
use Rattle.jsonb_value.specs.Reader.Reading.{Kind, null_kind, true_kind, false_kind, string_kind}
use Rattle.jsonb_value.specs.Reader.Reading.{array_kind, object_kind, number_kind, kind_begun}
use Rattle.jsonb_value.specs.Reader.Reading.{read_kind, read_number, read_value, if_last}
use Rattle.jsonb_value.specs.Reader.Reading.{read_document}
use Rattle.jsonb_value.proofs.Json.Tests.{bool_cases, bind_then, some_same}
use Rattle.jsonb_value.proofs.Json.Tests.{no_error, chosen, cond_some}
use Rattle.jsonb_value.proofs.Json.NumberLaws.{number-found}
use Rattle.jsonb_value.proofs.Json.TextLaws.{text-found}

pub expect-found : (k : ℕ) (s rest : List ℕ) → expect k s ≡ Some rest → s ≡ k ∷ rest
expect-found k s rest e = grind (arith, eqb-true)

all-found : (ks s rest : List ℕ) → expect_all ks s ≡ Some rest → s ≡ ks ++ rest
all-found [] s rest e = some_same s rest e
all-found (k ∷ ks) s rest e = bind_then (expect k s) _ _ e
    (λ r is more. grind (arith, expect-found k s r is, all-found ks r rest more))

literal-found : (ks : List ℕ) (x t : Tree) (s rest : List ℕ) → read_word ks x s ≡ Some (t, rest)
    → (x ≡ t) × (s ≡ ks ++ rest)
literal-found ks x t s rest e = grind (arith, all-found)

pub record IsBlankFront (s : List ℕ) : Type 0 where
  pub blank : List ℕ
  pub is_blank : all_blank blank ≡ true
  pub is_spelled : s ≡ blank ++ skip_blank s

pub skip-split : (s : List ℕ) → IsBlankFront s
skip-split [] = grind arith
skip-split (c ∷ s) = elim (bool_cases (is_blank c)) [
  | inl is ↦
      let others = skip-split s in
      record { blank = c ∷ others.blank; is_blank = grind arith; is_spelled = grind arith }
  | inr other ↦ record { blank = []; is_blank = refl; is_spelled = rw other refl }
]

-- a value at the start of the text; likewise an element and a member
pub record IsValueFront (rule : Exponents) (s : List ℕ) (t : Tree) (rest : List ℕ) : Type 0 where
  pub syntax : Syntax
  pub is_meant : meaning rule syntax ≡ Some t
  pub is_spelled : s ≡ syntax_text syntax ++ rest

pub record IsElementFront (rule : Exponents) (s : List ℕ) (t : Tree) (rest : List ℕ) : Type 0 where
  pub syntax : Element
  pub is_meant : element_meaning rule syntax ≡ Some t
  pub is_spelled : s ≡ element_text syntax ++ rest

pub record IsMemberFront (rule : Exponents) (s : List ℕ) (e : List ℕ × Tree)
    (rest : List ℕ) : Type 0 where
  pub syntax : Member
  pub is_meant : member_meaning rule syntax ≡ Some e
  pub is_spelled : s ≡ member_text syntax ++ rest

-- items at the start, which follow earlier ones, and the closing bracket; likewise members
pub record IsItemsFront (rule : Exponents) (front : List Tree) (s : List ℕ) (t : Tree)
    (rest : List ℕ) : Type 0 where
  pub syntax : Items
  pub own : List Tree
  pub is_meant : items_meaning rule syntax ≡ Some own
  pub is_joined : array (trees_of (front ++ own)) ≡ t
  pub is_spelled : s ≡ items_text syntax ++ rest

pub record IsMembersFront (rule : Exponents) (front : Entries) (s : List ℕ) (t : Tree)
    (rest : List ℕ) : Type 0 where
  pub syntax : Members
  pub own : Entries
  pub is_meant : members_meaning rule syntax ≡ Some own
  pub is_joined : object (pairs (insert_all front own)) ≡ t
  pub is_spelled : s ≡ members_text syntax ++ rest

-- a nonempty container, from what would follow a comma
array_from : (rule : Exponents) (x : Items) (own : List Tree) (s rest : List ℕ)
    → items_meaning rule x ≡ Some own
    → comma ∷ s ≡ items_text x ++ rest → IsValueFront rule (open_bracket ∷ s)
    (array (trees_of own)) rest
array_from rule no_item own s rest e is = grind arith
array_from rule (next_item x xs) own s rest e is =
    record { syntax = items x xs; is_meant = grind arith; is_spelled = grind arith }

object_from : (rule : Exponents) (x : Members) (own : Entries) (s rest : List ℕ)
    → members_meaning rule x ≡ Some own
    → comma ∷ s ≡ members_text x ++ rest
    → IsValueFront rule (open_brace ∷ s) (object (pairs (insert_all [] own))) rest
object_from rule no_member own s rest e is = grind arith
object_from rule (next_member x xs) own s rest e is =
    record { syntax = members x xs; is_meant = grind arith; is_spelled = grind arith }

-- what the reader returns is spelled at the start of the text
abbrev pub IsSound : Exponents → Reader Tree → Type 0
IsSound rule value =
    (s : List ℕ) (t : Tree) (rest : List ℕ) → value s ≡ Some (t, rest) → IsValueFront rule s t rest

module _ (rule : Exponents) (value : Reader Tree) (sound : IsSound rule value) where
  pub element-found : (s : List ℕ) (t : Tree) (rest : List ℕ)
      → read_element value s ≡ Some (t, rest) → IsElementFront rule s t rest
  element-found s t rest e = bind_then (value (skip_blank s)) _ _ e (λ x is end.
      let before = skip-split s in
      let inside = sound (skip_blank s) x.0 x.1 is in
      let after = skip-split x.1 in
      record {
        syntax = element before.blank inside.syntax after.blank;
        is_meant = grind arith;
        is_spelled = grind (arith, append_assoc);
      })

  abbrev ItemsSound : ℕ → Type 0
  ItemsSound n = (front : List Tree) (s : List ℕ) (t : Tree) (rest : List ℕ)
      → read_items value n front s ≡ Some (t, rest) → IsItemsFront rule front (comma ∷ s) t rest

  after_item-found : (n : ℕ) → ItemsSound n
      → (front : List Tree) (s : List ℕ) (t : Tree) (rest : List ℕ)
      → after_item (read_items value n) front s ≡ Some (t, rest) → IsItemsFront rule front s t rest
  after_item-found n found front [] t rest e = no_error e
  after_item-found n found front (c ∷ s) t rest e = elim (chosen (c == comma) _ _ _ e) [
    | inl is ↦ rw (eqb-true c comma is.0) (found front s t rest is.1)
    | inr other ↦
        let closed = cond_some (c == close_bracket) _ _ other.1 in
        record {
          syntax = no_item;
          own = [];
          is_meant = refl;
          is_joined = grind (arith, append-nil);
          is_spelled = grind (arith, eqb-true);
        }
  ]

  items-found : (n : ℕ) → ItemsSound n
  unfolding read_items
  items-found zero front s t rest e = no_error e
  items-found (suc n) front s t rest e = bind_then (read_element value s) _ _ e (λ x is more.
      let first = element-found s x.0 x.1 is in
      let others =
      after_item-found n (items-found n) (front ++ x.0 ∷ []) x.1 t rest more in
      record {
        syntax = next_item first.syntax others.syntax;
        own = x.0 ∷ others.own;
        is_meant = grind arith;
        is_joined = grind (arith, append_assoc);
        is_spelled = grind (arith, append_assoc);
      })

  array-found : (n : ℕ) (s : List ℕ) (t : Tree) (rest : List ℕ) (closed : Option (List ℕ))
      → expect close_bracket (skip_blank s) ≡ closed
      → empty_or closed (array no_trees) (read_items value n [] s) ≡ Some (t, rest)
      → IsValueFront rule (open_bracket ∷ s) t rest
  array-found n s t rest (Some r) is e =
      let before = skip-split s in
      let close = expect-found close_bracket (skip_blank s) r is in
      record {
        syntax = empty_array before.blank;
        is_meant = grind arith;
        is_spelled = grind (arith, append_assoc);
      }
  array-found n s t rest None is e =
      let found = items-found n [] s t rest e in
      rw found.is_joined at
      (array_from rule found.syntax found.own s rest found.is_meant found.is_spelled)

  pub member-found : (n : ℕ) (s : List ℕ) (m : List ℕ × Tree) (rest : List ℕ)
      → read_member value n s ≡ Some (m, rest) → IsMemberFront rule s m rest
  member-found n s m rest e =
      bind_then (expect quote (skip_blank s)) _ _ e (λ opened is_opened more.
      bind_then (read_text n [] opened) _ _ more (λ key is_key more.
      bind_then (expect colon (skip_blank key.1)) _ _ more (λ later is_after more.
      bind_then (read_element value later) _ _ more (λ x is_value end.
      let before = skip-split s in
      let first = expect-found quote (skip_blank s) opened is_opened in
      let inside = text-found n [] opened key.0 key.1 is_key in
      let blank = skip-split key.1 in
      let second = expect-found colon (skip_blank key.1) later is_after in
      let found = element-found later x.0 x.1 is_value in
      record {
        syntax = member before.blank inside.pieces blank.blank found.syntax;
        is_meant = grind arith;
        is_spelled = grind (arith, append_assoc);
      }))))

  abbrev MembersSound : ℕ → Type 0
  MembersSound n = (front : Entries) (s : List ℕ) (t : Tree) (rest : List ℕ)
      → read_members value n front s ≡ Some (t, rest) → IsMembersFront rule front (comma ∷ s) t rest

  after_member-found : (n : ℕ) → MembersSound n
      → (front : Entries) (s : List ℕ) (t : Tree) (rest : List ℕ)
      → after_member (read_members value n) front s ≡ Some (t, rest)
      → IsMembersFront rule front s t rest
  after_member-found n found front [] t rest e = no_error e
  after_member-found n found front (c ∷ s) t rest e = elim (chosen (c == comma) _ _ _ e) [
    | inl is ↦ rw (eqb-true c comma is.0) (found front s t rest is.1)
    | inr other ↦
        let closed = cond_some (c == close_brace) _ _ other.1 in
        record {
          syntax = no_member;
          own = [];
          is_meant = refl;
          is_joined = grind arith;
          is_spelled = grind (arith, eqb-true);
        }
  ]

  members-found : (n : ℕ) → MembersSound n
  unfolding read_members
  members-found zero front s t rest e = no_error e
  members-found (suc n) front s t rest e = bind_then (read_member value n s) _ _ e (λ m is more.
      let first = member-found n s m.0 m.1 is in
      let others = after_member-found n (members-found n)
      (insert_entry (slice_cmp nat_cmp) front m.0.0 m.0.1) m.1 t rest more in
      record {
        syntax = next_member first.syntax others.syntax;
        own = m.0 ∷ others.own;
        is_meant = grind arith;
        is_joined = others.is_joined;
        is_spelled = grind (arith, append_assoc);
      })

  object-found : (n : ℕ) (s : List ℕ) (t : Tree) (rest : List ℕ) (closed : Option (List ℕ))
      → expect close_brace (skip_blank s) ≡ closed
      → empty_or closed (object no_pairs) (read_members value n [] s) ≡ Some (t, rest)
      → IsValueFront rule (open_brace ∷ s) t rest
  object-found n s t rest (Some r) is e =
      let before = skip-split s in
      let close = expect-found close_brace (skip_blank s) r is in
      record {
        syntax = empty_object before.blank;
        is_meant = grind arith;
        is_spelled = grind (arith, append_assoc);
      }
  object-found n s t rest None is e =
      let found = members-found n [] s t rest e in
      rw found.is_joined at
      (object_from rule found.syntax found.own s rest found.is_meant found.is_spelled)

-- the first character of a value of each kind
abbrev kind_character : Kind → ℕ → Type 0
kind_character null_kind c = c ≡ 110
kind_character true_kind c = c ≡ 116
kind_character false_kind c = c ≡ 102
kind_character string_kind c = c ≡ quote
kind_character array_kind c = c ≡ open_bracket
kind_character object_kind c = c ≡ open_brace
kind_character number_kind c = Unit {0}

kind-tells : (k : Kind) (c : ℕ) → kind_begun c ≡ k → kind_character k c
kind-tells k c e = grind (arith, eqb-true)

word-found : (rule : Exponents) (ls : List ℕ) (x : Tree) (word : Syntax) (c k : ℕ) (s : List ℕ)
    (t : Tree) (rest : List ℕ) → c ≡ k → meaning rule word ≡ Some x → syntax_text word ≡ k ∷ ls
    → read_word ls x s ≡ Some (t, rest) → IsValueFront rule (c ∷ s) t rest
word-found rule ls x word c k s t rest is meant spelled e = grind (arith, literal-found)

kind-found : (rule : Exponents) (value : Reader Tree) → IsSound rule value
    → (n : ℕ) (k : Kind) (c : ℕ) (s : List ℕ) (t : Tree) (rest : List ℕ) → kind_character k c
    → read_kind rule value n k c s ≡ Some (t, rest) → IsValueFront rule (c ∷ s) t rest
kind-found rule value sound n null_kind c s t rest is e =
    word-found rule _ null nothing c 110 s t rest is refl refl e
kind-found rule value sound n true_kind c s t rest is e =
    word-found rule _ (boolean true) (truth true) c 116 s t rest is refl refl e
kind-found rule value sound n false_kind c s t rest is e =
    word-found rule _ (boolean false) (truth false) c 102 s t rest is refl refl e
kind-found rule value sound n string_kind c s t rest is e =
    bind_then (read_text n [] s) _ _ e (λ x is_text end.
    let found = text-found n [] s x.0 x.1 is_text in
    record {
      syntax = string found.pieces;
      is_meant = grind arith;
      is_spelled = grind (arith, append_assoc);
    })
kind-found rule value sound n array_kind c s t rest is e = grind (arith, array-found)
kind-found rule value sound n object_kind c s t rest is e = grind (arith, object-found)
kind-found rule value sound n number_kind c s t rest is e =
    bind_then (read_number rule (c ∷ s)) _ _ e (λ x is_number end.
    let found = number-found rule (c ∷ s) x.0 x.1 is_number in
    record { syntax = numeral found.numeral; is_meant = grind arith; is_spelled = grind arith })

pub value-found : (rule : Exponents) (n : ℕ) → IsSound rule (read_value rule n)
unfolding read_value
value-found rule zero s t rest e = no_error e
value-found rule (suc n) [] t rest e = no_error e
value-found rule (suc n) (c ∷ s) t rest e = kind-found rule (read_value rule n) (value-found rule n)
    n (kind_begun c) c s t rest (kind-tells (kind_begun c) c refl) e

last-found : (x : Tree) (s : List ℕ) (t : Tree) → if_last x s ≡ Some t → (x ≡ t) × (s ≡ [])
last-found x s t e = grind arith

pub document-found : (rule : Exponents) (s : List ℕ) (t : Tree) → read_document rule s ≡ Some t
    → JsonText rule s t
document-found rule s t e =
    let n = suc (length s) in
    bind_then (read_element (read_value rule n) s) _ _ e (λ x is end.
    let found = element-found rule (read_value rule n) (value-found rule n) s x.0 x.1 is in
    let last = last-found x.0 x.1 t end in
    record {
      syntax = found.syntax;
      is_spelled = grind (arith, append-nil);
      is_meant = grind arith;
    })
