-- What is spelled as a value is read as that value.
use Rattle.std.proofs.Common.{◌≡◌, ℕ, zero, suc, ◌<◌, ◌≤◌, Bool, true, false, ◌⊎◌, Option}
use Rattle.std.proofs.Common.{Some, None, refl, sym, ap, ◌∙◌, List, [], ◌∷◌, ◌++◌, length}
use Rattle.std.proofs.Common.{append_assoc, append-nil, eqb-true, arith, length-append}
use Rattle.std.specs.Prelude.{◌&&◌, ◌||◌, ◌==◌, not, option_map}
use Rattle.std.proofs.lemmas.Bool.Decides.{nat_tests}
use Rattle.std.specs.Ordering.{nat_cmp}
use Rattle.std.specs.Cmp.Lexicographic.{slice_cmp}
use Rattle.std.specs.BTreeMap.{insert_entry}
use Rattle.jsonb_value.specs.declared.number.Number.{Number}
use Rattle.jsonb_value.specs.declared.parser.number.Exponents.{Exponents}
use Rattle.jsonb_value.specs.declared.parser.number.Exponents.TheVariants.{Forbidden}
use Rattle.jsonb_value.specs.Tree.{Tree, null, array, object, text, number, boolean, no_trees}
use Rattle.jsonb_value.specs.Tree.{no_pairs}
use Rattle.jsonb_value.specs.Json.Characters.{quote, comma, colon, open_bracket}
use Rattle.jsonb_value.specs.Json.Characters.{close_bracket, open_brace, close_brace, is_blank}
use Rattle.jsonb_value.specs.Json.Characters.{all_blank}
use Rattle.jsonb_value.specs.Json.Numeral.{Numeral, numeral_text, numeral_meaning, is_whole}
use Rattle.jsonb_value.specs.Json.Numeral.{sign_text, fraction_text, exponent_text}
use Rattle.jsonb_value.specs.Json.Piece.{Piece, pieces_text, pieces_meaning}
use Rattle.jsonb_value.specs.Value.{trees_of}
use Rattle.jsonb_value.specs.Json.Syntax.{Syntax, nothing, truth, numeral, string, empty_array}
use Rattle.jsonb_value.specs.Json.Syntax.{items, empty_object, members, Element, element, Items}
use Rattle.jsonb_value.specs.Json.Syntax.{no_item, next_item, Member, member, Members, no_member}
use Rattle.jsonb_value.specs.Json.Syntax.{next_member, string_characters, syntax_text, element_text}
use Rattle.jsonb_value.specs.Json.Syntax.{items_text, member_text, members_text, Entries, pairs}
use Rattle.jsonb_value.specs.Json.Syntax.{insert_all, between, meaning, element_meaning}
use Rattle.jsonb_value.specs.Json.Syntax.{items_meaning, member_meaning, members_meaning, JsonText}
use Rattle.jsonb_value.specs.Json.Syntax.{Json}
use Rattle.jsonb_value.specs.Reader.Reading.{skip_blank, expect}
use Rattle.jsonb_value.specs.Reader.Reading.{read_element, after_item, read_items, read_member}
use Rattle.jsonb_value.specs.Reader.Reading.{after_member, read_members, number_kind, kind_begun}
use Rattle.jsonb_value.specs.Reader.Reading.{read_number, read_value, read_document}
use Rattle.jsonb_value.proofs.Json.Tests.{bind_then, some_same, and_true}
use Rattle.jsonb_value.proofs.Json.Tests.{by_true, cond_some}
use Rattle.jsonb_value.proofs.Json.Digits.{ends_number}
use Rattle.jsonb_value.proofs.Json.NumberLaws.{number-again, first_of_whole}
use Rattle.jsonb_value.proofs.Json.TextLaws.{text-again}

-- ---- what may follow a value

-- nothing, a comma or a closing bracket
abbrev pub follows : List ℕ → Bool
follows [] = true
follows (c ∷ s) = (c == comma) || ((c == close_bracket) || (c == close_brace))

or_cases : (a b : Bool) → (a || b) ≡ true → (a ≡ true) ⊎ (b ≡ true)
or_cases a b e = grind arith

-- a test that has the same result for the three characters
follow_test : (p : ℕ → Bool) (v : Bool) (c : ℕ) (s : List ℕ) → p comma ≡ v → p close_bracket ≡ v
    → p close_brace ≡ v → follows (c ∷ s) ≡ true → p c ≡ v
follow_test p v c s first second third e = grind (arith, or_cases, eqb-true)

-- a test that has the same result for all white space
blank_test : (p : ℕ → Bool) (v : Bool) (c : ℕ) → p 32 ≡ v → p 9 ≡ v → p 10 ≡ v → p 13 ≡ v
    → is_blank c ≡ true → p c ≡ v
blank_test p v c first second third fourth e = grind (arith, or_cases, eqb-true)

ends-after : (after rest : List ℕ) → all_blank after ≡ true → follows rest ≡ true
    → ends_number (after ++ rest) ≡ true
ends-after [] [] blank e = refl
ends-after [] (c ∷ s) blank e =
    follow_test (λ d. ends_number (d ∷ [])) true c s refl refl refl e
ends-after (c ∷ after) rest blank e = grind (arith, blank_test)

pub skip-append : (blank s : List ℕ) → all_blank blank ≡ true → skip_blank (blank ++ s) ≡ skip_blank s
skip-append [] s e = refl
skip-append (c ∷ blank) s e =
    let parts = and_true _ _ e in
    by_true _ _ _ _ parts.0 (skip-append blank s parts.1)

skip-follows : (s : List ℕ) → follows s ≡ true → skip_blank s ≡ s
skip-follows s e = grind (arith, follow_test)

-- ---- how a value begins

-- neither with white space nor with a closing bracket
abbrev pub begins_value : List ℕ → Bool
begins_value [] = false
begins_value (c ∷ s) = not (is_blank c) && not (c == close_bracket)

-- the characters begin with a character of a number
abbrev pub BeginsNumber : List ℕ → Type 0
BeginsNumber [] = ⊥
BeginsNumber (c ∷ s) = kind_begun c ≡ number_kind

pub numeral_begins : (negative : Bool) (w more : List ℕ) → is_whole w ≡ true
    → (begins_value (sign_text negative ++ (w ++ more)) ≡ true)
    × BeginsNumber (sign_text negative ++ (w ++ more))
numeral_begins negative w more e = grind (arith, first_of_whole, nat_tests)

pub option_some : {A B : Type 0} (f : A → B) (o : Option A) (y : B) → option_map f o ≡ Some y → (x : A)
    × (o ≡ Some x) × (f x ≡ y)
option_some f o y e = grind arith

pub value_begins : (rule : Exponents) (x : Syntax) (t : Tree) → meaning rule x ≡ Some t
    → begins_value (syntax_text x) ≡ true
value_begins rule (truth true) t e = refl
value_begins rule (truth false) t e = refl
value_begins rule (numeral n) t e =
    let more = fraction_text n.fraction ++ exponent_text n.exponent in
    (numeral_begins n.is_negative n.whole more (grind arith)).0
value_begins rule x t e = refl

pub skip-begins : (s rest : List ℕ) → begins_value s ≡ true
    → (skip_blank (s ++ rest) ≡ s ++ rest) × (expect close_bracket (s ++ rest) ≡ None)
skip-begins s rest e = grind arith

-- an item does not begin with the closing bracket
no_bracket : (rule : Exponents) (x : Element) (t : Tree) (rest : List ℕ)
    → element_meaning rule x ≡ Some t
    → expect close_bracket (skip_blank (element_text x ++ rest)) ≡ None
no_bracket rule (element before x after) t rest e =
    let is = (cond_some (all_blank before && all_blank after) (meaning rule x) t e).1 in
    let begins = skip-begins (syntax_text x) (after ++ rest) (value_begins rule x t is) in
    grind (arith, append_assoc, skip-append, begins)

-- ---- reading

number_read : (rule : Exponents) (m : ℕ) (s rest : List ℕ) (x : Number) → BeginsNumber s
    → read_number rule s ≡ Some (x, rest) → read_value rule (suc m) s ≡ Some (number x, rest)
unfolding read_value
number_read rule m s rest x begins is = grind arith

number_value : (rule : Exponents) (n : Numeral) (m : ℕ) (rest : List ℕ) (x : Number)
    → numeral_meaning rule n ≡ Some x
    → ends_number rest ≡ true
    → read_value rule (suc m) (numeral_text n ++ rest) ≡ Some (number x, rest)
number_value rule n m rest x e ends =
    let more = fraction_text n.fraction ++ (exponent_text n.exponent ++ rest) in
    let split : numeral_text n ++ rest ≡ sign_text n.is_negative ++ (n.whole ++ more) =
    simp append_assoc in
    let begins = numeral_begins n.is_negative n.whole more (grind arith) in
    number_read rule m _ rest x (rw split begins.1) (number-again rule n x rest e ends)

text_value : (rule : Exponents) (pieces : List Piece) (m : ℕ) (rest own : List ℕ)
    → pieces_meaning pieces ≡ Some own
    → length (string_characters pieces ++ rest) ≤ m
    → read_value rule (suc m) (string_characters pieces ++ rest) ≡ Some (text own, rest)
unfolding read_value
text_value rule pieces m rest own e h =
    let split = append_assoc (pieces_text pieces) (quote ∷ []) rest in
    grind (arith, split, text-again pieces m [] rest own e (omega (arith, ap length split)))

truth_value : (rule : Exponents) (b : Bool) (m : ℕ) (rest : List ℕ)
    → read_value rule (suc m) (syntax_text (truth b) ++ rest) ≡ Some (boolean b, rest)
unfolding read_value
truth_value rule b m rest = grind arith

-- an array or object with only white space in it
empty_array_value : (rule : Exponents) (blank : List ℕ) (m : ℕ) (rest : List ℕ)
    → all_blank blank ≡ true
    → read_value rule (suc m) (syntax_text (empty_array blank) ++ rest)
    ≡ Some (array no_trees, rest)
unfolding read_value
empty_array_value rule blank m rest e = grind (arith, append_assoc, skip-append)

empty_object_value : (rule : Exponents) (blank : List ℕ) (m : ℕ) (rest : List ℕ)
    → all_blank blank ≡ true
    → read_value rule (suc m) (syntax_text (empty_object blank) ++ rest)
    ≡ Some (object no_pairs, rest)
unfolding read_value
empty_object_value rule blank m rest e = grind (arith, append_assoc, skip-append)

null_value : (rule : Exponents) (m : ℕ) (rest : List ℕ)
    → read_value rule (suc m) (syntax_text nothing ++ rest) ≡ Some (null, rest)
unfolding read_value
null_value rule m rest = refl

items_follow : (xs : Items) (rest : List ℕ) → follows (items_text xs ++ rest) ≡ true
items_follow no_item rest = refl
items_follow (next_item x xs) rest = refl

members_follow : (ms : Members) (rest : List ℕ) → follows (members_text ms ++ rest) ≡ true
members_follow no_member rest = refl
members_follow (next_member m ms) rest = refl

-- a member does not begin with the closing brace
no_brace : (rule : Exponents) (m : Member) (e : List ℕ × Tree) (rest : List ℕ)
    → member_meaning rule m ≡ Some e
    → expect close_brace (skip_blank (member_text m ++ rest)) ≡ None
no_brace rule (member before pieces after x) e rest is = grind (arith, append_assoc, skip-append)

pub value_positive : (rule : Exponents) (x : Syntax) (t : Tree) (rest : List ℕ)
    → meaning rule x ≡ Some t → length rest < length (syntax_text x ++ rest)
value_positive rule x t rest e = grind (arith, value_begins, length-append)

pub element_positive : (rule : Exponents) (x : Element) (t : Tree) (rest : List ℕ)
    → element_meaning rule x ≡ Some t
    → length rest < length (element_text x ++ rest)
element_positive rule (element before x after) t rest e = grind (arith, value_begins, length-append)

pub member_positive : (m : Member) (rest : List ℕ) → length rest < length (member_text m ++ rest)
member_positive (member before pieces after x) rest = grind (arith, length-append)

-- Each part is read, if the bound on the number of steps is large enough.
abbrev ElementAgain : Exponents → Element → ℕ → Type 0
ElementAgain rule x m = (t : Tree) (rest : List ℕ) → element_meaning rule x ≡ Some t
    → follows rest ≡ true
    → length (element_text x ++ rest) < m
    → read_element (read_value rule m) (element_text x ++ rest) ≡ Some (t, rest)

abbrev ItemsAgain : Exponents → Items → ℕ → Type 0
ItemsAgain rule xs m = (own front : List Tree) (n : ℕ) (rest : List ℕ)
    → items_meaning rule xs ≡ Some own
    → length (items_text xs ++ rest) < m → length (items_text xs ++ rest) ≤ n
    → after_item (read_items (read_value rule m) n) front (items_text xs ++ rest)
    ≡ Some (array (trees_of (front ++ own)), rest)

abbrev MemberAgain : Exponents → Member → ℕ → Type 0
MemberAgain rule x m = (e : List ℕ × Tree) (n : ℕ) (rest : List ℕ) → member_meaning rule x ≡ Some e
    → follows rest ≡ true → length (member_text x ++ rest) < m → length (member_text x ++ rest) ≤ n
    → read_member (read_value rule m) n (member_text x ++ rest) ≡ Some (e, rest)

abbrev MembersAgain : Exponents → Members → ℕ → Type 0
MembersAgain rule xs m = (own front : Entries) (n : ℕ) (rest : List ℕ)
    → members_meaning rule xs ≡ Some own
    → length (members_text xs ++ rest) < m → length (members_text xs ++ rest) ≤ n
    → after_member (read_members (read_value rule m) n) front (members_text xs ++ rest)
    ≡ Some (object (pairs (insert_all front own)), rest)

-- an item and the items after it
items_step : (rule : Exponents) (x : Element) (xs : Items) (m : ℕ) → ElementAgain rule x m
    → ItemsAgain rule xs m
    → (own front : List Tree) (n : ℕ) (rest : List ℕ)
    → items_meaning rule (next_item x xs) ≡ Some own
    → length ((element_text x ++ items_text xs) ++ rest) < m
    → length ((element_text x ++ items_text xs) ++ rest) ≤ n
    → read_items (read_value rule m) (suc n) front ((element_text x ++ items_text xs) ++ rest)
    ≡ Some (array (trees_of (front ++ own)), rest)
unfolding read_items
items_step rule x xs m first others own front n rest e h k =
    bind_then (element_meaning rule x) _ _ e (λ t is more.
    bind_then (items_meaning rule xs) _ _ more (λ ts are end.
    let tail = items_text xs ++ rest in
    let split = append_assoc (element_text x) (items_text xs) rest in
    let long = ap length split in
    let shorter = element_positive rule x t tail is in
    grind (
      arith,
      split,
      first t tail is (items_follow xs rest) (omega arith),
      others ts (front ++ t ∷ []) n rest are (omega arith) (omega arith),
      append_assoc front (t ∷ []) ts,
    )))

-- a member and the members after it
members_step : (rule : Exponents) (x : Member) (xs : Members) (m : ℕ) → MemberAgain rule x m
    → MembersAgain rule xs m
    → (own front : Entries) (n : ℕ) (rest : List ℕ)
    → members_meaning rule (next_member x xs) ≡ Some own
    → length ((member_text x ++ members_text xs) ++ rest) < m
    → length ((member_text x ++ members_text xs) ++ rest) ≤ n
    → read_members (read_value rule m) (suc n) front ((member_text x ++ members_text xs) ++ rest)
    ≡ Some (object (pairs (insert_all front own)), rest)
unfolding read_members
members_step rule x xs m first others own front n rest e h k =
    bind_then (member_meaning rule x) _ _ e (λ y is more.
    bind_then (members_meaning rule xs) _ _ more (λ ys are end.
    let tail = members_text xs ++ rest in
    let split = append_assoc (member_text x) (members_text xs) rest in
    let long = ap length split in
    let shorter = member_positive x tail in
    let put = insert_entry (slice_cmp nat_cmp) front y.0 y.1 in
    grind (
      arith,
      split,
      first y n tail is (members_follow xs rest) (omega arith) (omega arith),
      others ys put n rest are (omega arith) (omega arith),
    )))

array_value : (rule : Exponents) (m : ℕ) (s rest : List ℕ) (t : Tree)
    → expect close_bracket (skip_blank s) ≡ None
    → read_items (read_value rule m) m [] s ≡ Some (t, rest)
    → read_value rule (suc m) (open_bracket ∷ s) ≡ Some (t, rest)
unfolding read_value
array_value rule m s rest t none is = grind arith

object_value : (rule : Exponents) (m : ℕ) (s rest : List ℕ) (t : Tree)
    → expect close_brace (skip_blank s) ≡ None
    → read_members (read_value rule m) m [] s ≡ Some (t, rest)
    → read_value rule (suc m) (open_brace ∷ s) ≡ Some (t, rest)
unfolding read_value
object_value rule m s rest t none is = grind arith

mutual
  pub syntax-again : (rule : Exponents) (x : Syntax) (t : Tree) (m : ℕ) (rest : List ℕ)
      → meaning rule x ≡ Some t
      → ends_number rest ≡ true → length (syntax_text x ++ rest) ≤ m
      → read_value rule (suc m) (syntax_text x ++ rest) ≡ Some (t, rest)
  syntax-again rule nothing t m rest e ends h = cc (null_value rule m rest)
  syntax-again rule (truth b) t m rest e ends h = cc (truth_value rule b m rest)
  syntax-again rule (numeral n) t m rest e ends h =
      let is = option_some number (numeral_meaning rule n) t e in
      number_value rule n m rest is.0 is.1 ends ∙ ap (λ y. Some (y, rest)) is.2
  syntax-again rule (string pieces) t m rest e ends h =
      let is = option_some text (pieces_meaning pieces) t e in
      text_value rule pieces m rest is.0 is.1 h ∙ ap (λ y. Some (y, rest)) is.2
  syntax-again rule (empty_array blank) t m rest e ends h = grind (arith, empty_array_value)
  syntax-again rule (empty_object blank) t m rest e ends h = grind (arith, empty_object_value)
  syntax-again rule (items x xs) t zero rest e ends h = absurd (omega arith)
  syntax-again rule (items x xs) t (suc m) rest e ends h =
      bind_then (element_meaning rule x) _ _ e (λ y is more.
      bind_then (items_meaning rule xs) _ _ more (λ ys are end.
      let s = (element_text x ++ items_text xs) ++ rest in
      let none = no_bracket rule x y (items_text xs ++ rest) is in
      array_value rule (suc m) s rest t (rw append_assoc none)
      (items_step rule x xs (suc m) (element-again rule x (suc m)) (items-again rule xs (suc m))
      (y ∷ ys) [] m rest (cc (is, are)) (omega arith) (omega arith)
      ∙ ap (λ q. Some (q, rest)) (some_same _ _ end))))
  syntax-again rule (members x xs) t zero rest e ends h = absurd (omega arith)
  syntax-again rule (members x xs) t (suc m) rest e ends h =
      bind_then (member_meaning rule x) _ _ e (λ y is more.
      bind_then (members_meaning rule xs) _ _ more (λ ys are end.
      let s = (member_text x ++ members_text xs) ++ rest in
      let none = no_brace rule x y (members_text xs ++ rest) is in
      object_value rule (suc m) s rest t (rw append_assoc none)
      (members_step rule x xs (suc m) (member-again rule x (suc m)) (members-again rule xs (suc m))
      (y ∷ ys) [] m rest (cc (is, are)) (omega arith) (omega arith)
      ∙ ap (λ q. Some (q, rest)) (some_same _ _ end))))

  pub element-again : (rule : Exponents) (x : Element) (m : ℕ) → ElementAgain rule x m
  element-again rule x zero t rest e ends h = absurd (omega arith)
  element-again rule (element before x after) (suc m) t rest e ends h =
      let parts = cond_some (all_blank before && all_blank after) (meaning rule x) t e in
      let blanks = and_true (all_blank before) (all_blank after) parts.0 in
      let inside = after ++ rest in
      let split : element_text (element before x after) ++ rest
      ≡ before ++ (syntax_text x ++ inside) = simp append_assoc in
      grind (
        arith,
        split,
        skip-append,
        skip-begins (syntax_text x) inside (value_begins rule x t parts.1),
        syntax-again rule x t m inside parts.1 (ends-after after rest blanks.1 ends)
            (omega (arith, ap length split, length-append before (syntax_text x ++ inside))),
        skip-follows rest ends,
      )

  pub items-again : (rule : Exponents) (xs : Items) (m : ℕ) → ItemsAgain rule xs m
  items-again rule no_item m own front n rest e h k = grind (arith, append-nil front)
  items-again rule (next_item x xs) m own front zero rest e h k = absurd (omega arith)
  items-again rule (next_item x xs) m own front (suc n) rest e h k = items_step rule x xs m
      (element-again rule x m) (items-again rule xs m) own front n rest e (omega arith)
      (omega arith)

  pub member-again : (rule : Exponents) (x : Member) (m : ℕ) → MemberAgain rule x m
  member-again rule (member before pieces after x) m e n rest is ends h k =
      bind_then (between before after (pieces_meaning pieces)) _ _ is (λ key is_key more.
      bind_then (element_meaning rule x) _ _ more (λ t is_value end.
      let parts = cond_some (all_blank before && all_blank after) (pieces_meaning pieces) key
      is_key in
      let blanks = and_true (all_blank before) (all_blank after) parts.0 in
      let value = element_text x ++ rest in
      let tail = after ++ colon ∷ value in
      let inside = pieces_text pieces ++ quote ∷ tail in
      let split : member_text (member before pieces after x) ++ rest ≡ before ++ quote ∷ inside =
      simp append_assoc in
      let long = ap length split in
      let first = length-append before (quote ∷ inside) in
      let second = length-append (pieces_text pieces) (quote ∷ tail) in
      let third = length-append after (colon ∷ value) in
      grind (
        arith,
        split,
        skip-append before (quote ∷ inside) blanks.0,
        text-again pieces n [] tail key parts.1 (omega arith),
        skip-append after (colon ∷ value) blanks.1,
        element-again rule x m t rest is_value ends (omega arith),
      )))

  pub members-again : (rule : Exponents) (xs : Members) (m : ℕ) → MembersAgain rule xs m
  members-again rule no_member m own front n rest e h k = grind arith
  members-again rule (next_member x xs) m own front zero rest e h k = absurd (omega arith)
  members-again rule (next_member x xs) m own front (suc n) rest e h k = members_step rule x xs m
      (member-again rule x m) (members-again rule xs m) own front n rest e (omega arith)
      (omega arith)

pub document-again : (rule : Exponents) (s : List ℕ) (t : Tree) → JsonText rule s t
    → read_document rule s ≡ Some t
document-again rule s t json =
    let text = element_text json.syntax in
    let same : s ≡ text ++ [] = json.is_spelled ∙ sym (append-nil text) in
    let read = element-again rule json.syntax (suc (length s)) t [] json.is_meant refl
    (omega (arith, ap length same)) in
    grind (arith, same, read)

pub same_meaning : (rule : Exponents) (s : List ℕ) (t u : Tree) → JsonText rule s t
    → JsonText rule s u → t ≡ u
same_meaning rule s t u first second =
    some_same t u (sym (document-again rule s t first) ∙ document-again rule s u second)

pub one_meaning : (s : List ℕ) (t u : Tree) → Json s t → Json s u → t ≡ u
one_meaning = same_meaning Forbidden
