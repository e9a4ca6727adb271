-- What is spelled is scanned to its depth.
use Rattle.std.proofs.Common.{◌≡◌, ℕ, suc, ◌+◌, Bool, true, false, refl, sym, ap, ◌∙◌}
use Rattle.std.proofs.Common.{List, [], ◌∷◌, ◌++◌, Some, None, Option, arith, append_assoc}
use Rattle.std.proofs.Common.{append-nil, ◌⊎◌, inl, inr}
use Rattle.std.specs.Prelude.{◌-◌, max, ◌&&◌, ◌||◌, ◌==◌, not, option_map, codes}
use Rattle.std.specs.Char.{is_digit}
use Rattle.std.proofs.lemmas.Bool.Decides.{nat_tests}
use Rattle.jsonb_value.specs.declared.text_depth.ScanState.TheVariants.{Outside, Inside}
use Rattle.jsonb_value.specs.declared.parser.number.Exponents.{Exponents}
use Rattle.jsonb_value.specs.declared.parser.number.Exponents.TheVariants.{Forbidden, Allowed}
use Rattle.jsonb_value.specs.Tree.{Tree, text, number}
use Rattle.jsonb_value.specs.TextDepth.{greatest_level, text_depth}
use Rattle.jsonb_value.specs.TextDepth.{syntax_depth, element_depth, items_depth, member_depth}
use Rattle.jsonb_value.specs.TextDepth.{members_depth}
use Rattle.jsonb_value.specs.Json.Characters.{comma, colon, all_blank, all_digits}
use Rattle.jsonb_value.specs.Json.Characters.{is_exponent_mark}
use Rattle.jsonb_value.specs.Json.Numeral.{Numeral, Exponent, Sign, numeral_text, numeral_meaning}
use Rattle.jsonb_value.specs.Json.Numeral.{is_numeral, is_whole, are_digits, is_exponent}
use Rattle.jsonb_value.specs.Json.Numeral.{sign_text, fraction_text, exponent_sign_text}
use Rattle.jsonb_value.specs.Json.Numeral.{exponent_text}
use Rattle.jsonb_value.specs.Json.Piece.{Piece, Unit4, unit4, plain, escape, unit, surrogates}
use Rattle.jsonb_value.specs.Json.Piece.{piece_text, pieces_text, piece_meaning, pieces_meaning}
use Rattle.jsonb_value.specs.Json.Piece.{unit_text, unit_value}
use Rattle.jsonb_value.specs.Json.Piece.{is_plain}
use Rattle.jsonb_value.specs.Json.Syntax.{Syntax, nothing, truth, numeral, string, empty_array}
use Rattle.jsonb_value.specs.Json.Syntax.{items, empty_object, members, Element, element, Items}
use Rattle.jsonb_value.specs.Json.Syntax.{no_item, next_item, Member, member, Members, no_member}
use Rattle.jsonb_value.specs.Json.Syntax.{next_member, string_characters, syntax_text, element_text}
use Rattle.jsonb_value.specs.Json.Syntax.{items_text, member_text, members_text, Entries}
use Rattle.jsonb_value.specs.Json.Syntax.{between, meaning, element_meaning, items_meaning}
use Rattle.jsonb_value.specs.Json.Syntax.{member_meaning, members_meaning}
use Rattle.jsonb_value.proofs.ScanLaws.{level_within}
use Rattle.jsonb_value.proofs.Json.Tests.{bind_then, cond_some, and_true, and_both}

-- ---- characters outside strings

-- These characters open no more brackets than so many at once, and leave none open.
abbrev pub Passes : List ℕ → ℕ → Type 0
Passes s d = (level : ℕ) (rest : List ℕ)
    → greatest_level Outside level (s ++ rest) ≡ max (level + d) (greatest_level Outside level rest)

-- The same after an opening bracket, which they close.
abbrev Closes : List ℕ → ℕ → Type 0
Closes s d = (level : ℕ) (rest : List ℕ) → greatest_level Outside (suc level) (s ++ rest)
    ≡ max (suc level + d) (greatest_level Outside level rest)

Passes-nil : Passes [] 0
Passes-nil = λ level rest. let low = level_within Outside level rest in omega arith

Passes-append : (a b : List ℕ) (d e : ℕ) → Passes a d → Passes b e → Passes (a ++ b) (max d e)
Passes-append a b d e first second = λ level rest.
    let one = first level (b ++ rest) in
    let two = second level rest in
    rw append_assoc (omega arith)

Closes-later : (a b : List ℕ) (d e : ℕ) → Passes a d → Closes b e → Closes (a ++ b) (max d e)
Closes-later a b d e first second = λ level rest.
    let one = first (suc level) (b ++ rest) in
    let two = second level rest in
    rw append_assoc (omega arith)

-- neither a quote nor a bracket
abbrev is_neutral : ℕ → Bool
is_neutral c = not (c == 34) && not ((c == 91) || (c == 123)) && not ((c == 93) || (c == 125))

abbrev all_neutral : List ℕ → Bool
all_neutral [] = true
all_neutral (c ∷ s) = is_neutral c && all_neutral s

neutral_step : (c level : ℕ) (rest : List ℕ) → is_neutral c ≡ true
    → greatest_level Outside level (c ∷ rest) ≡ max level (greatest_level Outside level rest)
neutral_step c level rest e = grind (arith, nat_tests)

pub Passes-neutral : (s : List ℕ) → all_neutral s ≡ true → Passes s 0
Passes-neutral [] e = Passes-nil
Passes-neutral (c ∷ s) e = λ level rest.
    let parts = and_true _ _ e in
    let one = neutral_step c level (s ++ rest) parts.0 in
    let more = Passes-neutral s parts.1 level rest in
    omega arith

pub blank_neutral : (s : List ℕ) → all_blank s ≡ true → all_neutral s ≡ true
blank_neutral [] e = refl
blank_neutral (c ∷ s) e = grind (arith, nat_tests, blank_neutral s)

digits_neutral : (s : List ℕ) → all_digits s ≡ true → all_neutral s ≡ true
digits_neutral [] e = refl
digits_neutral (c ∷ s) e = grind (arith, nat_tests, digits_neutral s)

whole_neutral : (s : List ℕ) → is_whole s ≡ true → all_neutral s ≡ true
whole_neutral s e = grind (arith, nat_tests, digits_neutral)

neutral-append : (xs ys : List ℕ) → all_neutral xs ≡ true → all_neutral ys ≡ true
    → all_neutral (xs ++ ys) ≡ true
neutral-append [] ys e h = h
neutral-append (x ∷ xs) ys e h = grind (arith, neutral-append xs ys)

sign_neutral : (b : Bool) → all_neutral (sign_text b) ≡ true
sign_neutral b = grind arith

fraction_neutral : (ds : List ℕ) → all_digits ds ≡ true → all_neutral (fraction_text ds) ≡ true
fraction_neutral ds e = grind (arith, digits_neutral)

some_digits_neutral : (ds : List ℕ) → are_digits ds ≡ true → all_neutral ds ≡ true
some_digits_neutral ds e = grind (arith, nat_tests, digits_neutral)

exponent_sign_neutral : (sign : Sign) → all_neutral (exponent_sign_text sign) ≡ true
exponent_sign_neutral sign = grind arith

mark_neutral : (c : ℕ) → is_exponent_mark c ≡ true → is_neutral c ≡ true
mark_neutral c e = grind (arith, nat_tests)

exponent_neutral : (rule : Exponents) (x : Option Exponent) → is_exponent rule x ≡ true
    → all_neutral (exponent_text x) ≡ true
exponent_neutral rule None e = refl
exponent_neutral Forbidden (Some x) e = absurd (let h : ⊥ = cc in h)
exponent_neutral Allowed (Some x) e =
    let parts = and_true (is_exponent_mark x.mark) (are_digits x.digits) e in
    and_both _ _ (mark_neutral x.mark parts.0)
    (neutral-append (exponent_sign_text x.sign) x.digits (exponent_sign_neutral x.sign)
    (some_digits_neutral x.digits parts.1))

numeral_neutral : (rule : Exponents) (n : Numeral) → is_numeral rule n ≡ true
    → all_neutral (numeral_text n) ≡ true
numeral_neutral rule n e =
    let parts = and_true (is_whole n.whole && all_digits n.fraction) (is_exponent rule n.exponent)
    e in
    let digits = and_true (is_whole n.whole) (all_digits n.fraction) parts.0 in
    let last = exponent_text n.exponent in
    let fraction = fraction_text n.fraction in
    neutral-append (sign_text n.is_negative) (n.whole ++ (fraction ++ last))
    (sign_neutral n.is_negative)
    (neutral-append n.whole (fraction ++ last) (whole_neutral n.whole digits.0)
    (neutral-append fraction last (fraction_neutral n.fraction digits.1)
    (exponent_neutral rule n.exponent parts.1)))

-- ---- characters of strings

-- These characters leave the scan inside the string.
abbrev Stays : List ℕ → Type 0
Stays s = (level : ℕ) (rest : List ℕ)
    → greatest_level Inside level (s ++ rest) ≡ greatest_level Inside level rest

Stays-append : (a b : List ℕ) → Stays a → Stays b → Stays (a ++ b)
Stays-append a b first second = λ level rest.
    rw append_assoc (first level (b ++ rest) ∙ second level rest)

Stays-one : (c : ℕ) → (c == 34) ≡ false → (c == 92) ≡ false → Stays (c ∷ [])
Stays-one c q b = λ level rest. let low = level_within Inside level rest in grind arith

Stays-escape : (c : ℕ) → Stays (92 ∷ c ∷ [])
Stays-escape c = λ level rest. let low = level_within Inside level rest in grind arith

plain_stays : (c : ℕ) → is_plain c ≡ true → Stays (c ∷ [])
plain_stays c e = Stays-one c (grind (arith, nat_tests)) (grind (arith, nat_tests))

digit_stays : (c : ℕ) → is_digit c 16 ≡ true → Stays (c ∷ [])
digit_stays c e = Stays-one c (grind (arith, nat_tests)) (grind (arith, nat_tests))

unit_stays : (u : Unit4) (v : ℕ) → unit_value u ≡ Some v → Stays (unit_text u)
unit_stays (unit4 a b c d) v e =
    let all = (cond_some _ _ _ e).0 in
    let three = and_true _ _ all in
    let two = and_true _ _ three.0 in
    let one = and_true _ _ two.0 in
    Stays-append (92 ∷ 117 ∷ []) (a ∷ b ∷ c ∷ d ∷ []) (Stays-escape 117)
    (Stays-append (a ∷ []) (b ∷ c ∷ d ∷ []) (digit_stays a one.0)
    (Stays-append (b ∷ []) (c ∷ d ∷ []) (digit_stays b one.1)
    (Stays-append (c ∷ []) (d ∷ []) (digit_stays c two.1) (digit_stays d three.1))))

piece_stays : (p : Piece) (c : ℕ) → piece_meaning p ≡ Some c → Stays (piece_text p)
piece_stays (plain x) c e = plain_stays x (cond_some _ _ _ e).0
piece_stays (escape x) c e = Stays-escape x
piece_stays (unit u) c e = bind_then (unit_value u) _ _ e (λ v is more. unit_stays u v is)
piece_stays (surrogates high low) c e =
    bind_then (unit_value high) _ _ e (λ h is more.
    bind_then (unit_value low) _ _ more (λ l also end.
    Stays-append (unit_text high) (unit_text low) (unit_stays high h is) (unit_stays low l also)))

pieces_stay : (ps : List Piece) (bytes : List ℕ) → pieces_meaning ps ≡ Some bytes
    → Stays (pieces_text ps)
pieces_stay [] bytes e = λ level rest. refl
pieces_stay (p ∷ ps) bytes e =
    bind_then (piece_meaning p) _ _ e (λ c is more.
    bind_then (pieces_meaning ps) _ _ more (λ bs are end.
    Stays-append (piece_text p) (pieces_text ps) (piece_stays p c is) (pieces_stay ps bs are)))

pub string_passes : (ps : List Piece) (bytes : List ℕ) → pieces_meaning ps ≡ Some bytes
    → Passes (string_characters ps) 0
string_passes ps bytes e = λ level rest.
    let inside = pieces_stay ps bytes e level (34 ∷ rest) in
    let split = append_assoc (pieces_text ps) (34 ∷ []) rest in
    rw split (omega arith)

-- ---- values

truth_neutral : (b : Bool) → all_neutral (syntax_text (truth b)) ≡ true
truth_neutral b = grind arith

empty_passes : (o k : ℕ) (blank : List ℕ) → (o ≡ 91) ⊎ (o ≡ 123) → (k ≡ 93) ⊎ (k ≡ 125)
    → all_blank blank ≡ true → Passes (o ∷ (blank ++ k ∷ [])) 1
empty_passes o k blank opens closes e = λ level rest.
    let inside = Passes-neutral blank (blank_neutral blank e) (suc level) (k ∷ rest) in
    let low = level_within Outside level rest in
    let split = append_assoc blank (k ∷ []) rest in
    rw split (grind arith)

option_was : {A B : Type 0} (f : A → B) (o : Option A) (y : B) → option_map f o ≡ Some y → (x : A)
    × (o ≡ Some x)
option_was f o y e = grind arith

opened_passes : (o : ℕ) (s : List ℕ) (d : ℕ) → (o ≡ 91) ⊎ (o ≡ 123) → Closes s d
    → Passes (o ∷ s) (suc d)
opened_passes o s d opens closes = λ level rest.
    let inside = closes level rest in
    grind arith

comma_closes : (s : List ℕ) (d : ℕ) → Closes s d → Closes (comma ∷ s) d
comma_closes s d closes = λ level rest.
    let inside = closes level rest in
    omega arith

one_less : (level : ℕ) (rest : List ℕ)
    → max (suc level) (greatest_level Outside (suc level - 1) rest)
    ≡ max (suc level + 0) (greatest_level Outside level rest)
one_less level rest =
    let down : suc level - 1 ≡ level = omega arith in
    ap (λ (n : ℕ). max (suc level) (greatest_level Outside n rest)) down ∙ omega arith

mutual
  pub syntax_passes : (rule : Exponents) (x : Syntax) (t : Tree) → meaning rule x ≡ Some t
      → Passes (syntax_text x) (syntax_depth x)
  syntax_passes rule nothing t e = Passes-neutral (codes "null") refl
  syntax_passes rule (truth b) t e = Passes-neutral (syntax_text (truth b)) (truth_neutral b)
  syntax_passes rule (numeral n) t e =
      let is = option_was number (numeral_meaning rule n) t e in
      Passes-neutral (numeral_text n) (numeral_neutral rule n (cond_some _ _ _ is.1).0)
  syntax_passes rule (string pieces) t e =
      let is = option_was text (pieces_meaning pieces) t e in string_passes pieces is.0 is.1
  syntax_passes rule (empty_array blank) t e =
      empty_passes 91 93 blank (inl refl) (inl refl) (and_true _ _ (cond_some _ _ _ e).0).0
  syntax_passes rule (empty_object blank) t e =
      empty_passes 123 125 blank (inr refl) (inr refl) (and_true _ _ (cond_some _ _ _ e).0).0
  syntax_passes rule (items x xs) t e =
      bind_then (element_meaning rule x) _ _ e (λ y is more.
      bind_then (items_meaning rule xs) _ _ more (λ ys are end.
      opened_passes 91 (element_text x ++ items_text xs) (max (element_depth x) (items_depth xs))
      (inl refl)
      (Closes-later (element_text x) (items_text xs) (element_depth x) (items_depth xs)
      (element_passes rule x y is) (items_close rule xs ys are))))
  syntax_passes rule (members x xs) t e =
      bind_then (member_meaning rule x) _ _ e (λ y is more.
      bind_then (members_meaning rule xs) _ _ more (λ ys are end.
      opened_passes 123 (member_text x ++ members_text xs) (max (member_depth x) (members_depth xs))
      (inr refl)
      (Closes-later (member_text x) (members_text xs) (member_depth x) (members_depth xs)
      (member_passes rule x y is) (members_close rule xs ys are))))

  pub element_passes : (rule : Exponents) (x : Element) (t : Tree) → element_meaning rule x ≡ Some t
      → Passes (element_text x) (element_depth x)
  element_passes rule (element before x after) t e =
      let parts = cond_some (all_blank before && all_blank after) (meaning rule x) t e in
      let blanks = and_true (all_blank before) (all_blank after) parts.0 in
      let front = Passes-neutral before (blank_neutral before blanks.0) in
      let back = Passes-neutral after (blank_neutral after blanks.1) in
      let value = syntax_passes rule x t parts.1 in
      λ level rest.
      Passes-append before (syntax_text x ++ after) 0 (max (syntax_depth x) 0) front
      (Passes-append (syntax_text x) after (syntax_depth x) 0 value back) level rest
      ∙ (omega arith)

  items_close : (rule : Exponents) (xs : Items) (ts : List Tree) → items_meaning rule xs ≡ Some ts
      → Closes (items_text xs) (items_depth xs)
  items_close rule no_item ts e = one_less
  items_close rule (next_item x xs) ts e =
      bind_then (element_meaning rule x) _ _ e (λ y is more.
      bind_then (items_meaning rule xs) _ _ more (λ ys are end.
      comma_closes (element_text x ++ items_text xs) (max (element_depth x) (items_depth xs))
      (Closes-later (element_text x) (items_text xs) (element_depth x) (items_depth xs)
      (element_passes rule x y is) (items_close rule xs ys are))))

  member_passes : (rule : Exponents) (m : Member) (e : List ℕ × Tree)
      → member_meaning rule m ≡ Some e
      → Passes (member_text m) (member_depth m)
  member_passes rule (member before key after x) y e =
      bind_then (between before after (pieces_meaning key)) _ _ e (λ k is_key more.
      bind_then (element_meaning rule x) _ _ more (λ t is_value end.
      let parts = cond_some (all_blank before && all_blank after) (pieces_meaning key) k is_key in
      let blanks = and_true (all_blank before) (all_blank after) parts.0 in
      let front = Passes-neutral before (blank_neutral before blanks.0) in
      let back = Passes-neutral after (blank_neutral after blanks.1) in
      let name = string_passes key k parts.1 in
      let value = element_passes rule x t is_value in
      let mark = Passes-neutral (colon ∷ []) refl in
      λ level rest.
      Passes-append before (string_characters key ++ (after ++ colon ∷ element_text x)) 0
      (max 0 (max 0 (max 0 (element_depth x)))) front
      (Passes-append (string_characters key) (after ++ colon ∷ element_text x) 0
      (max 0 (max 0 (element_depth x))) name
      (Passes-append after (colon ∷ element_text x) 0 (max 0 (element_depth x)) back
      (Passes-append (colon ∷ []) (element_text x) 0 (element_depth x) mark value))) level rest
      ∙ (omega arith)))

  members_close : (rule : Exponents) (ms : Members) (es : Entries)
      → members_meaning rule ms ≡ Some es
      → Closes (members_text ms) (members_depth ms)
  members_close rule no_member es e = one_less
  members_close rule (next_member x xs) es e =
      bind_then (member_meaning rule x) _ _ e (λ y is more.
      bind_then (members_meaning rule xs) _ _ more (λ ys are end.
      comma_closes (member_text x ++ members_text xs) (max (member_depth x) (members_depth xs))
      (Closes-later (member_text x) (members_text xs) (member_depth x) (members_depth xs)
      (member_passes rule x y is) (members_close rule xs ys are))))

-- The characters of a text are scanned to the depth of what they spell.
pub scanned : (rule : Exponents) (x : Element) (t : Tree) → element_meaning rule x ≡ Some t
    → text_depth (element_text x) ≡ element_depth x
scanned rule x t e =
    let all = element_passes rule x t e 0 [] in
    ap text_depth (sym (append-nil (element_text x))) ∙ all ∙ (omega arith)
