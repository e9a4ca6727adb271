-- The scan goes through a whole JSON text.
use Rattle.std.proofs.Common.{◌≡◌, ℕ, inl, inr, Bool, true, false, refl, sym, ◌∙◌}
use Rattle.std.proofs.Common.{subst, arith, List, [], ◌∷◌, ◌++◌, append_assoc, append-nil}
use Rattle.std.proofs.Common.{length, Option, Some, None, eqb-true, ap}
use Rattle.std.specs.Prelude.{◌&&◌, ◌==◌, cond, codes, option_map}
use Rattle.std.specs.Str.Parse.{digits_value}
use Rattle.std.proofs.lemmas.Bool.Decides.{nat_tests}
use Rattle.jsonb_value.specs.Tree.{Tree, number, text}
use Rattle.jsonb_value.specs.declared.parser.number.Exponents.{Exponents}
use Rattle.jsonb_value.specs.Json.Characters.{quote, comma, colon, open_bracket, close_bracket}
use Rattle.jsonb_value.specs.Json.Characters.{open_brace, close_brace, is_blank, all_blank}
use Rattle.jsonb_value.specs.Json.Characters.{all_digits}
use Rattle.jsonb_value.specs.Json.Numeral.{Numeral, numeral_text, numeral_meaning, is_numeral}
use Rattle.jsonb_value.specs.Json.Numeral.{is_whole, is_exponent, sign_text, fraction_text}
use Rattle.jsonb_value.specs.Json.Numeral.{exponent_text}
use Rattle.jsonb_value.specs.Json.Piece.{Piece, pieces_meaning}
use Rattle.jsonb_value.specs.Json.Syntax.{Syntax, nothing, truth, numeral, string, empty_array}
use Rattle.jsonb_value.specs.Json.Syntax.{items, empty_object, members, Element, element, Items}
use Rattle.jsonb_value.specs.Json.Syntax.{no_item, next_item, Member, member, Members, no_member}
use Rattle.jsonb_value.specs.Json.Syntax.{next_member, string_characters, syntax_text, element_text}
use Rattle.jsonb_value.specs.Json.Syntax.{items_text, member_text, members_text, Entries, between}
use Rattle.jsonb_value.specs.Json.Syntax.{meaning, element_meaning, items_meaning, member_meaning}
use Rattle.jsonb_value.specs.Json.Syntax.{members_meaning, JsonText}
use Rattle.jsonb_value.proofs.Json.Tests.{and_true, by_true, by_false, bound, bind_then}
use Rattle.jsonb_value.proofs.Json.Tests.{cond_some, chosen, bool_cases, no_error, some_same}
use Rattle.jsonb_value.proofs.Json.Digits.{ends_number}
use Rattle.json_fault.specs.declared.string.Place.TheVariants.{Inside}
use Rattle.json_fault.specs.declared.expected.Bracket.{Bracket}
use Rattle.json_fault.specs.declared.expected.Bracket.TheVariants.{Array, Object}
use Rattle.json_fault.specs.declared.expected.Word.TheVariants.{Rue, Ue, E, Alse, Lse, Se, Ull, Ll}
use Rattle.json_fault.specs.declared.expected.Word.TheVariants.{L}
use Rattle.json_fault.specs.declared.expected.Expected.TheVariants.{Value, FirstItem, FirstKey}
use Rattle.json_fault.specs.declared.expected.Expected.TheVariants.{Key, Colon, Rest, Letters}
use Rattle.json_fault.specs.declared.expected.Expected.TheVariants.{Content, Name}
use Rattle.json_fault.specs.declared.expected.Change.TheVariants.{Keep, Open, Close}
use Rattle.json_fault.specs.Scan.{Move, keep, value_begun, mark_begun, closed_or, changed, skips}
use Rattle.json_fault.specs.Scan.{followed, innermost_bracket}
use Rattle.json_fault.specs.declared.expected.Expected.{Expected}
use Rattle.json_fault.proofs.Going.{Going, arrived, step, blanks_go}
use Rattle.json_fault.proofs.StringGoes.{pieces_go}
use Rattle.json_fault.proofs.NumberGoes.{number_goes}
use Rattle.json_fault.proofs.ExponentGoes.{rest_goes}

-- ---- what follows a value

blank_ends : (c : ℕ) → is_blank c ≡ true → ends_number (c ∷ []) ≡ true
blank_ends c e = grind (arith, nat_tests)

ends_after_blank : (b w : List ℕ) → all_blank b ≡ true → ends_number w ≡ true
    → ends_number (b ++ w) ≡ true
ends_after_blank [] w all stop = stop
ends_after_blank (c ∷ b) w all stop = blank_ends c (and_true (is_blank c) (all_blank b) all).0

items_stop : (xs : Items) (w : List ℕ) → ends_number (items_text xs ++ w) ≡ true
items_stop no_item w = refl
items_stop (next_item x xs) w = refl

members_stop : (ms : Members) (w : List ℕ) → ends_number (members_text ms ++ w) ≡ true
members_stop no_member w = refl
members_stop (next_member m ms) w = refl

not_closed : (f : ℕ → Option Move) (k c : ℕ) (m : Move) → f k ≡ None → f c ≡ Some m
    → (c == k) ≡ false
not_closed f k c m none e = elim (bool_cases (c == k)) [
  | inl is ↦ no_error (sym none ∙ sym (ap f (eqb-true c k is)) ∙ e)
  | inr other ↦ other
]

option_was : {A B : Type 0} (f : A → B) (o : Option A) (y : B) → option_map f o ≡ Some y → (x : A)
    × (o ≡ Some x)
option_was f o y e = grind arith

text_split : (a s b w : List ℕ) → (a ++ (s ++ b)) ++ w ≡ a ++ (s ++ (b ++ w))
text_split a s b w = simp append_assoc

numeral_split : (a s f x w : List ℕ) → (a ++ (s ++ (f ++ x))) ++ w ≡ a ++ (s ++ (f ++ (x ++ w)))
numeral_split a s f x w = simp append_assoc

member_split : (a p b x w : List ℕ) (k : ℕ)
    → (a ++ (p ++ (b ++ k ∷ x))) ++ w ≡ a ++ (p ++ (b ++ k ∷ (x ++ w)))
member_split a p b x w k = simp append_assoc

module _ (rule : Exponents) where
  -- ---- strings

  string_goes : (bs : List Bracket) (ps : List Piece) (bytes w : List ℕ)
      → pieces_meaning ps ≡ Some bytes → Going rule Rest bs w
      → Going rule Value bs (string_characters ps ++ w)
  string_goes bs ps bytes w e more =
      step rule Value bs (Content Inside, Keep) quote _ refl
      (rw append_assoc (pieces_go rule Content
      (λ place q c bs opened is. by_false _ _ _ _ opened (bound _ _ _ _ is refl)) bs ps bytes
      (quote ∷ w) e
      (step rule (Content Inside) bs (Rest, Keep) quote w refl more)))

  key_goes : (bs : List Bracket) (ps : List Piece) (bytes w : List ℕ)
      → pieces_meaning ps ≡ Some bytes
      → Going rule Colon bs w → Going rule Key bs (string_characters ps ++ w)
  key_goes bs ps bytes w e more =
      step rule Key bs (Name Inside, Keep) quote _ refl
      (rw append_assoc (pieces_go rule Name
      (λ place q c bs opened is. by_false _ _ _ _ opened (bound _ _ _ _ is refl)) bs ps bytes
      (quote ∷ w) e
      (step rule (Name Inside) bs (Colon, Keep) quote w refl more)))

  -- ---- the beginnings of arrays and objects

  -- where a container may end, whatever may begin otherwise goes
  first_goes : (e first : Expected) (close : ℕ) (begun : ℕ → Option Move) (bs : List Bracket)
      → ((c : ℕ) → followed rule e (innermost_bracket bs) c ≡ cond (is_blank c) (keep e) (begun c))
      → ((c : ℕ) → followed rule first (innermost_bracket bs) c
      ≡ cond (is_blank c) (keep first) (closed_or c close (begun c)))
      → begun close ≡ None → (w : List ℕ) → Going rule e bs w → Going rule first bs w
  unfolding Going
  first_goes e first close begun bs is at none [] go = tt
  first_goes e first close begun bs is at none (c ∷ w) go =
      elim (chosen (is_blank c) _ _ _ (sym (is c) ∙ go.1)) [
        | inl blank ↦
            let rest = subst (λ (m : Move). Going rule m.0 (changed m.1 bs) w)
            (sym (some_same (e, Keep) go.0 blank.1)) go.2 in
            step rule first bs (first, Keep) c w (at c ∙ by_true _ _ _ _ blank.0 refl)
            (first_goes e first close begun bs is at none w rest)
        | inr other ↦ step rule first bs go.0 c w (at c ∙ by_false _ _ _ _ other.0
            (by_false _ _ _ _ (not_closed begun close c go.0 none other.1) other.1)) go.2
      ]

  first_item : (bs : List Bracket) (w : List ℕ) → Going rule Value bs w → Going rule FirstItem bs w
  first_item bs =
      first_goes Value FirstItem close_bracket value_begun bs (λ c. refl) (λ c. refl) refl

  first_key : (bs : List Bracket) (w : List ℕ) → Going rule Key bs w → Going rule FirstKey bs w
  first_key bs =
      first_goes Key FirstKey close_brace (λ c. mark_begun c quote (Name Inside)) bs (λ c. refl)
      (λ c. refl) refl

  -- ---- values

  word_goes : (bs : List Bracket) (w : List ℕ) → Going rule Rest bs w
      → Going rule (Letters Ue) bs (codes "ue" ++ w)
  word_goes bs w more =
      step rule (Letters Ue) bs (Letters E, Keep) 117 _ refl
      (step rule (Letters E) bs (Rest, Keep) 101 w refl more)

  truth_goes : (bs : List Bracket) (b : Bool) (w : List ℕ) → Going rule Rest bs w
      → Going rule Value bs (syntax_text (truth b) ++ w)
  truth_goes bs true w more =
      step rule Value bs (Letters Rue, Keep) 116 _ refl
      (step rule (Letters Rue) bs (Letters Ue, Keep) 114 _ refl (word_goes bs w more))
  truth_goes bs false w more =
      step rule Value bs (Letters Alse, Keep) 102 _ refl
      (step rule (Letters Alse) bs (Letters Lse, Keep) 97 _ refl
      (step rule (Letters Lse) bs (Letters Se, Keep) 108 _ refl
      (step rule (Letters Se) bs (Letters E, Keep) 115 _ refl
      (step rule (Letters E) bs (Rest, Keep) 101 w refl more))))

  nothing_goes : (bs : List Bracket) (w : List ℕ) → Going rule Rest bs w
      → Going rule Value bs (syntax_text nothing ++ w)
  nothing_goes bs w more =
      step rule Value bs (Letters Ull, Keep) 110 _ refl
      (step rule (Letters Ull) bs (Letters Ll, Keep) 117 _ refl
      (step rule (Letters Ll) bs (Letters L, Keep) 108 _ refl
      (step rule (Letters L) bs (Rest, Keep) 108 w refl more)))

  numeral_goes : (bs : List Bracket) (n : Numeral) (t : Tree) (w : List ℕ)
      → meaning rule (numeral n) ≡ Some t → ends_number w ≡ true → Going rule Rest bs w
      → Going rule Value bs (numeral_text n ++ w)
  numeral_goes bs n t w e stop more =
      let is = option_was number (numeral_meaning rule n) t e in
      let parts = cond_some (is_numeral rule n) _ is.0 is.1 in
      let proper = and_true (is_whole n.whole && all_digits n.fraction)
      (is_exponent rule n.exponent)
      parts.0 in
      let digits = and_true (is_whole n.whole) (all_digits n.fraction) proper.0 in
      let magnitude = digits_value 10 (n.whole ++ n.fraction) in
      let goes = rest_goes rule bs n.is_negative magnitude (length n.fraction) n.exponent is.0 w
      proper.1 parts.1 stop more in
      subst (λ (s : List ℕ). Going rule Value bs s)
      (sym (numeral_split (sign_text n.is_negative) n.whole (fraction_text n.fraction)
      (exponent_text n.exponent) w))
      (number_goes rule bs n.is_negative n.whole n.fraction (exponent_text n.exponent ++ w) digits.0
      digits.1 goes.0 goes.1)

  -- an array or object without items or members
  empty_goes : (first : Expected) (b : Bracket) (k j : ℕ) (bs : List Bracket)
      (blank w : List ℕ) → followed rule Value (innermost_bracket bs) k ≡ Some (first, Open b)
      → skips first ≡ true → followed rule first (Some b) j ≡ Some (Rest, Close)
      → all_blank blank ≡ true → Going rule Rest bs w
      → Going rule Value bs ((k ∷ (blank ++ j ∷ [])) ++ w)
  empty_goes first b k j bs blank w opens skip closes all more =
      step rule Value bs (first, Open b) k _ opens
      (rw append_assoc (blanks_go rule first (b ∷ bs) skip blank (j ∷ w) all
      (step rule first (b ∷ bs) (Rest, Close) j w closes more)))

  mutual
    syntax_goes : (x : Syntax) (t : Tree) (bs : List Bracket) (w : List ℕ)
        → meaning rule x ≡ Some t
        → ends_number w ≡ true → Going rule Rest bs w → Going rule Value bs (syntax_text x ++ w)
    syntax_goes nothing t bs w e stop more = nothing_goes bs w more
    syntax_goes (truth b) t bs w e stop more = truth_goes bs b w more
    syntax_goes (numeral n) t bs w e stop more = numeral_goes bs n t w e stop more
    syntax_goes (string pieces) t bs w e stop more =
        let is = option_was text (pieces_meaning pieces) t e in
        string_goes bs pieces is.0 w is.1 more
    syntax_goes (empty_array blank) t bs w e stop more =
        empty_goes FirstItem Array open_bracket close_bracket bs blank w refl refl refl
        (and_true _ _ (cond_some _ _ _ e).0).0 more
    syntax_goes (empty_object blank) t bs w e stop more =
        empty_goes FirstKey Object open_brace close_brace bs blank w refl refl refl
        (and_true _ _ (cond_some _ _ _ e).0).0 more
    syntax_goes (items x xs) t bs w e stop more =
        bind_then (element_meaning rule x) _ _ e (λ y is last.
        bind_then (items_meaning rule xs) _ _ last (λ ys are end.
        step rule Value bs (FirstItem, Open Array) open_bracket _ refl
        (first_item (Array ∷ bs) _ (rw append_assoc
        (element_goes x y (Array ∷ bs) (items_text xs ++ w) is (items_stop xs w)
        (items_go xs ys bs w are more))))))
    syntax_goes (members x xs) t bs w e stop more =
        bind_then (member_meaning rule x) _ _ e (λ y is last.
        bind_then (members_meaning rule xs) _ _ last (λ ys are end.
        step rule Value bs (FirstKey, Open Object) open_brace _ refl
        (first_key (Object ∷ bs) _ (rw append_assoc
        (member_goes x y (Object ∷ bs) (members_text xs ++ w) is (members_stop xs w)
        (members_go xs ys bs w are more))))))

    element_goes : (x : Element) (t : Tree) (bs : List Bracket) (w : List ℕ)
        → element_meaning rule x ≡ Some t → ends_number w ≡ true → Going rule Rest bs w
        → Going rule Value bs (element_text x ++ w)
    element_goes (element before x after) t bs w e stop more =
        let parts = cond_some (all_blank before && all_blank after) (meaning rule x) t e in
        let blanks = and_true (all_blank before) (all_blank after) parts.0 in
        subst (λ (s : List ℕ). Going rule Value bs s)
        (sym (text_split before (syntax_text x) after w))
        (blanks_go rule Value bs refl before (syntax_text x ++ (after ++ w)) blanks.0
        (syntax_goes x t bs (after ++ w) parts.1 (ends_after_blank after w blanks.1 stop)
        (blanks_go rule Rest bs refl after w blanks.1 more)))

    items_go : (xs : Items) (ts : List Tree) (bs : List Bracket) (w : List ℕ)
        → items_meaning rule xs ≡ Some ts → Going rule Rest bs w
        → Going rule Rest (Array ∷ bs) (items_text xs ++ w)
    items_go no_item ts bs w e more =
        step rule Rest (Array ∷ bs) (Rest, Close) close_bracket w refl more
    items_go (next_item x xs) ts bs w e more =
        bind_then (element_meaning rule x) _ _ e (λ y is last.
        bind_then (items_meaning rule xs) _ _ last (λ ys are end.
        step rule Rest (Array ∷ bs) (Value, Keep) comma _ refl
        (rw append_assoc (element_goes x y (Array ∷ bs) (items_text xs ++ w) is (items_stop xs w)
        (items_go xs ys bs w are more)))))

    member_goes : (m : Member) (y : List ℕ × Tree) (bs : List Bracket) (w : List ℕ)
        → member_meaning rule m ≡ Some y → ends_number w ≡ true → Going rule Rest bs w
        → Going rule Key bs (member_text m ++ w)
    member_goes (member before key after x) y bs w e stop more =
        bind_then (between before after (pieces_meaning key)) _ _ e (λ k is_key last.
        bind_then (element_meaning rule x) _ _ last (λ t is_value end.
        let parts = cond_some (all_blank before && all_blank after) (pieces_meaning key) k is_key in
        let blanks = and_true (all_blank before) (all_blank after) parts.0 in
        subst (λ (s : List ℕ). Going rule Key bs s)
        (sym (member_split before (string_characters key) after (element_text x) w colon))
        (blanks_go rule Key bs refl before _ blanks.0
        (key_goes bs key k _ parts.1
        (blanks_go rule Colon bs refl after _ blanks.1
        (step rule Colon bs (Value, Keep) colon _ refl
        (element_goes x t bs w is_value stop more)))))))

    members_go : (ms : Members) (es : Entries) (bs : List Bracket) (w : List ℕ)
        → members_meaning rule ms ≡ Some es → Going rule Rest bs w
        → Going rule Rest (Object ∷ bs) (members_text ms ++ w)
    members_go no_member es bs w e more =
        step rule Rest (Object ∷ bs) (Rest, Close) close_brace w refl more
    members_go (next_member m ms) es bs w e more =
        bind_then (member_meaning rule m) _ _ e (λ y is last.
        bind_then (members_meaning rule ms) _ _ last (λ ys are end.
        step rule Rest (Object ∷ bs) (Key, Keep) comma _ refl
        (rw append_assoc
        (member_goes m y (Object ∷ bs) (members_text ms ++ w) is (members_stop ms w)
        (members_go ms ys bs w are more)))))

  pub text_goes : (s : List ℕ) (t : Tree) → JsonText rule s t → Going rule Value [] s
  text_goes s t json =
      subst (λ (r : List ℕ). Going rule Value [] r)
      (append-nil (element_text json.syntax) ∙ sym json.is_spelled)
      (element_goes json.syntax t [] [] json.is_meant refl (arrived rule Rest []))
