-- Whatever is expected, some characters complete the text.
use Rattle.std.proofs.Common.{◌≡◌, ℕ, ◌+◌, ◌-◌, ◌*◌, ◌<◌, inl, inr, Bool, true, false, refl, sym}
use Rattle.std.proofs.Common.{◌∙◌, subst, arith, List, [], ◌∷◌, ◌++◌, Option, Some, None, eqb-true}
use Rattle.std.specs.Prelude.{◌||◌, ◌==◌, nat_le, codes}
use Rattle.std.specs.Char.{digit_value}
use Rattle.std.specs.Str.Parse.{digits_value, digits_value_after}
use Rattle.jsonb_value.specs.Tree.{null}
use Rattle.jsonb_value.specs.declared.parser.number.Exponents.{Exponents}
use Rattle.jsonb_value.specs.declared.parser.number.Exponents.TheVariants.{Forbidden, Allowed}
use Rattle.jsonb_value.specs.Json.Characters.{quote, backslash, letter_u, colon}
use Rattle.jsonb_value.specs.Json.Characters.{close_brace, zero_digit, all_digits}
use Rattle.jsonb_value.specs.Json.Numeral.{no_sign}
use Rattle.jsonb_value.specs.Json.Syntax.{nothing, no_item, no_member, meaning, items_meaning}
use Rattle.jsonb_value.specs.Json.Syntax.{members_meaning, syntax_text, items_text, members_text}
use Rattle.jsonb_value.proofs.Json.Tests.{and_true, and_both}
use Rattle.json_fault.specs.declared.number.Part.{Part}
use Rattle.json_fault.specs.declared.number.Part.TheVariants.{Sign, Zero, Whole, Point, Fraction}
use Rattle.json_fault.specs.declared.string.Place.{Place}
use Rattle.json_fault.specs.declared.string.Place.TheVariants.{Inside, Escaped, Four, ThreeOfD}
use Rattle.json_fault.specs.declared.string.Place.TheVariants.{Three, Two, One, HighTwo, HighOne}
use Rattle.json_fault.specs.declared.string.Place.TheVariants.{Low, LowLetter, LowUnit, LowOfD}
use Rattle.json_fault.specs.declared.expected.Bracket.{Bracket}
use Rattle.json_fault.specs.declared.expected.Bracket.TheVariants.{Array, Object}
use Rattle.json_fault.specs.declared.expected.Expected.{Expected}
use Rattle.json_fault.specs.declared.expected.Expected.TheVariants.{Value, FirstItem, FirstKey}
use Rattle.json_fault.specs.declared.expected.Expected.TheVariants.{Key, Colon, Rest, Letters}
use Rattle.json_fault.specs.declared.expected.Expected.TheVariants.{Digits, ExponentSign}
use Rattle.json_fault.specs.declared.expected.Expected.TheVariants.{ExponentDigits, Content, Name}
use Rattle.json_fault.specs.Scan.{has_room, has_room_after, limit, reaches, is_between}
use Rattle.json_fault.specs.Scan.{without_innermost}
use Rattle.json_fault.proofs.Conditions.{less_from, less_test, most_from, most_test}
use Rattle.json_fault.proofs.Powers.{below_power, spelled, reached, spelled_to}
use Rattle.json_fault.proofs.Held.{IsHeldWith, raised_held, most_is}
use Rattle.json_fault.proofs.Endings.{ValueEnd, StringEnd, ColonEnd, KeyEnd, Ends, ExponentEnd}
use Rattle.json_fault.proofs.Endings.{MarkEnd, RestEnd, NumberEnd, Digit, PlaceEnd, letters}
use Rattle.json_fault.proofs.Endings.{Completes}
use Rattle.json_fault.proofs.ExponentBack.{exponent_at}
use Rattle.json_fault.proofs.StringBack.{digit_first, quote_back}
use Rattle.json_fault.proofs.NumberBack.{number_ends, rest_same}
use Rattle.json_fault.proofs.StepBack.{syntax_front, mark_back, can_end, is_live}

brackets_end : (rule : Exponents) (bs : List Bracket) → (w : List ℕ) × Ends rule bs w
unfolding Ends
brackets_end rule [] = ([], refl)
brackets_end rule (Array ∷ bs) =
    let more = brackets_end rule bs in (
      _,
      syntax_front items_text (items_meaning rule) (Ends rule bs) no_item [] _ more.0 refl refl
          more.1,
    )
brackets_end rule (Object ∷ bs) =
    let more = brackets_end rule bs in (
      _,
      syntax_front members_text (members_meaning rule) (Ends rule bs) no_member [] _ more.0 refl
          refl more.1,
    )

zero_room : (rule : Exponents) (b : Bool) → has_room rule b 0 0 ≡ true
zero_room Forbidden true = refl
zero_room Forbidden false = refl
zero_room Allowed true = refl
zero_room Allowed false = refl

point_room : (rule : Exponents) (b : Bool) (m k : ℕ) → has_room_after rule Point b m k ≡ true
    → has_room rule b (m * 10) (k + 1) ≡ true
point_room Forbidden b m k e =
    let both = and_true _ _ e in
    let less = less_from k 255 both.1 in
    and_both _ _ both.0 (less_test (k + 1) 256 (omega arith))
point_room Allowed b m k e = e

-- ---- exponents

-- Digits with which the value comes into the range.
record Leading (v l : ℕ) (g : Option ℕ) : Type 0 where
  digits : List ℕ
  are_digits : all_digits digits ≡ true
  is_held : is_between (digits_value_after 10 v digits) l g ≡ true

digits_to : (v l : ℕ) (g : Option ℕ) → can_end v l g ≡ true → Leading v l g
digits_to v l None e =
    let more = spelled l l (below_power l) in
    let value = more.is_value v in
    record {
      digits = more.digits;
      are_digits = more.are_digits;
      is_held = and_both _ _ (most_test l (digits_value_after 10 v more.digits) (omega arith)) refl;
    }
digits_to v l (Some g) e =
    let both = and_true (nat_le l g) (reaches v l g) e in
    let is = reached v l g (most_from l g both.0) both.1 in
    let more = spelled_to v is.count is.number is.starts in
    let low = is.starts.low in
    let least = is.is_low in
    let greatest = is.is_high in
    let value : digits_value_after 10 v more.digits ≡ is.number =
    more.is_value v ∙ omega arith in
    record {
      digits = more.digits;
      are_digits = more.are_digits;
      is_held = and_both _ _ (most_test l (digits_value_after 10 v more.digits) (omega arith))
          (most_test (digits_value_after 10 v more.digits) g (omega arith));
    }

module _ (P : List ℕ → Type 0) (w : List ℕ) (end : P w) where
  exponent_completes : (has : Bool) (v l : ℕ) (g : Option ℕ) → (has || (v == 0)) ≡ true
      → can_end v l g ≡ true → (u : List ℕ) × ExponentEnd (exponent_at has v l g) P u
  exponent_completes true v l g none e =
      let more = digits_to v l g e in (
        more.digits ++ w,
        record {
          digits = more.digits;
          are_digits = more.are_digits;
          is_some = refl;
          is_held = more.is_held;
          rest = w;
          is_spelled = refl;
          ends = end;
        },
      )
  exponent_completes false v l g none e =
      let more = digits_to v l g e in
      let zero : v ≡ 0 = eqb-true v 0 none in
      let same : v * 10 + digit_value zero_digit ≡ v = omega arith in (
        zero_digit ∷ (more.digits ++ w),
        record {
          digits = zero_digit ∷ more.digits;
          are_digits = more.are_digits;
          is_some = refl;
          is_held = subst (λ (i : ℕ). is_between (digits_value_after 10 i more.digits) l g ≡ true)
              (sym same) more.is_held;
          rest = w;
          is_spelled = refl;
          ends = end;
        },
      )

  -- an exponent that makes a whole number of it
  mark_completes : (b : Bool) (m k : ℕ) → m < limit b → (u : List ℕ) × MarkEnd b m k P u
  mark_completes b m k less =
      let more = spelled k k (below_power k) in
      let digits = zero_digit ∷ more.digits in
      let value : digits_value 10 digits ≡ k = more.is_value 0 ∙ omega arith in
      let range = and_both _ _ (most_test (k - 255) k (omega arith))
      (most_is b m k k (λ some. omega arith)) in (
        digits ++ w,
        record {
          sign = no_sign;
          digits = digits;
          are_digits = more.are_digits;
          is_held = subst (λ (y : ℕ). IsHeldWith b m k false y) (sym value)
              (raised_held b m k k less range);
          rest = w;
          is_spelled = refl;
          ends = end;
        },
      )

module _ (rule : Exponents) (P : List ℕ → Type 0) (w : List ℕ) (end : P w) where
  value_ends : ValueEnd rule P (codes "null" ++ w)
  value_ends = syntax_front syntax_text (meaning rule) P nothing null _ w refl refl end

  colon_ends : ColonEnd rule P (colon ∷ (codes "null" ++ w))
  colon_ends = mark_back colon (ValueEnd rule P) colon _ refl value_ends

  key_ends : KeyEnd rule P (quote ∷ quote ∷ colon ∷ (codes "null" ++ w))
  key_ends =
      mark_back quote (StringEnd (ColonEnd rule P)) quote _ refl
      (quote_back (ColonEnd rule P) _ colon_ends)

rest_completes : (rule : Exponents) (P : List ℕ → Type 0) (w : List ℕ) → P w → (b : Bool)
    (m k : ℕ) → has_room rule b m k ≡ true → (u : List ℕ) × RestEnd rule b P m k u
rest_completes Forbidden P w end b m k e = (w, inl (e, end))
rest_completes Allowed P w end b m k e =
    let less = less_from m (limit b) (and_true _ _ e).0 in
    let more = mark_completes P w end b m k less in (
      101 ∷ more.0,
      inr (record {
        is_allowed = refl;
        mark = 101;
        is_mark = refl;
        rest = more.0;
        is_spelled = refl;
        ends = more.1;
      }),
    )

module _ (rule : Exponents) (P : List ℕ → Type 0) (w : List ℕ) (end : P w) (b : Bool) where
  abbrev R : ℕ → ℕ → List ℕ → Type 0
  R m k u = RestEnd rule b P m k u

  after_digits : (m k : ℕ) → has_room rule b m k ≡ true → (u : List ℕ) × R m k u
  after_digits m k e = rest_completes rule P w end b m k e

  number_completes : (p : Part) (m k : ℕ) → has_room_after rule p b m k ≡ true
      → (u : List ℕ) × NumberEnd p m k R u
  number_completes Sign m k e =
      let more = after_digits 0 0 (zero_room rule b) in (
        zero_digit ∷ more.0,
        record {
          whole = zero_digit ∷ [];
          fraction = [];
          is_whole_part = refl;
          is_fraction = refl;
          rest = more.0;
          is_spelled = refl;
          ends = more.1;
        },
      )
  number_completes Point m k e =
      let more = after_digits (m * 10) (k + 1) (point_room rule b m k e) in (
        zero_digit ∷ more.0,
        record {
          first = zero_digit;
          digits = [];
          are_digits = refl;
          rest = more.0;
          is_spelled = refl;
          ends = rest_same R (m * 10) (m * 10 + 0) (k + 1) (k + 1) more.0 more.1 (omega arith) refl;
        },
      )
  number_completes Zero m k e =
      let more = after_digits m k e in (more.0, number_ends R Zero m k more.0 refl more.1)
  number_completes Whole m k e =
      let more = after_digits m k e in (more.0, number_ends R Whole m k more.0 refl more.1)
  number_completes Fraction m k e =
      let more = after_digits m k e in (more.0, number_ends R Fraction m k more.0 refl more.1)

zero_first : (Q : List ℕ → Type 0) → (v : List ℕ) × Q v → (v : List ℕ) × Digit 0 16 Q v
zero_first Q end =
    (zero_digit ∷ end.0, digit_first Q zero_digit 0 16 end.0 (omega arith) (omega arith) end.1)

module _ (P : List ℕ → Type 0) (end : (v : List ℕ) × P v) where
  inside_ends : (v : List ℕ) × PlaceEnd Inside P v
  inside_ends = (quote ∷ end.0, quote_back P end.0 end.1)

  escaped_ends : (v : List ℕ) × PlaceEnd Escaped P v
  escaped_ends =
      let inside = inside_ends in (
        110 ∷ inside.0,
        inl (record {
          letter = 110;
          character = 10;
          is_meant = refl;
          rest = inside.0;
          is_spelled = refl;
          ends = inside.1;
        }),
      )

  one_ends : (v : List ℕ) × PlaceEnd One P v
  one_ends = zero_first (PlaceEnd Inside P) inside_ends

  two_ends : (v : List ℕ) × PlaceEnd Two P v
  two_ends = zero_first (PlaceEnd One P) one_ends

  three_ends : (v : List ℕ) × PlaceEnd Three P v
  three_ends = zero_first (PlaceEnd Two P) two_ends

  four_ends : (v : List ℕ) × PlaceEnd Four P v
  four_ends =
      let three = three_ends in (
        zero_digit ∷ three.0,
        inr (inl (digit_first (PlaceEnd Three P) zero_digit 0 13 three.0 (omega arith) (omega arith)
            three.1)),
      )

  of_d_ends : (v : List ℕ) × PlaceEnd ThreeOfD P v
  of_d_ends =
      let two = two_ends in (
        zero_digit ∷ two.0,
        inl (digit_first (PlaceEnd Two P) zero_digit 0 8 two.0 (omega arith) (omega arith) two.1),
      )

  low_of_d_ends : (v : List ℕ) × PlaceEnd LowOfD P v
  low_of_d_ends =
      let two = two_ends in
      (99 ∷ two.0, digit_first (PlaceEnd Two P) 99 12 16 two.0 (omega arith) (omega arith) two.1)

  low_unit_ends : (v : List ℕ) × PlaceEnd LowUnit P v
  low_unit_ends =
      let low = low_of_d_ends in (
        100 ∷ low.0,
        digit_first (PlaceEnd LowOfD P) 100 13 14 low.0 (omega arith) (omega arith) low.1,
      )

  low_letter_ends : (v : List ℕ) × PlaceEnd LowLetter P v
  low_letter_ends =
      let low = low_unit_ends in
      (letter_u ∷ low.0, record { rest = low.0; is_spelled = refl; ends = low.1 })

  low_ends : (v : List ℕ) × PlaceEnd Low P v
  low_ends =
      let low = low_letter_ends in
      (backslash ∷ low.0, record { rest = low.0; is_spelled = refl; ends = low.1 })

  high_one_ends : (v : List ℕ) × PlaceEnd HighOne P v
  high_one_ends = zero_first (PlaceEnd Low P) low_ends

  string_completes : (place : Place) → (v : List ℕ) × PlaceEnd place P v
  string_completes Inside = inside_ends
  string_completes Escaped = escaped_ends
  string_completes Four = four_ends
  string_completes ThreeOfD = of_d_ends
  string_completes Three = three_ends
  string_completes Two = two_ends
  string_completes One = one_ends
  string_completes HighTwo = zero_first (PlaceEnd HighOne P) high_one_ends
  string_completes HighOne = high_one_ends
  string_completes Low = low_ends
  string_completes LowLetter = low_letter_ends
  string_completes LowUnit = low_unit_ends
  string_completes LowOfD = low_of_d_ends

pub completes : (rule : Exponents) (e : Expected) (bs : List Bracket) → is_live rule e ≡ true
    → (w : List ℕ) × Completes rule e bs w
completes rule Value bs live =
    let end = brackets_end rule bs in
    (_, value_ends rule (Ends rule bs) end.0 end.1)
completes rule FirstItem bs live =
    let end = brackets_end rule bs in (_, inr (value_ends rule (Ends rule bs) end.0 end.1))
completes rule FirstKey bs live =
    let end = brackets_end rule (without_innermost bs) in
    (close_brace ∷ end.0, inl (mark_back close_brace _ close_brace end.0 refl end.1))
completes rule Key bs live =
    let end = brackets_end rule bs in
    (_, key_ends rule (Ends rule bs) end.0 end.1)
completes rule Colon bs live =
    let end = brackets_end rule bs in
    (_, colon_ends rule (Ends rule bs) end.0 end.1)
completes rule Rest bs live = brackets_end rule bs
completes rule (Letters word) bs live =
    let end = brackets_end rule bs in
    (letters word ++ end.0, record { rest = end.0; is_spelled = refl; ends = end.1 })
completes rule (Digits n) bs live =
    let end = brackets_end rule bs in
    number_completes rule (Ends rule bs) end.0 end.1 n.is_negative n.part n.magnitude n.scale live
completes rule (ExponentSign n) bs live =
    let end = brackets_end rule bs in
    mark_completes (Ends rule bs) end.0 end.1 n.is_negative n.magnitude n.scale
    (less_from n.magnitude (limit n.is_negative) live)
completes rule (ExponentDigits x) bs live =
    let end = brackets_end rule bs in
    let both = and_true (x.has_digits || (x.value == 0)) (can_end x.value x.least x.greatest) live
    in
    exponent_completes (Ends rule bs) end.0 end.1 x.has_digits x.value x.least x.greatest both.0
    both.1
completes rule (Content place) bs live =
    string_completes (Ends rule bs) (brackets_end rule bs) place
completes rule (Name place) bs live =
    let end = brackets_end rule bs in
    string_completes (ColonEnd rule (Ends rule bs))
    (_, colon_ends rule (Ends rule bs) end.0 end.1) place
