-- The scan goes through an exponent with which the format holds the number.
use Rattle.std.proofs.Common.{◌≡◌, ℕ, ◌+◌, ◌-◌, ◌*◌, ◌<◌, ◌≤◌, inl, inr, Bool, true, false, refl}
use Rattle.std.proofs.Common.{sym, ◌∙◌, subst, arith, List, [], ◌∷◌, ◌++◌, length}
use Rattle.std.proofs.Common.{append_assoc, Option, Some, None}
use Rattle.std.specs.Prelude.{pos, ◌-ℤ◌, ◌||◌, ◌==◌, min, nat_lt}
use Rattle.std.specs.Char.{digit_value, is_digit, is_ascii_digit}
use Rattle.std.specs.Str.Parse.{digits_value, digits_value_after}
use Rattle.std.proofs.lemmas.Bool.{cases_lt}
use Rattle.std.proofs.lemmas.Bool.Decides.{nat_tests}
use Rattle.jsonb_value.specs.declared.number.Number.{Number}
use Rattle.jsonb_value.specs.declared.parser.number.Exponents.{Exponents}
use Rattle.jsonb_value.specs.declared.parser.number.Exponents.TheVariants.{Forbidden, Allowed}
use Rattle.jsonb_value.specs.Json.Characters.{plus, minus, point, all_digits, is_exponent_mark}
use Rattle.jsonb_value.specs.Json.Numeral as json
use Rattle.jsonb_value.specs.Json.Numeral.{no_sign, plus_sign, minus_sign, signed_number}
use Rattle.jsonb_value.specs.Json.Numeral.{scaled_number}
use Rattle.jsonb_value.proofs.Json.Exponents.{scaled_plain}
use Rattle.jsonb_value.proofs.Json.Tests.{and_true, and_both, by_true, by_false, bound}
use Rattle.jsonb_value.proofs.Json.Digits.{stops, no_mark, ends_number}
use Rattle.json_fault.specs.declared.number.Part.{Part}
use Rattle.json_fault.specs.declared.number.Numeral.{Numeral}
use Rattle.json_fault.specs.declared.exponent.Exponent.{Exponent}
use Rattle.json_fault.specs.declared.expected.Bracket.{Bracket}
use Rattle.json_fault.specs.declared.expected.Expected.TheVariants.{Rest, Digits, ExponentSign}
use Rattle.json_fault.specs.declared.expected.Expected.TheVariants.{ExponentDigits}
use Rattle.json_fault.specs.declared.expected.Change.TheVariants.{Keep}
use Rattle.json_fault.specs.Scan.{has_room, limit, is_end, raising, without_digits}
use Rattle.json_fault.specs.Scan.{exponent_continued, exponent_begun, is_between, is_final}
use Rattle.json_fault.specs.Scan.{mark_after, takes_exponent}
use Rattle.json_fault.proofs.Conditions.{less_test, most_from, most_test, either_none}
use Rattle.json_fault.proofs.Conditions.{either_first}
use Rattle.json_fault.proofs.Powers.{value_grows, digits_start, reaches_from}
use Rattle.json_fault.proofs.Held.{IsHeldWith, held_raised, held_lowered, number_room, room_any}
use Rattle.json_fault.proofs.Endings.{is_filled}
use Rattle.json_fault.proofs.ExponentBack.{exponent_at}
use Rattle.json_fault.proofs.NumberBack.{numeral_at}
use Rattle.json_fault.proofs.Going.{Going, step}
use Rattle.json_fault.proofs.NumberGoes.{digit_is, other_than, no_digit, not_continued, none_bound}
use Rattle.json_fault.proofs.NumberGoes.{none_test, number_stops}

pub mark_no_digit : (c : ℕ) → is_exponent_mark c ≡ true → is_digit c 10 ≡ false
mark_no_digit c e = grind (arith, nat_tests)

pub mark_no_point : (c : ℕ) → is_exponent_mark c ≡ true → (c == point) ≡ false
mark_no_point c e = grind (arith, nat_tests)

or_none : (a : Bool) → (a || false) ≡ true → a ≡ true
or_none a e = grind arith

held_capped : (v l : ℕ) (ds : List ℕ) → is_between (digits_value_after 10 v ds) l None ≡ true
    → is_between (digits_value_after 10 (min v l) ds) l None ≡ true
held_capped v l ds e = elim (cases_lt l v) [
  | inl above ↦
      let same : min v l ≡ l = omega arith in
      let grown = value_grows ds l in
      and_both _ _ (most_test l (digits_value_after 10 (min v l) ds)
      (subst (λ (i : ℕ). l ≤ digits_value_after 10 i ds) (sym same) grown)) refl
  | inr under ↦
      let same : min v l ≡ v = omega arith in
      subst (λ (i : ℕ). is_between (digits_value_after 10 i ds) l None ≡ true) (sym same) e
]

module _ (rule : Exponents) (bs : List Bracket) (w : List ℕ) (stop : ends_number w ≡ true)
    (end : Going rule Rest bs w) where
  -- A digit of an exponent, and the rest of it.
  record DigitMove (x : Exponent) (d : ℕ) (ds : List ℕ) : Type 0 where
    next : Exponent
    is_next : exponent_continued x d ≡ Some next
    goes : Going rule (ExponentDigits next) bs (ds ++ w)

  digit_move : (has : Bool) (v l : ℕ) (g : Option ℕ) (d : ℕ) (ds : List ℕ)
      → is_ascii_digit d ≡ true → all_digits ds ≡ true
      → is_between (digits_value_after 10 (v * 10 + digit_value d) ds) l g ≡ true
      → ((u : ℕ) → is_between (digits_value_after 10 u ds) l g ≡ true
      → Going rule (ExponentDigits (exponent_at true u l g)) bs (ds ++ w))
      → DigitMove (exponent_at has v l g) d ds
  digit_move has v l None d ds digit all held go =
      let value = v * 10 + digit_value d in
      record {
        next = exponent_at true (min value l) l None;
        is_next = by_true _ _ _ _ (digit_is d digit) refl;
        goes = go (min value l) (held_capped value l ds held);
      }
  digit_move has v l (Some g) d ds digit all held go =
      let value = v * 10 + digit_value d in
      let number = digits_value_after 10 value ds in
      let range = and_true _ _ held in
      let fits = reaches_from value (length ds) number l g (digits_start ds value all)
      (most_from l number range.0) (most_from number g range.1) in
      record {
        next = exponent_at true value l (Some g);
        is_next = by_true _ _ _ _ (digit_is d digit) (by_true _ _ _ _ fits refl);
        goes = go value held;
      }

  exponent_stops : (x : Exponent) (u : List ℕ) → is_final x ≡ true → ends_number u ≡ true
      → Going rule Rest bs u → Going rule (ExponentDigits x) bs u
  unfolding Going
  exponent_stops x [] final ends more = tt
  exponent_stops x (c ∷ u) final ends more =
      let both = and_true (stops (c ∷ u)) (no_mark (c ∷ u)) ends in
      let digit = no_digit c (none_test _ (and_true _ _ both.0).0) in
      let none : exponent_continued x c ≡ None = by_false _ _ _ _ digit refl in (
        more.0,
        either_none _ _ (none_bound _ _ none) ∙ by_true _ _ _ _ final more.1,
        more.2,
      )

  exponent_digits_go : (ds : List ℕ) (has : Bool) (v l : ℕ) (g : Option ℕ) → all_digits ds ≡ true
      → (has || is_filled ds) ≡ true → is_between (digits_value_after 10 v ds) l g ≡ true
      → Going rule (ExponentDigits (exponent_at has v l g)) bs (ds ++ w)
  exponent_digits_go [] has v l g all some held =
      exponent_stops (exponent_at has v l g) w (and_both _ _ (or_none has some) held) stop end
  exponent_digits_go (d ∷ ds) has v l g all some held =
      let both = and_true (is_ascii_digit d) (all_digits ds) all in
      let move = digit_move has v l g d ds both.0 both.1 held
      (λ u is. exponent_digits_go ds true u l g both.1 refl is) in
      step rule (ExponentDigits (exponent_at has v l g)) bs (ExponentDigits move.next, Keep) d
      (ds ++ w) (either_first _ _ _ (bound _ _ _ move.next move.is_next refl)) move.goes

  filled : (ds : List ℕ) → json.are_digits ds ≡ true → (all_digits ds ≡ true)
      × ((false || is_filled ds) ≡ true)
  filled [] e = absurd (let h : ⊥ = cc in h)
  filled (d ∷ ds) e = (e, refl)

  -- what follows the mark of an exponent
  sign_goes : (n : Numeral) (s : json.Sign) (ds : List ℕ) → json.are_digits ds ≡ true
      → IsHeldWith n.is_negative n.magnitude n.scale (json.is_minus s) (digits_value 10 ds)
      → Going rule (ExponentSign n) bs (json.exponent_sign_text s ++ (ds ++ w))
  sign_goes n no_sign [] are held = absurd (let h : ⊥ = cc in h)
  sign_goes n no_sign (d ∷ ds) are held =
      let both = and_true (is_ascii_digit d) (all_digits ds) are in
      let range = held_raised n.is_negative n.magnitude n.scale (digits_value 10 (d ∷ ds)) held in
      let x = raising n in
      let move = digit_move false 0 x.least x.greatest d ds both.0 both.1 range.1
      (λ u is. exponent_digits_go ds true u x.least x.greatest both.1 refl is) in
      let begun : exponent_begun n d ≡ Some move.next =
      by_false _ _ _ _ (other_than d plus (inl (omega arith)) both.0)
      (by_false _ _ _ _ (other_than d minus (inl (omega arith)) both.0) move.is_next) in
      step rule (ExponentSign n) bs (ExponentDigits move.next, Keep) d (ds ++ w)
      (bound _ _ _ move.next begun refl) move.goes
  sign_goes n plus_sign ds are held =
      let range = held_raised n.is_negative n.magnitude n.scale (digits_value 10 ds) held in
      let x = raising n in
      let all = filled ds are in
      step rule (ExponentSign n) bs (ExponentDigits x, Keep) plus (ds ++ w) refl
      (exponent_digits_go ds false 0 x.least x.greatest all.0 all.1 range.1)
  sign_goes n minus_sign ds are held =
      let range = held_lowered n.is_negative n.magnitude n.scale (digits_value 10 ds) held in
      let x = without_digits 0 (Some (255 - n.scale)) in
      let all = filled ds are in
      step rule (ExponentSign n) bs (ExponentDigits x, Keep) minus (ds ++ w)
      (bound _ _ _ x (by_true _ _ _ _ (less_test n.scale 256 range.1) refl) refl)
      (exponent_digits_go ds false 0 x.least x.greatest all.0 all.1 range.2)

-- The scan goes on after the digits of a number.
abbrev pub GoesOn : Exponents → List Bracket → Bool → ℕ → ℕ → List ℕ → Type 0
GoesOn rule bs b m k w =
    (has_room rule b m k ≡ true)
    × ((p : Part) → is_end p ≡ true → Going rule (Digits (numeral_at b p m k)) bs w)

exponent_room : (b : Bool) (m k : ℕ) (s : json.Sign) (y : ℕ) → IsHeldWith b m k (json.is_minus s) y
    → m < limit b
exponent_room b m k no_sign y held = (held_raised b m k y held).0
exponent_room b m k plus_sign y held = (held_raised b m k y held).0
exponent_room b m k minus_sign y held = (held_lowered b m k y held).0

mark_goes : (bs : List Bracket) (b : Bool) (m k : ℕ) (x : json.Exponent) (w : List ℕ)
    → is_exponent_mark x.mark ≡ true → json.are_digits x.digits ≡ true
    → IsHeldWith b m k (json.is_minus x.sign) (digits_value 10 x.digits) → ends_number w ≡ true
    → Going Allowed Rest bs w → (p : Part) → is_end p ≡ true
    → Going Allowed (Digits (numeral_at b p m k)) bs
    (x.mark ∷ (json.exponent_sign_text x.sign ++ (x.digits ++ w)))
mark_goes bs b m k x w mark are held stop end p ends =
    let n = numeral_at b p m k in
    let none = not_continued Allowed p b m k x.mark ends (mark_no_digit x.mark mark)
    (mark_no_point x.mark mark) in
    let marked : mark_after Allowed n x.mark ≡ Some (ExponentSign n, Keep) =
    by_true _ _ _ _ (and_both (takes_exponent Allowed n) (is_exponent_mark x.mark) ends mark) refl
    in
    step Allowed (Digits n) bs (ExponentSign n, Keep) x.mark _
    (either_none _ _ (none_bound _ _ none) ∙ either_first _ _ _ marked)
    (sign_goes Allowed bs w stop end n x.sign x.digits are held)

text_split : (mark : ℕ) (t d w : List ℕ) → (mark ∷ (t ++ d)) ++ w ≡ mark ∷ (t ++ (d ++ w))
text_split mark t d w = simp append_assoc

pub rest_goes : (rule : Exponents) (bs : List Bracket) (b : Bool) (m k : ℕ)
    (x : Option json.Exponent) (n : Number) (w : List ℕ) → json.is_exponent rule x ≡ true
    → scaled_number (pos k -ℤ json.exponent_value x) (signed_number b m) ≡ Some n
    → ends_number w ≡ true → Going rule Rest bs w
    → GoesOn rule bs b m k (json.exponent_text x ++ w)
rest_goes rule bs b m k None n w proper worth stop end =
    let room = number_room b m k n (sym (scaled_plain k (signed_number b m)) ∙ worth) in (
      room_any rule b m k room,
      λ p ends. number_stops rule bs p b m k w ends
          (and_true (nat_lt m (limit b)) (nat_lt k 256) room).1 stop end,
    )
rest_goes Forbidden bs b m k (Some x) n w proper worth stop end =
    absurd (let h : ⊥ = cc in h)
rest_goes Allowed bs b m k (Some x) n w proper worth stop end =
    let both = and_true (is_exponent_mark x.mark) (json.are_digits x.digits) proper in
    let held : IsHeldWith b m k (json.is_minus x.sign) (digits_value 10 x.digits) = (n, worth) in (
      and_both _ _ (less_test m (limit b)
          (exponent_room b m k x.sign (digits_value 10 x.digits) held)) refl,
      λ p ends. subst (λ (u : List ℕ). Going Allowed (Digits (numeral_at b p m k)) bs u)
          (sym (text_split x.mark (json.exponent_sign_text x.sign) x.digits w))
          (mark_goes bs b m k x w both.0 both.1 held stop end p ends),
    )
