-- The scan goes through a number that the format holds.
use Rattle.std.proofs.Common.{◌≡◌, ℕ, suc, ◌+◌, ◌*◌, ◌<◌, ◌≤◌, ◌⊎◌, inl, inr, Bool, true}
use Rattle.std.proofs.Common.{false, cond, refl, sym, ap, ◌∙◌, subst, arith, List, [], ◌∷◌, ◌++◌}
use Rattle.std.proofs.Common.{length, Option, Some, None}
use Rattle.std.specs.Prelude.{◌&&◌, not, ◌==◌, nat_lt}
use Rattle.std.specs.Char.{digit_value, is_digit, is_ascii_digit}
use Rattle.std.specs.Option.{option_or}
use Rattle.std.specs.Str.Parse.{digits_value_after}
use Rattle.std.proofs.lemmas.Bool.Decides.{nat_tests}
use Rattle.jsonb_value.specs.declared.parser.number.Exponents.{Exponents}
use Rattle.jsonb_value.specs.declared.parser.number.Exponents.TheVariants.{Forbidden, Allowed}
use Rattle.jsonb_value.specs.Json.Bind.{◌>>=◌}
use Rattle.jsonb_value.specs.Json.Characters.{minus, point, zero_digit, all_digits, is_blank}
use Rattle.jsonb_value.specs.Json.Characters.{is_exponent_mark}
use Rattle.jsonb_value.specs.Json.Numeral.{is_whole, fraction_text, sign_text}
use Rattle.jsonb_value.proofs.Json.Tests.{and_true, and_both, by_true, by_false, bound, bool_cases}
use Rattle.jsonb_value.proofs.Json.Digits.{stops, no_mark, ends_number}
use Rattle.json_fault.specs.declared.number.Part.{Part}
use Rattle.json_fault.specs.declared.number.Part.TheVariants.{Sign, Zero, Whole, Point, Fraction}
use Rattle.json_fault.specs.declared.number.Numeral.{Numeral}
use Rattle.json_fault.specs.declared.expected.Bracket.{Bracket}
use Rattle.json_fault.specs.declared.expected.Expected.{Expected}
use Rattle.json_fault.specs.declared.expected.Expected.TheVariants.{Value, Rest, Digits}
use Rattle.json_fault.specs.declared.expected.Change.TheVariants.{Keep}
use Rattle.json_fault.specs.Scan.{innermost_bracket, followed, has_room, has_room_after, is_end}
use Rattle.json_fault.specs.Scan.{limit}
use Rattle.json_fault.specs.Scan.{part_continued, with_point, with_digit, number_begun, keep}
use Rattle.json_fault.specs.Scan.{value_begun, mark_after, takes_exponent}
use Rattle.json_fault.proofs.Conditions.{less_from, less_test, either_none, either_first}
use Rattle.json_fault.proofs.NumberBack.{numeral_at}
use Rattle.json_fault.proofs.Powers.{value_grows}
use Rattle.json_fault.proofs.Going.{Going, step}

-- ---- digits

pub digit_is : (c : ℕ) → is_ascii_digit c ≡ true → is_digit c 10 ≡ true
digit_is c e = grind (arith, nat_tests)

pub other_than : (c k : ℕ) → (k < 48) ⊎ (58 ≤ k) → is_ascii_digit c ≡ true → (c == k) ≡ false
other_than c k h e = grind (arith, nat_tests)

pub no_blank : (c : ℕ) → is_ascii_digit c ≡ true → is_blank c ≡ false
no_blank c e = grind (arith, nat_tests)

pub no_digit : (c : ℕ) → is_ascii_digit c ≡ false → is_digit c 10 ≡ false
no_digit c e = grind (arith, nat_tests)

room_less : (rule : Exponents) (b : Bool) (m n j k : ℕ) → has_room rule b n k ≡ true → m ≤ n
    → j ≤ k → has_room rule b m j ≡ true
room_less Forbidden b m n j k e h g =
    let both = and_true _ _ e in
    let value = less_from n (limit b) both.0 in
    let scale = less_from k 256 both.1 in
    and_both _ _ (less_test m (limit b) (omega arith)) (less_test j 256 (omega arith))
room_less Allowed b m n j k e h g =
    let value = less_from n (limit b) (and_true _ _ e).0 in
    and_both _ _ (less_test m (limit b) (omega arith)) refl

room_point : (rule : Exponents) (b : Bool) (m n j k : ℕ) → has_room rule b n k ≡ true
    → m * 10 ≤ n → j < k → has_room_after rule Point b m j ≡ true
room_point Forbidden b m n j k e h g =
    let both = and_true _ _ e in
    let value = less_from n (limit b) both.0 in
    let scale = less_from k 256 both.1 in
    and_both _ _ (less_test (m * 10) (limit b) (omega arith)) (less_test j 255 (omega arith))
room_point Allowed b m n j k e h g =
    let value = less_from n (limit b) (and_true _ _ e).0 in
    and_both _ _ (less_test (m * 10) (limit b) (omega arith)) refl

-- ---- steps

number_step : (rule : Exponents) (bs : List Bracket) (p : Part) (b : Bool) (m k : ℕ) (n : Numeral)
    (c : ℕ) (w : List ℕ) → part_continued rule p (numeral_at b p m k) c ≡ Some n
    → Going rule (Digits n) bs w → Going rule (Digits (numeral_at b p m k)) bs (c ∷ w)
number_step rule bs p b m k n c w e more =
    step rule (Digits (numeral_at b p m k)) bs (Digits n, Keep) c w
    (either_first _ _ _ (bound _ _ _ n e refl)) more

module _ (rule : Exponents) where
  no_point : (p : Part) (b : Bool) (m k c : ℕ) → (c == point) ≡ false
      → with_point rule (numeral_at b p m k) c ≡ None
  no_point p b m k c e = by_false _ _ _ _ e refl

  not_digit : (p q : Part) (b : Bool) (m k more c : ℕ) → is_digit c 10 ≡ false
      → with_digit rule (numeral_at b p m k) q more c ≡ None
  not_digit p q b m k more c e = by_false _ _ _ _ e refl

  pub not_continued : (p : Part) (b : Bool) (m k c : ℕ) → is_end p ≡ true
      → is_digit c 10 ≡ false → (c == point) ≡ false
      → part_continued rule p (numeral_at b p m k) c ≡ None
  not_continued Sign b m k c end digit mark = absurd (let h : ⊥ = cc in h)
  not_continued Point b m k c end digit mark = absurd (let h : ⊥ = cc in h)
  not_continued Zero b m k c end digit mark = no_point Zero b m k c mark
  not_continued Whole b m k c end digit mark =
      either_none _ _ (no_point Whole b m k c mark) ∙ not_digit Whole Whole b m k 0 c digit
  not_continued Fraction b m k c end digit mark = not_digit Fraction Fraction b m k 1 c digit

pub none_bound : {A B : Type 0} (o : Option A) (f : A → Option B) → o ≡ None → (o >>= f) ≡ None
none_bound o f e = grind arith

pub none_test : (b : Bool) → not b ≡ true → b ≡ false
none_test b e = grind arith

pub and_none : (a b : Bool) → b ≡ false → (a && b) ≡ false
and_none a b e = grind arith

-- a number that ends here, without an exponent
pub number_stops : (rule : Exponents) (bs : List Bracket) (p : Part) (b : Bool) (m k : ℕ)
    (w : List ℕ) → is_end p ≡ true → nat_lt k 256 ≡ true → ends_number w ≡ true
    → Going rule Rest bs w → Going rule (Digits (numeral_at b p m k)) bs w
unfolding Going
number_stops rule bs p b m k [] end small stop more = tt
number_stops rule bs p b m k (c ∷ w) end small stop more =
    let both = and_true (stops (c ∷ w)) (no_mark (c ∷ w)) stop in
    let tests = and_true _ _ both.0 in
    let none = not_continued rule p b m k c end (no_digit c (none_test _ tests.0))
    (none_test _ tests.1) in
    let unmarked : mark_after rule (numeral_at b p m k) c ≡ None =
    by_false _ _ _ _ (and_none (takes_exponent rule (numeral_at b p m k)) (is_exponent_mark c)
    (none_test (is_exponent_mark c) both.1)) refl in (
      more.0,
      either_none _ _ (none_bound _ _ none)
          ∙ (either_none _ _ unmarked ∙ by_true _ _ _ _ (and_both _ _ end small) more.1),
      more.2,
    )

either_same : {A : Type 0} (x : Option A) → option_or x x ≡ x
either_same None = refl
either_same (Some x) = refl

either_again : {A : Type 0} (x y : Option A) → option_or x (option_or x y) ≡ option_or x y
either_again None y = refl
either_again (Some x) y = refl

begun : (b : Bool) (c : ℕ) (p : Part) → is_ascii_digit c ≡ true
    → cond (c == zero_digit) Zero Whole ≡ p
    → number_begun b c ≡ Some (numeral_at b p (digit_value c) 0)
begun b c p digit e =
    by_true _ _ _ _ (digit_is c digit) (ap (λ q. Some (numeral_at b q (digit_value c) 0)) e)

-- a step by a digit
digit_step : (rule : Exponents) (bs : List Bracket) (p q : Part) (b : Bool) (m k more c : ℕ)
    (w : List ℕ)
    → part_continued rule p (numeral_at b p m k) c
    ≡ with_digit rule (numeral_at b p m k) q more c
    → is_ascii_digit c ≡ true → has_room_after rule q b (m * 10 + digit_value c) (k + more) ≡ true
    → Going rule (Digits (numeral_at b q (m * 10 + digit_value c) (k + more))) bs w
    → Going rule (Digits (numeral_at b p m k)) bs (c ∷ w)
digit_step rule bs p q b m k more c w same digit room go =
    number_step rule bs p b m k _ c w
    (same ∙ by_true _ _ _ _ (digit_is c digit) (by_true _ _ _ _ room refl)) go

-- the digits of a number of this magnitude and scale, and what follows them
module _ (rule : Exponents) (bs : List Bracket) (b : Bool) (magnitude scale : ℕ)
    (room : has_room rule b magnitude scale ≡ true) (w : List ℕ)
    (tail : (p : Part) → is_end p ≡ true
    → Going rule (Digits (numeral_at b p magnitude scale)) bs w) where
  tail_same : (p : Part) (m k : ℕ) → is_end p ≡ true → m ≡ magnitude → k ≡ scale
      → Going rule (Digits (numeral_at b p m k)) bs w
  tail_same p m k end e g =
      subst (λ (i : ℕ). Going rule (Digits (numeral_at b p i k)) bs w) (sym e)
      (subst (λ (j : ℕ). Going rule (Digits (numeral_at b p magnitude j)) bs w) (sym g)
      (tail p end))

  fraction_goes : (f : List ℕ) (m k : ℕ) → all_digits f ≡ true
      → digits_value_after 10 m f ≡ magnitude → k + length f ≡ scale
      → Going rule (Digits (numeral_at b Fraction m k)) bs (f ++ w)
  fraction_goes [] m k all value size = tail_same Fraction m k refl value (omega arith)
  fraction_goes (d ∷ ds) m k all value size =
      let both = and_true (is_ascii_digit d) (all_digits ds) all in
      let more = m * 10 + digit_value d in
      let bigger = value_grows ds more in
      let count : k + suc (length ds) ≡ scale = size in
      let last : digits_value_after 10 more ds ≡ magnitude = value in
      digit_step rule bs Fraction Fraction b m k 1 d (ds ++ w) refl both.0
      (room_less rule b more magnitude (k + 1) scale room (omega arith) (omega arith))
      (fraction_goes ds more (k + 1) both.1 last (omega arith))

  -- a point and digits
  point_goes : (p : Part) (d : ℕ) (ds : List ℕ) (m k : ℕ)
      → part_continued rule p (numeral_at b p m k) point
      ≡ option_or (with_point rule (numeral_at b p m k) point)
      (part_continued rule p (numeral_at b p m k) point)
      → all_digits (d ∷ ds) ≡ true → digits_value_after 10 m (d ∷ ds) ≡ magnitude
      → k + length (d ∷ ds) ≡ scale
      → Going rule (Digits (numeral_at b p m k)) bs (point ∷ d ∷ (ds ++ w))
  point_goes p d ds m k same all value size =
      let both = and_true (is_ascii_digit d) (all_digits ds) all in
      let more = m * 10 + digit_value d in
      let bigger = value_grows ds more in
      let count : k + suc (length ds) ≡ scale = size in
      let last : digits_value_after 10 more ds ≡ magnitude = value in
      let viable : has_room_after rule Point b m k ≡ true =
      room_point rule b m magnitude k scale room (omega arith) (omega arith) in
      number_step rule bs p b m k (numeral_at b Point m k) point (d ∷ (ds ++ w))
      (same ∙ either_first _ _ _ (by_true _ _ _ _ viable refl))
      (digit_step rule bs Point Fraction b m k 1 d (ds ++ w) refl both.0
      (room_less rule b more magnitude (k + 1) scale room (omega arith) (omega arith))
      (fraction_goes ds more (k + 1) both.1 last (omega arith)))

  zero_goes : (f : List ℕ) (m k : ℕ) → all_digits f ≡ true
      → digits_value_after 10 m f ≡ magnitude → k + length f ≡ scale
      → Going rule (Digits (numeral_at b Zero m k)) bs (fraction_text f ++ w)
  zero_goes [] m k all value size = tail_same Zero m k refl value (omega arith)
  zero_goes (d ∷ ds) m k all value size =
      point_goes Zero d ds m k
      (sym (either_same (with_point rule (numeral_at b Zero m k) point))) all value size

  whole_goes : (ds f : List ℕ) (m k : ℕ) → all_digits ds ≡ true → all_digits f ≡ true
      → digits_value_after 10 m (ds ++ f) ≡ magnitude → k + length f ≡ scale
      → Going rule (Digits (numeral_at b Whole m k)) bs (ds ++ (fraction_text f ++ w))
  whole_goes [] [] m k digits all value size = tail_same Whole m k refl value (omega arith)
  whole_goes [] (d ∷ ds) m k digits all value size =
      point_goes Whole d ds m k (sym (either_again (with_point rule (numeral_at b Whole m k) point)
      (with_digit rule (numeral_at b Whole m k) Whole 0 point))) all value size
  whole_goes (c ∷ ds) f m k digits all value size =
      let both = and_true (is_ascii_digit c) (all_digits ds) digits in
      let more = m * 10 + digit_value c in
      let bigger = value_grows (ds ++ f) more in
      let last : digits_value_after 10 more (ds ++ f) ≡ magnitude = value in
      digit_step rule bs Whole Whole b m k 0 c (ds ++ (fraction_text f ++ w))
      (either_none _ _
      (no_point rule Whole b m k c (other_than c point (inl (omega arith)) both.0)))
      both.0
      (room_less rule b more magnitude (k + 0) scale room (omega arith) (omega arith))
      (whole_goes ds f more (k + 0) both.1 all last (omega arith))

  -- the digits of a number, from the first on, at whatever begins with a number
  digits_go : (e : Expected) (c : ℕ) (whole f : List ℕ) → is_whole (c ∷ whole) ≡ true
      → all_digits f ≡ true → digits_value_after 10 0 ((c ∷ whole) ++ f) ≡ magnitude
      → length f ≡ scale
      → ((n : Numeral) → is_ascii_digit c ≡ true → number_begun b c ≡ Some n
      → followed rule e (innermost_bracket bs) c ≡ Some (Digits n, Keep))
      → Going rule e bs ((c ∷ whole) ++ (fraction_text f ++ w))
  digits_go e c [] f is all value size begins =
      let first : digits_value_after 10 (digit_value c) f ≡ magnitude =
      ap (λ m. digits_value_after 10 m f) (omega arith) ∙ value in
      elim (bool_cases (c == zero_digit)) [
        | inl none ↦
            step rule e bs (Digits (numeral_at b Zero (digit_value c) 0), Keep) c
            (fraction_text f ++ w)
            (begins _ is (begun b c Zero is (ap (λ t. cond t Zero Whole) none)))
            (zero_goes f (digit_value c) 0 all first (omega arith))
        | inr other ↦
            step rule e bs (Digits (numeral_at b Whole (digit_value c) 0), Keep) c
            (fraction_text f ++ w)
            (begins _ is (begun b c Whole is (ap (λ t. cond t Zero Whole) other)))
            (whole_goes [] f (digit_value c) 0 refl all first (omega arith))
      ]
  digits_go e c (d ∷ ds) f is all value size begins =
      let both = and_true (not (c == zero_digit)) (all_digits (c ∷ d ∷ ds)) is in
      let digits = and_true (is_ascii_digit c) (all_digits (d ∷ ds)) both.1 in
      let first : digits_value_after 10 (digit_value c) ((d ∷ ds) ++ f) ≡ magnitude =
      ap (λ m. digits_value_after 10 m ((d ∷ ds) ++ f)) (omega arith) ∙ value in
      step rule e bs (Digits (numeral_at b Whole (digit_value c) 0), Keep) c _
      (begins _ digits.0
      (begun b c Whole digits.0 (ap (λ t. cond t Zero Whole) (none_test _ both.0))))
      (whole_goes (d ∷ ds) f (digit_value c) 0 digits.1 all first (omega arith))

pub value_is_number : (c : ℕ) → is_ascii_digit c ≡ true
    → value_begun c ≡ (number_begun false c >>= λ n. keep (Digits n))
value_is_number c e =
    by_false _ _ _ _ (other_than c 34 (inl (omega arith)) e)
    (by_false _ _ _ _ (other_than c 91 (inr (omega arith)) e)
    (by_false _ _ _ _ (other_than c 123 (inr (omega arith)) e)
    (by_false _ _ _ _ (other_than c 116 (inr (omega arith)) e)
    (by_false _ _ _ _ (other_than c 102 (inr (omega arith)) e)
    (by_false _ _ _ _ (other_than c 110 (inr (omega arith)) e)
    (by_false _ _ _ _ (other_than c 45 (inl (omega arith)) e) refl))))))

pub number_goes : (rule : Exponents) (bs : List Bracket) (b : Bool) (whole f w : List ℕ)
    → is_whole whole ≡ true → all_digits f ≡ true
    → has_room rule b (digits_value_after 10 0 (whole ++ f)) (length f) ≡ true
    → ((p : Part) → is_end p ≡ true
    → Going rule (Digits (numeral_at b p (digits_value_after 10 0 (whole ++ f)) (length f))) bs w)
    → Going rule Value bs (sign_text b ++ (whole ++ (fraction_text f ++ w)))
number_goes rule bs b [] f w is all room tail = absurd (let h : ⊥ = cc in h)
number_goes rule bs true (c ∷ whole) f w is all room tail =
    step rule Value bs (Digits (numeral_at true Sign 0 0), Keep) minus _ refl
    (digits_go rule bs true _ (length f) room w tail (Digits (numeral_at true Sign 0 0)) c whole f
    is all refl refl
    (λ n digit begun. either_first _ _ _ (bound _ _ _ n begun refl)))
number_goes rule bs false (c ∷ whole) f w is all room tail =
    digits_go rule bs false _ (length f) room w tail Value c whole f is all refl refl
    (λ n digit begun. by_false _ _ _ _ (no_blank c digit)
    (value_is_number c digit ∙ bound _ _ _ n begun refl))
