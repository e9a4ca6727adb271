-- The scan of a text, character by character.
use Rattle.std.proofs.Common.{◌≡◌, ℕ, ◌+◌, ◌-◌, ◌*◌, ◌<◌, ◌≤◌, inl, inr, Bool, true, false, cond}
use Rattle.std.proofs.Common.{◌↔◌, refl, sym, ap, ◌∙◌, subst, lit<, arith, List, [], ◌∷◌, ◌++◌}
use Rattle.std.proofs.Common.{append_assoc, length, length-append, Option, Some, None, eqb-true}
use Rattle.std.specs.Prelude.{◌/◌, ◌||◌, ◌==◌, nat_lt, nat_le, min, option_map, is_some}
use Rattle.std.specs.Char.{digit_value, is_digit}
use Rattle.jsonb_value.specs.Json.Characters.{quote, comma, colon, open_bracket, close_bracket}
use Rattle.jsonb_value.specs.Json.Characters.{open_brace, close_brace, is_blank, minus, zero_digit}
use Rattle.jsonb_value.specs.declared.parser.number.Exponents.{Exponents}
use Rattle.jsonb_value.specs.declared.parser.number.Exponents.TheVariants.{Forbidden, Allowed}
use Rattle.jsonb_value.specs.Json.Characters.{plus, point, is_exponent_mark}
use Rattle.jsonb_value.proofs.Json.Tests.{and_true, and_both, cond_some, chosen, bind_then}
use Rattle.jsonb_value.proofs.Json.Tests.{some_same, no_error}
use Rattle.json_fault.specs.declared.number.Part.{Part}
use Rattle.json_fault.specs.declared.number.Part.TheVariants.{Sign, Zero, Whole, Point, Fraction}
use Rattle.json_fault.specs.declared.number.Numeral.{Numeral}
use Rattle.json_fault.specs.declared.exponent.Exponent.{Exponent}
use Rattle.json_fault.specs.declared.string.Place.TheVariants.{Inside}
use Rattle.json_fault.specs.declared.expected.Bracket.{Bracket}
use Rattle.json_fault.specs.declared.expected.Bracket.TheVariants.{Array, Object}
use Rattle.json_fault.specs.declared.expected.Word.{Word}
use Rattle.json_fault.specs.declared.expected.Word.TheVariants.{Rue, Ue, E, Alse, Lse, Se, Ull, Ll}
use Rattle.json_fault.specs.declared.expected.Word.TheVariants.{L}
use Rattle.json_fault.specs.declared.expected.Expected.{Expected}
use Rattle.json_fault.specs.declared.expected.Expected.TheVariants.{Value, FirstItem, FirstKey}
use Rattle.json_fault.specs.declared.expected.Expected.TheVariants.{Key, Colon, Rest, Letters}
use Rattle.json_fault.specs.declared.expected.Expected.TheVariants.{Digits, ExponentSign}
use Rattle.json_fault.specs.declared.expected.Expected.TheVariants.{ExponentDigits, Content, Name}
use Rattle.json_fault.specs.declared.expected.Change.TheVariants.{Keep}
use Rattle.json_fault.specs.Fault.{IsJsonUnder, Begins, IsFault, new_line}
use Rattle.json_fault.specs.Scan.{Move, changed, innermost_bracket, followed, limit, has_room}
use Rattle.json_fault.specs.Scan.{is_viable}
use Rattle.json_fault.specs.Scan.{has_room_after, viable_only, with_digit, with_point, number_begun}
use Rattle.json_fault.specs.Scan.{number_first, part_continued, number_continued, value_begun}
use Rattle.json_fault.specs.Scan.{mark_begun, rest_begun, rest_followed, word_continued, is_closed}
use Rattle.json_fault.specs.Scan.{string_continued, scale_of, log10, raising, without_digits}
use Rattle.json_fault.specs.Scan.{reaches, exponent_continued, exponent_begun, mark_after}
use Rattle.json_fault.specs.Scan.{takes_exponent, is_end}
use Rattle.json_fault.proofs.Conditions.{either_found, is_some_found, less_from, less_test, most_test, some_if}
use Rattle.json_fault.proofs.Endings.{Completes}
use Rattle.json_fault.proofs.ExponentBack.{exponent_at}
use Rattle.json_fault.proofs.StepBack.{can_end, is_live, exponent_taken, viable_magnitude}
use Rattle.json_fault.proofs.StepBack.{step_back, whole_text}
use Rattle.json_fault.proofs.Completions.{completes}
use Rattle.json_fault.proofs.Going.{Going, Position, arrives, arrives_on, goes_on_after}
use Rattle.json_fault.proofs.ValueGoes.{text_goes}
use Rattle.json_fault.proofs.NumberBack.{numeral_at}
use Rattle.json_fault.proofs.NumberTails.{Tail, Spelled, spelled_of_sign, begun_tail, digits_tail}
use Rattle.json_fault.proofs.NumberTails.{mark_tail, sign_tail, power_tail, is_first}

-- ---- what is expected can still come

-- Characters that end in a number which is expected to go on.
pub record NumberAt (rule : Exponents) (front : List ℕ) (e : Expected) : Type 0 where
  pub before : List ℕ
  pub number : List ℕ
  pub is_split : front ≡ before ++ number
  pub is_expected : Begins rule (before ++ new_line ∷ zero_digit ∷ [])
  pub tails : (d : ℕ) (w : List ℕ) → Tail e (d ∷ w) → Spelled (number ++ d ∷ w)

-- The same where a number is expected to go on.
abbrev pub IsNumberAt : Exponents → List ℕ → Expected → Type 0
IsNumberAt rule front (Digits n) = NumberAt rule front (Digits n)
IsNumberAt rule front (ExponentSign n) = NumberAt rule front (ExponentSign n)
IsNumberAt rule front (ExponentDigits x) = NumberAt rule front (ExponentDigits x)
IsNumberAt rule front _ = Unit {0}

-- What is expected after these characters can still come, at most as many fraction digits as
-- characters were counted, and a number that goes on is known.
pub record IsSound (rule : Exponents) (front : List ℕ) (e : Expected) : Type 0 where
  pub live : is_live rule e ≡ true
  pub counted : scale_of e ≤ length front
  pub number : IsNumberAt rule front e

small_room : (rule : Exponents) (b : Bool) (d : ℕ) → d < 10 → has_room rule b d 0 ≡ true
small_room Forbidden true d h = and_both _ _ (less_test d (limit true) (omega arith)) refl
small_room Forbidden false d h = and_both _ _ (less_test d (limit false) (omega arith)) refl
small_room Allowed true d h = and_both _ _ (less_test d (limit true) (omega arith)) refl
small_room Allowed false d h = and_both _ _ (less_test d (limit false) (omega arith)) refl

begun_room : (rule : Exponents) (t b : Bool) (d : ℕ) → d < 10
    → has_room_after rule (cond t Zero Whole) b d 0 ≡ true
begun_room rule true b d h = small_room rule b d h
begun_room rule false b d h = small_room rule b d h

raised_end : (m k z : ℕ) (t : Bool)
    → can_end 0 (k - 255) (option_map (λ count. k + count) (cond t None (Some z))) ≡ true
raised_end m k z true = refl
raised_end m k z false = and_both _ _ (most_test (k - 255) (k + z) (omega arith)) refl

lowered_end : (k : ℕ) → can_end 0 0 (Some (255 - k)) ≡ true
lowered_end k = and_both _ _ (most_test 0 (255 - k) (omega arith)) refl

exponent_live : (rule : Exponents) (has : Bool) (v l : ℕ) (g : Option ℕ) (c : ℕ) (y : Exponent)
    → exponent_continued (exponent_at has v l g) c ≡ Some y → can_end v l g ≡ true
    → is_live rule (ExponentDigits y) ≡ true
exponent_live rule has v l None c y e live =
    let both = cond_some _ _ _ e in
    let value = v * 10 + digit_value c in
    subst (λ (x : Exponent). is_live rule (ExponentDigits x) ≡ true)
    (some_same (exponent_at true (min value l) l None) y both.1) refl
exponent_live rule has v l (Some g) c y e live =
    let both = cond_some _ _ _ e in
    let value = v * 10 + digit_value c in
    let fits = cond_some (reaches value l g) _ _ both.1 in
    let range = and_true (nat_le l g) (reaches v l g) live in
    subst (λ (x : Exponent). is_live rule (ExponentDigits x) ≡ true)
    (some_same (exponent_at true value l (Some g)) y fits.1) (and_both _ _ range.0 fits.0)

begun_live : (rule : Exponents) (n : Numeral) (c : ℕ) (x : Exponent) → exponent_begun n c ≡ Some x
    → is_live rule (ExponentDigits x) ≡ true
begun_live rule n c x e =
    let raised = raised_end n.magnitude n.scale (log10 ((limit n.is_negative - 1) / n.magnitude))
    (n.magnitude == 0) in
    elim (chosen (c == plus) _ _ _ e) [
      | inl is ↦
          subst (λ (y : Exponent). is_live rule (ExponentDigits y) ≡ true)
          (some_same (raising n) x is.1) raised
      | inr other ↦ elim (chosen (c == minus) _ _ _ other.1) [
        | inl is ↦
            let both = cond_some (nat_lt n.scale 256) _ _ is.1 in
            subst (λ (y : Exponent). is_live rule (ExponentDigits y) ≡ true)
            (some_same (without_digits 0 (Some (255 - n.scale))) x both.1) (lowered_end n.scale)
        | inr other ↦
            exponent_live rule false 0 (raising n).least (raising n).greatest c x other.1 raised
      ]
    ]

-- whatever follows a character, after which the text so far is `front`
module _ (rule : Exponents) (front : List ℕ) where
  plain : (e : Expected) → is_live rule e ≡ true → scale_of e ≡ 0 → IsNumberAt rule front e
      → IsSound rule front e
  plain e live none at = record { live = live; counted = omega arith; number = at }

  sound_same : (n m : Move) → Some n ≡ Some m → IsSound rule front n.0 → IsSound rule front m.0
  sound_same n m e sound =
      subst (λ (x : Move). IsSound rule front x.0) (some_same n m e) sound

  begun_sound : (b : Bool) (c : ℕ) (n : Numeral) → number_begun b c ≡ Some n
      → NumberAt rule front (Digits n) → IsSound rule front (Digits n)
  begun_sound b c n e at =
      let both = cond_some _ _ _ e in
      let same = some_same _ n both.1 in
      record {
        live = subst (λ (x : Numeral). is_live rule (Digits x) ≡ true) same
            (begun_room rule (c == zero_digit) b (digit_value c) (less_from _ _ both.0));
        counted = subst (λ (x : Numeral). x.scale ≤ length front) same (omega arith);
        number = at;
      }

  viable_sound : (t : Bool) (n m : Numeral) → n.scale ≤ length front
      → cond t (viable_only rule n) None ≡ Some m → NumberAt rule front (Digits m)
      → IsSound rule front (Digits m)
  viable_sound t n m h e at =
      let both = cond_some t (viable_only rule n) m e in
      let viable = cond_some (is_viable rule n) (Some n) m both.1 in
      let same = some_same n m viable.1 in
      record {
        live = subst (λ (x : Numeral). is_live rule (Digits x) ≡ true) same viable.0;
        counted = subst (λ (x : Numeral). x.scale ≤ length front) same h;
        number = at;
      }

  digit_sound : (n m : Numeral) (p : Part) (more c : ℕ) → n.scale + more ≤ length front
      → with_digit rule n p more c ≡ Some m → NumberAt rule front (Digits m)
      → IsSound rule front (Digits m)
  digit_sound n m p more c h e at = viable_sound (is_digit c 10) (record {
    is_negative = n.is_negative;
    part = p;
    magnitude = n.magnitude * 10 + digit_value c;
    scale = n.scale + more;
  }) m h e at

  point_sound : (n m : Numeral) (c : ℕ) → n.scale ≤ length front → with_point rule n c ≡ Some m
      → NumberAt rule front (Digits m) → IsSound rule front (Digits m)
  point_sound n m c h e at = viable_sound (c == point) (record n { part = Point }) m h e at

  part_sound : (p : Part) (n m : Numeral) (c : ℕ) → n.scale + 1 ≤ length front
      → part_continued rule p n c ≡ Some m → NumberAt rule front (Digits m)
      → IsSound rule front (Digits m)
  part_sound Sign n m c h e at = begun_sound n.is_negative c m e at
  part_sound Zero n m c h e at = point_sound n m c (omega arith) e at
  part_sound Whole n m c h e at = elim (either_found _ _ _ e) [
    | inl is ↦ point_sound n m c (omega arith) is at
    | inr other ↦ digit_sound n m Whole 0 c (omega arith) other.1 at
  ]
  part_sound Point n m c h e at = digit_sound n m Fraction 1 c h e at
  part_sound Fraction n m c h e at = digit_sound n m Fraction 1 c h e at

  -- whichever of two moves the test takes
  chosen_sound : (t : Bool) (n m : Move) (o : Option Move) → IsSound rule front n.0
      → (o ≡ Some m → IsSound rule front m.0) → cond t (Some n) o ≡ Some m
      → IsSound rule front m.0
  chosen_sound true n m o sound other e = sound_same n m e sound
  chosen_sound false n m o sound other e = other e

  mark_sound : (c k : ℕ) (e : Expected) (m : Move) → IsSound rule front e
      → mark_begun c k e ≡ Some m → IsSound rule front m.0
  mark_sound c k e m sound is =
      chosen_sound (c == k) (e, Keep) m None sound (λ none. no_error none) is

  -- a number that begins with this character
  abbrev FirstOf : ℕ → Type 0
  FirstOf c = (next : Expected)
      → ((d : ℕ) (w : List ℕ) → Tail next (d ∷ w) → Spelled (c ∷ d ∷ w)) → NumberAt rule front next

  number_sound : (c : ℕ) (m : Move) → FirstOf c → number_first c ≡ Some m → IsSound rule front m.0
  number_sound c m first e = elim (chosen (c == minus) _ _ _ e) [
    | inl is ↦
        let signed : Expected = Digits (numeral_at true Sign 0 0) in
        sound_same (signed, Keep) m is.1 (record {
          live = small_room rule true 0 (lit< tt);
          counted = omega arith;
          number = first signed (λ d w tail. rw (eqb-true c minus is.0)
              (spelled_of_sign true (d ∷ w) tail));
        })
    | inr other ↦ bind_then (number_begun false c) _ _ other.1 (λ n is last.
        sound_same (Digits n, Keep) m last (begun_sound false c n is
        (first (Digits n) (λ d w tail. begun_tail n c (d ∷ w) is tail))))
  ]

  value_sound : (c : ℕ) (m : Move) → FirstOf c → value_begun c ≡ Some m → IsSound rule front m.0
  value_sound c m first e =
      chosen_sound (c == quote) _ m _ (plain _ refl refl tt)
      (chosen_sound (c == open_bracket) _ m _ (plain _ refl refl tt)
      (chosen_sound (c == open_brace) _ m _ (plain _ refl refl tt)
      (chosen_sound (c == 116) _ m _ (plain _ refl refl tt)
      (chosen_sound (c == 102) _ m _ (plain _ refl refl tt)
      (chosen_sound (c == 110) _ m _ (plain _ refl refl tt) (number_sound c m first)))))) e

  rest_sound : (top : Option Bracket) (c : ℕ) (m : Move) → rest_begun top c ≡ Some m
      → IsSound rule front m.0
  rest_sound None c m e = no_error e
  rest_sound (Some Array) c m e =
      chosen_sound (c == close_bracket) _ m _ (plain _ refl refl tt)
      (mark_sound c comma Value m (plain _ refl refl tt)) e
  rest_sound (Some Object) c m e =
      chosen_sound (c == close_brace) _ m _ (plain _ refl refl tt)
      (mark_sound c comma Key m (plain _ refl refl tt)) e

  after_value_sound : (top : Option Bracket) (c : ℕ) (m : Move) → rest_followed top c ≡ Some m
      → IsSound rule front m.0
  after_value_sound top c m e =
      chosen_sound (is_blank c) _ m _ (plain _ refl refl tt) (rest_sound top c m) e

  word_sound : (word : Word) (c : ℕ) (m : Move) → word_continued word c ≡ Some m
      → IsSound rule front m.0
  word_sound Rue c m e = mark_sound c 114 (Letters Ue) m (plain _ refl refl tt) e
  word_sound Ue c m e = mark_sound c 117 (Letters E) m (plain _ refl refl tt) e
  word_sound E c m e = mark_sound c 101 Rest m (plain _ refl refl tt) e
  word_sound Alse c m e = mark_sound c 97 (Letters Lse) m (plain _ refl refl tt) e
  word_sound Lse c m e = mark_sound c 108 (Letters Se) m (plain _ refl refl tt) e
  word_sound Se c m e = mark_sound c 115 (Letters E) m (plain _ refl refl tt) e
  word_sound Ull c m e = mark_sound c 117 (Letters Ll) m (plain _ refl refl tt) e
  word_sound Ll c m e = mark_sound c 108 (Letters L) m (plain _ refl refl tt) e
  word_sound L c m e = mark_sound c 108 Rest m (plain _ refl refl tt) e

  -- the mark of an exponent
  marked_sound : (n : Numeral) (c : ℕ) (m : Move) → mark_after rule n c ≡ Some m
      → is_viable rule n ≡ true
      → (is_end n.part ≡ true → is_exponent_mark c ≡ true → NumberAt rule front (ExponentSign n))
      → IsSound rule front m.0
  marked_sound n c m e live at =
      let both = cond_some _ _ _ e in
      let takes = and_true (takes_exponent rule n) (is_exponent_mark c) both.0 in
      let ends = exponent_taken rule n takes.0 in
      sound_same (ExponentSign n, Keep) m both.1 (record {
        live = viable_magnitude rule n.part n.is_negative n.magnitude n.scale ends.1 live;
        counted = omega arith;
        number = at ends.1 takes.1;
      })

module _ (rule : Exponents) (front : List ℕ) (c : ℕ) where
  abbrev more : List ℕ
  more = front ++ c ∷ []

  first_number : Begins rule (front ++ new_line ∷ zero_digit ∷ []) → FirstOf rule more c
  first_number expected next tails = record {
    before = front;
    number = c ∷ [];
    is_split = refl;
    is_expected = expected;
    tails = tails;
  }

  longer : (e next : Expected) → NumberAt rule front e
      → ((d : ℕ) (w : List ℕ) → Tail next (d ∷ w) → Tail e (c ∷ d ∷ w)) → NumberAt rule more next
  longer e next at back = record {
    before = at.before;
    number = at.number ++ c ∷ [];
    is_split = ap (λ r. r ++ c ∷ []) at.is_split ∙ append_assoc at.before at.number (c ∷ []);
    is_expected = at.is_expected;
    tails = λ d w tail. subst Spelled (sym (append_assoc at.number (c ∷ []) (d ∷ w)))
        (at.tails c (d ∷ w) (back d w tail));
  }

  longer_counted : (k : ℕ) → k ≤ length front → k + 1 ≤ length more
  longer_counted k h = let size = length-append front (c ∷ []) in omega arith

  step_sound : (e : Expected) (top : Option Bracket) (m : Move)
      → followed rule e top c ≡ Some m → IsSound rule front e
      → (is_first e ≡ true → Begins rule (front ++ new_line ∷ zero_digit ∷ []))
      → IsSound rule more m.0
  step_sound Value top m e sound first =
      chosen_sound rule more (is_blank c) _ m _ (plain rule more _ refl refl tt)
      (value_sound rule more c m (first_number (first refl))) e
  step_sound FirstItem top m e sound first =
      chosen_sound rule more (is_blank c) _ m _ (plain rule more _ refl refl tt)
      (chosen_sound rule more (c == close_bracket) _ m _ (plain rule more _ refl refl tt)
      (value_sound rule more c m (first_number (first refl)))) e
  step_sound FirstKey top m e sound first =
      chosen_sound rule more (is_blank c) _ m _ (plain rule more _ refl refl tt)
      (chosen_sound rule more (c == close_brace) _ m _ (plain rule more _ refl refl tt)
      (mark_sound rule more c quote (Name Inside) m (plain rule more _ refl refl tt))) e
  step_sound Key top m e sound first =
      chosen_sound rule more (is_blank c) _ m _ (plain rule more _ refl refl tt)
      (mark_sound rule more c quote (Name Inside) m (plain rule more _ refl refl tt)) e
  step_sound Colon top m e sound first =
      chosen_sound rule more (is_blank c) _ m _ (plain rule more _ refl refl tt)
      (mark_sound rule more c colon Value m (plain rule more _ refl refl tt)) e
  step_sound Rest top m e sound first = after_value_sound rule more top c m e
  step_sound (Letters word) top m e sound first = word_sound rule more word c m e
  step_sound (Digits n) top m e sound first = elim (either_found _ _ _ e) [
    | inl is ↦ bind_then (number_continued rule n c) _ _ is (λ k on last.
        sound_same rule more (Digits k, Keep) m last
        (part_sound rule more n.part n k c (longer_counted n.scale sound.counted) on
        (longer (Digits n) (Digits k) sound.number
        (λ d w tail. digits_tail rule n k c (d ∷ w) on tail))))
    | inr other ↦ elim (either_found _ _ _ other.1) [
      | inl is ↦ marked_sound rule more n c m is sound.live
          (λ end mark. longer (Digits n) (ExponentSign n) sound.number
          (λ d w tail. mark_tail n.part n.magnitude n.scale c (d ∷ w) end mark tail))
      | inr last ↦ after_value_sound rule more top c m (cond_some _ _ _ last.1).1
    ]
  ]
  step_sound (ExponentSign n) top m e sound first =
      bind_then (exponent_begun n c) _ _ e (λ x is last.
      sound_same rule more (ExponentDigits x, Keep) m last
      (plain rule more (ExponentDigits x) (begun_live rule n c x is) refl
      (longer (ExponentSign n) (ExponentDigits x) sound.number
      (λ d w tail. sign_tail n x c d w is tail))))
  step_sound (ExponentDigits x) top m e sound first =
      let can = (and_true (x.has_digits || (x.value == 0)) (can_end x.value x.least x.greatest)
      sound.live).1 in
      elim (either_found _ _ _ e) [
        | inl is ↦ bind_then (exponent_continued x c) _ _ is (λ y on last.
            sound_same rule more (ExponentDigits y, Keep) m last
            (plain rule more (ExponentDigits y)
            (exponent_live rule x.has_digits x.value x.least x.greatest c y on can) refl
            (longer (ExponentDigits x) (ExponentDigits y) sound.number
            (λ d w tail. power_tail x y c (d ∷ w) on tail))))
        | inr other ↦ after_value_sound rule more top c m (cond_some _ _ _ other.1).1
      ]
  step_sound (Content place) top m e sound first =
      chosen_sound rule more (is_closed place c) _ m _ (plain rule more _ refl refl tt)
      (λ other. bind_then (string_continued place c) _ _ other (λ q on last.
      sound_same rule more (Content q, Keep) m last (plain rule more _ refl refl tt))) e
  step_sound (Name place) top m e sound first =
      chosen_sound rule more (is_closed place c) _ m _ (plain rule more _ refl refl tt)
      (λ other. bind_then (string_continued place c) _ _ other (λ q on last.
      sound_same rule more (Name q, Keep) m last (plain rule more _ refl refl tt))) e

-- ---- the scan

-- What completes a text after these characters.
abbrev pub Completed : Exponents → List ℕ → Position → Type 0
Completed rule front x =
    (w : List ℕ) → Completes rule x.0 x.1 w → Completes rule Value [] (front ++ w)

module _ (rule : Exponents) where
  pub completed_on : (front : List ℕ) (x : Position) (m : Move) (c : ℕ)
      → followed rule x.0 (innermost_bracket x.1) c ≡ Some m → is_live rule x.0 ≡ true
      → Completed rule front x → Completed rule (front ++ c ∷ []) (m.0, changed m.1 x.1)
  completed_on front x m c is live completed w end =
      subst (λ (s : List ℕ). Completes rule Value [] s) (sym (append_assoc front (c ∷ []) w))
      (completed (c ∷ w) (step_back rule x.0 x.1 m c w is live end))

  pub begins_at : (front : List ℕ) (x : Position) → is_live rule x.0 ≡ true
      → Completed rule front x → Begins rule front
  begins_at front x live completed =
      let end = completes rule x.0 x.1 live in
      (end.0, whole_text rule (front ++ end.0) (completed end.0 end.1))

  -- a new line and a number may come
  expects : (front : List ℕ) (x : Position) → is_live rule x.0 ≡ true → Completed rule front x
      → followed rule x.0 (innermost_bracket x.1) new_line ≡ Some (x.0, Keep)
      → followed rule x.0 (innermost_bracket x.1) zero_digit
      ≡ Some (Digits (numeral_at false Zero 0 0), Keep)
      → Begins rule (front ++ new_line ∷ zero_digit ∷ [])
  expects front x live completed blank zero =
      subst (Begins rule) (append_assoc front (new_line ∷ []) (zero_digit ∷ []))
      (begins_at ((front ++ new_line ∷ []) ++ zero_digit ∷ [])
      (Digits (numeral_at false Zero 0 0), x.1) (small_room rule false 0 (lit< tt))
      (completed_on (front ++ new_line ∷ []) x (Digits (numeral_at false Zero 0 0), Keep) zero_digit
      zero live (completed_on front x (x.0, Keep) new_line blank live completed)))

  first_expects : (front : List ℕ) (e : Expected) (bs : List Bracket)
      → Completed rule front (e, bs) → is_first e ≡ true
      → Begins rule (front ++ new_line ∷ zero_digit ∷ [])
  first_expects front Value bs completed first =
      expects front (Value, bs) refl completed refl refl
  first_expects front FirstItem bs completed first =
      expects front (FirstItem, bs) refl completed refl refl
  first_expects front _ bs completed first = absurd (let h : ⊥ = cc in h)

-- The scan of the text has come past this front to this rest.
pub record IsReached (rule : Exponents) (text front rest : List ℕ) (e : Expected)
    (bs : List Bracket) : Type 0 where
  pub is_split : text ≡ front ++ rest
  pub arrived : arrives rule (Value, []) front ≡ Some (e, bs)
  pub completed : Completed rule front (e, bs)
  pub sound : IsSound rule front e

pub begun : (rule : Exponents) (text rest : List ℕ) → text ≡ rest
    → IsReached rule text [] rest Value []
begun rule text rest same = record {
  is_split = same;
  arrived = refl;
  completed = λ w end. end;
  sound = record { live = refl; counted = omega arith; number = tt };
}

-- the scan goes on by one character
pub moved : (rule : Exponents) {text front rest after : List ℕ} {e : Expected}
    {bs : List Bracket} (m : Move) {c : ℕ} → IsReached rule text front rest e bs
    → rest ≡ c ∷ after → followed rule e (innermost_bracket bs) c ≡ Some m
    → IsReached rule text (front ++ c ∷ []) after m.0 (changed m.1 bs)
moved rule {text} {front} {rest} {after} {e} {bs} m {c} reached cut is = record {
  is_split = reached.is_split ∙ ap (λ r. front ++ r) cut
      ∙ sym (append_assoc front (c ∷ []) after);
  arrived = arrives_on rule (Value, []) (e, bs) front m c reached.arrived is;
  completed = completed_on rule front (e, bs) m c is reached.sound.live reached.completed;
  sound = step_sound rule front c e (innermost_bracket bs) m is reached.sound
      (first_expects rule front e bs reached.completed);
}

stuck : (rule : Exponents) (e : Expected) (bs : List Bracket) (c : ℕ) (w : List ℕ)
    → followed rule e (innermost_bracket bs) c ≡ None → Going rule e bs (c ∷ w) → ⊥
unfolding Going
stuck rule e bs c w none go = no_error (sym none ∙ go.1)

-- after these characters a text goes on as the scan does
pub text_goes_on : (rule : Exponents) (front w : List ℕ) (x : Position)
    → arrives rule (Value, []) front ≡ Some x → IsJsonUnder rule (front ++ w)
    → Going rule x.0 x.1 w
text_goes_on rule front w x arrived json =
    goes_on_after rule (Value, []) x front w arrived (text_goes rule (front ++ w) json.0 json.1)

-- the next character may not come
pub refused : (rule : Exponents) (front : List ℕ) (x : Position) (c : ℕ)
    → arrives rule (Value, []) front ≡ Some x → followed rule x.0 (innermost_bracket x.1) c ≡ None
    → Begins rule (front ++ c ∷ []) → ⊥
refused rule front x c arrived none begins =
    stuck rule x.0 x.1 c begins.0 none (text_goes_on rule front (c ∷ begins.0) x arrived
    (subst (IsJsonUnder rule) (append_assoc front (c ∷ []) begins.0) begins.1))

-- a character may come exactly if what was read begins a JSON text with it
pub next_comes : (rule : Exponents) {text front rest : List ℕ} {e : Expected} {bs : List Bracket}
    → IsReached rule text front rest e bs → (c : ℕ)
    → (is_some (followed rule e (innermost_bracket bs) c) ≡ true) ↔ Begins rule (front ++ c ∷ [])
next_comes rule {text} {front} {rest} {e} {bs} reached c = (
  λ some.
      let found = is_some_found (followed rule e (innermost_bracket bs) c) some in
      let here : IsReached rule (front ++ c ∷ []) front (c ∷ []) e bs =
      record {
        is_split = refl;
        arrived = reached.arrived;
        completed = reached.completed;
        sound = reached.sound;
      } in
      let next = moved rule found.0 here refl found.1 in
      begins_at rule (front ++ c ∷ []) (found.0.0, changed found.0.1 bs) next.sound.live
      next.completed,
  λ begins.
      some_if (followed rule e (innermost_bracket bs) c)
      (λ none. refused rule front (e, bs) c reached.arrived none begins),
)

-- the text ends here
pub ended : (rule : Exponents) {text front rest : List ℕ} {e : Expected} {bs : List Bracket}
    → IsReached rule text front rest e bs → rest ≡ [] → IsFault rule front rest
ended rule {text} {front} {rest} {e} {bs} reached none = record {
  begins = begins_at rule front (e, bs) reached.sound.live reached.completed;
  longest = λ c more is begins. let h : ⊥ = cc in h;
}

-- the next character may not come
pub stopped : (rule : Exponents) {text front rest after : List ℕ} {e : Expected}
    {bs : List Bracket} {c : ℕ} → IsReached rule text front rest e bs → rest ≡ c ∷ after
    → followed rule e (innermost_bracket bs) c ≡ None → IsFault rule front rest
stopped rule {text} {front} {rest} {after} {e} {bs} {c} reached cut none = record {
  begins = begins_at rule front (e, bs) reached.sound.live reached.completed;
  longest = λ d more is begins.
      let same : d ≡ c = cc in
      refused rule front (e, bs) c reached.arrived none
      (subst (λ (x : ℕ). Begins rule (front ++ x ∷ [])) same begins);
}
