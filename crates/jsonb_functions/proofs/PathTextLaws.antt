-- Numbers, names and steps in the text of a path.
use Rattle.std.proofs.Common.{◌≡◌, ◌<◌, ◌≤◌, ◌+◌, ◌*◌, ◌-◌, ◌^◌, ℕ, suc, List, [], ◌∷◌, ◌++◌}
use Rattle.std.proofs.Common.{length, min, take, drop, get_or, refl, sym, ap, ◌∙◌, arith}
use Rattle.std.proofs.Common.{true, false, Bool, one-add, Bor, ne_eqb, eqb-true, subst, zero}
use Rattle.std.specs.Prelude.{slice_range, Option, None, Some, MatchOption, ◌==◌, ◌&&◌}
use Rattle.std.specs.Prelude.{if◌then◌else◌}
use Rattle.std.specs.List.{prefix_len}
use Rattle.std.specs.Str.{IsCharBoundary}
use Rattle.std.specs.Str.Parse.{digits_value_after}
use Rattle.std.specs.Char.{digit_value, is_ascii_digit}
use Rattle.std.proofs.Math.Nat.{sub-zero}
use Rattle.std.proofs.Math.Seq.{take-length}
use Rattle.std.proofs.lemmas.Bool.Decides.{nat_tests}
use Rattle.std.proofs.lemmas.List.Sums.{prefix_len-le-length, prefix_len_stops}
use Rattle.jsonb_value.specs.Json.Characters.{all_digits}
use Rattle.jsonb_functions.specs.PathText.{all_are, is_in_name, is_in_word, is_not, capped_number}
use Rattle.jsonb_functions.specs.PathText.{EndsName, StopsAt, after_spaces, ends_in_space}
use Rattle.jsonb_functions.specs.PathText.{is_space, longer_name, name_len}
use Rattle.jsonb_functions.proofs.IndexLaws.{both}

-- The bytes after the first one, as a pattern gives them.
abbrev pub later_bytes : List ℕ → List ℕ
later_bytes ds = take (length ds - 1) (drop 1 ds)

bytes_split : (ds : List ℕ) → 1 ≤ length ds → ds ≡ get_or ds 0 0 ∷ later_bytes ds
bytes_split [] h = absurd (omega (arith, h))
bytes_split (d ∷ ds) h =
    let fewer : length (d ∷ ds) - 1 ≡ length ds = omega arith in
    let all : later_bytes (d ∷ ds) ≡ ds = rw fewer (take-length ds) in
    ap (λ xs. d ∷ xs) (sym all)

-- A number that was cut off at some value, and then continued.
cut_number : (n m : ℕ) (ds : List ℕ) → min (digits_value_after 10 (min n m) ds) m
    ≡ min (digits_value_after 10 n ds) m
cut_number n m [] = omega arith
cut_number n m (d ∷ ds) =
    let v = digit_value d in
    let same : min (min n m * 10 + v) m ≡ min (n * 10 + v) m = omega arith in
    sym (cut_number (min n m * 10 + v) m ds)
    ∙ ap (λ x. min (digits_value_after 10 x ds) m) same
    ∙ cut_number (n * 10 + v) m ds

digit_is : (d : ℕ) → is_ascii_digit d ≡ true → digit_value d ≡ d - 48
digit_is d h = grind (arith, nat_tests)

-- One more digit of a number.
pub digits_on : (whole : Bool) (left : List ℕ) → 1 ≤ length left
    → is_ascii_digit (get_or left 0 0) ≡ true → whole ≡ all_digits left
    → whole ≡ all_digits (later_bytes left)
digits_on whole left h is e =
    e ∙ ap all_digits (bytes_split left h)
    ∙ ap (λ b. b && all_digits (later_bytes left)) is

pub number_on : (whole : ℕ) (left : List ℕ) (m n p s : ℕ) → 1 ≤ length left
    → is_ascii_digit (get_or left 0 0) ≡ true → p ≡ min (n * 10) m
    → s ≡ min (p + (get_or left 0 0 - 48)) m
    → whole ≡ min (digits_value_after 10 n left) m
    → whole ≡ min (digits_value_after 10 s (later_bytes left)) m
number_on whole left m n p s h is ten more e =
    let d = get_or left 0 0 in
    let value : digit_value d ≡ d - 48 = digit_is d is in
    let sum : min (n * 10 + digit_value d) m ≡ s = omega (arith, value, ten, more) in
    e ∙ ap (λ xs. min (digits_value_after 10 n xs) m) (bytes_split left h)
    ∙ sym (cut_number (n * 10 + digit_value d) m (later_bytes left))
    ∙ ap (λ x. min (digits_value_after 10 x (later_bytes left)) m) sum

pub number_read : (ds left : List ℕ) (n : ℕ) → (length ds == 0) ≡ false → length left < 1
    → all_digits ds ≡ all_digits left
    → min (digits_value_after 10 0 ds) (2 ^ 64 - 1)
    ≡ min (digits_value_after 10 n left) (2 ^ 64 - 1)
    → n < 2 ^ 64 → Some n ≡ capped_number ds
number_read [] left n some none are value fits = absurd (cc)
number_read (d ∷ ds) (c ∷ left) n some none are value fits = absurd (omega (arith, none))
number_read (d ∷ ds) [] n some none are value fits =
    let whole : min n (2 ^ 64 - 1) ≡ n = omega arith in
    sym (ap (λ b. if b then Some (min (digits_value_after 10 0 (d ∷ ds)) (2 ^ 64 - 1)) else None)
    are ∙ ap (λ x. Some x) (value ∙ whole))

-- Where the bytes that pass a test end, the text may be cut, if all other bytes pass it.
pub front_boundary : (q : ℕ → Bool) → ((c : ℕ) → q c ≡ false → c < 128) → (text : List ℕ) (n : ℕ)
    → n ≡ prefix_len q text → IsCharBoundary text n
front_boundary q low text n e = (
  rw e (prefix_len-le-length q text),
  λ here high.
      let within : prefix_len q text < length text = rw (← e) here in
      let last : get_or text n 0 < 128 = rw e (low _ (prefix_len_stops q text 0 within)) in
      absurd (omega (arith, high, last)),
)

pub name_low : (in_filter : Bool) (c : ℕ) → is_in_name in_filter c ≡ false → c < 128
name_low true c h = grind (arith, nat_tests)
name_low false c h = grind (arith, nat_tests)

pub word_low : (c : ℕ) → is_in_word c ≡ false → c < 128
word_low c h = grind (arith, nat_tests)

-- What is before the first byte that does not pass the test.
pass_more : (q : ℕ → Bool) (c : ℕ) (cs : List ℕ) (b : Bool) → q c ≡ b
    → all_are q (take (prefix_len q cs) cs) ≡ true
    → all_are q (take (prefix_len q (c ∷ cs)) (c ∷ cs)) ≡ true
pass_more q c cs true e h = rw (e, one-add) (rw e h)
pass_more q c cs false e h = rw e refl

front_passes : (q : ℕ → Bool) (cs : List ℕ) → all_are q (take (prefix_len q cs) cs) ≡ true
front_passes q [] = refl
front_passes q (c ∷ cs) = pass_more q c cs (q c) refl (front_passes q cs)

stop_more : (q : ℕ → Bool) (c : ℕ) (cs : List ℕ) (b : Bool) → q c ≡ b
    → StopsAt q (drop (prefix_len q cs) cs)
    → StopsAt q (drop (prefix_len q (c ∷ cs)) (c ∷ cs))
stop_more q c cs true e h = rw (e, one-add) h
stop_more q c cs false e h = rw e e

pub back_stops : (q : ℕ → Bool) (cs : List ℕ) → StopsAt q (drop (prefix_len q cs) cs)
back_stops q [] = tt
back_stops q (c ∷ cs) = stop_more q c cs (q c) refl (back_stops q cs)

pub front_all : (q : ℕ → Bool) (text r : List ℕ) (n : ℕ) → n ≡ prefix_len q text
    → r ≡ slice_range text 0 n → all_are q r ≡ true
front_all q text r n e is =
    ap (all_are q) (is ∙ ap (λ k. take k text) (sub-zero n ∙ e)) ∙ front_passes q text

pub back_stop : (q : ℕ → Bool) (text r : List ℕ) (n : ℕ) → n ≡ prefix_len q text → r ≡ drop n text
    → StopsAt q r
back_stop q text r n e is = rw (is, e) (back_stops q text)

-- A text that is split at a byte.
none_there : (c : ℕ) (cs : List ℕ) → ((i : ℕ) → i < length cs → get_or cs i 0 ≡ c → ⊥)
    → all_are (is_not c) cs ≡ true
none_there c [] h = refl
none_there c (x ∷ cs) h =
    let first : (x == c) ≡ false = ne_eqb x c (h 0 (omega arith)) in
    rw first (none_there c cs (λ i low e. h (suc i) (omega (arith, low)) e))

pub split_is : (c : ℕ) (text : List ℕ) (r : Option (Bor (List ℕ) × Bor (List ℕ)))
    → MatchOption r ((i : ℕ) → i < length text → get_or text i 0 ≡ c → ⊥)
    (λ x. (text ≡ x.0.now ++ (c ∷ x.1.now))
    × ((i : ℕ) → i < length x.0.now → get_or x.0.now i 0 ≡ c → ⊥))
    → MatchOption r (all_are (is_not c) text ≡ true)
    (λ x. (text ≡ x.0.now ++ (c ∷ x.1.now)) × (all_are (is_not c) x.0.now ≡ true))
split_is c text None h = none_there c text h
split_is c text (Some x) h = (h.0, none_there c x.0.now h.1)

-- ---- spaces

space_is : (c : ℕ) → is_space c ≡ true → c ≡ 32
space_is c e = eqb-true c 32 e

-- one space was passed
pub a_space : (text left rest : List ℕ) → left ≡ 32 ∷ rest
    → after_spaces text ≡ after_spaces left → after_spaces text ≡ after_spaces rest
a_space text left rest e h = h ∙ ap after_spaces e

first_no_space : (c : ℕ) (cs : List ℕ) (b : Bool) → is_space c ≡ b
    → ((rest : List ℕ) → c ∷ cs ≡ 32 ∷ rest → ⊥) → c ∷ cs ≡ after_spaces (c ∷ cs)
first_no_space c cs true e other = absurd (other cs (ap (λ d. d ∷ cs) (space_is c e)))
first_no_space c cs false e other = ap (λ b. if b then after_spaces cs else c ∷ cs) (sym e)

pub no_space : (left : List ℕ) → ((rest : List ℕ) → left ≡ 32 ∷ rest → ⊥)
    → left ≡ after_spaces left
no_space [] other = refl
no_space (c ∷ cs) other = first_no_space c cs (is_space c) refl other

-- ---- names as they are

longer_zero : (c : ℕ) (b d : Bool) → is_space c ≡ true
    → (if b then longer_name c 0 else 0) ≡ 0
longer_zero c true d e = ap (λ (x : Bool). if x then 0 else 1) e
longer_zero c false d e = refl

name_first : (in_filter : Bool) (c : ℕ) (cs : List ℕ) (b : Bool) (n : ℕ)
    → is_in_name in_filter c ≡ b → name_len in_filter cs ≡ n
    → name_len in_filter (c ∷ cs) ≡ (if b then longer_name c n else 0)
name_first in_filter c cs b n is more =
    ap (λ k. if is_in_name in_filter c then longer_name c k else 0) more
    ∙ ap (λ (x : Bool). if x then longer_name c n else 0) is

one_byte : (c : ℕ) (b : Bool) → is_space c ≡ b → longer_name c 0 ≡ (if b then 0 else 1)
one_byte c b e = ap (λ (x : Bool). if x then 0 else 1) e

zero_more : (c : ℕ) (cs : List ℕ) (b : Bool) → is_space c ≡ b
    → (EndsName false cs → name_len false cs ≡ 0) → EndsName false (c ∷ cs)
    → name_len false (c ∷ cs) ≡ 0
zero_more c cs true e h ends =
    let later : EndsName false cs =
    subst (λ (b : Bool). StopsAt (is_in_name false) (if b then after_spaces cs else c ∷ cs)) e
    ends in
    name_first false c cs (is_in_name false c) 0 refl (h later)
    ∙ longer_zero c (is_in_name false c) true e
zero_more c cs false e h ends =
    let stops : is_in_name false c ≡ false =
    subst (λ (b : Bool). StopsAt (is_in_name false) (if b then after_spaces cs else c ∷ cs)) e
    ends in
    name_first false c cs false (name_len false cs) stops refl

no_name : (in_filter : Bool) (cs : List ℕ) → EndsName in_filter cs → name_len in_filter cs ≡ 0
no_name true [] ends = refl
no_name true (c ∷ cs) ends = name_first true c cs false (name_len true cs) ends refl
no_name false [] ends = refl
no_name false (c ∷ cs) ends = zero_more c cs (is_space c) refl (no_name false cs) ends

name_is : (in_filter : Bool) (name rest : List ℕ)
    → all_are (is_in_name in_filter) name ≡ true → ends_in_space name ≡ false
    → EndsName in_filter rest → name_len in_filter (name ++ rest) ≡ length name
name_is in_filter [] rest all last ends = no_name in_filter rest ends
name_is in_filter (c ∷ []) rest all last ends =
    name_first in_filter c rest true 0 (both _ _ all).0 (no_name in_filter rest ends)
    ∙ one_byte c false last
name_is in_filter (c ∷ (d ∷ name)) rest all last ends =
    name_first in_filter c (d ∷ (name ++ rest)) true (suc (length name)) (both _ _ all).0
    (name_is in_filter (d ∷ name) rest (both _ _ all).1 last ends)

same_split : (k r j s : List ℕ) → length k ≡ length j → k ++ r ≡ j ++ s → (k ≡ j) × (r ≡ s)
same_split [] r [] s n e = (refl, e)
same_split [] r (c ∷ j) s n e = absurd (omega (arith, n))
same_split (c ∷ k) r [] s n e = absurd (omega (arith, n))
same_split (c ∷ k) r (d ∷ j) s n e =
    let first : c ≡ d = cc in
    let rest : k ++ r ≡ j ++ s = cc in
    let fewer : length k ≡ length j = omega (arith, n) in
    let same = same_split k r j s fewer rest in
    (ap (λ x. x ∷ k) first ∙ ap (λ xs. d ∷ xs) same.0, same.1)

-- There is one way to split bytes where a name as it is ends.
pub one_name : (in_filter : Bool) (k r j s : List ℕ) → all_are (is_in_name in_filter) k ≡ true
    → all_are (is_in_name in_filter) j ≡ true → ends_in_space k ≡ false
    → ends_in_space j ≡ false → EndsName in_filter r → EndsName in_filter s
    → k ++ r ≡ j ++ s → (k ≡ j) × (r ≡ s)
one_name in_filter k r j s all_k all_j last_k last_j ends_r ends_s e =
    same_split k r j s
    (sym (name_is in_filter k r all_k last_k ends_r) ∙ ap (name_len in_filter) e
    ∙ name_is in_filter j s all_j last_j ends_s) e

-- What is known of the first bytes of a text, of which this many are a name.
pub record IsName (in_filter : Bool) (cs : List ℕ) (n : ℕ) : Type 0 where
  pub within : n ≤ length cs
  pub all : all_are (is_in_name in_filter) (take n cs) ≡ true
  pub last : ends_in_space (take n cs) ≡ false
  pub ends : EndsName in_filter (drop n cs)
  pub low : n < length cs → get_or cs n 0 < 128

stops_low : (in_filter : Bool) (c : ℕ) → is_in_name in_filter c ≡ false → c < 128
stops_low in_filter c e = name_low in_filter c e

no_stop_space : (c : ℕ) (b : Bool) → is_space c ≡ b → is_in_name false c ≡ false → b ≡ false
no_stop_space c true e stops =
    let none : is_in_name false 32 ≡ false =
    subst (λ (d : ℕ). is_in_name false d ≡ false) (space_is c e) stops in
    absurd (let h : ⊥ = cc in h)
no_stop_space c false e stops = refl

stops_first : (in_filter : Bool) (c : ℕ) (cs : List ℕ) → is_in_name in_filter c ≡ false
    → EndsName in_filter (c ∷ cs)
stops_first true c cs stops = stops
stops_first false c cs stops =
    subst (λ (b : Bool). StopsAt (is_in_name false) (if b then after_spaces cs else c ∷ cs))
    (sym (no_stop_space c (is_space c) refl stops)) stops

no_filter_space : (c : ℕ) → is_in_name true c ≡ true → is_space c ≡ true → ⊥
no_filter_space c is e =
    let none : is_in_name true 32 ≡ true =
    subst (λ (d : ℕ). is_in_name true d ≡ true) (space_is c e) is in
    let h : ⊥ = cc in h

space_first : (in_filter : Bool) (c : ℕ) (cs : List ℕ) → is_in_name in_filter c ≡ true
    → is_space c ≡ true → EndsName in_filter cs → EndsName in_filter (c ∷ cs)
space_first true c cs is e ends = absurd (no_filter_space c is e)
space_first false c cs is e ends =
    subst (λ (b : Bool). StopsAt (is_in_name false) (if b then after_spaces cs else c ∷ cs))
    (sym e) ends

-- no name begins here
nothing_named : (in_filter : Bool) (c : ℕ) (cs : List ℕ) → EndsName in_filter (c ∷ cs) → c < 128
    → IsName in_filter (c ∷ cs) 0
nothing_named in_filter c cs ends low = record {
  within = omega arith;
  all = refl;
  last = refl;
  ends = ends;
  low = λ some. low;
}

-- a name has one more byte at its front
name_by : (in_filter : Bool) (c : ℕ) (cs : List ℕ) (b d : Bool) (n : ℕ)
    → is_in_name in_filter c ≡ b → is_space c ≡ d → IsName in_filter cs n
    → IsName in_filter (c ∷ cs) (if b then longer_name c n else 0)
name_by in_filter c cs false d n stops e more =
    nothing_named in_filter c cs (stops_first in_filter c cs stops)
    (stops_low in_filter c stops)
name_by in_filter c cs true true zero is e more =
    let here : c ≡ 32 = space_is c e in
    subst (IsName in_filter (c ∷ cs)) (sym (one_byte c true e))
    (nothing_named in_filter c cs (space_first in_filter c cs is e more.ends)
    (omega (arith, here)))
name_by in_filter c cs true false zero is e more =
    subst (IsName in_filter (c ∷ cs)) (sym (one_byte c false e)) (record {
      within = omega arith;
      all = ap (λ (x : Bool). x && true) is;
      last = e;
      ends = more.ends;
      low = λ some. more.low (omega (arith, some));
    })
name_by in_filter c [] true d (suc n) is e more =
    let within = more.within in absurd (omega (arith, within))
name_by in_filter c (x ∷ cs) true d (suc n) is e more = record {
  within = let within = more.within in omega (arith, within);
  all =
      ap (λ (y : Bool). y && all_are (is_in_name in_filter) (take (suc n) (x ∷ cs))) is
      ∙ more.all;
  last = more.last;
  ends = more.ends;
  low = λ some. more.low (omega (arith, some));
}

pub is_name : (in_filter : Bool) (cs : List ℕ) → IsName in_filter cs (name_len in_filter cs)
is_name true [] = record {
  within = omega arith;
  all = refl;
  last = refl;
  ends = tt;
  low = λ some. absurd (omega (arith, some));
}
is_name false [] = record {
  within = omega arith;
  all = refl;
  last = refl;
  ends = tt;
  low = λ some. absurd (omega (arith, some));
}
is_name in_filter (c ∷ cs) =
    name_by in_filter c cs (is_in_name in_filter c) (is_space c) (name_len in_filter cs) refl refl
    (is_name in_filter cs)

pub name_boundary : (in_filter : Bool) (text : List ℕ) (n : ℕ) → n ≡ name_len in_filter text
    → IsCharBoundary text n
name_boundary in_filter text n e =
    let name = subst (IsName in_filter text) (sym e) (is_name in_filter text) in (
      name.within,
      λ here high. let low = name.low here in absurd (omega (arith, high, low)),
    )

pub name_split : (in_filter : Bool) (text front back : List ℕ) (n : ℕ)
    → n ≡ name_len in_filter text → front ≡ slice_range text 0 n → back ≡ drop n text
    → (all_are (is_in_name in_filter) front ≡ true) × (ends_in_space front ≡ false)
    × EndsName in_filter back
name_split in_filter text front back n e first second =
    let name = subst (IsName in_filter text) (sym e) (is_name in_filter text) in
    let taken : front ≡ take n text = first ∙ ap (λ k. take k text) (sub-zero n) in (
      ap (all_are (is_in_name in_filter)) taken ∙ name.all,
      ap ends_in_space taken ∙ name.last,
      subst (EndsName in_filter) (sym second) name.ends,
    )

-- ---- the length of a name, byte by byte

-- The length where this many bytes were passed, and `more` are a name after them.
abbrev pub passed_len : (len passed more : ℕ) → ℕ
passed_len len passed zero = len
passed_len len passed (suc more) = passed + suc more

pub one_passed : (c len passed more : ℕ) → is_space c ≡ false
    → passed_len len passed (longer_name c more) ≡ passed_len (passed + 1) (passed + 1) more
one_passed c len passed zero e = ap (passed_len len passed) (one_byte c false e)
one_passed c len passed (suc more) e = omega arith
