-- The laws of values above their least one.
use Rattle.std.proofs.Common.{◌≡◌, ℕ, ◌+◌, ◌-◌, ◌*◌, ◌^◌, ◌<◌, ◌≤◌, true, false, List, []}
use Rattle.std.proofs.Common.{◌∷◌, ◌++◌, ℤ, pos, negsuc, ◌+ℤ◌, ◌-ℤ◌, ◌<ℤ◌, ◌≤ℤ◌, unsigned_abs}
use Rattle.std.proofs.Common.{int_lt}
use Rattle.std.proofs.Common.{All, Contains, FitsSigned, fold, map, max, length, get_or, drop, take}
use Rattle.std.proofs.Common.{◌⊎◌, Option, Some, None, inl, inr, refl, sym, ap, ap₂, subst}
use Rattle.std.proofs.Common.{◌∙◌, arith, eq-eqb, eqb-true, ltb-true, lt-ltb}
use mir.Val.{bits, hbits}
use Rattle.std.specs.Int.{Width, byte_len, cast_signed, cast_unsigned, int_min, to_be_bytes}
use Rattle.std.specs.Prelude.{◌==◌}
use Rattle.std.proofs.lemmas.Bool.{cases_lt, false≢true, true_from_ne_false}
use Rattle.std.proofs.lemmas.Int.{fold-int_min_bounds, fold-int_min_reached, ints, of_z-to_z}
use Rattle.std.proofs.lemmas.Int.{to_z-of_z}
use Rattle.std.proofs.lemmas.List.{ext_get_or, get_or-map, get_or_default, length-drop, length-map}
use Rattle.std.proofs.lemmas.List.Sums.{fold_more}
use Rattle.std.proofs.lemmas.Nat.{pow_pos}
use Rattle.byteorder.specs.Endian.{big_number}
use Rattle.byteorder.specs.Numbers.{big_from-lt, big_number-reads_back}
use Rattle.std.proofs.lemmas.List.Elements.{All-cons, All-contains, All-head, All-map, All-nil}
use Rattle.std.proofs.lemmas.List.Elements.{All-tail, Contains-append_right}
use Rattle.std.proofs.lemmas.List.Elements.{Contains-get_or}
use Rattle.std.proofs.lemmas.List.Folds.{Any-from_list_any, list_any_at}
use Rattle.typed_chunk.specs.Frame.{IsFrame, height, heights, least_value, signed_word}
use Rattle.typed_chunk.specs.Frame.{value_at_height}
use Rattle.typed_chunk.specs.Frame.{frame_fault, least_in, range_fault}
use Rattle.typed_chunk.specs.Headed.{IsHeaded, codes_behind, first_fault, greatest, has_0, headed}
use Rattle.typed_chunk.specs.Headed.{headed_fault, width_of}
use Rattle.typed_chunk.specs.declared.fault.ChunkFault.{ChunkFault}
use Rattle.typed_chunk.specs.Packed.{packed}
use Rattle.typed_chunk.specs.declared.fault.ChunkFault.TheVariants.{ValueOutOfRange}
use Rattle.typed_chunk.proofs.DigitLaws.{Below, Below-drop}
use Rattle.typed_chunk.proofs.HeadedLaws.{some_not_none, up_to_greatest}
use Rattle.typed_chunk.proofs.HighFirstLaws.{high_bytes-number}

-- A number that is not negative is its absolute value.
abs_pos : (z : ℤ) → pos 0 ≤ℤ z → pos (unsigned_abs z) ≡ z
abs_pos (pos n) up = refl
abs_pos (negsuc n) up = absurd (omega (arith, ints))

abs_lt : (z : ℤ) (n : ℕ) → pos 0 ≤ℤ z → z <ℤ pos n → unsigned_abs z < n
abs_lt (pos k) n up low = omega (arith, ints)
abs_lt (negsuc k) n up low = absurd (omega (arith, ints))

-- The height of the value at a height, and the value at the height of a value.
pub height-value : (least : ℤ) (code : ℕ) → height least (value_at_height least code) ≡ code
height-value least code =
    let same : (least +ℤ pos code) -ℤ least ≡ pos code = omega (arith, ints) in
    ap unsigned_abs same

pub value-height : (least value : ℤ) → least ≤ℤ value
    → value_at_height least (height least value) ≡ value
value-height least value low =
    let up : pos 0 ≤ℤ (value -ℤ least) = omega (arith, ints) in
    let back : least +ℤ (value -ℤ least) ≡ value = omega (arith, ints) in
    ap (λ (z : ℤ). least +ℤ z) (abs_pos (value -ℤ least) up) ∙ back

height-same : (least : ℤ) → height least least ≡ 0
height-same least =
    let none : least -ℤ least ≡ pos 0 = omega (arith, ints) in
    ap unsigned_abs none

above_least : (least : ℤ) (code : ℕ) → least ≤ℤ value_at_height least code
above_least least code = omega (arith, ints)

-- The height of a value of so many bits.
pub height_fits : (w : Width) (least value : ℤ) → least ≤ℤ value → FitsSigned w least
    → FitsSigned w value → height least value < 2 ^ hbits w + 2 ^ hbits w
height_fits w least value low fits value_fits =
    abs_lt (value -ℤ least) (2 ^ hbits w + 2 ^ hbits w) (omega (arith, ints)) (omega (arith, ints))

-- All values at heights are these.
pub heights-values : (least : ℤ) (codes : List ℕ)
    → map (height least) (map (value_at_height least) codes) ≡ codes
heights-values least [] = refl
heights-values least (code ∷ codes) =
    ap₂ (λ (x : ℕ) (xs : List ℕ). x ∷ xs) (height-value least code) (heights-values least codes)

pub values-heights : (least : ℤ) (values : List ℤ) → All (λ value. least ≤ℤ value) values
    → map (value_at_height least) (map (height least) values) ≡ values
values-heights least [] low = refl
values-heights least (value ∷ values) low =
    ap₂ (λ (x : ℤ) (xs : List ℤ). x ∷ xs)
    (value-height least value (All-head (λ v. least ≤ℤ v) value values low))
    (values-heights least values (All-tail (λ v. least ≤ℤ v) value values low))

-- The least value is one of the values, and none is below it.
pub least_bounds : (values : List ℤ) → All (λ value. least_value values ≤ℤ value) values
least_bounds [] = All-nil (λ value. pos 0 ≤ℤ value)
least_bounds (value ∷ values) =
    let least = fold int_min value values in
    let bounds = fold-int_min_bounds value values least refl in
    All-cons (λ v. least ≤ℤ v) value values bounds.0 bounds.1

pub least_among : (values : List ℤ) → 0 < length values → Contains values (least_value values)
least_among [] some = absurd (omega (arith, some))
least_among (value ∷ values) some =
    let least = fold int_min value values in
    elim (fold-int_min_reached value values least refl) [
      | inl same ↦ subst (Contains (value ∷ values)) (sym same)
          (Contains-get_or (value ∷ values) 0 value some)
      | inr among ↦ Contains-append_right (value ∷ []) values least among
    ]

pub least_is : (values : List ℤ) (least : ℤ) → Contains values least
    → All (λ value. least ≤ℤ value) values → least_value values ≡ least
least_is values least among low =
    let some : 0 < length values = omega (arith, among.1) in
    let down : least_value values ≤ℤ least =
    All-contains (λ v. least_value values ≤ℤ v) values least (least_bounds values) among in
    let up : least ≤ℤ least_value values =
    All-contains (λ v. least ≤ℤ v) values (least_value values) low (least_among values some) in
    omega (arith, ints)

-- The least value has the height 0.
zero_among : (least : ℤ) (values : List ℤ) → Contains values least
    → has_0 (map (height least) values) ≡ true
zero_among least values among =
    let place = among.0 in
    let is : get_or (map (height least) values) place 0 ≡ 0 =
    get_or-map (height least) values place least 0 among.1
    ∙ ap (height least) among.2 ∙ height-same least in
    list_any_at (λ code. code == 0) (map (height least) values) place 0
    (omega (arith, length-map values (height least), among.1)) (eq-eqb _ _ is)

pub has_0-heights : (values : List ℤ) → 0 < length values → has_0 (heights values) ≡ true
has_0-heights values some =
    zero_among (least_value values) values (least_among values some)

-- A code of 0 is that of the least value.
at_height_0 : (least : ℤ) (codes : List ℕ) → has_0 codes ≡ true
    → Contains (map (value_at_height least) codes) least
at_height_0 least codes some =
    let any = Any-from_list_any (λ code. code == 0) codes some in
    let place = any.0 in
    let inside : place < length codes = any.2 in
    let none : get_or codes place 0 ≡ 0 =
    get_or_default codes place 0 any.1 inside ∙ any.3 ∙ eqb-true any.1 0 any.4 in
    let same : value_at_height least 0 ≡ least = omega (arith, ints) in (
      place,
      omega (arith, length-map codes (value_at_height least), inside),
      get_or-map (value_at_height least) codes place 0 least inside
          ∙ ap (value_at_height least) none ∙ same,
    )

pub least-values : (least : ℤ) (codes : List ℕ) → has_0 codes ≡ true
    → least_value (map (value_at_height least) codes) ≡ least
least-values least codes some =
    least_is (map (value_at_height least) codes) least (at_height_0 least codes some)
    (All-map (λ v. least ≤ℤ v) (value_at_height least) codes
    (λ k d inside. above_least least (get_or codes k d)))

some_codes : (codes : List ℕ) → has_0 codes ≡ true → 0 < length codes
some_codes [] some = absurd (false≢true some)
some_codes (code ∷ codes) some = omega arith

-- Values in a frame are codes behind a least value, and the other way round.
pub frame_headed : (word : ℤ → List ℕ) (values : List ℤ) (bytes : List ℕ)
    → IsFrame word values bytes → IsHeaded (word (least_value values)) (heights values) bytes
frame_headed word values bytes are =
    record { same = are.same; from_0 = has_0-heights values are.some }

pub headed_frame : (word : ℤ → List ℕ) (least : ℤ) (head codes bytes : List ℕ)
    → IsHeaded head codes bytes → head ≡ word least
    → IsFrame word (map (value_at_height least) codes) bytes
headed_frame word least head codes bytes are is =
    let values = map (value_at_height least) codes in
    let low : least_value values ≡ least = least-values least codes are.from_0 in
    let same : heights values ≡ codes =
    ap (λ (z : ℤ). map (height z) values) low ∙ heights-values least codes in
    record {
      some = omega (arith, some_codes codes are.from_0, length-map codes (value_at_height least));
      same = are.same
          ∙ ap₂ (λ (hs cs : List ℕ). headed hs cs)
          (is ∙ ap word (sym low)) (sym same);
    }

max_cases : (m n : ℕ) → (max m n ≡ m) ⊎ (max m n ≡ n)
max_cases m n = elim (cases_lt m n) [
  | inl low ↦ inr (omega (arith, low))
  | inr high ↦ inl (omega (arith, high))
]

-- What holds of 0 and of each code holds of the greatest.
pub greatest_has : (P : ℕ → Type 0) (codes : List ℕ) → P 0 → All P codes → P (greatest codes)
greatest_has P [] none all = none
greatest_has P (code ∷ codes) none all =
    let rest = greatest_has P codes none (All-tail P code codes all) in
    let first = All-head P code codes all in
    elim (max_cases code (greatest codes)) [
      | inl is ↦ subst P (sym is) first
      | inr is ↦ subst P (sym is) rest
    ]

-- What the bytes of values say of their least value and of their codes.
pub record FrameParts (w : Width) (values : List ℤ) (bytes : List ℕ) : Type 0 where
  pub least : least_in w bytes ≡ least_value values
  pub fits : FitsSigned w (least_value values)
  pub codes : greatest (heights values) < 2 ^ bits w
  pub top : FitsSigned w (value_at_height (least_value values) (greatest (heights values)))

whole_word : (w : Width) → 256 ^ byte_len w ≡ 2 ^ bits w
whole_word w = grind arith

two_halves : (w : Width) → 2 ^ hbits w + 2 ^ hbits w ≡ 2 ^ bits w
two_halves w = grind arith

of_z_low : (w : Width) (value : ℤ) → FitsSigned w value → cast_unsigned w value < 2 ^ bits w
of_z_low w (pos n) fits = omega (arith, fits.sfits, two_halves w)
of_z_low w (negsuc n) fits = omega (arith, pow_pos (bits w))

pub signed_word_read : (w : Width) (value : ℤ) (behind : List ℕ) → FitsSigned w value
    → cast_signed w (big_number (byte_len w) (signed_word w value ++ behind)) ≡ value
signed_word_read w value behind fits =
    ap (cast_signed w) (big_number-reads_back (byte_len w) (cast_unsigned w value) behind
    (subst (λ n. cast_unsigned w value < n) (sym (whole_word w)) (of_z_low w value fits)))
    ∙ to_z-of_z w value fits

pub frame_parts : (w : Width) (values : List ℤ) (bytes : List ℕ) → All (FitsSigned w) values
    → IsFrame (signed_word w) values bytes → FrameParts w values bytes
frame_parts w values bytes fit are =
    let least = least_value values in
    let codes = heights values in
    let low = least_bounds values in
    let fits : FitsSigned w least =
    All-contains (FitsSigned w) values least fit (least_among values are.some) in
    let each : All (λ code. code < 2 ^ bits w) codes =
    All-map (λ code. code < 2 ^ bits w) (height least) values
    (λ k d inside. subst (λ n. height least (get_or values k d) < n) (two_halves w)
    (height_fits w least (get_or values k d) (low k d inside) fits (fit k d inside))) in
    let same : value_at_height least 0 ≡ least = omega (arith, ints) in
    let tops : All (λ code. FitsSigned w (value_at_height least code)) codes =
    All-map (λ code. FitsSigned w (value_at_height least code)) (height least) values
    (λ k d inside. subst (FitsSigned w) (sym (value-height least (get_or values k d)
    (low k d inside))) (fit k d inside)) in
    record {
      least = ap (λ (bs : List ℕ). least_in w bs) are.same
          ∙ signed_word_read w least (packed (width_of codes) codes) fits;
      fits = fits;
      codes = greatest_has (λ code. code < 2 ^ bits w) codes (pow_pos (bits w)) each;
      top = greatest_has (λ code. FitsSigned w (value_at_height least code)) codes
          (subst (FitsSigned w) (sym same) fits) tops;
    }

-- Codes behind a head are values behind their least one.
pub frame_read : (w : Width) (codes bytes : List ℕ) → Below 256 bytes → byte_len w < length bytes
    → IsHeaded (take (byte_len w) (drop 1 bytes)) codes bytes
    → IsFrame (signed_word w) (map (value_at_height (least_in w bytes)) codes) bytes
frame_read w codes bytes below long are =
    let rest = drop 1 bytes in
    let n = big_number (byte_len w) rest in
    let rest_below = Below-drop 256 1 bytes below in
    let low : n < 2 ^ bits w =
    subst (λ k. n < k) (whole_word w) (big_from-lt 0 (byte_len w) rest rest_below) in
    let enough : byte_len w ≤ length rest = omega (arith, long, length-drop 1 bytes) in
    headed_frame (signed_word w) (least_in w bytes) (take (byte_len w) rest) codes bytes are
    (sym (ap (λ (k : ℕ). to_be_bytes w k) (of_z-to_z w n low)
    ∙ high_bytes-number (byte_len w) rest rest_below enough))

-- Tests of the greatest value.
lt_kept : (w : Width) (z : ℤ) → FitsSigned w z → int_lt z (pos (2 ^ hbits w)) ≡ true
lt_kept w (pos n) fits = lt-ltb n (2 ^ hbits w) fits.sfits
lt_kept w (negsuc n) fits = refl

pub range_kept : (w : Width) (least : ℤ) (codes : List ℕ)
    → FitsSigned w (value_at_height least (greatest codes))
    → range_fault (hbits w) least codes ≡ None
range_kept w least codes fits =
    rw (lt_kept w (value_at_height least (greatest codes)) fits) refl

range_low : (w : Width) (least value : ℤ) → FitsSigned w least → least ≤ℤ value
    → int_lt value (pos (2 ^ hbits w)) ≡ true → FitsSigned w value
range_low w least (pos n) fits up low = record { sfits = ltb-true n (2 ^ hbits w) low }
range_low w least (negsuc n) fits up low = omega (arith, ints)

out_of_range : (bits : ℕ) (least : ℤ) (codes : List ℕ)
    → int_lt (value_at_height least (greatest codes)) (pos (2 ^ bits)) ≡ false
    → range_fault bits least codes ≡ Some ValueOutOfRange
out_of_range bits least codes failed = rw failed refl

-- Values between two of so many bits.
pub fits_between : (w : Width) (low value high : ℤ) → FitsSigned w low → FitsSigned w high
    → low ≤ℤ value → value ≤ℤ high → FitsSigned w value
fits_between w low (pos n) high fits_low fits_high up down =
    first_of (omega (arith, ints), grind (arith, ints))
fits_between w low (negsuc n) high fits_low fits_high up down =
    first_of (omega (arith, ints), grind (arith, ints))

range_passed : (w : Width) (least : ℤ) (codes : List ℕ) → range_fault (hbits w) least codes ≡ None
    → int_lt (value_at_height least (greatest codes)) (pos (2 ^ hbits w)) ≡ true
range_passed w least codes none =
    true_from_ne_false (int_lt (value_at_height least (greatest codes)) (pos (2 ^ hbits w)))
    (λ failed. some_not_none (sym (out_of_range (hbits w) least codes failed) ∙ none))

-- Each value that is at most the greatest has so many bits.
pub range_codes : (w : Width) (least : ℤ) (codes : List ℕ) → FitsSigned w least
    → range_fault (hbits w) least codes ≡ None
    → All (λ code. FitsSigned w (value_at_height least code)) codes
range_codes w least codes fits none k d inside =
    let code = get_or codes k d in
    let top = value_at_height least (greatest codes) in
    let top_fits : FitsSigned w top =
    range_low w least top fits (above_least least (greatest codes))
    (range_passed w least codes none) in
    let same = get_or_default codes k d 0 inside in
    let most = up_to_greatest codes k in
    let below : code ≤ greatest codes = omega (arith, same, most) in
    fits_between w least (value_at_height least code) top fits top_fits (above_least least code)
    (omega (arith, ints, below))

-- The fault of bytes whose codes were read is that of the greatest value.
pub frame_fault_behind : (w : Width) (count : ℕ) (codes bytes : List ℕ) (least : ℤ)
    (fault : Option ChunkFault) → headed_fault (byte_len w) count bytes ≡ None
    → codes ≡ codes_behind (byte_len w) count bytes → least ≡ least_in w bytes
    → fault ≡ range_fault (8 * byte_len w - 1) least codes → fault ≡ frame_fault w count bytes
frame_fault_behind w count codes bytes least fault none behind is range =
    range
    ∙ ap₂ (λ (z : ℤ) (cs : List ℕ). range_fault (8 * byte_len w - 1) z cs) is behind
    ∙ sym (ap (λ (f : Option ChunkFault). first_fault f (range_fault (8 * byte_len w - 1)
    (least_in w bytes) (codes_behind (byte_len w) count bytes))) none)

-- Values of a list, each by an index.
pub mapped : {X Y : Type 0} (f : X → Y) (xs : List X) (ys : List Y) (d : X) (e : Y)
    → length ys ≡ length xs → ((k : ℕ) → k < length ys → get_or ys k e ≡ f (get_or xs k d))
    → ys ≡ map f xs
mapped f xs ys d e long are =
    ext_get_or e ys (map f xs) (long ∙ sym (length-map xs f))
    (λ k low. are k low ∙ sym (get_or-map f xs k d e (omega (arith, low, long))))

-- A step of a loop over values.
pub ruleset least_steps = (to_z-of_z, fold_more)
