-- The laws of how many bytes the kinds of a chunk take.
use Rattle.std.proofs.Common.{◌≡◌, ℕ, ◌+◌, ◌-◌, ◌^◌, ◌<◌, ◌≤◌, Bool, true, false, List}
use Rattle.std.proofs.Common.{◌++◌, ℤ, pos, length, get_or, map, refl, sym, ap, ap₂, ◌∙◌, arith}
use Rattle.std.proofs.Common.{length-append, unsigned_abs, lt-ltb, le-ltb}
use Rattle.std.specs.Int.{cast_unsigned, w64}
use Rattle.std.specs.Prelude.{◌&&◌, nat_lt}
use Rattle.byteorder.specs.Numbers.{length-bytes_high_first}
use Rattle.typed_chunk.specs.Digits.{number}
use Rattle.typed_chunk.specs.Frame.{frame, height, heights, least_number, least_value, signed_word}
use Rattle.typed_chunk.specs.Frame.{unsigned_word}
use Rattle.typed_chunk.specs.Headed.{headed, width_of}
use Rattle.typed_chunk.specs.NumberChunk.{rises_shorter}
use Rattle.typed_chunk.specs.Packed.{packed, packed_len}
use Rattle.typed_chunk.specs.Rising.{rises, rising, steps_of}
use Rattle.typed_chunk.proofs.DigitLaws.{length-digits}
use Rattle.typed_chunk.proofs.NaturalLaws.{frame_pos, least_pos}
use Rattle.typed_chunk.proofs.RisingLaws.{rising_is}

-- Codes behind a head.
headed_long : (head codes : List ℕ) (width size : ℕ) → width ≡ width_of codes
    → size ≡ packed_len width (length codes) → length head + 1 + size ≡ length (headed head codes)
headed_long head codes width size is long =
    let W = width_of codes in
    let n = packed_len W (length codes) in
    let same : size ≡ n = long ∙ ap (λ (w : ℕ). packed_len w (length codes)) is in
    omega (
      arith,
      same,
      length-append head (packed W codes),
      length-digits 256 n (number (2 ^ W) codes),
    )

-- A frame.
pub frame_bytes : (values : List ℤ) (least : ℤ) (codes : List ℕ) (width size : ℕ)
    → least ≡ least_value values → codes ≡ map (height least) values → width ≡ width_of codes
    → size ≡ packed_len width (length codes)
    → 9 + size ≡ length (frame (signed_word w64) values)
frame_bytes values least codes width size low are is long =
    let head = signed_word w64 (least_value values) in
    let same : codes ≡ heights values = are ∙ ap (λ (z : ℤ). map (height z) values) low in
    let eight : length head ≡ 8 =
    length-bytes_high_first 8 (cast_unsigned w64 (least_value values)) in
    let all = headed_long head codes width size is long in
    omega (arith, all, eight, ap (λ (cs : List ℕ). length (headed head cs)) same)

-- A frame of numbers that are not negative.
pub naturals_bytes : (numbers : List ℕ) (least : ℕ) (lowered : List ℕ) (width size : ℕ)
    → least ≡ least_number numbers → lowered ≡ map (λ number. number - least) numbers
    → width ≡ width_of lowered → size ≡ packed_len width (length lowered)
    → 5 + size ≡ length (frame (unsigned_word 4) (map pos numbers))
naturals_bytes numbers least lowered width size low lower is long =
    let head = unsigned_word 4 (pos least) in
    let bottom : pos least ≡ least_value (map pos numbers) =
    ap (λ (n : ℕ). pos n) low ∙ least_pos numbers in
    let whole : headed head lowered ≡ frame (unsigned_word 4) (map pos numbers) =
    ap (headed head) lower ∙ frame_pos 4 least numbers bottom in
    let four : length head ≡ 4 = length-bytes_high_first 4 (unsigned_abs (pos least)) in
    omega (arith, headed_long head lowered width size is long, four, ap length whole)

-- Rising values.
pub rising_bytes : (values : List ℤ) (least : ℕ) (steps lowered : List ℕ) (width size : ℕ)
    → 0 < length values → steps ≡ steps_of values → least ≡ least_number steps
    → lowered ≡ map (λ number. number - least) steps → width ≡ width_of lowered
    → size ≡ packed_len width (length lowered) → 17 + size ≡ length (rising w64 values)
rising_bytes values least steps lowered width size some are low lower is long =
    let first = signed_word w64 (get_or values 0 (pos 0)) in
    let head = unsigned_word 8 (pos least) in
    let body = frame (unsigned_word 8) (map pos steps) in
    let bottom : pos least ≡ least_value (map pos steps) =
    ap (λ (n : ℕ). pos n) low ∙ least_pos steps in
    let whole : headed head lowered ≡ body =
    ap (headed head) lower ∙ frame_pos 8 least steps bottom in
    let eight : length first ≡ 8 =
    length-bytes_high_first 8 (cast_unsigned w64 (get_or values 0 (pos 0))) in
    let too : length head ≡ 8 = length-bytes_high_first 8 (unsigned_abs (pos least)) in
    let parts : rising w64 values ≡ first ++ body =
    rising_is values some
    ∙ ap (λ (ns : List ℕ). first ++ frame (unsigned_word 8) (map pos ns)) (sym are) in
    omega (
      arith,
      headed_long head lowered width size is long,
      eight,
      too,
      ap length whole,
      ap length parts,
      length-append first body,
    )

-- The cases of the choice.
pub shorter_some : (values : List ℤ) → rises_shorter false values ≡ false
shorter_some values = refl

pub shorter_two : (all : Bool) (values : List ℤ) → length values < 2
    → rises_shorter all values ≡ false
shorter_two false values few = refl
shorter_two true values few =
    ap (λ (b : Bool). b && (rises values
    && nat_lt (length (rising w64 values)) (length (frame (signed_word w64) values))))
    (le-ltb 1 (length values) (omega (arith, few)))

pub shorter_falls : (all : Bool) (values : List ℤ) → 2 ≤ length values → rises values ≡ false
    → rises_shorter all values ≡ false
shorter_falls false values two falls = refl
shorter_falls true values two falls =
    ap₂ (λ (a b : Bool). a && (b
    && nat_lt (length (rising w64 values)) (length (frame (signed_word w64) values))))
    (lt-ltb 1 (length values) (omega (arith, two))) falls

pub shorter_is : (values : List ℤ) (one two : ℕ) → 2 ≤ length values → rises values ≡ true
    → one ≡ length (rising w64 values) → two ≡ length (frame (signed_word w64) values)
    → nat_lt one two ≡ rises_shorter true values
shorter_is values one two many rise first second =
    ap₂ nat_lt first second
    ∙ sym (ap₂ (λ (a b : Bool). a && (b
    && nat_lt (length (rising w64 values)) (length (frame (signed_word w64) values))))
    (lt-ltb 1 (length values) (omega (arith, many))) rise)

pub ruleset shorter_steps = (shorter_some, shorter_two, shorter_falls, shorter_is)
