-- The laws of codes behind a head.
use Rattle.std.proofs.Common.{◌≡◌, ℕ, zero, suc, ◌+◌, ◌<◌, ◌≤◌, ◌^◌, Bool, true, false, ltb}
use Rattle.std.proofs.Common.{List, [], ◌∷◌, ◌++◌, get_or, length, drop, add-one, refl, sym}
use Rattle.std.proofs.Common.{ap}
use Rattle.std.proofs.Common.{ap₂, subst, ◌∙◌, arith}
use Rattle.std.specs.Prelude.{◌==◌, Err, Ok, OnOk, Option, Result, Some, None, is_ok}
use Rattle.std.specs.Result.{result_err}
use Rattle.std.proofs.lemmas.Bool.{cond_both, eq-eqb, eqb-false, eqb-true, lt-leb}
use Rattle.std.proofs.lemmas.Bool.{ltb-false, ltb-true, ne_eqb}
use Rattle.std.proofs.lemmas.List.{drop_at, get_or_default, length-append}
use Rattle.typed_chunk.specs.Digits.{digits, number}
use Rattle.typed_chunk.specs.Headed.{IsHeaded, codes_behind, first_fault, greatest, has_0}
use Rattle.typed_chunk.specs.Headed.{headed_fault, least_fault, width_of}
use Rattle.typed_chunk.specs.Packed.{FitWidth, ArePacked, codes_fault, is_width, least_width}
use Rattle.typed_chunk.specs.Packed.{packed}
use Rattle.typed_chunk.specs.declared.fault.ChunkFault.{ChunkFault}
use Rattle.typed_chunk.specs.declared.fault.ChunkFault.TheVariants.{NotLeastValue}
use Rattle.typed_chunk.specs.declared.fault.ChunkFault.TheVariants.{NotLeastWidth}
use Rattle.typed_chunk.proofs.UnpackedLaws.{written}

pub some_not_none : {fault : ChunkFault} → Some fault ≡ None → ⊥
some_not_none e = cc

-- No code is above the greatest.
pub up_to_greatest : (codes : List ℕ) (i : ℕ) → get_or codes i 0 ≤ greatest codes
up_to_greatest [] i = omega arith
up_to_greatest (x ∷ codes) zero = omega arith
up_to_greatest (x ∷ codes) (suc i) =
    let rest = up_to_greatest codes i in omega (arith, rest)

pub fit_greatest : (width : ℕ) (codes : List ℕ) → greatest codes < 2 ^ width
    → FitWidth width codes
fit_greatest width codes low k d inside =
    let up = up_to_greatest codes k in
    let same = get_or_default codes k d 0 inside in
    omega (arith, up, same, low)

-- The fault of bytes whose width is one.
pub headed_behind : (head count : ℕ) (bytes : List ℕ) → head < length bytes
    → is_width (get_or bytes 0 0) ≡ true → headed_fault head count bytes
    ≡ first_fault (codes_fault (get_or bytes 0 0) count (drop (head + 1) bytes))
    (least_fault (get_or bytes 0 0) (codes_behind head count bytes))
headed_behind head count bytes long some =
    rw (lt-leb (length bytes) head long, some) refl

pub least_width_fault : (width : ℕ) (codes : List ℕ) → (width ≡ width_of codes → ⊥)
    → least_fault width codes ≡ Some NotLeastWidth
least_width_fault width codes other = rw (ne_eqb width (width_of codes) other) refl

pub least_value_fault : (width : ℕ) (codes : List ℕ) → width ≡ width_of codes
    → has_0 codes ≡ false → least_fault width codes ≡ Some NotLeastValue
least_value_fault width codes same none =
    rw (eq-eqb width (width_of codes) same, none) refl

pub least_no_fault : (width : ℕ) (codes : List ℕ) → width ≡ width_of codes
    → has_0 codes ≡ true → least_fault width codes ≡ None
least_no_fault width codes same some =
    rw (eq-eqb width (width_of codes) same, some) refl

-- These, for a goal on any of them.
pub ruleset least_tests = (least_no_fault, least_value_fault, least_width_fault)

-- What a test of codes that passes says.
pub record IsLeast (width : ℕ) (codes : List ℕ) : Type 0 where
  pub least : width ≡ width_of codes
  pub from_0 : has_0 codes ≡ true

width_cases : (width : ℕ) (codes : List ℕ) (same some : Bool)
    → (width == width_of codes) ≡ same → has_0 codes ≡ some
    → least_fault width codes ≡ None → IsLeast width codes
width_cases width codes true true e f none =
    record { least = eqb-true width (width_of codes) e; from_0 = f }
width_cases width codes true false e f none =
    absurd (some_not_none (sym (least_value_fault width codes
    (eqb-true width (width_of codes) e) f) ∙ none))
width_cases width codes false some e f none =
    absurd (some_not_none (sym (least_width_fault width codes
    (eqb-false width (width_of codes) e)) ∙ none))

pub is_least : (width : ℕ) (codes : List ℕ) → least_fault width codes ≡ None
    → IsLeast width codes
is_least width codes none =
    width_cases width codes (width == width_of codes) (has_0 codes) refl refl none

-- A number of 64 bits fits its least width, which is one of the widths.
pub record FitsLeast (n width : ℕ) : Type 0 where
  pub low : n < 2 ^ width
  pub is : is_width width ≡ true

pub least_fits : (n : ℕ) → n < 2 ^ 64 → FitsLeast n (least_width n)
unfolding least_width is_width
least_fits n low =
    let P : ℕ → Type 0 = λ width. FitsLeast n width in
    cond_both (ltb n 1) _ _ P (λ e. record { low = ltb-true n 1 e; is = refl })
    (λ _. cond_both (ltb n 2) _ _ P (λ e. record { low = ltb-true n 2 e; is = refl })
    (λ _. cond_both (ltb n 4) _ _ P (λ e. record { low = ltb-true n 4 e; is = refl })
    (λ _. cond_both (ltb n 16) _ _ P (λ e. record { low = ltb-true n 16 e; is = refl })
    (λ _. cond_both (ltb n 256) _ _ P (λ e. record { low = ltb-true n 256 e; is = refl })
    (λ _. cond_both (ltb n (2 ^ 16)) _ _ P
    (λ e. record { low = ltb-true n (2 ^ 16) e; is = refl })
    (λ _. cond_both (ltb n (2 ^ 32)) _ _ P
    (λ e. record { low = ltb-true n (2 ^ 32) e; is = refl })
    (λ _. cond_both (ltb n (2 ^ 64)) _ _ P (λ e. record { low = low; is = refl })
    (λ e. absurd (omega (arith, low, ltb-false n (2 ^ 64) e))))))))))

-- What the bytes of codes say of their parts.
pub record Parts (head codes bytes : List ℕ) : Type 0 where
  pub long : length head < length bytes
  pub width : get_or bytes 0 0 ≡ width_of codes
  pub is : is_width (get_or bytes 0 0) ≡ true
  pub packed : ArePacked (get_or bytes 0 0) codes (drop (length head + 1) bytes)
  pub from_0 : has_0 codes ≡ true

pub parts : (head codes bytes : List ℕ) → greatest codes < 2 ^ 64 → IsHeaded head codes bytes
    → Parts head codes bytes
parts head codes bytes low are =
    let width = width_of codes in
    let fits = least_fits (greatest codes) low in
    let first : get_or bytes 0 0 ≡ width = ap (λ (bs : List ℕ). get_or bs 0 0) are.same in
    let behind : drop (length head + 1) bytes ≡ packed width codes =
    ap (drop (length head + 1)) are.same
    ∙ ap (λ (k : ℕ). drop k (width ∷ (head ++ packed width codes))) (add-one (length head))
    ∙ drop_at head (packed width codes) (length head) refl in
    record {
      long = omega (arith, ap length are.same, length-append head (packed width codes));
      width = first;
      is = ap is_width first ∙ fits.is;
      packed = record {
        fit = subst (λ w. FitWidth w codes) (sym first) (fit_greatest width codes fits.low);
        same = behind ∙ ap (λ (w : ℕ). packed w codes) (sym first);
      };
      from_0 = are.from_0;
    }

-- The codes of bytes behind a head that were read, and those that they must be.
pub packed_behind : (width head : ℕ) (first codes bytes part : List ℕ) → length first ≡ head
    → Parts first codes bytes → width ≡ get_or bytes 0 0 → part ≡ drop (head + 1) bytes
    → ArePacked width codes part
packed_behind width head first codes bytes part long parts is behind =
    subst (λ w. ArePacked w codes part) (sym is)
    (subst (ArePacked (get_or bytes 0 0) codes)
    (ap (λ (k : ℕ). drop (k + 1) bytes) long ∙ sym behind) parts.packed)

-- Codes that were read are those that the bytes tell.
pub read_behind : (head count width : ℕ) (codes bytes part : List ℕ) → width ≡ get_or bytes 0 0
    → part ≡ drop (head + 1) bytes → length codes ≡ count → ArePacked width codes part
    → codes ≡ codes_behind head count bytes
read_behind head count width codes bytes part is behind many are =
    sym (written width codes part are).back
    ∙ ap₂ (λ (w n : ℕ). digits (2 ^ w) n (number 256 part)) is many
    ∙ ap (λ (bs : List ℕ). digits (2 ^ get_or bytes 0 0) count (number 256 bs)) behind

-- The fault of bytes whose codes were read is that of the codes.
pub fault_behind : (head count width : ℕ) (codes bytes part : List ℕ)
    (fault : Option ChunkFault) → head < length bytes → width ≡ get_or bytes 0 0
    → is_width (get_or bytes 0 0) ≡ true → part ≡ drop (head + 1) bytes
    → length codes ≡ count → None ≡ codes_fault width count part → ArePacked width codes part
    → fault ≡ least_fault width codes → fault ≡ headed_fault head count bytes
fault_behind head count width codes bytes part fault long is some behind many none are least =
    let first = get_or bytes 0 0 in
    let rest = drop (head + 1) bytes in
    let read = read_behind head count width codes bytes part is behind many are in
    let all : codes_fault first count rest ≡ None =
    sym (none ∙ ap₂ (λ (w : ℕ) (bs : List ℕ). codes_fault w count bs) is behind) in
    least
    ∙ ap₂ (λ (w : ℕ) (cs : List ℕ). least_fault w cs) is read
    ∙ sym (headed_behind head count bytes long some
    ∙ ap (λ (f : Option ChunkFault). first_fault f
    (least_fault first (codes_behind head count bytes)))
    all)

pub ok_from : {T : Type 0} (result : Result T ChunkFault) → result_err result ≡ None
    → is_ok result ≡ true
ok_from (Ok x) none = refl
ok_from (Err fault) none = absurd (some_not_none none)

-- What is so, is so if there is no fault.
pub on_ok : {T : Type 0} (result : Result T ChunkFault) (P : Type 0) → P → OnOk result P
on_ok (Ok x) P so = so
on_ok (Err fault) P so = tt
