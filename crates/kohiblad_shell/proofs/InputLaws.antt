-- The first row of some bytes, and what is left of them.
use Rattle.std.proofs.Common.{◌≡◌, ◌≢◌, inl, inr, ℕ, ◌-◌, ◌<◌, ◌==◌, Bool, true, false}
use Rattle.std.proofs.Common.{cond}
use Rattle.std.proofs.Common.{List, [], ◌∷◌, ◌++◌, length, take, refl, ap, ◌∙◌, subst, arith}
use Rattle.std.proofs.Common.{ap₂, drop, append_assoc, append-nil, drop_of_length-le, get_or, sym}
use Rattle.std.proofs.Common.{◌^◌}
use Rattle.std.proofs.lemmas.Bool.Decides.{nat_tests}
use Rattle.std.proofs.lemmas.List.{length-append}
use Rattle.std.proofs.lemmas.List.Elements.{All-nil, All-cons, All-get_or}
use Rattle.std.proofs.Math.Seq.{take-append_seam}
use Rattle.std.specs.Prelude.{Option, Some, None, IfSome, OnSome}
use Rattle.std.specs.Io.BufRead.{take_through, drop_through, ends_with_byte, strip_last}
use Rattle.answer_lines.specs.Lines.{IsLine}
use Rattle.std.specs.Int.{w64, to_be_bytes, from_be_bytes}
use Rattle.std.specs.Io.KnownBytes.{Consumes, IsAtEnd, Keeps}
use Rattle.std.proofs.KnownBytes.{Consumes-trans}
use Rattle.std.proofs.Math.Seq.{drop-append_seam}
use Rattle.std.proofs.lemmas.Nat.{from_be_bytes-to_be_bytes_8}
use Rattle.answer_lines.proofs.Output.{Known}
use Rattle.jsonb.specs.StoredRow.{row_bytes}
use Rattle.jsonb.proofs.StoredRowLaws.{length-row_bytes}
use Rattle.kohiblad_shell.specs.declared.input.Form.TheVariants.{Documents}
use Rattle.kohiblad_shell.specs.declared.input.Found.TheVariants.{Row, Cut}
use Rattle.kohiblad_shell.specs.Inputs.{AppendsHeld, AppendsHeldLine, IsNextLine, ReadsLine}
use Rattle.kohiblad_shell.specs.Inputs.{ReadsPart, ReadsRow}

abbrev no_feed : ℕ → Type 0
no_feed b = b ≢ 10

-- The bytes begin with a line and its line feed, or have none.
data Lined (bytes : List ℕ) : Type 0 where
  ended : (line rest : List ℕ) → IsLine line → bytes ≡ line ++ 10 ∷ rest
      → take_through 10 bytes ≡ line ++ 10 ∷ [] → drop_through 10 bytes ≡ rest → Lined bytes
  open_end : IsLine bytes → take_through 10 bytes ≡ bytes → drop_through 10 bytes ≡ [] → Lined bytes

line_step : (b : ℕ) (bytes : List ℕ) (t : Bool) → (b == 10) ≡ t → Lined bytes → Lined (b ∷ bytes)
line_step b bytes true test cut =
    let feed : b ≡ 10 = grind (arith, nat_tests) in
    ended [] bytes (All-nil no_feed) (ap (λ c. c ∷ bytes) feed)
    (ap (λ (t : Bool). cond t (b ∷ []) (b ∷ take_through 10 bytes)) test ∙ ap (λ c. c ∷ []) feed)
    (ap (λ (t : Bool). cond t bytes (drop_through 10 bytes)) test)
line_step b bytes false test (ended line rest one parts taken left) =
    let other : b ≢ 10 = grind (arith, nat_tests) in
    ended (b ∷ line) rest (All-cons no_feed b line other one) (ap (λ l. b ∷ l) parts)
    (ap (λ (t : Bool). cond t (b ∷ []) (b ∷ take_through 10 bytes)) test ∙ ap (λ l. b ∷ l) taken)
    (ap (λ (t : Bool). cond t bytes (drop_through 10 bytes)) test ∙ left)
line_step b bytes false test (open_end one taken left) =
    let other : b ≢ 10 = grind (arith, nat_tests) in
    open_end (All-cons no_feed b bytes other one)
    (ap (λ (t : Bool). cond t (b ∷ []) (b ∷ take_through 10 bytes)) test ∙ ap (λ l. b ∷ l) taken)
    (ap (λ (t : Bool). cond t bytes (drop_through 10 bytes)) test ∙ left)

lined : (bytes : List ℕ) → Lined bytes
lined [] = open_end (All-nil no_feed) refl refl
lined (b ∷ bytes) = line_step b bytes (b == 10) refl (lined bytes)

-- ---- without the line feed

last_of : (line : List ℕ) → get_or (line ++ 10 ∷ []) (length line) 0 ≡ 10
last_of [] = refl
last_of (b ∷ line) = last_of line

ends : (line : List ℕ) → ends_with_byte 10 (line ++ 10 ∷ []) ≡ true
ends line =
    let len : length (line ++ 10 ∷ []) - 1 ≡ length line =
    omega (arith, length-append line (10 ∷ [])) in
    let some : 0 < length (line ++ 10 ∷ []) = omega (arith, length-append line (10 ∷ [])) in
    let last = last_of line in
    grind (arith, nat_tests)

strip_feed : (line : List ℕ) → strip_last 10 (line ++ 10 ∷ []) ≡ line
strip_feed line =
    let len : length (line ++ 10 ∷ []) - 1 ≡ length line =
    omega (arith, length-append line (10 ∷ [])) in
    ap (λ (t : Bool). cond t (take (length (line ++ 10 ∷ []) - 1) (line ++ 10 ∷ []))
    (line ++ 10 ∷ [])) (ends line)
    ∙ ap (λ n. take n (line ++ 10 ∷ [])) len ∙ take-append_seam line (10 ∷ [])

no_end : (line : List ℕ) → IsLine line → ends_with_byte 10 line ≡ false
no_end [] one = refl
no_end (b ∷ line) one =
    let low : length (b ∷ line) - 1 < length (b ∷ line) = omega arith in
    let last = All-get_or no_feed (b ∷ line) (length (b ∷ line) - 1) 0 low one in
    grind (arith, nat_tests)

strip_none : (line : List ℕ) → IsLine line → strip_last 10 line ≡ line
strip_none line one =
    ap (λ (t : Bool). cond t (take (length line - 1) line) line) (no_end line one)

-- ---- a read

next_line : (bytes taken : List ℕ) → taken ≡ take_through 10 bytes → 0 < length taken
    → IsNextLine bytes (strip_last 10 taken) (drop_through 10 bytes)
next_line bytes taken is some = by (lined bytes)
  where
    by : Lined bytes → IsNextLine bytes (strip_last 10 taken) (drop_through 10 bytes)
    by (ended line rest one parts head left) =
        let same : strip_last 10 taken ≡ line = ap (strip_last 10) (is ∙ head) ∙ strip_feed line in
        rw (same, left) (one, inl parts)
    by (open_end one all left) =
        let whole : taken ≡ bytes = is ∙ all in
        let same : strip_last 10 taken ≡ bytes = ap (strip_last 10) whole ∙ strip_none bytes one in
        rw (same, left) (one, inr (refl, (subst (λ l. 0 < length l) whole some, refl)))

reads_line : (old new : Option (List ℕ)) (taken line : List ℕ)
    → IfSome old (λ bytes. taken ≡ take_through 10 bytes)
    → IfSome old (λ bytes. new ≡ Some (drop_through 10 bytes)) → 0 < length taken
    → line ≡ strip_last 10 taken → ReadsLine old new line true
reads_line None new taken line is left some stripped = tt
reads_line (Some bytes) new taken line is left some stripped =
    rw (left, stripped) (next_line bytes taken is some)

pub nothing_held : (old new : Option (List ℕ)) (before after : List ℕ) (is_held : Bool)
    → is_held ≡ false → AppendsHeldLine old new before after is_held
    → (after ≡ before) × Keeps old new
nothing_held old new before after is_held e h = rw e at h

-- the same after a look at what the reader holds
pub reads_line_later : (old mid new : Option (List ℕ)) (taken line : List ℕ) → Keeps old mid
    → IfSome mid (λ bytes. taken ≡ take_through 10 bytes)
    → IfSome mid (λ bytes. new ≡ Some (drop_through 10 bytes)) → 0 < length taken
    → line ≡ strip_last 10 taken → ReadsLine old new line true
reads_line_later None mid new taken line kept is left some stripped = tt
reads_line_later (Some bytes) None new taken line kept is left some stripped = absurd kept
reads_line_later (Some bytes) (Some same) new taken line kept is left some stripped =
    reads_line (Some bytes) new taken line (rw kept at is) (rw kept at left) some stripped

-- ---- a part of so many bytes

known_end : (old mid new : Known) (part : List ℕ) → Consumes old mid part
    → OnSome mid (IsAtEnd new) → OnSome old (IsAtEnd new)
known_end None mid new part taken end = tt
known_end (Some bytes) None new part taken end = absurd taken
known_end (Some bytes) (Some more) new part taken end = end

module _ (limit : ℕ) (old mid new : Known) (before part : List ℕ) (is_end : Bool)
    (so_far : Consumes old mid before)
    (held : AppendsHeld limit mid new before part is_end) where
  pub part_more : Consumes old new part
  part_more =
      rw held.appended (Consumes-trans old mid new before held.held so_far held.taken)

  pub part_end : is_end ≡ true → 0 < limit → OnSome old (IsAtEnd new)
  part_end is some = known_end old mid new before so_far (held.end is some)

-- ---- documents

-- the bytes end within a length
pub length_cut : (old new : Known) (part : List ℕ) → ReadsPart 8 old new part
    → 0 < length part → length part < 8 → ReadsRow Documents old new [] Cut
length_cut None new part read some few = tt
length_cut (Some bytes) None part read some few = absurd read.taken
length_cut (Some bytes) (Some rest) part read some few =
    let ended = read.all few in
    let same : bytes ≡ part =
    read.taken ∙ ap (λ (r : List ℕ). part ++ r) ended ∙ append-nil part in
    let size : length bytes ≡ length part = ap length same in
    let dropped : drop 8 bytes ≡ [] =
    drop_of_length-le bytes {i = 8} (omega (arith, size, few)) in (
      (
        λ empty. omega (arith, some, size, ap length empty),
        (
          sym dropped,
          λ row later next. omega (
            arith,
            few,
            size,
            ap length next.1,
            length-append (row_bytes row) later,
            length-row_bytes row,
          ),
        ),
      ),
      ended,
    )

-- equal concatenations whose first parts have equal lengths have equal second parts
later_parts : (a b x y : List ℕ) → length a ≡ length b → a ++ x ≡ b ++ y → x ≡ y
later_parts a b x y size same =
    sym (drop-append_seam a x) ∙ ap₂ (λ (n : ℕ) (s : List ℕ). drop n s) size same
    ∙ drop-append_seam b y

first_parts : (a b x y : List ℕ) → length a ≡ length b → a ++ x ≡ b ++ y → a ≡ b
first_parts a b x y size same =
    sym (take-append_seam a x) ∙ ap₂ (λ (n : ℕ) (s : List ℕ). take n s) size same
    ∙ take-append_seam b y

module _ (n : ℕ) (fits : n < 2 ^ 64) (head row : List ℕ) (is : head ≡ to_be_bytes w64 n) where
  -- all bytes of the document are there
  pub stored_row : (old mid new : Known) → ReadsPart 8 old mid head → ReadsPart n mid new row
      → length row ≡ n → ReadsRow Documents old new row Row
  stored_row None mid new first then whole = tt
  stored_row (Some bytes) None new first then whole = absurd first.taken
  stored_row (Some bytes) (Some more) None first then whole = absurd then.taken
  stored_row (Some bytes) (Some more) (Some rest) first then whole = (
    omega (arith, whole, fits),
    first.taken ∙ ap (λ (m : List ℕ). head ++ m) then.taken ∙ sym (append_assoc head row rest)
        ∙ ap (λ (h : List ℕ). (h ++ row) ++ rest) (is ∙ ap (to_be_bytes w64) (sym whole)),
  )

  no_row : (bytes r later : List ℕ) → bytes ≡ head ++ row → length row < n
      → length r < 2 ^ 64 → bytes ≡ row_bytes r ++ later → ⊥
  no_row bytes r later same few short next =
      let parted : head ++ row ≡ to_be_bytes w64 (length r) ++ (r ++ later) =
      sym same ∙ next ∙ append_assoc (to_be_bytes w64 (length r)) r later in
      let size : length head ≡ length (to_be_bytes w64 (length r)) = ap length is in
      let lengths = first_parts head (to_be_bytes w64 (length r)) row (r ++ later) size parted in
      let tails = later_parts head (to_be_bytes w64 (length r)) row (r ++ later) size parted in
      let same_length : n ≡ length r =
      sym (from_be_bytes-to_be_bytes_8 n fits) ∙ ap (from_be_bytes w64) (sym is ∙ lengths)
      ∙ from_be_bytes-to_be_bytes_8 (length r) short in
      omega (arith, few, same_length, ap length tails, length-append r later)

  -- the bytes end within the document
  pub stored_cut : (old mid new : Known) → ReadsPart 8 old mid head → ReadsPart n mid new row
      → length row < n → ReadsRow Documents old new row Cut
  stored_cut None mid new first then few = tt
  stored_cut (Some bytes) None new first then few = absurd first.taken
  stored_cut (Some bytes) (Some more) None first then few = absurd then.taken
  stored_cut (Some bytes) (Some more) (Some rest) first then few =
      let ended = then.all few in
      let same : bytes ≡ head ++ row =
      first.taken ∙ ap (λ (m : List ℕ). head ++ m)
      (then.taken ∙ ap (λ (r : List ℕ). row ++ r) ended ∙ append-nil row) in
      let eight : length head ≡ 8 = ap length is in
      let dropped : drop 8 bytes ≡ row =
      ap (drop 8) same ∙ ap (λ (k : ℕ). drop k (head ++ row)) (sym eight)
      ∙ drop-append_seam head row in (
        (
          λ empty. omega (
            arith,
            eight,
            ap length same,
            length-append head row,
            ap length empty,
          ),
          (sym dropped, λ r later next. no_row bytes r later same few next.0 next.1),
        ),
        ended,
      )
