-- Entries with their places, one by one and in runs.
use Rattle.std.proofs.Common.{◌≡◌, ◌⊎◌, inl, inr, ℕ, zero, suc, ◌+◌, ◌-◌, ◌*◌, ◌<◌, ◌≤◌}
use Rattle.std.proofs.Common.{Bool, true, false, List, []}
use Rattle.std.proofs.Common.{◌∷◌, length, map, take, drop, Result, Ok, Err, Some, refl, sym}
use Rattle.std.proofs.Common.{ap, ap₂, ◌∙◌, if◌then◌else◌, is_ok, slice_get, arith}
use Rattle.std.proofs.lemmas.Bool.Decides.{leb_tells}
use Rattle.std.specs.Int.{w32, from_be_bytes}
use Rattle.jsonb_value.specs.declared.error.Error.{Error}
use Rattle.jsonb_value.specs.declared.error.Error.TheVariants.{InvalidEOF, InvalidJsonb}
use Rattle.jsonb_codec.specs.declared.jentry.JEntry.{JEntry}
use Rattle.jsonb_codec.specs.declared.constants.TheConstants.{SCALAR_CONTAINER_TAG}
use Rattle.jsonb_codec.specs.JEntry.{jentry_at, jentry_in}
use Rattle.jsonb_codec.specs.WordBytes.{header_at}
use Rattle.jsonb_codec.proofs.RoomLaws.{word_at-inside}
use Rattle.jsonb.specs.declared.entries.Entry.{Entry}
use Rattle.jsonb.specs.Entry.{entry_read, entry_there, placed_at, placed_by, Code, entry_at}
use Rattle.jsonb.specs.Entries.{entries_of, left_after, payloads_end}
use Rattle.jsonb.specs.Entries.{placed_from, run_from, until_error}
use Rattle.jsonb.specs.Item.{item_in, scalar_item}
use Rattle.jsonb.specs.Parts.{length_in}
use Rattle.jsonb.specs.Steps.{◌>>=◌}
use Rattle.jsonb.proofs.PartLaws.{word_cut}

pub length-placed_from : (bytes : List ℕ) (left word start : ℕ)
    → length (placed_from bytes left word start) ≡ left
length-placed_from bytes zero word start = refl
length-placed_from bytes (suc left) word start = ap suc (length-placed_from bytes left (word + 4) _)

-- the error of a result, where there is one
abbrev error_of : Result (List (Result Entry Error)) Error → Result Entry Error
error_of (Ok entries) = Err InvalidEOF
error_of (Err e) = Err e

-- A word that cannot be read is cut off.
word_error : (bytes : List ℕ) (word : ℕ) (e : Error) → jentry_at bytes word ≡ Err e → e ≡ InvalidEOF
word_error bytes word e cut = by _ cut where
  by : (inside : Bool)
      → jentry_in (if inside then Ok (from_be_bytes w32 (take 4 (drop word bytes)))
      else Err InvalidEOF) ≡ Err e → e ≡ InvalidEOF
  by true is = absurd cc
  by false is = cc

-- one more result, and nothing after an error
abbrev pub ahead : {A : Type 0} → Result A Error → List (Result A Error) → List (Result A Error)
ahead r rest = r ∷ (if is_ok r then rest else [])

until_error-ahead : {A : Type 0} (r : Result A Error) (rest : List (Result A Error))
    → until_error (r ∷ rest) ≡ ahead r (until_error rest)
until_error-ahead (Ok x) rest = refl
until_error-ahead (Err e) rest = refl

-- An entry that was read has the length of its word.
module _ (bytes : List ℕ) (start : ℕ) where
  placed_length-if : (jentry : JEntry) (entry : Entry) (inside : Bool)
      → (if inside
      then Ok (record { type_code = jentry.type_code; start = start; length = jentry.length })
      else Err InvalidJsonb) ≡ Ok entry → jentry.length ≡ entry.length
  placed_length-if jentry entry true is = cc
  placed_length-if jentry entry false is = absurd cc

  placed_length : (r : Result JEntry Error) (entry : Entry)
      → r >>= placed_by bytes start ≡ Ok entry → length_in r ≡ entry.length
  placed_length (Ok jentry) entry is = placed_length-if jentry entry _ is
  placed_length (Err e) entry is = absurd cc

  pub entry_read-at : (word : ℕ) → entry_read bytes (placed_at bytes word start)
      ≡ entry_at bytes word start
  unfolding entry_at
  entry_read-at word = refl

-- the item of a scalar's document, by its entry
pub item_in-scalar : (bytes : List ℕ) (tag n : ℕ) → tag ≡ SCALAR_CONTAINER_TAG
    → Ok (tag, n) ≡ header_at bytes 0
    → item_in bytes ≡ (entry_read bytes (placed_at bytes 4 8) >>= scalar_item)
unfolding item_in
item_in-scalar bytes tag n scalar header =
    rw (← header, scalar)
    (ap (λ (r : Result Code Error). r >>= scalar_item) (sym (entry_read-at bytes 8 4)))

-- The first of a run, and those after it.
module _ (bytes : List ℕ) (word start : ℕ) where
  pub entries_of-first : (n left : ℕ) (entry : Entry) → n ≡ suc left
      → placed_at bytes word start ≡ Ok entry
      → entries_of (run_from bytes n word start)
      ≡ Ok (entry_there bytes entry)
      ∷ entries_of (run_from bytes left (word + 4) (start + entry.length))
  entries_of-first n left entry some is =
      let long = placed_length bytes start (jentry_at bytes word) entry is in
      ap (λ (n : ℕ). entries_of (run_from bytes n word start)) some
      ∙ ap (λ (r : Result Entry Error). until_error (entry_read bytes r
      ∷ map (entry_read bytes)
      (placed_from bytes left (word + 4) (start + length_in (jentry_at bytes word))))) is
      ∙ ap (λ (k : ℕ). Ok (entry_there bytes entry)
      ∷ entries_of (run_from bytes left (word + 4) (start + k))) long

  pub entries_of-ahead : (left : ℕ)
      → entries_of (run_from bytes (suc left) word start)
      ≡ ahead (entry_at bytes word start)
      (entries_of (run_from bytes left (word + 4) (start + length_in (jentry_at bytes word))))
  entries_of-ahead left =
      until_error-ahead (entry_read bytes (placed_at bytes word start)) _
      ∙ ap (λ (r : Result Code Error). ahead r
      (entries_of (run_from bytes left (word + 4) (start + length_in (jentry_at bytes word)))))
      (entry_read-at bytes start word)

  -- the same by the entry's bytes
  pub entries_of-next : (left : ℕ) (jentry : JEntry) (entry : Code)
      → jentry_at bytes word ≡ Ok jentry → entry_at bytes word start ≡ Ok entry
      → entries_of (run_from bytes (suc left) word start)
      ≡ Ok entry ∷ entries_of (run_from bytes left (word + 4) (start + jentry.length))
  entries_of-next left jentry entry read is =
      entries_of-ahead left
      ∙ ap₂ (λ (r : Result Code Error) (k : ℕ). ahead r
      (entries_of (run_from bytes left (word + 4) (start + k)))) is (ap length_in read)

-- What is left after so many entries, given where their payloads end.
module _ (bytes : List ℕ) (start : ℕ) (jentry : JEntry) where
  passed_if : (inside : Bool) (n : ℕ) (others : List (Result Entry Error))
      → left_after (suc n) ((if inside
      then Ok (record { type_code = jentry.type_code; start = start; length = jentry.length })
      else Err InvalidJsonb) ∷ others) ≡ left_after n others
  passed_if true n others = refl
  passed_if false n others = refl

  passed : (word n : ℕ) (others : List (Result Entry Error))
      → jentry_at bytes word ≡ Ok jentry
      → left_after (suc n) (placed_at bytes word start ∷ others) ≡ left_after n others
  passed word n others read =
      ap (λ (r : Result JEntry Error). left_after (suc n) ((r >>= placed_by bytes start) ∷ others))
      read
      ∙ passed_if _ n others

module _ (bytes : List ℕ) where
  after_word : (n left word start : ℕ) (jentry : JEntry) → jentry_at bytes word ≡ Ok jentry
      → left_after (suc n) (placed_from bytes (suc left) word start)
      ≡ left_after n (placed_from bytes left (word + 4) (start + jentry.length))
  after_word n left word start jentry read =
      passed bytes start jentry word n _ read
      ∙ ap (λ (r : Result JEntry Error). left_after n
      (placed_from bytes left (word + 4) (start + length_in r))) read

  left_after-end : (n left word start end : ℕ) → n ≤ left
      → payloads_end bytes n word start ≡ Ok end
      → left_after n (placed_from bytes left word start)
      ≡ Ok (placed_from bytes (left - n) (word + 4 * n) end)
  left_after-end zero left word start end few is =
      let same : start ≡ end = cc in
      let next : word ≡ word + 4 * 0 = omega arith in
      let all : left ≡ left - 0 = omega arith in
      ap₂ (λ (w k : ℕ). Ok (placed_from bytes left w k)) next same
      ∙ ap (λ (m : ℕ). Ok (placed_from bytes m (word + 4 * 0) end)) all
  left_after-end (suc n) zero word start end few is = absurd (omega arith)
  left_after-end (suc n) (suc left) word start end few is =
      by (λ k later. left_after-end n left (word + 4) k end (omega arith) later)
      (jentry_at bytes word) refl
    where
      by : ((k : ℕ) → payloads_end bytes n (word + 4) k ≡ Ok end
          → left_after n (placed_from bytes left (word + 4) k)
          ≡ Ok (placed_from bytes (left - n) (word + 4 + 4 * n) end))
          → (r : Result JEntry Error) → jentry_at bytes word ≡ r
          → left_after (suc n) (placed_from bytes (suc left) word start)
          ≡ Ok (placed_from bytes (suc left - suc n) (word + 4 * suc n) end)
      by more (Ok jentry) read =
          let next : word + 4 + 4 * n ≡ word + 4 * suc n = omega arith in
          let fewer : left - n ≡ suc left - suc n = omega arith in
          after_word n left word start jentry read
          ∙ more (start + jentry.length) (rw read at is)
          ∙ ap₂ (λ (m w : ℕ). Ok (placed_from bytes m w end)) fewer next
      by more (Err e) read = let never = rw read at is in absurd cc

  left_after-cut : (n left word start : ℕ) (e : Error) → n ≤ left
      → payloads_end bytes n word start ≡ Err e
      → left_after n (placed_from bytes left word start) ≡ Err e
  left_after-cut zero left word start e few is = absurd cc
  left_after-cut (suc n) zero word start e few is = absurd (omega arith)
  left_after-cut (suc n) (suc left) word start e few is =
      by (λ k later. left_after-cut n left (word + 4) k e (omega arith) later)
      (jentry_at bytes word) refl
    where
      by : ((k : ℕ) → payloads_end bytes n (word + 4) k ≡ Err e
          → left_after n (placed_from bytes left (word + 4) k) ≡ Err e)
          → (r : Result JEntry Error) → jentry_at bytes word ≡ r
          → left_after (suc n) (placed_from bytes (suc left) word start) ≡ Err e
      by more (Ok jentry) read =
          after_word n left word start jentry read ∙ more (start + jentry.length) (rw read at is)
      by more (Err d) read =
          let same = rw read at is in
          let cut : d ≡ InvalidEOF = word_error bytes word d read in
          ap (λ (r : Result JEntry Error). left_after (suc n)
          ((r >>= placed_by bytes start) ∷ placed_from bytes left (word + 4) (start + length_in r)))
          (read ∙ ap Err cut)
          ∙ cc (cut, same)

-- All that there are, where there are fewer.
left_after-all : (n : ℕ) (xs : List (Result Entry Error)) → length xs ≤ n
    → left_after n xs ≡ left_after (length xs) xs
left_after-all zero [] few = refl
left_after-all zero (x ∷ xs) few = absurd (omega arith)
left_after-all (suc n) [] few = refl
left_after-all (suc n) (Err InvalidEOF ∷ xs) few = refl
left_after-all (suc n) (x ∷ xs) few = left_after-all n xs (omega arith)

-- the lesser of two numbers
abbrev pub IsLess : ℕ → ℕ → ℕ → Type 0
IsLess count left n = ((n ≡ count) × (count ≤ left)) ⊎ ((n ≡ left) × (left ≤ count))

left_after-less : (count left n : ℕ) (xs : List (Result Entry Error)) → length xs ≡ left
    → IsLess count left n → (n ≤ left) × (left_after count xs ≡ left_after n xs)
left_after-less count left n xs long (inl (same, few)) =
    (omega arith, ap (λ (m : ℕ). left_after m xs) (sym same))
left_after-less count left n xs long (inr (same, few)) = (
  omega arith,
  left_after-all count xs (omega arith) ∙ ap (λ (m : ℕ). left_after m xs) (long ∙ sym same),
)

module _ (bytes : List ℕ) (count left n word start : ℕ) (less : IsLess count left n) where
  abbrev all : List (Result Entry Error)
  all = placed_from bytes left word start

  pub skipped : (end : ℕ) → payloads_end bytes n word start ≡ Ok end
      → left_after count all ≡ Ok (placed_from bytes (left - n) (word + 4 * n) end)
  skipped end is =
      let same = left_after-less count left n all (length-placed_from bytes left word start) less in
      same.1 ∙ left_after-end bytes n left word start end same.0 is

  pub skip_cut : (e : Error) → payloads_end bytes n word start ≡ Err e
      → left_after count all ≡ Err e
  skip_cut e is =
      let same = left_after-less count left n all (length-placed_from bytes left word start) less in
      same.1 ∙ left_after-cut bytes n left word start e same.0 is

pub left_after-get : (n : ℕ) (xs ys : List (Result Entry Error)) → left_after n xs ≡ Ok ys
    → slice_get ys 0 ≡ slice_get xs n
left_after-get zero xs ys is = cc
left_after-get (suc n) [] ys is = let none : [] ≡ ys = cc in ap (λ zs. slice_get zs 0) (sym none)
left_after-get (suc n) (Err InvalidEOF ∷ xs) ys is = absurd cc
left_after-get (suc n) (x ∷ xs) ys is = left_after-get n xs ys is

-- A word after one that is cut off is cut off too.
module _ (bytes : List ℕ) where
  word_short : (word : ℕ) (e : Error) → jentry_at bytes word ≡ Err e → length bytes < word + 4
  word_short word e cut = elim (leb_tells (word + 4) (length bytes)) [
    | inl fits ↦ let there = ap jentry_in (word_at-inside bytes word fits.1) in absurd cc
    | inr short ↦ short.1
  ]

  all_cut : (n count word start : ℕ) → n < count → length bytes < word + 4
      → slice_get (placed_from bytes count word start) n ≡ Some (Err InvalidEOF)
  all_cut n zero word start among short = absurd (omega arith)
  all_cut zero (suc count) word start among short =
      ap (λ (r : Result ℕ Error). Some (jentry_in r >>= placed_by bytes start))
      (word_cut bytes word short)
  all_cut (suc n) (suc count) word start among short =
      all_cut n count (word + 4) _ (omega arith) (omega arith)

  pub cut_later : (n count word start : ℕ) (e : Error) → n < count
      → left_after n (placed_from bytes count word start) ≡ Err e
      → slice_get (placed_from bytes count word start) n ≡ Some (Err e)
  cut_later zero count word start e among is = absurd cc
  cut_later (suc n) zero word start e among is = absurd (omega arith)
  cut_later (suc n) (suc count) word start e among is =
      by (λ k later. cut_later n count (word + 4) k e (omega arith) later)
      (jentry_at bytes word) refl
    where
      by : ((k : ℕ) → left_after n (placed_from bytes count (word + 4) k) ≡ Err e
          → slice_get (placed_from bytes count (word + 4) k) n ≡ Some (Err e))
          → (r : Result JEntry Error) → jentry_at bytes word ≡ r
          → slice_get (placed_from bytes (suc count) word start) (suc n) ≡ Some (Err e)
      by more (Ok jentry) read =
          ap (λ (r : Result JEntry Error). slice_get
          (placed_from bytes count (word + 4) (start + length_in r)) n) read
          ∙ more (start + jentry.length)
          (sym (after_word bytes n count word start jentry read) ∙ is)
      by more (Err d) read =
          let cut : d ≡ InvalidEOF = word_error bytes word d read in
          let here = rw (read, cut) at is in
          all_cut n count (word + 4) _ (omega arith) (omega (arith, word_short word d read))
          ∙ ap (λ (r : Result (List (Result Entry Error)) Error). Some (error_of r)) here
