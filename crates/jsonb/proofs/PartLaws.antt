-- The positions of an object's entries and payloads.
use Rattle.std.proofs.Common.{◌≡◌, ℕ, zero, suc, ◌+◌, ◌-◌, ◌*◌, ◌^◌, ◌<◌, ◌≤◌, ◌≢◌, List}
use Rattle.std.proofs.Common.{length, Some, None, Result, Ok, Err, Bool, true, false, take, drop}
use Rattle.std.proofs.Common.{refl, sym, ap, ◌∙◌, nat_le, if◌then◌else◌}
use Rattle.std.proofs.Common.{arith, add-zero, add-suc, ne_eqb}
use Rattle.std.proofs.Common.{eq-eqb}
use Rattle.std.proofs.lemmas.Bool.{lt-leb, leb-true}
use Rattle.jsonb_value.specs.declared.error.Error.{Error}
use Rattle.jsonb_value.specs.declared.error.Error.TheVariants.{InvalidEOF, InvalidJsonb}
use Rattle.jsonb_codec.specs.JEntry.{jentry_in, jentry_at}
use Rattle.jsonb_codec.specs.WordBytes.{word_at}
use Rattle.jsonb_codec.specs.declared.jentry.JEntry.{JEntry}
use Rattle.jsonb_codec.proofs.RoomLaws.{word_at-inside}
use Rattle.jsonb.specs.Steps.{◌>>=◌}
use Rattle.jsonb.specs.declared.entries.Entry.{Entry}
use Rattle.jsonb.specs.Entries.{payloads_end}
use Rattle.jsonb.specs.Entry.{entry_read, entry_there, placed_by, entry_at, part_at}
use Rattle.jsonb.specs.Parts.{length_in, part_length, length_before, part_start, HasParts}
use Rattle.jsonb.specs.Parts.{key_of_size, value_entry, IsPlaceOf}

-- later payloads begin later
length_before-add : (bytes : List ℕ) (part more : ℕ)
    → length_before bytes part ≤ length_before bytes (part + more)
length_before-add bytes part zero = rw add-zero (omega arith)
length_before-add bytes part (suc more) =
    let before = length_before-add bytes part more in
    rw add-suc (omega arith)

pub length_before-le : (bytes : List ℕ) (part later : ℕ) → part ≤ later
    → length_before bytes part ≤ length_before bytes later
length_before-le bytes part later h =
    let e : part + (later - part) ≡ later = omega arith in
    rw e at (length_before-add bytes part (later - part))

-- each counted entry is present, with its payload
pub part_fits : (bytes : List ℕ) (n part : ℕ) → HasParts bytes n → part < 2 * n
    → (part_start bytes n part + part_length bytes part ≤ length bytes)
    × (4 + 4 * part + 4 ≤ length bytes)
part_fits bytes n part all h =
    let later : length_before bytes (suc part) ≤ length_before bytes (2 * n) =
    length_before-le bytes (suc part) (2 * n) (omega arith) in
    (omega (arith, all.all), omega (arith, all.all))

length_in-bound : (r : Result ℕ Error) → length_in (jentry_in r) ≤ 2 ^ 28
length_in-bound (Ok k) = omega arith
length_in-bound (Err e) = omega arith

part_length-bound : (bytes : List ℕ) (part : ℕ) → part_length bytes part ≤ 2 ^ 28
unfolding part_length
part_length-bound bytes part = length_in-bound (word_at bytes (4 + 4 * part))

-- a bound on the offset of a payload
pub before_bound : (bytes : List ℕ) (part : ℕ) → length_before bytes part ≤ 2 ^ 28 * part
before_bound bytes zero = omega arith
before_bound bytes (suc part) =
    let before = before_bound bytes part in
    let one = part_length-bound bytes part in
    omega arith

-- The key with this number, given its entry word and its offset.
module _ (size : ℕ) (bytes : List ℕ) (n pair : ℕ) where
  pub key_cut : (e : Error) → Err e ≡ jentry_at bytes (4 + 4 * pair)
      → key_of_size size bytes n pair ≡ Err e
  unfolding key_of_size
  key_cut e cut = rw (← cut)

  pub key_of_other_length : (jentry : JEntry) → Ok jentry ≡ jentry_at bytes (4 + 4 * pair)
      → jentry.length ≢ size → key_of_size size bytes n pair ≡ Ok None
  unfolding key_of_size
  key_of_other_length jentry read other = rw (← read, ne_eqb jentry.length size other)

  pub key_known : (jentry : JEntry) (start : ℕ) → Ok jentry ≡ jentry_at bytes (4 + 4 * pair)
      → jentry.length ≡ size → start ≡ part_start bytes n pair → (r : Result (List ℕ) Error)
      → part_at bytes start jentry.length ≡ r
      → key_of_size size bytes n pair ≡ (r >>= λ key. Ok (Some key))
  unfolding key_of_size
  key_known jentry start read fits begins r part =
      let part = rw (fits, begins) at part in
      rw (← read, eq-eqb jentry.length size fits, part)

pub word_cut : (bytes : List ℕ) (i : ℕ) → length bytes < i + 4 → word_at bytes i ≡ Err InvalidEOF
word_cut bytes i short = rw (lt-leb (i + 4) (length bytes) short)

-- The code of an entry is read by its word and the bytes of its payload.
module _ (bytes : List ℕ) (start : ℕ) where
  read_if : (jentry : JEntry) (inside : Bool)
      → entry_read bytes (if inside
      then Ok (record { type_code = jentry.type_code; start = start; length = jentry.length })
      else Err InvalidJsonb)
      ≡ ((if inside then Ok (take jentry.length (drop start bytes)) else Err InvalidJsonb)
      >>= (λ (payload : List ℕ). Ok record { type = jentry.type_code; payload = payload }))
  read_if jentry true = refl
  read_if jentry false = refl

  read_by : (r : Result JEntry Error)
      → entry_read bytes (r >>= placed_by bytes start)
      ≡ (r >>= (λ (jentry : JEntry). part_at bytes start jentry.length
      >>= (λ (payload : List ℕ). Ok record { type = jentry.type_code; payload = payload })))
  unfolding part_at
  read_by (Ok jentry) = read_if jentry _
  read_by (Err e) = refl

  pub entry_at-part : (word : ℕ) → entry_at bytes word start
      ≡ (jentry_at bytes word >>= (λ (jentry : JEntry). part_at bytes start jentry.length
      >>= (λ (payload : List ℕ). Ok record { type = jentry.type_code; payload = payload })))
  unfolding entry_at
  entry_at-part word = read_by (jentry_at bytes word)

-- the value's entry, given its entry word and its offset
module _ (bytes : List ℕ) (n pair : ℕ) where
  pub value_known : (start : ℕ) (jentry : JEntry) → Ok jentry ≡ jentry_at bytes (4 + 4 * (n + pair))
      → start ≡ part_start bytes n (n + pair) → (r : Result (List ℕ) Error)
      → part_at bytes start jentry.length ≡ r
      → value_entry bytes n pair
      ≡ (r >>= λ payload. Ok record { type = jentry.type_code; payload = payload })
  value_known start jentry read begins r part =
      let part = rw begins at part in
      rw (
        entry_at-part bytes (part_start bytes n (n + pair)) (4 + 4 * (n + pair)),
        ← read,
        part,
      )

-- The payload and the place of an entry, given its word and its offset.
module _ (bytes : List ℕ) (start : ℕ) (jentry : JEntry) where
  abbrev placed_if : Bool → Result Entry Error
  placed_if inside = if inside
      then Ok (record { type_code = jentry.type_code; start = start; length = jentry.length })
      else Err InvalidJsonb

  part_read-if : (inside : Bool) (entry : Entry) → placed_if inside ≡ Ok entry
      → (if inside then Ok (take jentry.length (drop start bytes)) else Err InvalidJsonb)
      ≡ Ok (take entry.length (drop entry.start bytes))
  part_read-if true entry is = cc
  part_read-if false entry is = absurd cc

  part_past-if : (inside : Bool) (e : Error) → placed_if inside ≡ Err e
      → (if inside then Ok (take jentry.length (drop start bytes)) else Err InvalidJsonb) ≡ Err e
  part_past-if true e is = absurd cc
  part_past-if false e is = cc

  pub part_read : (entry : Entry) (payload : List ℕ) → Ok entry ≡ placed_by bytes start jentry
      → payload ≡ (entry_there bytes entry).payload
      → part_at bytes start jentry.length ≡ Ok payload
  unfolding part_at
  part_read entry payload is bytes = part_read-if _ entry (sym is) ∙ ap (λ p. Ok p) (sym bytes)

  pub part_past : (e : Error) → Err e ≡ placed_by bytes start jentry
      → part_at bytes start jentry.length ≡ Err e
  unfolding part_at
  part_past e is = part_past-if _ e (sym is)

  placed_part-if : (inside : Bool) (entry : Entry)
      → nat_le (start + jentry.length) (length bytes) ≡ inside → placed_if inside ≡ Ok entry
      → (n part : ℕ)
      → Ok jentry ≡ jentry_at bytes (4 + 4 * part) → start ≡ part_start bytes n part
      → IsPlaceOf bytes n part entry
  placed_part-if true entry inside is n part read begins =
      let this : entry
      ≡ record { type_code = jentry.type_code; start = start; length = jentry.length } = cc in
      let within = leb-true _ _ inside in
      rw this record { entry = sym read; start = begins; inside = omega arith }
  placed_part-if false entry inside is n part read begins = absurd cc

  pub placed_part : (entry : Entry) → Ok entry ≡ placed_by bytes start jentry → (n part : ℕ)
      → Ok jentry ≡ jentry_at bytes (4 + 4 * part) → start ≡ part_start bytes n part
      → IsPlaceOf bytes n part entry
  placed_part entry is n part read begins =
      placed_part-if _ entry refl (sym is) n part read begins

  placed_type-if : (inside : Bool) (entry : Entry) → placed_if inside ≡ Ok entry
      → jentry.type_code ≡ entry.type_code
  placed_type-if true entry is = cc
  placed_type-if false entry is = absurd cc

  -- it is the value's entry
  pub value_placed : (entry : Entry) → Ok entry ≡ placed_by bytes start jentry → (n pair : ℕ)
      → Ok jentry ≡ jentry_at bytes (4 + 4 * (n + pair)) → start ≡ part_start bytes n (n + pair)
      → value_entry bytes n pair ≡ Ok (entry_there bytes entry)
  value_placed entry is n pair read begins =
      value_known bytes n pair start jentry read begins _ (part_read entry _ is refl)
      ∙ ap (λ (type : ℕ). Ok record { type = type; payload = (entry_there bytes entry).payload })
      (placed_type-if _ entry (sym is))

-- where payloads end, by the lengths in their words
module _ (bytes : List ℕ) where
  pub ends_there : (n part base word start : ℕ) → 4 + 4 * (part + n) ≤ length bytes
      → word ≡ 4 + 4 * part → start ≡ base + length_before bytes part
      → payloads_end bytes n word start ≡ Ok (base + length_before bytes (part + n))
  unfolding part_length
  ends_there zero part base word start fits at from =
      let same : part ≡ part + zero = omega arith in
      ap (λ (s : ℕ). Ok s) from ∙ ap (λ (p : ℕ). Ok (base + length_before bytes p)) same
  ends_there (suc n) part base word start fits at from =
      let read = ap jentry_in (word_at-inside bytes word (omega arith)) in
      let size = ap (λ (w : ℕ). length_in (jentry_at bytes w)) (sym at) ∙ ap length_in read in
      let number : suc part + n ≡ part + suc n = omega arith in
      ap (λ (r : Result JEntry Error). r
      >>= (λ (e : JEntry). payloads_end bytes n (word + 4) (start + e.length))) read
      ∙ ends_there n (suc part) base (word + 4) _ (omega arith) (omega arith)
      (omega (arith, size, from))
      ∙ ap (λ (p : ℕ). Ok (base + length_before bytes p)) number
