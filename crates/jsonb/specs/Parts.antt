-- The entries of an object of n pairs by number, first the n keys' and then the n values', and
-- their payloads, on any bytes.
use Rattle.std.specs.Prelude.{◌≡◌, ℕ, zero, suc, ◌+◌, ◌*◌, ◌<◌, ◌≤◌, ◌==◌, if◌then◌else◌, Bool}
use Rattle.std.specs.Prelude.{true, false, List, length, Option, Some, None, IfSome, Result, Ok}
use Rattle.std.specs.Prelude.{Err, IsOkAnd}
use Rattle.jsonb_value.specs.declared.error.Error.{Error}
use Rattle.jsonb_codec.specs.declared.jentry.JEntry.{JEntry}
use Rattle.jsonb_codec.specs.JEntry.{jentry_at}
use Rattle.jsonb.specs.declared.entries.Entry.{Entry}
use Rattle.jsonb.specs.Entry.{Code, entry_at, part_at}
use Rattle.jsonb.specs.Steps.{◌>>=◌}

-- The length in an entry word that was read; 0 for an error.
abbrev pub length_in : Result JEntry Error → ℕ
length_in (Ok entry) = entry.length
length_in (Err e) = 0

-- The length in the entry word with this number; 0 if it cannot be read.
unfoldable pub part_length : List ℕ → ℕ → ℕ
part_length bytes part = length_in (jentry_at bytes (4 + 4 * part))

-- The total length of the payloads before this one.
abbrev pub length_before : List ℕ → ℕ → ℕ
length_before bytes zero = 0
length_before bytes (suc part) = length_before bytes part + part_length bytes part

-- The offset of a payload in an object of n pairs.
abbrev pub part_start : List ℕ → ℕ → ℕ → ℕ
part_start bytes n part = 4 + 8 * n + length_before bytes part

-- All entry words and payloads are inside the bytes.
pub record HasParts (bytes : List ℕ) (n : ℕ) : Type 0 where
  pub all : part_start bytes n (2 * n) ≤ length bytes

-- The key of this pair, if it has the size.
unfoldable pub key_of_size : ℕ → List ℕ → ℕ → ℕ → Result (Option (List ℕ)) Error
key_of_size size bytes n pair = do
  jentry ← jentry_at bytes (4 + 4 * pair)
  if jentry.length == size
      then (part_at bytes (part_start bytes n pair) size >>= λ key. Ok (Some key)) else Ok None

-- The entry of this pair's value.
abbrev pub value_entry : List ℕ → ℕ → ℕ → Result Code Error
value_entry bytes n pair = entry_at bytes (4 + 4 * (n + pair)) (part_start bytes n (n + pair))

-- The place of the payload of the entry with this number: its type and length are those in the
-- entry's word, and it is inside the bytes.
pub record IsPlaceOf (bytes : List ℕ) (n part : ℕ) (place : Entry) : Type 0 where
  pub entry : jentry_at bytes (4 + 4 * part)
      ≡ Ok record { type_code = place.type_code; length = place.length }
  pub start : place.start ≡ part_start bytes n part
  pub inside : place.start + place.length ≤ length bytes

-- The key of this pair can be read if it has the size, and it is passed over.
abbrev pub IsPassedAt : (List ℕ → Bool → Type 0) → ℕ → List ℕ → ℕ → ℕ → Type 0
IsPassedAt answers size bytes n pair =
    IsOkAnd (key_of_size size bytes n pair) (λ asked. IfSome asked (λ key. answers key false))

-- All keys before this pair's are passed over.
abbrev pub PassedBefore : (List ℕ → Bool → Type 0) → ℕ → List ℕ → ℕ → ℕ → Type 0
PassedBefore answers size bytes n pair = (k : ℕ) → k < pair → IsPassedAt answers size bytes n k

-- The key of this pair is the first that is accepted.
pub record IsAccepted (answers : List ℕ → Bool → Type 0) (size : ℕ) (bytes : List ℕ)
    (n pair : ℕ) : Type 0 where
  pub among : pair < n
  pub key : List ℕ
  pub there : key_of_size size bytes n pair ≡ Ok (Some key)
  pub accepted : answers key true
  pub earlier : PassedBefore answers size bytes n pair

-- No key is accepted; the words read are the keys' entries.
pub record IsNoneFound (answers : List ℕ → Bool → Type 0) (size : ℕ) (bytes : List ℕ)
    (n reads : ℕ) : Type 0 where
  pub none : PassedBefore answers size bytes n n
  pub cost : reads ≡ n

-- The entry is that of the accepted key's value; the words read are the keys' entries and the
-- values' up to this one.
pub record IsValueFound (answers : List ℕ → Bool → Type 0) (size : ℕ) (bytes : List ℕ) (n : ℕ)
    (entry : Code) (reads : ℕ) : Type 0 where
  pub pair : ℕ
  pub key : IsAccepted answers size bytes n pair
  pub there : value_entry bytes n pair ≡ Ok entry
  pub cost : reads ≡ n + pair + 1

-- The entry word is that of the accepted key's value, whose payload begins at `start`; the words read
-- are the keys' entries and the values' up to this one.
pub record IsWordFound (answers : List ℕ → Bool → Type 0) (size : ℕ) (bytes : List ℕ) (n : ℕ)
    (jentry : JEntry) (start reads : ℕ) : Type 0 where
  pub pair : ℕ
  pub key : IsAccepted answers size bytes n pair
  pub there : jentry_at bytes (4 + 4 * (n + pair)) ≡ Ok jentry
  pub begins : start ≡ part_start bytes n (n + pair)
  pub cost : reads ≡ n + pair + 1

-- The first key that is not passed over cannot be read; this is the error.
pub record IsKeyUnread (answers : List ℕ → Bool → Type 0) (size : ℕ) (bytes : List ℕ) (n : ℕ)
    (e : Error) : Type 0 where
  pub pair : ℕ
  pub among : pair < n
  pub earlier : PassedBefore answers size bytes n pair
  pub unread : key_of_size size bytes n pair ≡ Err e

-- The first key that is not passed over cannot be read, or the accepted key's value cannot; this is
-- the error.
pub data IsUnreadable (answers : List ℕ → Bool → Type 0) (size : ℕ) (bytes : List ℕ) (n : ℕ)
    (e : Error) : Type 0 where
  key_unread : (pair : ℕ) → pair < n → PassedBefore answers size bytes n pair
      → key_of_size size bytes n pair ≡ Err e → IsUnreadable answers size bytes n e
  value_unread : (pair : ℕ) → IsAccepted answers size bytes n pair
      → value_entry bytes n pair ≡ Err e → IsUnreadable answers size bytes n e
