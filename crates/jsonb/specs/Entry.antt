-- One entry: its place in the bytes, and the type and payload that are there.
use Rattle.std.specs.Prelude.{ℕ, ◌+◌, ◌^◌, ◌<◌, ◌≤◌, nat_le, if◌then◌else◌, List, length, take}
use Rattle.std.specs.Prelude.{drop, Result, Ok, Err}
use Rattle.jsonb_value.specs.declared.error.Error.{Error}
use Rattle.jsonb_value.specs.declared.error.Error.TheVariants.{InvalidJsonb}
use Rattle.jsonb_codec.specs.declared.jentry.JEntry.{JEntry}
use Rattle.jsonb_codec.specs.JEntry.{jentry_at}
use Rattle.jsonb.specs.declared.entries.Entry.{Entry}
use Rattle.jsonb.specs.Steps.{◌>>=◌}

-- The code of a value: the type of its entry, and the bytes of its payload.
pub record Code : Type 0 where
  pub type : ℕ
  pub payload : List ℕ

-- The entry of this word in so many bytes, whose payload begins at `start` and must not run past
-- the end.
abbrev pub placed_within : ℕ → ℕ → JEntry → Result Entry Error
placed_within len start jentry =
    if nat_le (start + jentry.length) len
    then Ok (record { type_code = jentry.type_code; start = start; length = jentry.length })
    else Err InvalidJsonb

-- The entry of this word, whose payload begins at `start` and must not run past the end.
abbrev pub placed_by : List ℕ → ℕ → JEntry → Result Entry Error
placed_by bytes start jentry = placed_within (length bytes) start jentry

-- The entry whose word is at `word` and whose payload begins at `start`, with its place.
abbrev pub placed_at : List ℕ → ℕ → ℕ → Result Entry Error
placed_at bytes word start = jentry_at bytes word >>= placed_by bytes start

-- The code at a place.
abbrev pub entry_there : List ℕ → Entry → Code
entry_there bytes entry =
    record { type = entry.type_code; payload = take entry.length (drop entry.start bytes) }

-- The place is inside the bytes, and its type and length form one entry word.
abbrev pub IsEntryIn : List ℕ → Entry → Type 0
IsEntryIn bytes entry =
    (entry.start + entry.length ≤ length bytes) × (entry.type_code + entry.length < 2 ^ 31)

-- The code of an entry that was read.
abbrev pub entry_read : List ℕ → Result Entry Error → Result Code Error
entry_read bytes (Ok entry) = Ok (entry_there bytes entry)
entry_read bytes (Err e) = Err e

-- The code of the entry whose word is at `word` and whose payload begins at `start`.
unfoldable pub entry_at : List ℕ → ℕ → ℕ → Result Code Error
entry_at bytes word start = entry_read bytes (placed_at bytes word start)

-- The n bytes from `start`, or `InvalidJsonb` if they run past the end.
unfoldable pub part_at : List ℕ → ℕ → ℕ → Result (List ℕ) Error
part_at bytes start n =
    if nat_le (start + n) (length bytes) then Ok (take n (drop start bytes)) else Err InvalidJsonb
