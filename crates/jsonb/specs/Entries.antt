-- The entries of arrays and objects, with their places, on any bytes.
use Rattle.std.specs.Prelude.{ℕ, zero, suc, ◌+◌, ◌*◌, ◌==◌, if◌then◌else◌, List, [], ◌∷◌, map}
use Rattle.std.specs.Prelude.{Result, Ok, Err}
use Rattle.jsonb_value.specs.declared.error.Error.{Error}
use Rattle.jsonb_value.specs.declared.error.Error.TheVariants.{InvalidEOF}
use Rattle.jsonb_codec.specs.declared.constants.TheConstants.{ARRAY_CONTAINER_TAG}
use Rattle.jsonb_codec.specs.declared.constants.TheConstants.{OBJECT_CONTAINER_TAG}
use Rattle.jsonb_codec.specs.WordBytes.{header_at}
use Rattle.jsonb_codec.specs.JEntry.{jentry_at}
use Rattle.jsonb.specs.declared.entries.Entry.{Entry}
use Rattle.jsonb.specs.Entry.{Code, entry_read, placed_at}
use Rattle.jsonb.specs.Parts.{length_in}
use Rattle.jsonb.specs.Steps.{◌>>=◌}

-- The entries of `left` words from `word`, each by itself or with the error of reading it. Their
-- payloads begin at `start`, one after the other; a word that is cut off counts as one of length 0.
abbrev pub placed_from : List ℕ → ℕ → ℕ → ℕ → List (Result Entry Error)
placed_from bytes zero word start = []
placed_from bytes (suc left) word start = placed_at bytes word start
    ∷ placed_from bytes left (word + 4) (start + length_in (jentry_at bytes word))

-- The number of entries under a header; an object has one for each key and one for each value.
abbrev pub entry_count : ℕ × ℕ → ℕ
entry_count header =
    if header.0 == ARRAY_CONTAINER_TAG then header.1
    else if header.0 == OBJECT_CONTAINER_TAG then 2 * header.1
    else 0

-- All entries of an array or object, in order: of an object those of its keys and then those of its
-- values.
abbrev pub entries_in : List ℕ → Result (List (Result Entry Error)) Error
entries_in bytes = header_at bytes 0
    >>= λ header. Ok (placed_from bytes (entry_count header) 4 (4 + 4 * entry_count header))

-- The entries that are left to be read, and the bytes that they are in.
pub record Run : Type 0 where
  pub bytes : List ℕ
  pub entries : List (Result Entry Error)

-- The run of the entries of `left` words from `word`, whose payloads begin at `start`.
abbrev pub run_from : List ℕ → ℕ → ℕ → ℕ → Run
run_from bytes left word start =
    record { bytes = bytes; entries = placed_from bytes left word start }

-- The run of all entries of an array or object.
abbrev pub run_in : List ℕ → Result Run Error
run_in bytes = entries_in bytes >>= λ entries. Ok (record { bytes = bytes; entries = entries })

-- The run of the entries of an array of n items.
abbrev pub item_run : List ℕ → ℕ → Run
item_run bytes n = run_from bytes n 4 (4 + 4 * n)

-- The run of the entries of the keys of an object of n pairs.
abbrev pub key_run : List ℕ → ℕ → Run
key_run bytes n = run_from bytes n 4 (4 + 8 * n)

-- The offset at which the payloads of `left` entry words from `word` end; they begin at `start`.
abbrev pub payloads_end : List ℕ → ℕ → ℕ → ℕ → Result ℕ Error
payloads_end bytes zero word start = Ok start
payloads_end bytes (suc left) word start =
    jentry_at bytes word >>= λ entry. payloads_end bytes left (word + 4) (start + entry.length)

-- The run of the entries of the values of an object of n pairs, whose payloads follow those of the
-- keys.
abbrev pub value_run : List ℕ → ℕ → Result Run Error
value_run bytes n = payloads_end bytes n 4 (4 + 8 * n)
    >>= λ start. Ok (run_from bytes n (4 + 4 * n) start)

-- What is left after the first entry: the others, and nothing after an error.
abbrev pub others_left : List (Result Entry Error) → List (Result Entry Error)
others_left [] = []
others_left (Ok entry ∷ others) = others
others_left (Err e ∷ others) = []

-- What is left after so many entries, whatever their payloads are; `InvalidEOF` if the word of one
-- of them is cut off.
abbrev pub left_after : ℕ → List (Result Entry Error)
    → Result (List (Result Entry Error)) Error
left_after zero entries = Ok entries
left_after (suc n) [] = Ok []
left_after (suc n) (Err InvalidEOF ∷ others) = Err InvalidEOF
left_after (suc n) (entry ∷ others) = left_after n others

-- The results up to and including the first error.
abbrev pub until_error : {A : Type 0} → List (Result A Error) → List (Result A Error)
until_error [] = []
until_error (Ok x ∷ others) = Ok x ∷ until_error others
until_error (Err e ∷ others) = Err e ∷ []

-- The entries of a run with their payloads, up to the first error.
abbrev pub entries_of : Run → List (Result Code Error)
entries_of run = until_error (map (entry_read run.bytes) run.entries)
