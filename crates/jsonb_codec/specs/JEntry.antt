-- Entry words.
use Rattle.std.specs.Prelude.{ℕ, ◌-◌, ◌%◌, ◌^◌, List, Result, Ok, Err}
use Rattle.std.specs.Ordering.{nat_cmp, on, then_cmp}
use Rattle.std.specs.declared.cmp.Ordering.{Ordering}
use Rattle.jsonb_value.specs.declared.error.Error.{Error}
use Rattle.jsonb_codec.specs.declared.jentry.JEntry.{JEntry}
use Rattle.jsonb_codec.specs.WordBytes.{word_at}

-- The type and the length of an entry word, whose top bit is ignored.
abbrev pub jentry_of : ℕ → JEntry
jentry_of k = record { type_code = k % 2 ^ 31 - k % 2 ^ 28; length = k % 2 ^ 28 }

-- The entry of a word that was read.
abbrev pub jentry_in : Result ℕ Error → Result JEntry Error
jentry_in (Ok k) = Ok (jentry_of k)
jentry_in (Err e) = Err e

-- The entry at `index`, or `InvalidEOF` if the bytes end before it does.
abbrev pub jentry_at : List ℕ → ℕ → Result JEntry Error
jentry_at bytes index = jentry_in (word_at bytes index)

-- Compares entries by type, then by length.
abbrev pub jentry_cmp : JEntry → JEntry → Ordering
jentry_cmp = then_cmp (on (λ e. e.type_code) nat_cmp) (on (λ e. e.length) nat_cmp)
