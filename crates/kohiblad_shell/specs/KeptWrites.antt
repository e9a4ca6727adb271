-- Rows that are written, or kept, by their keys.
use Rattle.std.specs.Prelude.{◌≡◌, ◌⊎◌, ℕ, List, [], Option, cond}
use Rattle.std.specs.Io.KnownBytes.{Appends}
use Rattle.answer_lines.specs.Output.{AppendsPrefix}
use Rattle.kept_rows.specs.FirstRows.{has_key, with_key}
use Rattle.kept_rows.specs.TopRows.{Top, with_added}
use Rattle.kohiblad_shell.specs.Sorts.{keyed_bytes}
use Rattle.kohiblad_shell.specs.declared.sort.Keyed.{Keyed}

-- The line of a row, if its key is not among these.
abbrev pub line_if_new : List (List ℕ) → Keyed → List ℕ
line_if_new keys row = cond (has_key keys row.key.now) [] row.line.now

-- The bytes are a row after its key, which was added to the keys, and its line was appended if the
-- key is new.
abbrev pub WritesIfNew : (old_keys new_keys : List (List ℕ))
    (old_output new_output : Option (List ℕ)) → List ℕ → Type 0
WritesIfNew old_keys new_keys old_output new_output bytes = (row : Keyed)
    × (bytes ≡ keyed_bytes row) × (new_keys ≡ with_key old_keys row.key.now)
    × Appends old_output new_output (line_if_new old_keys row)

-- The output is as it was, or the bytes are a row after its key, and a prefix of its line was
-- appended, if the key is new.
abbrev pub AppendsPrefixIfNew : (keys : List (List ℕ)) (old_output new_output : Option (List ℕ))
    → List ℕ → Type 0
AppendsPrefixIfNew keys old_output new_output bytes = AppendsPrefix old_output new_output []
    ⊎ ((row : Keyed) × (bytes ≡ keyed_bytes row)
    × AppendsPrefix old_output new_output (line_if_new keys row))

-- The bytes are a row after its key, which was added to those of which the first ones are kept.
abbrev pub KeepsAmongFirst : Top → Top → List ℕ → Type 0
KeepsAmongFirst old new bytes = (row : Keyed) × (bytes ≡ keyed_bytes row)
    × (new ≡ with_added old (record { key = row.key.now; line = row.line.now }))
