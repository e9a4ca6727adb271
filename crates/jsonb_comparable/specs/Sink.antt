-- Where the bytes of a key go.
use Rattle.std.specs.Prelude.{◌≡◌, ℕ, ◌+◌, ◌-◌, ◌^◌, List, ◌++◌, length, min}
pub use Rattle.jsonb_value.specs.Text.{length_64}
use Rattle.jsonb_comparable.specs.declared.sink.KeyLength.{KeyLength}

-- Room for bytes is room for a beginning of them, and then for the rest; and bytes of which one
-- part is appended after the other are appended.
pub record SinkLaws {S : Type 0} (room : S → List ℕ → Type 0)
    (appends : S → S → List ℕ → Type 0) : Type 0 where
  pub room_first : (s : S) (a b : List ℕ) → room s (a ++ b) → room s a
  pub room_rest : (s t : S) (a b : List ℕ) → room s (a ++ b) → appends s t a → room t b
  pub joins : (s t u : S) (a b : List ℕ) → appends s t a → appends t u b → appends s u (a ++ b)

-- The bytes are counted, up to the greatest length.
abbrev pub CountsBytes : KeyLength → KeyLength → List ℕ → Type 0
CountsBytes old new bytes = new.len ≡ min (old.len + length bytes) (2 ^ 64 - 1)
