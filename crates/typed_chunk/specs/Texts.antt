-- Texts by their common beginning, how long each is behind it, and what is there.
use Rattle.std.specs.Prelude.{ℕ, pos, ◌++◌, ◌==◌, Bool, List, [], ◌∷◌, drop, fold, get_or, length}
use Rattle.std.specs.Prelude.{map, take}
use Rattle.std.specs.List.{common_prefix_len, concat}
use Rattle.typed_chunk.specs.Frame.{frame, unsigned_word}
use Rattle.typed_vector.specs.Cells.{AreEnds}
use Rattle.typed_vector.specs.ZoneMap.{set_values}

-- Texts follow one another up to the size: each ends where the next one begins.
abbrev pub AreSpans : ℕ → List ℕ → Type 0
AreSpans size [] = ⊥
AreSpans size (start ∷ ends) = AreEnds size start ends

-- What the first text shares with the other one: the bytes before the first that differs.
abbrev pub shared : List ℕ → List ℕ → List ℕ
shared text other = take (common_prefix_len (λ x y. x == y) text other) text

-- The longest beginning of all texts that has at most so many bytes.
abbrev pub common : ℕ → List (List ℕ) → List ℕ
common most texts = fold shared (take most (get_or texts 0 [])) texts

-- The longest beginning, of at most 255 bytes, of all rows that have a text.
abbrev pub beginning : List (List ℕ) → List Bool → List ℕ
beginning texts has = common 255 (set_values texts has)

-- What is behind so many bytes of each text.
abbrev pub tails : ℕ → List (List ℕ) → List (List ℕ)
tails size texts = map (drop size) texts

-- The bytes of texts: the frame of their lengths, and their own.
abbrev pub measured : List (List ℕ) → List ℕ
measured texts = frame (unsigned_word 4) (map pos (map length texts)) ++ concat texts

-- The bytes of texts that all begin so: how long the beginning is, it, and what is behind it.
abbrev pub begun : List ℕ → List (List ℕ) → List ℕ
begun start texts = length start ∷ (start ++ measured (tails (length start) texts))

-- The bytes of the rows' texts.
abbrev pub text_bytes : List (List ℕ) → List Bool → List ℕ
text_bytes texts has = begun (beginning texts has) texts
