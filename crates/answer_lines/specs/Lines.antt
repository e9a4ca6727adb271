-- Bytes as lines.
use Rattle.std.specs.Prelude.{◌≡◌, ◌≢◌, ℕ, List, [], ◌∷◌, ◌++◌, All}

-- Lines, each followed by its line feed.
abbrev pub line_bytes : List (List ℕ) → List ℕ
line_bytes [] = []
line_bytes (line ∷ lines) = line ++ 10 ∷ line_bytes lines

-- The bytes have no line feed.
abbrev pub IsLine : List ℕ → Type 0
IsLine bytes = All (λ b. b ≢ 10) bytes

-- The bytes after the last line feed as a line; none if they are empty.
abbrev pub last_line : List ℕ → List (List ℕ)
last_line [] = []
last_line (b ∷ rest) = (b ∷ rest) ∷ []

-- The lines of the bytes, in order.
pub record AreLines (bytes : List ℕ) (lines : List (List ℕ)) : Type 0 where
  pub whole : List (List ℕ)
  pub rest : List ℕ
  pub parts : bytes ≡ line_bytes whole ++ rest
  pub lines_are : lines ≡ whole ++ last_line rest
  pub whole_lines : All IsLine whole
  pub rest_line : IsLine rest
