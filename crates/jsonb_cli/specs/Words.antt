-- Words between single spaces.
use Rattle.std.specs.Prelude.{◌≢◌, ◌==◌, ℕ, List, [], ◌∷◌, ◌++◌, All, Option, None, Some}
use Rattle.std.specs.List.{slice_split}
use Rattle.std.specs.Borrow.{Bor}

-- The bytes have no space.
abbrev pub IsWord : List ℕ → Type 0
IsWord bytes = All (λ b. b ≢ 32) bytes

-- A space and the bytes after it, if there is one.
abbrev pub after_space : Option (Bor (List ℕ)) → List ℕ
after_space None = []
after_space (Some rest) = 32 ∷ rest.now

-- Words, each preceded by a space.
abbrev pub words_after_spaces : List (List ℕ) → List ℕ
words_after_spaces [] = []
words_after_spaces (word ∷ words) = 32 ∷ (word ++ words_after_spaces words)

-- The words after a space: the parts between single spaces, each of which may be empty.
abbrev pub words_from : Option (Bor (List ℕ)) → List (List ℕ)
words_from None = []
words_from (Some rest) = slice_split (λ b. b == 32) rest.now
