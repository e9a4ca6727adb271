-- Consecutive rows of bytes, given by offsets: each row reaches from its offset to the next one.
use Rattle.std.specs.Prelude.{ℕ, ◌&&◌, nat_le, Bool, true, List, [], ◌∷◌}

-- No offset is below the previous one or above `size`; the one before the first is `start`.
abbrev pub are_offsets : ℕ → ℕ → List ℕ → Bool
are_offsets size start [] = true
are_offsets size start (end ∷ ends) =
    nat_le start end && (nat_le end size && are_offsets size end ends)

-- The rows as pairs: a key, then its document, and so on.
abbrev pub row_pairs : List (List ℕ) → List (List ℕ × List ℕ)
row_pairs [] = []
row_pairs (key ∷ []) = []
row_pairs (key ∷ document ∷ left) = (key, document) ∷ row_pairs left
