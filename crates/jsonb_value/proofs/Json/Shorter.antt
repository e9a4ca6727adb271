-- Reading consumes characters from the start.
use Rattle.std.proofs.Common.{◌≡◌, ℕ, ◌<◌, ◌≤◌, Some, ap, List, ◌∷◌, length, arith, length-append}
use Rattle.jsonb_value.specs.Json.Characters.{quote}
use Rattle.jsonb_value.specs.Json.Piece.{piece_text, pieces_text}
use Rattle.jsonb_value.specs.Reader.Reading.{skip_blank, expect, read_piece, read_text}
use Rattle.jsonb_value.proofs.Json.TextLaws.{piece-found, text-found, piece_length}
use Rattle.jsonb_value.proofs.Json.ValueLaws.{skip-split, expect-found}

pub piece_shorter : (s : List ℕ) (c : ℕ) (rest : List ℕ) → read_piece s ≡ Some (c, rest)
    → length rest < length s
piece_shorter s c rest e =
    let found = piece-found s c rest e in
    omega (
      arith,
      ap length found.is_spelled,
      length-append
          (piece_text found.piece) rest,
      piece_length found.piece,
    )

pub text_shorter : (n : ℕ) (front s bytes rest : List ℕ) → read_text n front s ≡ Some (bytes, rest)
    → length rest < length s
text_shorter n front s bytes rest e =
    let found = text-found n front s bytes rest e in
    omega (
      arith,
      ap length found.is_spelled,
      length-append (pieces_text found.pieces)
          (quote ∷ rest),
    )

pub skip_shorter : (s : List ℕ) → length (skip_blank s) ≤ length s
skip_shorter s =
    let found = skip-split s in
    omega (arith, ap length found.is_spelled, length-append found.blank (skip_blank s))

pub expect_shorter : (k : ℕ) (s rest : List ℕ) → expect k s ≡ Some rest → length rest < length s
expect_shorter k s rest e = grind (arith, expect-found)
