-- The lengths of texts that follow each other add up, and stay the greatest once they are.
use Rattle.std.proofs.Common.{◌≡◌, ℕ, ◌+◌, ◌-◌, ◌^◌, List, ◌++◌, length, arith, length-append, min}
use Rattle.jsonb_value.specs.Text.{length_64}

-- the sum of two lengths, as the code adds them
abbrev pub plus_64 : ℕ → ℕ → ℕ
plus_64 m n = min (m + n) (2 ^ 64 - 1)

pub adds : (a b : List ℕ) (m n : ℕ) → m ≡ length_64 a → n ≡ length_64 b
    → plus_64 m n ≡ length_64 (a ++ b)
adds a b m n first second = omega (arith, first, second, length-append a b)

-- a bracket or a comma, and what follows it
pub adds_byte : (byte a : List ℕ) (m : ℕ) → length byte ≡ 1 → m ≡ length_64 a
    → plus_64 m 1 ≡ length_64 (byte ++ a)
adds_byte byte a m one first = omega (arith, one, first, length-append byte a)

-- the line of a closing bracket
pub adds_end : (a b byte : List ℕ) (m n : ℕ) → length byte ≡ 1 → m ≡ length_64 a
    → n ≡ length_64 b → plus_64 m (plus_64 n 1) ≡ length_64 (a ++ (b ++ byte))
adds_end a b byte m n one first second =
    omega (arith, one, first, second, length-append a (b ++ byte), length-append b byte)

pub adds_four : (a b c d : List ℕ) (k m n o : ℕ) → k ≡ length_64 a → m ≡ length_64 b
    → n ≡ length_64 c → o ≡ length_64 d
    → plus_64 (plus_64 k m) (plus_64 n o) ≡ length_64 (a ++ (b ++ (c ++ d)))
adds_four a b c d k m n o one two three four =
    omega (
      arith,
      one,
      two,
      three,
      four,
      length-append a (b ++ (c ++ d)),
      length-append b (c ++ d),
      length-append c d,
    )
