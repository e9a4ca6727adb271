-- Bytes of ASCII in a part of a byte string.
use Rattle.std.specs.Prelude.{ℕ, ◌<◌, ◌≤◌, List, get_or}

-- Each byte at a position from `from` up to, but not including, `upto` is ASCII.
abbrev pub IsAsciiWithin : List ℕ → ℕ → ℕ → Type 0
IsAsciiWithin bytes from upto = (k : ℕ) → from ≤ k → k < upto → get_or bytes k 0 < 128
