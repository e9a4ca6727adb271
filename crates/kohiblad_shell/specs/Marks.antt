-- A byte order mark at the start of an input.
use Rattle.std.specs.Prelude.{ℕ, Bool, true, false, List, [], ◌∷◌, Option}
use Rattle.std.specs.Io.KnownBytes.{Consumes, Keeps}

-- The bytes of the mark in UTF-8.
abbrev pub byte_order_mark : List ℕ
byte_order_mark = 239 ∷ 187 ∷ 191 ∷ []

-- The mark was taken, or nothing was.
abbrev pub PassesMark : Option (List ℕ) → Option (List ℕ) → Bool → Type 0
PassesMark old new true = Consumes old new byte_order_mark
PassesMark old new false = Keeps old new
