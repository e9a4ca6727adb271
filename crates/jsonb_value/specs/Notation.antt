-- The short forms in which examples are written.
use Rattle.std.specs.Prelude.{ℕ, suc, ◌+◌, ◌*◌, ◌==◌, ℤ, pos, negsuc, Bool, true, false, List, []}
use Rattle.std.specs.Prelude.{◌∷◌, codes}
use Rattle.std.specs.Char.{digit_value}
use Prim.Native.String.{String}
use Rattle.jsonb_value.specs.declared.number.Number.{Number}
use Rattle.jsonb_value.specs.declared.number.Number.TheVariants.{UInt64, Decimal64, Decimal128}
use Rattle.jsonb_value.specs.Tree.{Tree, number, text, array, object, Pairs, no_pairs, pair}
use Rattle.jsonb_value.specs.Value.{trees_of}

abbrev unless_space : Bool → ℕ → List ℕ → List ℕ
unless_space true c cs = cs
unless_space false c cs = c ∷ cs

abbrev without_spaces : List ℕ → List ℕ
without_spaces [] = []
without_spaces (c ∷ cs) = unless_space (c == 32) c (without_spaces cs)

abbrev spelled : List ℕ → List ℕ
spelled (high ∷ (low ∷ rest)) = (digit_value high * 16 + digit_value low) ∷ spelled rest
spelled rest = []

-- The bytes that hexadecimal digits spell; spaces mean nothing.
abbrev pub hex : String → List ℕ
hex s = spelled (without_spaces (codes s))

-- The integer -n.
abbrev pub neg : ℕ → ℤ
neg (suc n) = negsuc n
neg n = pos 0

-- An integer without a sign.
abbrev pub whole : ℕ → Tree
whole n = number (UInt64 n)

-- A value divided by ten to the power of a scale, in 64 and in 128 bits.
abbrev pub scaled : ℤ → ℕ → Number
scaled v s = Decimal64 record { scale = s; value = v }

abbrev pub wide : ℤ → ℕ → Number
wide v s = Decimal128 record { scale = s; value = v }

-- The string of these characters.
abbrev pub string : String → Tree
string s = text (codes s)

-- The array of these items.
abbrev pub items : List Tree → Tree
items ts = array (trees_of ts)

-- The pairs of these keys and values.
abbrev pub fields : List (String × Tree) → Pairs
fields [] = no_pairs
fields (m ∷ ms) = pair (codes m.0) m.1 (fields ms)

-- The object of these keys and values.
abbrev pub members : List (String × Tree) → Tree
members ms = object (fields ms)
