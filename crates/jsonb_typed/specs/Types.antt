-- Which values of a column stand for which members.
use Rattle.std.specs.Prelude.{◌≡◌, ◌<◌, ◌^◌, List, ℕ, ℤ, pos, FitsSigned, Option, None, Some}
use Rattle.std.specs.Int.{w64, w128}
use Rattle.jsonb_value.specs.Tree.{Tree, number, text, extension, binary}
use Rattle.jsonb.specs.Node.{IsContainer}
use Rattle.jsonb_typed.specs.declared.numbers.Fit.{Fit}
use Rattle.jsonb_typed.specs.Numbers.{IsNumberAt}

-- No value stands for an array or object.
abbrev pub HoldsScalars : {V : Type 0} → (V → Tree → Type 0) → Type 0
HoldsScalars {V = V} Stands = (v : V) (t : Tree) → IsContainer t → Stands v t → ⊥

-- The value / 10^scale is this member, a number, as the fit says.
abbrev pub IsAtScale : Fit → ℕ → ℤ → Tree → Type 0
IsAtScale fit scale v (number x) = IsNumberAt fit scale v x
IsAtScale fit scale v t = ⊥

-- The same of a whole number of 64 bits with a sign.
abbrev pub IsInt64 : Fit → ℤ → Tree → Type 0
IsInt64 fit v t = FitsSigned w64 v × IsAtScale fit 0 v t

-- The same of a whole number of 64 bits without a sign.
abbrev pub IsUInt64 : Fit → ℕ → Tree → Type 0
IsUInt64 fit n t = (n < 2 ^ 64) × IsAtScale fit 0 (pos n) t

-- The same of a value of 128 bits.
abbrev pub IsDecimalAt : Fit → ℕ → ℤ → Tree → Type 0
IsDecimalAt fit scale v t = FitsSigned w128 v × IsAtScale fit scale v t

-- The tree of an extension value; no other has one.
abbrev pub extension_tree : Tree → Option Tree
extension_tree (extension e) = Some (extension e)
extension_tree t = None

-- The member is the text of these bytes.
abbrev pub IsText : List ℕ → Tree → Type 0
IsText s t = t ≡ text s

-- The member is the binary value of these bytes.
abbrev pub IsBinary : List ℕ → Tree → Type 0
IsBinary s t = t ≡ extension (binary s)
