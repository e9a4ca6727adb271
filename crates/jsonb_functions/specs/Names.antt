-- Names that are read from a text one after another.
use Rattle.std.specs.Prelude.{◌≡◌, ◌≤◌, ⊤, ℕ, List, [], ◌∷◌, map, Option, None, Some, string_bytes}
use Rattle.std.specs.Borrow.{Bor}
use Rattle.std.specs.declared.alloc.Global.{Global}
use Rattle.std.specs.Prelude.{String, Vec}

-- The bytes of names.
abbrev pub names_of : Vec (String Global) Global → List (List ℕ)
names_of names = map string_bytes names.items

-- The bytes of a name, and those after it.
abbrev pub name_and_rest : String Global × Bor (List ℕ) → List ℕ × List ℕ
name_and_rest read = (string_bytes read.0, read.1.now)

-- The bytes are none, or begin with one that is not ASCII.
abbrev pub BeginsNoMark : List ℕ → Type 0
BeginsNoMark [] = ⊤
BeginsNoMark (c ∷ bytes) = 128 ≤ c

-- One more byte in front of a name.
abbrev pub with_byte : ℕ → Option (List ℕ × List ℕ) → Option (List ℕ × List ℕ)
with_byte c None = None
with_byte c (Some (name, rest)) = Some (c ∷ name, rest)

-- The bytes are these names, each as a reader finds it and what is after it, and then the end.
abbrev pub AreNames : (List ℕ → Option (List ℕ × List ℕ)) → List ℕ → List ℕ → List (List ℕ) → Type 0
AreNames read end bytes [] = bytes ≡ end
AreNames read end bytes (name ∷ names) =
    (rest : List ℕ) × (read bytes ≡ Some (name, rest)) × AreNames read end rest names
