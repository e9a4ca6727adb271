-- How the result of a parser function relates to what is read from the same characters.
use Rattle.std.specs.Prelude.{◌≡◌, ℕ, ◌<◌, List, [], length, Option, Some, None, Result, Ok, Err, ⊤}
use Rattle.jsonb_value.specs.declared.error.Error.{Error}
use Rattle.jsonb_value.specs.declared.error.Error.TheVariants.{OutOfMemory, InvalidJson}
use Rattle.jsonb_value.specs.Reader.Reading.{read_text}

-- `InvalidJson` means that nothing can be read; `OutOfMemory` says nothing; no other error occurs.
abbrev pub Fails : {Y : Type 0} → Error → Option Y → Type 0
Fails InvalidJson read = read ≡ None
Fails OutOfMemory read = ⊤
Fails _ read = ⊥

-- The same, where `InvalidJson` says so only if A holds.
abbrev pub FailsIf : {Y : Type 0} → Type 0 → Error → Option Y → Type 0
FailsIf A InvalidJson read = A → read ≡ None
FailsIf A OutOfMemory read = ⊤
FailsIf A _ read = ⊥

-- A success is, seen through `view`, what is read; an error is as `Fails` says.
abbrev pub Gives : {X Y : Type 0} → (X → Y) → Result X Error → Option Y → Type 0
Gives view (Ok x) read = read ≡ Some (view x)
Gives view (Err e) read = Fails e read

-- The characters are the rest of a string, which has these bytes, and these characters after it.
abbrev pub GivesString : List ℕ → List ℕ → List ℕ → Type 0
GivesString s string after = (n : ℕ) → length s < n → read_text n [] s ≡ Some (string, after)

-- An error of reading the rest of a string is as `Fails` says.
abbrev pub FailsString : List ℕ → Error → Type 0
FailsString s e = (n : ℕ) → length s < n → Fails e (read_text n [] s)
