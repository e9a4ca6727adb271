-- How the result of a function relates to what its definition gives.
use Rattle.std.specs.Prelude.{◌≡◌, ℕ, Result, Ok, Err, ⊤}
use Rattle.jsonb_path.specs.declared.token.PathFault.{PathFault}
use Rattle.jsonb_path.specs.declared.token.Reason.{Reason}
use Rattle.jsonb_path.specs.declared.token.ReadError.{ReadError}
use Rattle.jsonb_path.specs.declared.token.ReadError.TheVariants as read_errors
use Rattle.jsonb_path.specs.declared.token.Stop.{Stop}
use Rattle.jsonb_path.specs.declared.token.Stop.TheVariants as stops

infixl 10 ◌>>>◌
-- The second step from the result of the first, or the error of the first.
abbrev pub ◌>>>◌ : {A B E : Type 0} → Result A E → (A → Result B E) → Result B E
(Ok a) >>> f = f a
(Err e) >>> f = Err e

-- An error is the one that is meant, unless memory ran out.
abbrev pub Stops : {Y : Type 0} → Stop → Result Y Reason → Type 0
Stops stops.OutOfMemory meant = ⊤
Stops (stops.Refused r) meant = meant ≡ Err r

-- What a function returns, seen through `view`, is what is meant, unless memory ran out.
abbrev pub Reads : {X Y : Type 0} → (X → Y) → Result X Stop → Result Y Reason → Type 0
Reads view (Ok x) meant = meant ≡ Ok (view x)
Reads view (Err e) meant = Stops e meant

-- The same of a whole text, where an error has its place.
abbrev pub IsRefused : {Y : Type 0} → ReadError → Result Y PathFault → Type 0
IsRefused read_errors.OutOfMemory meant = ⊤
IsRefused (read_errors.Refused f) meant = meant ≡ Err f

abbrev pub ReadsText : {X Y : Type 0} → (X → Y) → Result X ReadError → Result Y PathFault
    → Type 0
ReadsText view (Ok x) meant = meant ≡ Ok (view x)
ReadsText view (Err e) meant = IsRefused e meant

-- The error of a token that begins at this byte.
abbrev pub error_at : ℕ → Stop → ReadError
error_at at stops.OutOfMemory = read_errors.OutOfMemory
error_at at (stops.Refused r) = read_errors.Refused (record { at = at; reason = r })
