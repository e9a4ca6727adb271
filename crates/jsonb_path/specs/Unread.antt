-- How what is read of tokens relates to what its definition gives.
use Rattle.std.specs.Prelude.{◌≡◌, Option, Some, None, Result, Ok, Err, ⊤}
use Rattle.jsonb_path.specs.declared.read.scan.Unread.{Unread}
use Rattle.jsonb_path.specs.declared.read.scan.Unread.TheVariants as unread
use Rattle.jsonb_path.specs.declared.token.ReadError.{ReadError}
use Rattle.jsonb_path.specs.declared.token.ReadError.TheVariants as read_errors

-- A refusal says that nothing is written so.
abbrev pub Refuses : {Y : Type 0} → Unread → Option Y → Type 0
Refuses unread.OutOfMemory meant = ⊤
Refuses (unread.Refused n r) meant = meant ≡ None

-- What a function returns, seen through `view`, is what is meant, unless memory ran out.
abbrev pub Parses : {X Y : Type 0} → (X → Y) → Result X Unread → Option Y → Type 0
Parses view (Ok x) meant = meant ≡ Some (view x)
Parses view (Err e) meant = Refuses e meant

-- The same of a whole text.
abbrev pub Rejects : {Y : Type 0} → ReadError → Option Y → Type 0
Rejects read_errors.OutOfMemory meant = ⊤
Rejects (read_errors.Refused f) meant = meant ≡ None

abbrev pub ParsesText : {X Y : Type 0} → (X → Y) → Result X ReadError → Option Y → Type 0
ParsesText view (Ok x) meant = meant ≡ Some (view x)
ParsesText view (Err e) meant = Rejects e meant
