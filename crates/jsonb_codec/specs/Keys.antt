-- The keys of an object's members while they are read.
use Rattle.std.specs.Prelude.{◌≡◌, ◌≤◌, ◌<◌, ◌-◌, ℕ, List, [], ◌∷◌, length, take, drop, get_or, ⊤}
use Rattle.std.specs.Global.{Vec}
use Rattle.jsonb_value.specs.Json.Syntax.{Entries}
use Rattle.jsonb_value.specs.Tree.{Tree}
use Rattle.jsonb_codec.specs.declared.tape.key.Key.{Key}
use Rattle.jsonb_codec.specs.declared.tape.key.Key.TheVariants as keys

-- The bytes of a key, where `spelled` are the bytes of the keys that are spelled with escapes.
abbrev pub key_bytes : List ℕ → Key → List ℕ
key_bytes spelled (keys.Text text) = text.now
key_bytes spelled (keys.Spelled start end) = take (end - start) (drop start spelled)

-- The bytes of the key are in the text or among those of the keys with escapes.
abbrev pub IsKey : List ℕ → Key → Type 0
IsKey spelled (keys.Text text) = ⊤
IsKey spelled (keys.Spelled start end) = (start ≤ end) × (end ≤ length spelled)

-- The member with this number is this one.
abbrev pub IsPicked : Entries → ℕ → List ℕ × Tree → Type 0
IsPicked read i e = (i < length read) × (get_or read i e ≡ e)

-- The members with these numbers are these.
abbrev pub Picks : Entries → List ℕ → Entries → Type 0
Picks read [] [] = ⊤
Picks read (i ∷ is) (e ∷ es) = IsPicked read i e × Picks read is es
Picks read _ _ = ⊥

-- The numbers by keys are those of these members.
abbrev pub AreNumbered : Entries → List (Vec ℕ × ℕ) → Entries → Type 0
AreNumbered read [] [] = ⊤
AreNumbered read (x ∷ xs) (e ∷ es) =
    ((x.0.items ≡ e.0) × IsPicked read x.1 e) × AreNumbered read xs es
AreNumbered read _ _ = ⊥
