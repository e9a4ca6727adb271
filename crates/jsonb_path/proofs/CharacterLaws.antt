-- Characters and their bytes.
use Rattle.std.proofs.Common.{◌≡◌, ℕ, List, ap, sym, length, chars}
use Rattle.std.specs.Prelude.{IsUtf8}
use Rattle.std.proofs.lemmas.Str.{encodes-chars}
use Rattle.jsonb_path.specs.Character.{byte_len}

pub bytes_counted : (bs : List ℕ) → IsUtf8 bs → length bs ≡ byte_len (chars bs)
bytes_counted bs u = ap length (sym (encodes-chars bs u))
