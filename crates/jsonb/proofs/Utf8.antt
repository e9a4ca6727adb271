-- Testing UTF-8 by the length of the longest valid prefix.
use Rattle.std.proofs.Common.{◌≡◌, ℕ, List, length, true, false, arith, eq-eqb}
use Rattle.std.proofs.lemmas.Str.{utf8_valid_len-IsUtf8, utf8_valid_len-IsValidUpTo}
use Rattle.std.proofs.lemmas.Bool.Decides.{nat_tests}
use Rattle.std.specs.Str.{IsUtf8, IsValidUpTo}
use Rattle.std.specs.Str.Lossy.{utf8_valid_len}
use Rattle.jsonb.specs.Payloads.{is_text}

pub is_text_yes : (bytes : List ℕ) → IsUtf8 bytes → is_text bytes ≡ true
is_text_yes bytes h = eq-eqb (utf8_valid_len bytes) (length bytes) (utf8_valid_len-IsUtf8 bytes h)

pub is_text_no : (bytes : List ℕ) (n : ℕ) → IsValidUpTo bytes n → is_text bytes ≡ false
is_text_no bytes n h =
    let at = utf8_valid_len-IsValidUpTo bytes n h in
    let short = h.short in
    grind (arith, nat_tests)
