-- The texts of characters, one after another.
use Rattle.std.proofs.Common.{◌≡◌, ◌<◌, ◌+◌, ◌++◌, ◌∷◌, ◌∙◌, [], ℕ, List, length, take, sym, ap}
use Rattle.std.proofs.Common.{append-nil, encode_utf8, encode_utf8_all}
use Rattle.std.specs.Prelude.{slice_index_or}
use Rattle.std.proofs.lemmas.List.{take_more}
use Rattle.std.proofs.lemmas.Str.{encodes-append}

-- the text of one character more
pub text_more : (cs : List ℕ) (i c : ℕ) → i < length cs → c ≡ slice_index_or cs i c
    → encode_utf8_all (take (i + 1) cs) ≡ encode_utf8_all (take i cs) ++ encode_utf8 c
text_more cs i c low is =
    ap encode_utf8_all (take_more cs i c low ∙ ap (λ x. take i cs ++ x ∷ []) (sym is))
    ∙ encodes-append (take i cs) (c ∷ [])
    ∙ ap (λ b. encode_utf8_all (take i cs) ++ b) (append-nil (encode_utf8 c))
