-- Payloads at the front of a word.
use Rattle.std.proofs.Common.{◌<◌, ℕ, zero, suc, [], ◌∷◌, arith, get_or}

-- Five bytes and three zeros are bytes.
pub five_small : (a b c d e : ℕ) → a < 256 → b < 256 → c < 256 → d < 256 → e < 256 → (i : ℕ)
    → get_or (a ∷ b ∷ c ∷ d ∷ e ∷ 0 ∷ 0 ∷ 0 ∷ []) i 0 < 256
five_small a b c d e ha hb hc hd he zero = ha
five_small a b c d e ha hb hc hd he (suc zero) = hb
five_small a b c d e ha hb hc hd he (suc (suc zero)) = hc
five_small a b c d e ha hb hc hd he (suc (suc (suc zero))) = hd
five_small a b c d e ha hb hc hd he (suc (suc (suc (suc zero)))) = he
five_small a b c d e ha hb hc hd he (suc (suc (suc (suc (suc zero))))) = omega arith
five_small a b c d e ha hb hc hd he (suc (suc (suc (suc (suc (suc zero)))))) = omega arith
five_small a b c d e ha hb hc hd he (suc (suc (suc (suc (suc (suc (suc zero))))))) = omega arith
five_small a b c d e ha hb hc hd he (suc (suc (suc (suc (suc (suc (suc (suc i)))))))) = omega arith
