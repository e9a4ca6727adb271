-- The digits of a number that is split into its last pair of digits and all before it.
use Rattle.std.specs.Prelude.{ℕ, Bool, true, false, zero, suc, ◌+◌, ◌*◌, ◌/◌, ◌%◌, ◌^◌}
use Rattle.std.specs.Prelude.{List, [], ◌∷◌}
use Rattle.jsonb_comparable.specs.NumberKey.{pair_bytes, complemented}
use Rattle.jsonb_comparable.specs.declared.number.SplitDigits.{SplitDigits}

-- The digit pairs of a number in two parts: those of `high`, with their number given, and then that
-- of `low`.
unfoldable pub split_pairs : ℕ → ℕ → ℕ → List ℕ
split_pairs zero high low = (2 * low) ∷ []
split_pairs (suc k) high low = pair_bytes (high / 100 ^ k) (high % 100 ^ k * 100 + low)
    (split_pairs k (high % 100 ^ k) low)

-- The number that was split.
abbrev pub digits_value : SplitDigits → ℕ
digits_value digits = (digits.high * 100 + digits.low) * 100 ^ digits.zeros

-- The bytes of a number, complemented if it is negative.
abbrev pub signed : Bool → List ℕ → List ℕ
signed true bytes = complemented bytes
signed false bytes = bytes
