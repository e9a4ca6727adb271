-- The keys of numbers: one key for all numbers of one value.
use Rattle.std.specs.Prelude.{ℕ, ℤ, pos, negsuc, zero, suc, ◌+◌, ◌-◌, ◌*◌, ◌/◌, ◌%◌, ◌^◌, ◌*ℤ◌}
use Rattle.std.specs.Prelude.{List, [], ◌∷◌, ◌++◌, map, cond, nat_lt}
use Rattle.jsonb_value.specs.declared.number.Number.{Number}
use Rattle.jsonb_value.specs.Fraction.{Fraction}
use Rattle.jsonb_value.specs.Order.{fraction_of}

-- A pair of digits, doubled. Where the rest of the number is not 0 it is one more, and the bytes of
-- the rest follow.
abbrev pub pair_bytes : ℕ → ℕ → List ℕ → List ℕ
pair_bytes digits zero following = (2 * digits) ∷ []
pair_bytes digits (suc rest) following = (2 * digits + 1) ∷ following

-- The k + 1 pairs of decimal digits of a number below 100 ^ (k + 1), the most significant first, up
-- to the last that is not 0.
unfoldable pub digit_pairs : ℕ → ℕ → List ℕ
digit_pairs zero n = (2 * n) ∷ []
digit_pairs (suc k) n = pair_bytes (n / 100 ^ suc k) (n % 100 ^ suc k)
    (digit_pairs k (n % 100 ^ suc k))

-- How many pairs of digits there are: one byte where the value is at least 1, which has more than
-- 128 pairs, and else two bytes.
abbrev pub count_bytes : ℕ → List ℕ
count_bytes k = cond (nat_lt k 129) (129 ∷ k ∷ []) ((k + 1) ∷ [])

-- The key of a number of at most k pairs of digits: how many it has, and these pairs. Zero has
-- none.
unfoldable pub key_of_pairs : ℕ → ℕ → List ℕ
key_of_pairs zero n = 128 ∷ []
key_of_pairs (suc k) n = cond (nat_lt n (100 ^ k))
    (key_of_pairs k n)
    (count_bytes (suc k) ++ digit_pairs k n)

-- The key of a whole number below 100 ^ 148.
unfoldable pub natural_key : ℕ → List ℕ
natural_key n = key_of_pairs 148 n

-- Each byte subtracted from 255, which reverses the order.
abbrev pub complemented : List ℕ → List ℕ
complemented = map (λ b. 255 - b)

-- A negative number has the complemented key of its magnitude.
abbrev pub integer_key : ℤ → List ℕ
integer_key (pos n) = natural_key n
integer_key (negsuc n) = complemented (natural_key (suc n))

-- The value times 10 ^ 256, which is whole, since no scale is above 255.
unfoldable pub scaled_value : Fraction → ℤ
scaled_value x = x.value *ℤ pos (10 ^ (256 - x.scale))

-- The key of a decimal: of its value at the common scale.
abbrev pub decimal_key : ℤ → ℕ → List ℕ
decimal_key v s = integer_key (scaled_value (record { value = v; scale = s }))

-- The key of a number is that of its scaled value.
abbrev pub number_key : Number → List ℕ
number_key x = integer_key (scaled_value (fraction_of x))
