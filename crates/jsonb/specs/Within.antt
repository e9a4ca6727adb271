-- What bytes mean to a caller that accepts only documents of a limited depth.
use Rattle.std.specs.Prelude.{ℕ, List, cond, nat_le}
use Rattle.jsonb_value.specs.Meaning.{Meaning, document, other_bytes}
use Rattle.jsonb_codec.specs.Depth.{depth}
use Rattle.jsonb.specs.ItemMeaning.{meaning_of}

-- The tree if it has at most this depth, and otherwise the bytes.
abbrev pub limited : ℕ → List ℕ → Meaning → Meaning
limited limit b (document t) = cond (nat_le (depth t) limit) (document t) (other_bytes b)
limited limit b (other_bytes others) = other_bytes b

-- What bytes mean when documents may have at most this depth: the tree of such a document, and of
-- all others the bytes themselves.
abbrev pub meaning_within : ℕ → List ℕ → Meaning
meaning_within limit b = limited limit b (meaning_of b)
