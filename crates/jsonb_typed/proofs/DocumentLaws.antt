-- A document has some bytes.
use Rattle.std.proofs.Common.{◌≡◌, ℕ, ◌<◌, List, ◌++◌, length, true, false, refl, ap, inl, inr}
use Rattle.std.proofs.Common.{arith}
use Rattle.std.proofs.lemmas.List.{length-append}
use Rattle.jsonb_value.specs.Tree as trees
use Rattle.jsonb_value.specs.Tree.{Tree}
use Rattle.jsonb_codec.specs.declared.constants.TheConstants.{SCALAR_CONTAINER_TAG}
use Rattle.jsonb_codec.specs.Doc.{Doc}
use Rattle.jsonb_codec.specs.WordBytes.{word}

length-word : (k : ℕ) → length (word k) ≡ 4
unfolding word
length-word k = refl

after_word : (b rest : List ℕ) (k : ℕ) → b ≡ word k ++ rest → 0 < length b
after_word b rest k parts =
    omega (arith, ap length parts, length-append (word k) rest, length-word k)

pub some_bytes : (b : List ℕ) (t : Tree) → Doc b t → 0 < length b
some_bytes b t (inl h) = after_word b _ SCALAR_CONTAINER_TAG h.1.parts
some_bytes b (trees.object ps) (inr h) = after_word b h.1.1.rest _ h.1.1.parts
some_bytes b (trees.array ts) (inr h) = after_word b h.1.rest _ h.1.parts
some_bytes b trees.null (inr h) = absurd (omega (arith, h.0))
some_bytes b (trees.boolean true) (inr h) = absurd (omega (arith, h.0))
some_bytes b (trees.boolean false) (inr h) = absurd (omega (arith, h.0))
some_bytes b (trees.number v) (inr h) = absurd (omega (arith, h.0))
some_bytes b (trees.text v) (inr h) = absurd (omega (arith, h.0))
some_bytes b (trees.extension v) (inr h) = absurd (omega (arith, h.0))
