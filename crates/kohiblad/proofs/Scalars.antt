-- The bytes of scalar documents.
use Rattle.std.proofs.Common.{◌≡◌, ℕ, ◌+◌, List, ◌++◌, length, drop, sym, ap, ap₂, ◌∙◌}
use Rattle.std.proofs.Common.{append_assoc, arith}
use Rattle.std.specs.Int.{w32, to_be_bytes}
use Rattle.jsonb_codec.specs.WordBytes.{word}
use Rattle.jsonb.specs.Code.{scalar_bytes}
use Rattle.jsonb.proofs.Places.{length-word-append}

pub length-scalar_bytes : (type : ℕ) (payload : List ℕ)
    → length (scalar_bytes type payload) ≡ 8 + length payload
length-scalar_bytes type payload =
    let whole = length-word-append 536870912 (word (type + length payload) ++ payload) in
    let entry = length-word-append (type + length payload) payload in
    omega arith

-- the bytes of a word
pub word_there : (header bytes : List ℕ) (k : ℕ) → header ≡ bytes → bytes ≡ to_be_bytes w32 k
    → header ≡ word k
unfolding word
word_there header bytes k is there = is ∙ there

pub scalar_written : (type : ℕ) (payload header entry rest out : List ℕ) → header ≡ word 536870912
    → entry ≡ word (type + length payload) → rest ≡ drop (8 + length payload) out
    → (header ++ entry) ++ (payload ++ rest) ≡ scalar_bytes type payload
    ++ drop (length (scalar_bytes type payload)) out
scalar_written type payload header entry rest out header_is entry_is rest_is =
    ap₂ (λ (x y : List ℕ). (x ++ y) ++ (payload ++ rest)) header_is entry_is
    ∙ append_assoc (word 536870912) (word (type + length payload)) (payload ++ rest)
    ∙ ap (λ (x : List ℕ). word 536870912 ++ x)
    (sym (append_assoc (word (type + length payload)) payload rest))
    ∙ sym (append_assoc (word 536870912) (word (type + length payload) ++ payload) rest)
    ∙ ap (λ (x : List ℕ). scalar_bytes type payload ++ x)
    (rest_is ∙ ap (λ (n : ℕ). drop n out) (sym (length-scalar_bytes type payload)))
