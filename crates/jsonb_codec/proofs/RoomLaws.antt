-- Words at an index of a byte string, and reading them.
use Rattle.std.proofs.Common.{◌≡◌, ℕ, ◌+◌, ◌^◌, ◌<◌, ◌≤◌, List, ◌++◌, Vec, Global, Ok}
use Rattle.std.proofs.Common.{length, rules, take, drop, ap, ◌∙◌, arith, length-append}
use Rattle.std.proofs.Common.{append_assoc}
use Rattle.std.specs.Int.{w32, from_be_bytes}
use Rattle.std.proofs.lemmas.List.{drop_at, take_at, append-nil}
use Rattle.jsonb_codec.specs.WordBytes.{word, word_at}
use Rattle.jsonb_codec.specs.Room.{AppendsBytes, HasWordsAt}
use Rattle.jsonb_codec.proofs.Words.{length-word, length-word-append, word-value}

-- appended words are at the old end
pub HasWordsAt-Appended : {old new : Vec ℕ Global} {words : List ℕ} → AppendsBytes old new words
    → HasWordsAt (length old.items) words new.items
HasWordsAt-Appended {old} h = grind (arith, append-nil)

-- words stay at their index when more is appended
pub HasWordsAt-more : {old new : Vec ℕ Global} {bytes : List ℕ} (at : ℕ) (words : List ℕ)
    → HasWordsAt at words old.items → AppendsBytes old new bytes → HasWordsAt at words new.items
HasWordsAt-more {bytes = bytes} at words s h = record {
  front = s.front;
  rest = s.rest ++ bytes;
  parts = simp (h.items, s.parts, append_assoc);
  is_at = s.is_at;
}

-- the words after the first one
pub HasWordsAt-next : (at k : ℕ) (others bytes : List ℕ) → HasWordsAt at (word k ++ others) bytes
    → HasWordsAt (at + 4) others bytes
HasWordsAt-next at k others bytes s = record {
  front = s.front ++ word k;
  rest = s.rest;
  parts = rw append_assoc (rw append_assoc at s.parts);
  is_at = omega (arith, length-append s.front (word k), length-word k, s.is_at);
}

-- the first ones alone
pub HasWordsAt-first : (at : ℕ) (words others bytes : List ℕ)
    → HasWordsAt at (words ++ others) bytes
    → HasWordsAt at words bytes
HasWordsAt-first at words others bytes s = record {
  front = s.front;
  rest = others ++ s.rest;
  parts = rw append_assoc at s.parts;
  is_at = s.is_at;
}

-- A word is inside the bytes.
HasWordsAt-within : (at k : ℕ) (bytes : List ℕ) → HasWordsAt at (word k) bytes
    → at + 4 ≤ length bytes
HasWordsAt-within at k bytes s = omega (
  arith,
  ap length s.parts ∙ length-append s.front (word k ++ s.rest),
  length-word-append k s.rest,
  s.is_at,
)

-- Reading at the index gives the word.
HasWordsAt-read : (at k : ℕ) (bytes : List ℕ) → k < 2 ^ 32 → HasWordsAt at (word k) bytes
    → from_be_bytes w32 (take 4 (drop at bytes)) ≡ k
HasWordsAt-read at k bytes small s = ap (from_be_bytes w32)
    (ap (λ (x : List ℕ). take 4 (drop at x)) s.parts
    ∙ ap (take 4) (drop_at s.front (word k ++ s.rest) at s.is_at)
    ∙ take_at (word k) s.rest 4 (length-word k))
    ∙ word-value k small

pub word_at-inside : (bytes : List ℕ) (at : ℕ) → at + 4 ≤ length bytes
    → word_at bytes at ≡ Ok (from_be_bytes w32 (take 4 (drop at bytes)))
word_at-inside bytes at inside = search (rules, inside)

pub HasWordsAt-word : (at k : ℕ) (bytes : List ℕ) → k < 2 ^ 32 → HasWordsAt at (word k) bytes
    → word_at bytes at ≡ Ok k
HasWordsAt-word at k bytes small s =
    word_at-inside bytes at (HasWordsAt-within at k bytes s)
    ∙ ap Ok (HasWordsAt-read at k bytes small s)
