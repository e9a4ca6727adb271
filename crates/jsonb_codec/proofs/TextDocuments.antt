-- The words of a document that is a string.
use Rattle.std.proofs.Common.{◌≡◌, ◌^◌, ◌+◌, ◌<◌, ◌≤◌, ℕ, List, ◌++◌, length, inl, inr, subst}
use Rattle.std.proofs.Common.{arith}
use Rattle.std.specs.Str.{IsUtf8}
use Rattle.jsonb_value.specs.Tree.{text}
use Rattle.jsonb_codec.specs.Doc.{Doc}
use Rattle.jsonb_codec.specs.WordBytes.{word}
use Rattle.jsonb_codec.proofs.Words.{length-word-append, same_words}
use Rattle.jsonb_codec.proofs.Entries.{IsType-type_of, same_entry}
use Rattle.jsonb_codec.proofs.Steps.{Read, read_type}

record TextDocument (s b : List ℕ) : Type 0 where
  parts : b ≡ word 536870912 ++ (word (268435456 + length s) ++ s)
  short : length s < 2 ^ 28
  utf8 : IsUtf8 s

text_document : (s b : List ℕ) → Doc b (text s) → TextDocument s b
text_document s b (inr (q, h)) = absurd (omega arith)
text_document s b (inl (q, h)) = record {
  parts = rw (← h.means.0) h.parts;
  short = subst (λ (x : List ℕ). length x < 2 ^ 28) h.means.0 h.short;
  utf8 = h.means.1;
}

pub text_room : (s b : List ℕ) → Doc b (text s) → 8 ≤ length b
text_room s b d = grind (arith, length-word-append, text_document)

module _ {header : ℕ} {body b : List ℕ} (found : b ≡ word header ++ body) (small : header < 2 ^ 32)
    (s : List ℕ) (d : Doc b (text s)) where
  pub text_header : (536870912 ≡ header) × (word (268435456 + length s) ++ s ≡ body)
  text_header = grind (arith, same_words, text_document)

  pub text_entry : {tag n : ℕ} {rest : List ℕ} → Read (2 ^ 28) tag n rest body
      → (268435456 ≡ tag) × ((n ≡ length rest) × IsUtf8 rest)
  text_entry read = grind (arith, IsType-type_of, read_type, same_entry, same_words, text_document)
