-- The layout of entries as leaves: a header, the entry words and the payloads.
use Rattle.std.proofs.Common.{◌≡◌, ℕ, suc, ◌+◌, List, [], ◌∷◌, ◌++◌, length, refl, ap, arith}
use Rattle.jsonb_codec.specs.WordBytes.{word}
use Rattle.jsonb_codec.specs.Shape.{shape_count, entries, payloads, key_entries, key_payloads}
use Rattle.jsonb.specs.Entry.{Code}
use Rattle.jsonb.specs.Building.{leaves, keyed_leaves, array_bytes, object_bytes, key_codes}

-- The words of these entries.
abbrev pub code_entries : List Code → List ℕ
code_entries codes = entries (leaves codes)

-- The payloads of these entries.
abbrev pub code_payloads : List Code → List ℕ
code_payloads codes = payloads (leaves codes)

count-leaves : (cs : List Code) → shape_count (leaves cs) ≡ length cs
count-leaves [] = refl
count-leaves (c ∷ cs) = ap suc (count-leaves cs)

pub array_of-parts : (cs : List Code)
    → array_bytes cs ≡ word (2147483648 + length cs) ++ (code_entries cs ++ code_payloads cs)
array_of-parts cs = rw (count-leaves cs) refl

record KeyedParts (ks : List (List ℕ)) (cs : List Code) : Type 0 where
  counted : shape_count (keyed_leaves ks cs) ≡ length cs
  key_words : key_entries (keyed_leaves ks cs) ≡ code_entries (key_codes ks)
  words : entries (keyed_leaves ks cs) ≡ code_entries cs
  keys : key_payloads (keyed_leaves ks cs) ≡ code_payloads (key_codes ks)
  values : payloads (keyed_leaves ks cs) ≡ code_payloads cs

keyed_parts : (ks : List (List ℕ)) (cs : List Code) → length ks ≡ length cs → KeyedParts ks cs
keyed_parts [] [] same =
    record { counted = refl; key_words = refl; words = refl; keys = refl; values = refl }
keyed_parts [] (c ∷ cs) same = absurd (omega arith)
keyed_parts (k ∷ ks) [] same = absurd (omega arith)
keyed_parts (k ∷ ks) (c ∷ cs) same =
    let more = keyed_parts ks cs (omega arith) in
    record {
      counted = ap suc more.counted;
      key_words = rw more.key_words;
      words = rw more.words;
      keys = rw more.keys;
      values = rw more.values;
    }

pub object_of-parts : (ks : List (List ℕ)) (cs : List Code) → length ks ≡ length cs
    → object_bytes ks cs
    ≡ word (1073741824 + length cs)
    ++ (code_entries (key_codes ks)
    ++ (code_entries cs ++ (code_payloads (key_codes ks) ++ code_payloads cs)))
object_of-parts ks cs same =
    let k = keyed_parts ks cs same in
    rw (k.counted, k.key_words, k.words, k.keys, k.values) refl
