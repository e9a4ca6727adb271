-- Laws of words.
use Rattle.std.proofs.Common.{◌≡◌, ◌≢◌, ◌↔◌, Bool, true, false, IsTrue, nat_lt, ℕ, ◌+◌, ◌-◌, ◌*◌}
use Rattle.std.proofs.Common.{◌^◌, ◌<◌, ◌≤◌, List, [], ◌∷◌, ◌++◌, length, take, drop, get_or, refl}
use Rattle.std.proofs.Common.{sym, ap, ◌∙◌, arith, length-append, append_assoc}
use Rattle.std.specs.Int.{w32, from_be_bytes}
use Rattle.std.proofs.lemmas.Nat.{be_bytes_4, from_be_bytes-to_be_bytes_4}
use Rattle.std.proofs.Math.Seq.{take-length}
use Rattle.std.proofs.lemmas.Bool.{ltb-true, ltb-false}
use Rattle.std.proofs.lemmas.Cmp.{nat_list_cmp_total}
use Rattle.std.specs.Cmp.Lexicographic.{slice_cmp}
use Rattle.std.specs.Ordering.{nat_cmp, ordering_then, ordering_reverse}
use Rattle.std.specs.declared.cmp.Ordering.{Ordering}
use Rattle.std.specs.declared.cmp.Ordering.TheVariants.{Less, Greater}
use Rattle.byteorder.specs.Endian.{big_number}
use Rattle.jsonb_codec.specs.WordBytes.{word}

pub length-word : (k : ℕ) → length (word k) ≡ 4
unfolding word
length-word k = refl

pub word-value : (k : ℕ) → k < 2 ^ 32 → from_be_bytes w32 (word k) ≡ k
unfolding word
word-value k h = from_be_bytes-to_be_bytes_4 k h

-- two concatenations whose first parts have equal lengths
pub same_parts : (a b x y : List ℕ) → length a ≡ length b → a ++ x ≡ b ++ y → (a ≡ b) × (x ≡ y)
same_parts [] [] x y n e = (refl, e)
same_parts (p ∷ a) (q ∷ b) x y n e =
    let rest = same_parts a b x y (omega arith) (cc) in
    (cc, rest.1)
same_parts a b x y n e = absurd (omega arith)

-- the same if one concatenation is a prefix of the other
pub same_beginning : {a k y b d : List ℕ} (x c : List ℕ) → length a ≡ length k → b ≡ a ++ x
    → d ≡ k ++ y → d ≡ b ++ c → (a ≡ k) × (y ≡ x ++ c)
same_beginning {a} {k} {y} x c n h g e = grind (arith, append_assoc, same_parts)

-- bytes can be read as a word and a rest in only one way
same_word : (k l : ℕ) → k < 2 ^ 32 → l < 2 ^ 32 → word k ≡ word l → k ≡ l
same_word k l hk hl e =
    sym (word-value k hk) ∙ ap (from_be_bytes w32) e ∙ word-value l hl

pub same_words : {k l : ℕ} {x y : List ℕ} → k < 2 ^ 32 → l < 2 ^ 32 → word k ++ x ≡ word l ++ y
    → (k ≡ l) × (x ≡ y)
unfolding word
same_words {k} {l} {x} {y} hk hl e = grind (arith, same_parts, same_word)

pub words_begin : {k l : ℕ} {y b d : List ℕ} (x c : List ℕ) → k < 2 ^ 32 → l < 2 ^ 32
    → b ≡ word k ++ x → d ≡ word l ++ y → d ≡ b ++ c → (k ≡ l) × (y ≡ x ++ c)
unfolding word
words_begin {k} {l} x c hk hl h g e = grind (arith, same_beginning, same_word)

pub length-word-append : (k : ℕ) (x : List ℕ) → length (word k ++ x) ≡ 4 + length x
length-word-append k x = length-append (word k) x ∙ ap (λ n. n + length x) (length-word k)

abbrev pub four_of : List ℕ → List ℕ
four_of xs = get_or xs 0 0 ∷ (get_or xs 1 0 ∷ (get_or xs 2 0 ∷ (get_or xs 3 0 ∷ [])))

four_small : (xs : List ℕ) → ((i : ℕ) → get_or xs i 0 < 256) → (i : ℕ)
    → get_or (four_of xs) i 0 < 256
four_small xs h i = grind (arith, h)

split_four : (xs : List ℕ) → 4 ≤ length xs → xs ≡ four_of xs ++ take (length xs - 4) (drop 4 xs)
split_four (a ∷ (b ∷ (c ∷ (d ∷ xs)))) h =
    let n : length (a ∷ (b ∷ (c ∷ (d ∷ xs)))) - 4 ≡ length xs = omega arith in
    rw (n, take-length)
split_four xs h = absurd (omega arith)

-- the first word, as it is read, and what follows it
pub word_at_front : (xs : List ℕ) (n : ℕ) → 4 ≤ length xs → ((i : ℕ) → get_or xs i 0 < 256)
    → n ≡ big_number 4 xs → xs ≡ word n ++ take (length xs - 4) (drop 4 xs)
unfolding word
word_at_front xs n h small is = grind (arith, be_bytes_4, four_small, split_four)

ordering_then-less : (a b : ℕ) (o : Ordering) → a ≤ b → (a ≡ b → o ≡ Less)
    → ordering_then (nat_cmp a b) o ≡ Less
ordering_then-less a b o le eq = grind arith

slice_cmp-digits : (a b c d e f g h : ℕ) (x y : List ℕ) → b < 256 → c < 256 → d < 256 → f < 256
    → g < 256 → h < 256
    → 16777216 * a + (65536 * b + (256 * c + d)) < 16777216 * e + (65536 * f + (256 * g + h))
    → slice_cmp nat_cmp (a ∷ (b ∷ (c ∷ (d ∷ x)))) (e ∷ (f ∷ (g ∷ (h ∷ y)))) ≡ Less
slice_cmp-digits a b c d e f g h x y bb bc bd bf bg bh lt = grind (arith, ordering_then-less)

slice_cmp-less : (k l : ℕ) (x y : List ℕ) → k < 2 ^ 32 → l < 2 ^ 32 → k < l
    → slice_cmp nat_cmp (word k ++ x) (word l ++ y) ≡ Less
unfolding word
slice_cmp-less k l x y small_k small_l lt =
    grind (arith, from_be_bytes-to_be_bytes_4, slice_cmp-digits)

-- two lists whose first words differ compare as these words
pub slice_cmp-words : (k l : ℕ) (x y : List ℕ) → k < 2 ^ 32 → l < 2 ^ 32 → k ≢ l
    → (IsTrue (nat_lt k l) ↔ (slice_cmp nat_cmp (word k ++ x) (word l ++ y) ≡ Less))
slice_cmp-words k l x y small_k small_l ne = (
  λ yes. slice_cmp-less k l x y small_k small_l (ltb-true k l yes),
  λ less. by (nat_lt k l) refl less,
)
  where
    by : (b : Bool) → nat_lt k l ≡ b → slice_cmp nat_cmp (word k ++ x) (word l ++ y) ≡ Less
        → IsTrue (nat_lt k l)
    by true is less = is
    by false is less =
        let from = ltb-false k l is in
        let other = slice_cmp-less l k y x small_l small_k (omega arith) in
        let turned : slice_cmp nat_cmp (word k ++ x) (word l ++ y) ≡ Greater =
        nat_list_cmp_total.antisymm (word k ++ x) (word l ++ y) ∙ ap ordering_reverse other in
        cc
