-- Splitting bytes at spaces.
use Rattle.std.proofs.Common.{◌≡◌, ◌≢◌, inl, inr, ℕ, ◌==◌, Bool, true, false, cond, List, []}
use Rattle.std.proofs.Common.{◌∷◌, ◌++◌, refl, sym, ◌∙◌, arith}
use Rattle.std.proofs.lemmas.Bool.Decides.{nat_tests}
use Rattle.std.proofs.lemmas.List.{append-nil}
use Rattle.std.proofs.lemmas.List.Splits.{slice_split_none, slice_split_at}
use Rattle.std.proofs.lemmas.List.Elements.{All-nil, All-cons, All-head, All-tail}
use Rattle.std.specs.Prelude.{All, Option, None, Some}
use Rattle.std.specs.List.{slice_split, onto_first}
use Rattle.std.specs.Borrow.{Bor}
use Rattle.answer_lines.proofs.Cuts.{StartsAt, not_before, one_cut, one_cut_at}
use Rattle.jsonb_cli.specs.Words.{IsWord, after_space, words_after_spaces, words_from}

-- ---- one word, and the rest

abbrev pub no_space : ℕ → Type 0
no_space b = b ≢ 32

no_test : (word : List ℕ) → IsWord word → All (λ b. (b == 32) ≡ false) word
no_test word one k d below = let other = one k d below in grind (arith, nat_tests)

-- the first word, and the words after the space
pub words_from-first : (whole : Option (Bor (List ℕ))) (bytes : Bor (List ℕ)) (word : List ℕ)
    (rest : Option (Bor (List ℕ))) → whole ≡ Some bytes
    → IsWord word → bytes.now ≡ word ++ after_space rest → words_from whole ≡ word ∷ words_from rest
words_from-first whole bytes word None some one is =
    rw (some, is, append-nil) (slice_split_none (λ b. b == 32) word (no_test word one))
words_from-first whole bytes word (Some rest) some one is =
    rw (some, is) (slice_split_at (λ b. b == 32) word 32 rest.now (no_test word one) refl)

-- ---- all words

-- the bytes are these words, each preceded by a space
abbrev pub AreWordsOf : List ℕ → List (List ℕ) → Type 0
AreWordsOf bytes parts = All IsWord parts × (words_after_spaces parts ≡ bytes)

words-step : (b : ℕ) (t : Bool) (parts : List (List ℕ)) (bytes : List ℕ) → (b == 32) ≡ t
    → AreWordsOf (32 ∷ bytes) parts
    → AreWordsOf (32 ∷ b ∷ bytes) (cond t ([] ∷ parts) (onto_first b parts))
words-step b true parts bytes test (words, is) =
    let space : b ≡ 32 = grind (arith, nat_tests) in
    (All-cons IsWord [] parts (All-nil no_space) words, rw (space, is))
words-step b false [] bytes test (words, is) = absurd cc
words-step b false (part ∷ parts) bytes test (words, is) =
    let other : b ≢ 32 = grind (arith, nat_tests) in (
      All-cons IsWord (b ∷ part) parts
          (All-cons no_space b part other (All-head IsWord part parts words))
          (All-tail IsWord part parts words),
      cc,
    )

pub words-slice_split : (bytes : List ℕ) → AreWordsOf (32 ∷ bytes) (slice_split (λ b. b == 32) bytes)
words-slice_split [] = (All-cons IsWord [] [] (All-nil no_space) (All-nil IsWord), refl)
words-slice_split (b ∷ bytes) =
    words-step b (b == 32) (slice_split (λ b. b == 32) bytes) bytes refl (words-slice_split bytes)

pub words_from-words : (rest : Option (Bor (List ℕ)))
    → AreWordsOf (after_space rest) (words_from rest)
words_from-words None = (All-nil IsWord, refl)
words_from-words (Some rest) = words-slice_split rest.now

-- ---- the concatenation determines the words

abbrev pub StartsAtSpace : List ℕ → Type 0
StartsAtSpace = StartsAt 32

pub after_space-starts : (rest : Option (Bor (List ℕ))) → StartsAtSpace (after_space rest)
after_space-starts None = inl refl
after_space-starts (Some rest) = inr (_, refl)

pub spaced-starts : (words : List (List ℕ)) → StartsAtSpace (words_after_spaces words)
spaced-starts [] = inl refl
spaced-starts (word ∷ words) = inr (_, refl)

-- one word is not two
pub one_word_alone : (bytes word : List ℕ) (rest : Option (Bor (List ℕ))) → rest ≡ None
    → IsWord word → bytes ≡ word ++ after_space rest
    → (first more : List ℕ) → bytes ≡ first ++ 32 ∷ more → ⊥
one_word_alone bytes word rest none one is first more two =
    not_before 32 first more (rw (sym (rw (none, append-nil) at is) ∙ two) at one)

-- two words are not three
pub three_words : (bytes left right word : List ℕ) (rest : Option (Bor (List ℕ)))
    (more : Bor (List ℕ)) → rest ≡ Some more → IsWord left
    → bytes ≡ left ++ 32 ∷ right → right ≡ word ++ after_space rest → (l r : List ℕ) → IsWord l
    → IsWord r → bytes ≡ l ++ 32 ∷ r → ⊥
three_words bytes left right word rest more some one_left parts right_is l r one_l one_r two =
    let cut = one_cut_at 32 left l right r one_left one_l (sym parts ∙ two) in
    not_before 32 word more.now (rw (sym cut.1 ∙ rw some at right_is) at one_r)

-- the concatenation determines the words
pub one_spaced : (xs ys : List (List ℕ)) → All IsWord xs → All IsWord ys
    → words_after_spaces xs ≡ words_after_spaces ys → xs ≡ ys
one_spaced [] [] words others same = refl
one_spaced (x ∷ xs) (y ∷ ys) words others same =
    let later : x ++ words_after_spaces xs ≡ y ++ words_after_spaces ys = cc in
    let (head, tails) = one_cut 32 x y (words_after_spaces xs) (words_after_spaces ys)
    (All-head IsWord x xs words) (All-head IsWord y ys others) (spaced-starts xs)
    (spaced-starts ys) later in
    let rest =
    one_spaced xs ys (All-tail IsWord x xs words) (All-tail IsWord y ys others) tails in cc
one_spaced xs ys words others same = absurd cc
