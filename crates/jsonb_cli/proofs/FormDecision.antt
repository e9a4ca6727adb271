-- Whether a line has the form of a command is decidable.
use Rattle.std.proofs.Common.{◌≡◌, ◌≢◌, ◌⊎◌, inl, inr, ℕ, Bool, true, false, List, [], ◌∷◌, ◌++◌}
use Rattle.std.proofs.Common.{◌==◌, refl, sym, ap, ap₂, subst, ◌∙◌}
use Rattle.std.proofs.lemmas.Bool.{cases_eq}
use Rattle.std.proofs.lemmas.Bool.Decides.{Decides-eqb}
use Rattle.std.proofs.lemmas.List.{append-nil}
use Rattle.std.proofs.lemmas.List.Elements.{All-nil, All-cons}
use Rattle.std.proofs.lemmas.Slice.Eq.{slice_eq-Decides}
use Rattle.std.specs.Prelude.{nat_eq, codes}
use Rattle.std.specs.Cmp.Lexicographic.{pointwise}
use Rattle.std.specs.List.{slice_split}
use Rattle.answer_lines.proofs.Cuts.{not_before, one_cut_at}
use Rattle.jsonb_value.proofs.PayloadDecision.{Decided}
use Rattle.jsonb_cli.specs.Words.{IsWord}
use Rattle.jsonb_cli.specs.Commands.{Form, enc, dec, pretty, item_type, get, cmp, arr, canon}
use Rattle.jsonb_cli.specs.Commands.{IsOfForm}
use Rattle.jsonb_cli.proofs.Split.{StartsAtSpace, AreWordsOf, no_space, words-slice_split}
use Rattle.jsonb_cli.proofs.Forms.{name_of, named, names_apart, no_cmp, no_get, only_arr_alone}

abbrev pub HasForm : List ℕ → Type 0
HasForm line = (form : Form) × IsOfForm form line

-- the bytes before the first space, and what follows them
record Cut (line : List ℕ) : Type 0 where
  name : List ℕ
  given : List ℕ
  word : IsWord name
  from : StartsAtSpace given
  parts : line ≡ name ++ given

cut_after : (b : ℕ) (line : List ℕ) → (b ≡ 32) ⊎ (b ≢ 32) → Cut line → Cut (b ∷ line)
cut_after b line (inl is) later = record {
  name = [];
  given = b ∷ line;
  word = All-nil no_space;
  from = inr (line, ap (λ x. x ∷ line) is);
  parts = refl;
}
cut_after b line (inr other) later = record {
  name = b ∷ later.name;
  given = later.given;
  word = All-cons no_space b later.name other later.word;
  from = later.from;
  parts = ap (λ xs. b ∷ xs) later.parts;
}

cut : (line : List ℕ) → Cut line
cut [] = record { name = []; given = []; word = All-nil no_space; from = inl refl; parts = refl }
cut (b ∷ line) = cut_after b line (cases_eq b 32) (cut line)

-- a name is another or not
cases_name : (a b : List ℕ) → (a ≡ b) ⊎ (a ≢ b)
cases_name a b = by (pointwise nat_eq a b) refl
  where
    by : (same : Bool) → pointwise nat_eq a b ≡ same → (a ≡ b) ⊎ (a ≢ b)
    by true e = inl ((slice_eq-Decides Decides-eqb a b (pointwise nat_eq a b) refl).0 e)
    by false e = inr (names_apart a b e)

-- ---- the commands with several words

spaced_words : (given : List ℕ) → StartsAtSpace given
    → (words : List (List ℕ)) × AreWordsOf given words
spaced_words given (inl none) = ([], (All-nil IsWord, sym none))
spaced_words given (inr (rest, is)) =
    (slice_split (λ b. b == 32) rest, rw is (words-slice_split rest))

form_of_arr : (line name given : List ℕ) → name ≡ codes "arr" → StartsAtSpace given
    → line ≡ name ++ given → HasForm line
form_of_arr line name given is from parts =
    let (words, (one, laid)) = spaced_words given from in
    (arr words, record { is = parts ∙ ap₂ (λ a b. a ++ b) is (sym laid); words = one })

-- a single word
alone : (bytes word given : List ℕ) → IsWord word → bytes ≡ word ++ given → given ≡ []
    → IsWord bytes
alone bytes word given one parts none = rw (parts, none, append-nil) one

get_of : (rest : List ℕ) (word given : List ℕ) → IsWord word → StartsAtSpace given
    → rest ≡ word ++ given → Decided (HasForm (codes "get " ++ rest))
get_of rest word given one (inl none) parts = inr (λ h. no_get rest
    (λ first key is. not_before 32 first key
    (subst IsWord is (alone rest word given one parts none)))
    h.0 h.1)
get_of rest word given one (inr (key, is)) parts =
    let whole = parts ∙ ap (λ g. word ++ g) is in
    inl (get word key, record { is = ap (λ r. codes "get " ++ r) whole; words = one })

cmp_of : (rest left right word given : List ℕ) → IsWord left → rest ≡ left ++ 32 ∷ right
    → IsWord word → StartsAtSpace given → right ≡ word ++ given
    → Decided (HasForm (codes "cmp " ++ rest))
cmp_of rest left right word given one whole other (inl none) parts = inl (
  cmp left right,
  record {
    is = ap (λ r. codes "cmp " ++ r) whole;
    words = (one, alone right word given other parts none);
  },
)
cmp_of rest left right word given one whole other (inr (more, is)) parts = inr (λ h. no_cmp rest
    (λ l r one_l one_r two.
    let same = one_cut_at 32 left l right r one one_l (sym whole ∙ two) in
    not_before 32 word more
    (subst IsWord (sym same.1 ∙ (parts ∙ ap (λ g. word ++ g) is)) one_r))
    h.0 h.1)

cmp_after : (rest left given : List ℕ) → IsWord left → StartsAtSpace given
    → rest ≡ left ++ given → Decided (HasForm (codes "cmp " ++ rest))
cmp_after rest left given one (inl none) parts = inr (λ h. no_cmp rest
    (λ l r one_l one_r two. not_before 32 l r
    (subst IsWord two (alone rest left given one parts none)))
    h.0 h.1)
cmp_after rest left given one (inr (right, is)) parts =
    let next = cut right in
    cmp_of rest left right next.name next.given one (parts ∙ ap (λ g. left ++ g) is)
    next.word next.from next.parts

-- ---- a line

-- the name is that of no command
other_name : (name : List ℕ) → name ≢ codes "enc" → name ≢ codes "dec" → name ≢ codes "pretty"
    → name ≢ codes "type" → name ≢ codes "get" → name ≢ codes "cmp" → name ≢ codes "arr"
    → name ≢ codes "canon" → (form : Form) → name ≢ name_of form
other_name name n_enc n_dec n_pretty n_type n_get n_cmp n_arr n_canon (enc text) = n_enc
other_name name n_enc n_dec n_pretty n_type n_get n_cmp n_arr n_canon (dec word) = n_dec
other_name name n_enc n_dec n_pretty n_type n_get n_cmp n_arr n_canon (pretty word) = n_pretty
other_name name n_enc n_dec n_pretty n_type n_get n_cmp n_arr n_canon (item_type word) = n_type
other_name name n_enc n_dec n_pretty n_type n_get n_cmp n_arr n_canon (get word key) = n_get
other_name name n_enc n_dec n_pretty n_type n_get n_cmp n_arr n_canon (cmp left right) = n_cmp
other_name name n_enc n_dec n_pretty n_type n_get n_cmp n_arr n_canon (arr words) = n_arr
other_name name n_enc n_dec n_pretty n_type n_get n_cmp n_arr n_canon (canon word) = n_canon

-- a name that is followed by a space
spaced_form : (line name rest : List ℕ) → IsWord name → line ≡ name ++ 32 ∷ rest
    → name ≢ codes "arr" → Decided (HasForm line)
spaced_form line name rest word parts n_arr = elim (cases_name name (codes "enc")) [
  | inl is ↦ inl (enc rest, record { is = parts ∙ ap (λ n. n ++ 32 ∷ rest) is; words = tt })
  | inr n_enc ↦ elim (cases_name name (codes "dec")) [
    | inl is ↦ inl (dec rest, record { is = parts ∙ ap (λ n. n ++ 32 ∷ rest) is; words = tt })
    | inr n_dec ↦ elim (cases_name name (codes "pretty")) [
      | inl is ↦ inl (pretty rest, record { is = parts ∙ ap (λ n. n ++ 32 ∷ rest) is; words = tt })
      | inr n_pretty ↦ elim (cases_name name (codes "type")) [
        | inl is ↦ inl (
          item_type rest,
          record { is = parts ∙ ap (λ n. n ++ 32 ∷ rest) is; words = tt },
        )
        | inr n_type ↦ elim (cases_name name (codes "canon")) [
          | inl is ↦ inl (
            canon rest,
            record { is = parts ∙ ap (λ n. n ++ 32 ∷ rest) is; words = tt },
          )
          | inr n_canon ↦ elim (cases_name name (codes "get")) [
            | inl is ↦
                let next = cut rest in
                subst (λ bytes. Decided (HasForm bytes)) (sym (parts ∙ ap (λ n. n ++ 32 ∷ rest) is))
                (get_of rest next.name next.given next.word next.from next.parts)
            | inr n_get ↦ elim (cases_name name (codes "cmp")) [
              | inl is ↦
                  let next = cut rest in
                  subst (λ bytes. Decided (HasForm bytes))
                  (sym (parts ∙ ap (λ n. n ++ 32 ∷ rest) is))
                  (cmp_after rest next.name next.given next.word next.from next.parts)
              | inr n_cmp ↦ inr (λ h.
                  other_name name n_enc n_dec n_pretty n_type n_get n_cmp n_arr n_canon h.0
                  (named line name (32 ∷ rest) word (inr (rest, refl)) parts h.0 h.1).0)
            ]
          ]
        ]
      ]
    ]
  ]
]

named_form : (line name given : List ℕ) → IsWord name → StartsAtSpace given → line ≡ name ++ given
    → name ≢ codes "arr" → Decided (HasForm line)
named_form line name given word (inl none) parts n_arr = inr (λ h.
    let is = named line name given word (inl none) parts h.0 h.1 in
    only_arr_alone name n_arr h.0 is.0 (sym none ∙ is.1))
named_form line name given word (inr (rest, is)) parts n_arr =
    spaced_form line name rest word (parts ∙ ap (λ g. name ++ g) is) n_arr

pub decide_form : (line : List ℕ) → Decided (HasForm line)
decide_form line =
    let first = cut line in
    elim (cases_name first.name (codes "arr")) [
      | inl is ↦ inl (form_of_arr line first.name first.given is first.from first.parts)
      | inr n_arr ↦ named_form line first.name first.given first.word first.from first.parts n_arr
    ]
