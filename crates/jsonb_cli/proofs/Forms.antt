-- The form of a line: the word before its first space is the command's name.
use Rattle.std.proofs.Common.{◌≡◌, ◌≢◌, inr, ℕ, ◌==◌, Bool, true, false, not, List, [], ◌∷◌, ◌++◌}
use Rattle.std.proofs.Common.{refl, sym, ap, ◌∙◌, take, arith}
use Rattle.std.proofs.lemmas.List.Sums.{AllPass-from_list_all}
use Rattle.std.proofs.lemmas.Bool.Decides.{nat_tests, Decides-eqb}
use Rattle.std.proofs.lemmas.Slice.Eq.{slice_eq-Decides}
use Rattle.std.specs.Prelude.{Option, None, Some, IfNone, nat_eq, codes}
use Rattle.std.specs.Cmp.Lexicographic.{pointwise}
use Rattle.std.specs.List.{list_all}
use Rattle.std.specs.Borrow.{Bor}
use Rattle.jsonb_cli.specs.Words.{IsWord, after_space, words_after_spaces, words_from}
use Rattle.jsonb_cli.specs.Commands.{Form, enc, dec, pretty, item_type, get, cmp, arr, canon}
use Rattle.jsonb_cli.specs.Commands.{line_of, HasWords, IsOfForm}
use Rattle.answer_lines.proofs.Cuts.{one_cut, one_cut_at}
use Rattle.jsonb_cli.proofs.Split.{StartsAtSpace, one_spaced, after_space-starts, spaced-starts}
use Rattle.jsonb_cli.proofs.Split.{words_from-words}

-- the name of the command, and its arguments
abbrev pub name_of : Form → List ℕ
name_of (enc text) = codes "enc"
name_of (dec word) = codes "dec"
name_of (pretty word) = codes "pretty"
name_of (item_type word) = codes "type"
name_of (get word key) = codes "get"
name_of (cmp left right) = codes "cmp"
name_of (arr words) = codes "arr"
name_of (canon word) = codes "canon"

abbrev pub given_to : Form → List ℕ
given_to (enc text) = 32 ∷ text
given_to (dec word) = 32 ∷ word
given_to (pretty word) = 32 ∷ word
given_to (item_type word) = 32 ∷ word
given_to (get word key) = 32 ∷ (word ++ 32 ∷ key)
given_to (cmp left right) = 32 ∷ (left ++ 32 ∷ right)
given_to (arr words) = words_after_spaces words
given_to (canon word) = 32 ∷ word

word_of_test : (bytes : List ℕ) → list_all (λ b. not (b == 32)) bytes ≡ true → IsWord bytes
word_of_test bytes passes k d below =
    let test = AllPass-from_list_all (λ b. not (b == 32)) bytes passes k d below in
    grind (arith, nat_tests)

-- the first space separates the name from the arguments
form_parts : (form : Form) → IsWord (name_of form) × (StartsAtSpace (given_to form)
    × (line_of form ≡ name_of form ++ given_to form))
form_parts (arr words) = (word_of_test (codes "arr") refl, (spaced-starts words, refl))
form_parts form = (word_of_test (name_of form) refl, (inr (_, refl), refl))

-- the word before the first space is the command's name
pub named : (line name given : List ℕ) → IsWord name → StartsAtSpace given → line ≡ name ++ given
    → (form : Form) → IsOfForm form line
    → (name ≡ name_of form) × (given ≡ given_to form)
named line name given word from parts form of =
    let cut = form_parts form in
    one_cut 32 name (name_of form) given (given_to form) word cut.0 from cut.1.0
    (sym parts ∙ of.is ∙ cut.1.1)

-- the form of `arr` with its arguments
pub arr_form : (line name : List ℕ) (rest : Option (Bor (List ℕ))) → name ≡ codes "arr"
    → line ≡ name ++ after_space rest → IsOfForm (arr (words_from rest)) line
arr_form line name rest is parts = record {
  is = rw (words_from-words rest).1 (rw is at parts);
  words = (words_from-words rest).0;
}

-- ---- a line has only one form

pub names_apart : (a b : List ℕ) → pointwise nat_eq a b ≡ false → a ≢ b
names_apart a b test same = let passes : pointwise nat_eq a b
    ≡ true = (slice_eq-Decides Decides-eqb a b (pointwise nat_eq a b) refl).1 same in cc

same_form : (f g : Form) → HasWords f → HasWords g → name_of f ≡ name_of g → given_to f ≡ given_to g
    → f ≡ g
same_form (enc x) (enc y) words others name given = cc
same_form (dec x) (dec y) words others name given = cc
same_form (pretty x) (pretty y) words others name given = cc
same_form (item_type x) (item_type y) words others name given = cc
same_form (canon x) (canon y) words others name given = cc
same_form (get x k) (get y l) words others name given =
    let cut = one_cut_at 32 x y k l words others (cc) in cc
same_form (cmp x k) (cmp y l) words others name given =
    let cut = one_cut_at 32 x y k l words.0 others.0 (cc) in cc
same_form (arr xs) (arr ys) words others name given = ap arr (one_spaced xs ys words others given)
same_form f g words others name given = absurd (names_apart (name_of f) (name_of g) refl name)

pub one_form : (line : List ℕ) (f g : Form) → IsOfForm f line → IsOfForm g line → f ≡ g
one_form line f g of also =
    let cut = form_parts f in
    let is = named line (name_of f) (given_to f) cut.0 cut.1.0 (of.is ∙ cut.1.1) g also in
    same_form f g of.words also.words is.0 is.1

-- ---- lines without a form

-- another name
pub no_form : (line name : List ℕ) (rest : Option (Bor (List ℕ))) → IsWord name
    → line ≡ name ++ after_space rest → ((form : Form) → name ≢ name_of form)
    → (form : Form) → IsOfForm form line → ⊥
no_form line name rest word parts other form of =
    other form (named line name (after_space rest) word (after_space-starts rest) parts form of).0

-- a name without arguments
pub only_arr_alone : (name : List ℕ) → name ≢ codes "arr" → (form : Form) → name ≡ name_of form
    → [] ≡ given_to form → ⊥
only_arr_alone name n_arr (arr words) is none = n_arr is
only_arr_alone name n_arr form is none = cc

pub no_form_alone : (line name : List ℕ) (rest : Option (Bor (List ℕ))) → rest ≡ None → IsWord name
    → line ≡ name ++ after_space rest → name ≢ codes "arr"
    → (form : Form) → IsOfForm form line → ⊥
no_form_alone line name rest none word parts n_arr form of =
    let is = named line name (after_space rest) word (after_space-starts rest) parts form of in
    only_arr_alone name n_arr form is.0 (rw none at is.1)

-- `get` and `cmp` without their arguments
pub no_get : (words : List ℕ) → ((word key : List ℕ) → words ≡ word ++ 32 ∷ key → ⊥) → (form : Form)
    → IsOfForm form (codes "get " ++ words) → ⊥
no_get words none (get word key) of = let is = of.is in none word key cc
no_get words none form of =
    names_apart (codes "get") (take 3 (line_of form)) refl (ap (λ bytes. take 3 bytes) of.is)

pub no_cmp : (words : List ℕ)
    → ((left right : List ℕ) → IsWord left → IsWord right → words ≡ left ++ 32 ∷ right → ⊥)
    → (form : Form) → IsOfForm form (codes "cmp " ++ words) → ⊥
no_cmp words none (cmp left right) of = let is = of.is in none left right of.words.0 of.words.1 cc
no_cmp words none form of =
    names_apart (codes "cmp") (take 3 (line_of form)) refl (ap (λ bytes. take 3 bytes) of.is)

-- ---- what the code's tests imply

-- a test that failed
pub differs : (name given word : List ℕ) (same : Bool) → given ≡ word
    → same ≡ pointwise nat_eq name given → same ≡ false → name ≢ word
differs name given word same is tested fails equal =
    let passes : same ≡ true =
    (slice_eq-Decides Decides-eqb name given same tested).1 (equal ∙ sym is) in cc

-- a test that succeeded
pub equals : (name given word : List ℕ) (same : Bool) → given ≡ word
    → same ≡ pointwise nat_eq name given → same ≡ true → name ≡ word
equals name given word same is tested passes =
    (slice_eq-Decides Decides-eqb name given same tested).0 passes ∙ is

pub if_none : {T : Type 0} (o : Option T) (P : Type 0) → P → IfNone o P
if_none None P p = p
if_none (Some x) P p = tt
