-- Items between brackets: lists of them, and the ends of a range.
use Rattle.std.proofs.Common.{◌≡◌, ◌≤◌, ◌<◌, ◌+◌, ℕ, zero, suc, List, [], ◌∷◌, ◌++◌, length}
use Rattle.std.proofs.Common.{take, drop, refl, sym, ap, ◌∙◌, arith, true, false, Bool, Bor}
use Rattle.std.proofs.Common.{append_assoc, eqb-true}
use Rattle.std.specs.Prelude.{Option, None, Some, MatchOption, option_map, ◌==◌, not, codes}
use Rattle.std.specs.Prelude.{if◌then◌else◌}
use Rattle.std.specs.Str.Pattern.{FindsText, LacksTextAt}
use Rattle.std.proofs.lemmas.Bool.{eq-eqb}
use Rattle.jsonb_functions.specs.declared.selection.Bound.{Bound}
use Rattle.jsonb_functions.specs.PathText.{after_spaces, all_are, bound_in, bound_then, bounds_in}
use Rattle.jsonb_functions.specs.PathText.{ends_in, ends_with, if_after, indexes_in, is_not}
use Rattle.jsonb_functions.specs.PathText.{onto_first, parts_of, tail_after_word}
use Rattle.jsonb_functions.proofs.IndexLaws.{both}

-- ---- parts between commas

not_true : (b : Bool) → not b ≡ true → b ≡ false
not_true true e = absurd (cc)
not_true false e = refl

part_more : (c : ℕ) (cs part : List ℕ) (parts : List (List ℕ)) → is_not 44 c ≡ true
    → parts_of cs ≡ part ∷ parts → parts_of (c ∷ cs) ≡ (c ∷ part) ∷ parts
part_more c cs part parts other more =
    ap (λ (b : Bool). if b then [] ∷ parts_of cs else onto_first c (parts_of cs))
    (not_true (c == 44) other)
    ∙ ap (onto_first c) more

part_first : (part rest : List ℕ) → all_are (is_not 44) part ≡ true
    → parts_of (part ++ (44 ∷ rest)) ≡ part ∷ parts_of rest
part_first [] rest all = refl
part_first (c ∷ part) rest all =
    part_more c (part ++ (44 ∷ rest)) part (parts_of rest) (both _ _ all).0
    (part_first part rest (both _ _ all).1)

part_last : (text : List ℕ) → all_are (is_not 44) text ≡ true → parts_of text ≡ text ∷ []
part_last [] all = refl
part_last (c ∷ text) all =
    part_more c text text [] (both _ _ all).0 (part_last text (both _ _ all).1)

-- ---- a list of which some indexes were read

-- Indexes before others, if there are others.
abbrev pub bounds_before : List Bound → Option (List Bound) → Option (List Bound)
bounds_before before None = None
bounds_before before (Some more) = Some (before ++ more)

pub none_before : (more : Option (List Bound)) → more ≡ bounds_before [] more
none_before None = refl
none_before (Some more) = refl

one_moved : (before : List Bound) (b : Bound) (more : Option (List Bound))
    → bounds_before before (bound_then (Some b) more) ≡ bounds_before (before ++ (b ∷ [])) more
one_moved before b None = refl
one_moved before b (Some more) = ap (λ x. Some x) (sym (append_assoc before (b ∷ []) more))

module _ (left part rest : List ℕ) (now : List Bound) (whole : Option (List Bound))
    (split : left ≡ part ++ (44 ∷ rest)) (all : all_are (is_not 44) part ≡ true)
    (read : whole ≡ bounds_before now (indexes_in left)) where
  parted : whole ≡ bounds_before now (bound_then (bound_in (after_spaces part)) (indexes_in rest))
  parted =
      read ∙ ap (λ xs. bounds_before now (indexes_in xs)) split
      ∙ ap (λ ps. bounds_before now (bounds_in ps)) (part_first part rest all)

  pub index_read : (b : Bound) (new : List Bound) → Some b ≡ bound_in (after_spaces part)
      → new ≡ now ++ (b ∷ []) → whole ≡ bounds_before new (indexes_in rest)
  index_read b new is pushed =
      parted ∙ ap (λ x. bounds_before now (bound_then x (indexes_in rest))) (sym is)
      ∙ one_moved now b (indexes_in rest)
      ∙ ap (λ x. bounds_before x (indexes_in rest)) (sym pushed)

  pub index_missing : None ≡ bound_in (after_spaces part) → None ≡ whole
  index_missing none =
      sym (parted ∙ ap (λ x. bounds_before now (bound_then x (indexes_in rest))) (sym none))

module _ (left : List ℕ) (now : List Bound) (whole : Option (List Bound))
    (all : all_are (is_not 44) left ≡ true)
    (read : whole ≡ bounds_before now (indexes_in left)) where
  last_part : whole ≡ bounds_before now (bound_then (bound_in (after_spaces left)) (Some []))
  last_part = read ∙ ap (λ ps. bounds_before now (bounds_in ps)) (part_last left all)

  pub last_read : (b : Bound) (new : List Bound) → Some b ≡ bound_in (after_spaces left)
      → new ≡ now ++ (b ∷ []) → Some new ≡ whole
  last_read b new is pushed =
      sym (last_part ∙ ap (λ x. bounds_before now (bound_then x (Some []))) (sym is)
      ∙ ap (λ x. Some x) (sym pushed))

  pub last_missing : None ≡ bound_in (after_spaces left) → None ≡ whole
  last_missing none =
      sym (last_part ∙ ap (λ x. bounds_before now (bound_then x (Some []))) (sym none))

-- ---- the ends of a range

word_tail : (word rest : List ℕ) → tail_after_word word (word ++ rest) ≡ Some rest
word_tail [] rest = refl
word_tail (c ∷ word) rest =
    ap (λ (b : Bool). if_after (if b then Some (word ++ rest) else None) (tail_after_word word))
    (eq-eqb c c refl)
    ∙ word_tail word rest

tail_by : (c : ℕ) (word : List ℕ) (d : ℕ) (ds rest : List ℕ) (b : Bool) → (d == c) ≡ b
    → ((xs : List ℕ) → tail_after_word word xs ≡ Some rest → xs ≡ word ++ rest)
    → if_after (if b then Some ds else None) (tail_after_word word) ≡ Some rest
    → d ∷ ds ≡ c ∷ (word ++ rest)
tail_by c word d ds rest true is more e =
    ap (λ x. x ∷ ds) (eqb-true d c is) ∙ ap (λ xs. c ∷ xs) (more ds e)
tail_by c word d ds rest false is more e = absurd (cc)

pub tail_word : (word text rest : List ℕ) → tail_after_word word text ≡ Some rest
    → text ≡ word ++ rest
tail_word [] text rest e = cc
tail_word (c ∷ word) [] rest e = absurd (cc)
tail_word (c ∷ word) (d ∷ ds) rest e =
    tail_by c word d ds rest (d == c) refl (λ xs h. tail_word word xs rest h) e

lacks_by : (word text : List ℕ) (o : Option (List ℕ)) → tail_after_word word text ≡ o
    → ((rest : List ℕ) → text ≡ word ++ rest → ⊥) → tail_after_word word text ≡ None
lacks_by word text None e lacks = e
lacks_by word text (Some rest) e lacks = absurd (lacks rest (tail_word word text rest e))

abbrev to : List ℕ
to = codes " to "

ends_found : (text : List ℕ) (i : ℕ) (rest : List ℕ)
    → ((k : ℕ) → k < i → LacksTextAt to text k) → drop i text ≡ to ++ rest
    → ends_in text ≡ Some (take i text, rest)
ends_found [] zero rest lacks e = absurd (cc)
ends_found [] (suc i) rest lacks e = absurd (cc)
ends_found (c ∷ cs) zero rest lacks e =
    ap (λ o. ends_with o c (ends_in cs)) (ap (tail_after_word to) e ∙ word_tail to rest)
ends_found (c ∷ cs) (suc i) rest lacks e =
    let none : tail_after_word to (c ∷ cs) ≡ None =
    lacks_by to (c ∷ cs) (tail_after_word to (c ∷ cs)) refl (lacks 0 (omega arith)) in
    ap (λ o. ends_with o c (ends_in cs)) none
    ∙ ap (ends_with None c)
    (ends_found cs i rest (λ k low. lacks (suc k) (omega (arith, low))) e)

ends_lacking : (text : List ℕ) → ((k : ℕ) → k ≤ length text → LacksTextAt to text k)
    → ends_in text ≡ None
ends_lacking [] lacks = refl
ends_lacking (c ∷ cs) lacks =
    let none : tail_after_word to (c ∷ cs) ≡ None =
    lacks_by to (c ∷ cs) (tail_after_word to (c ∷ cs)) refl (lacks 0 (omega arith)) in
    ap (λ o. ends_with o c (ends_in cs)) none
    ∙ ap (ends_with None c) (ends_lacking cs (λ k low. lacks (suc k) (omega (arith, low))))

pub ends_split : (text : List ℕ) (r : Option (Bor (List ℕ) × Bor (List ℕ)))
    → MatchOption r (FindsText to text None) (λ x. (i : ℕ) × (j : ℕ)
    × FindsText to text (Some (i, j)) × (x.0.now ≡ take i text) × (x.1.now ≡ drop j text)
    × (i ≤ j) × (length x.0.now ≡ i) × (length x.1.now + j ≡ length text))
    → option_map (λ ends. (ends.0.now, ends.1.now)) r ≡ ends_in text
ends_split text None h = sym (ends_lacking text h)
ends_split text (Some x) h =
    ap (λ xs. Some (xs, x.1.now)) h.3
    ∙ ap (λ xs. Some (take h.0 text, xs)) h.4
    ∙ sym (ends_found text h.0 (drop h.1 text) h.2.0 h.2.1.split)
