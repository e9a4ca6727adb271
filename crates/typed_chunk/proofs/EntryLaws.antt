-- The laws of ascending texts that differ.
use Rattle.std.proofs.Common.{◌≡◌, ◌⊎◌, ℕ, ◌≤◌, Bool, true, false, List, []}
use Rattle.std.proofs.Common.{◌∷◌, length, fold, refl, sym, ap, ap₂}
use Rattle.std.proofs.Common.{◌∙◌, arith, inl, inr, subst}
use Rattle.std.specs.Cmp.Lexicographic.{slice_cmp}
use Rattle.std.specs.Ordering.{is_eq, is_lt, nat_cmp, ordering_reverse}
use Rattle.std.specs.Prelude.{◌&&◌, if◌then◌else◌}
use Rattle.std.specs.declared.cmp.Ordering.{Ordering}
use Rattle.std.specs.declared.cmp.Ordering.TheVariants.{Equal, Greater, Less}
use Rattle.std.proofs.lemmas.Cmp.{nat_list_cmp_total, tied_itself}
use Rattle.std.proofs.lemmas.Map.Lookups.{exact_bytes}
use Rattle.typed_chunk.specs.Entries.{with_entry}
use Rattle.typed_chunk.specs.Places.{ascend_from, texts_ascend}

-- How one text is ordered beside another.
abbrev pub text_cmp : List ℕ → List ℕ → Ordering
text_cmp text other = slice_cmp nat_cmp text other

pub data IsOrdered (text other : List ℕ) : Type 0 where
  less : text_cmp text other ≡ Less → IsOrdered text other
  same : text_cmp text other ≡ Equal → IsOrdered text other
  more : text_cmp text other ≡ Greater → IsOrdered text other

ordered_as : (text other : List ℕ) (o : Ordering) → text_cmp text other ≡ o
    → IsOrdered text other
ordered_as text other Less is = less is
ordered_as text other Equal is = same is
ordered_as text other Greater is = more is

pub ordered : (text other : List ℕ) → IsOrdered text other
ordered text other = ordered_as text other (text_cmp text other) refl

pub cmp_back : (text other : List ℕ) (o : Ordering) → text_cmp text other ≡ o
    → text_cmp other text ≡ ordering_reverse o
cmp_back text other o is =
    nat_list_cmp_total.antisymm other text ∙ ap ordering_reverse is

pub cmp_same : (text other : List ℕ) → text ≡ other → text_cmp text other ≡ Equal
cmp_same text other is = ap (text_cmp text) (sym is) ∙ tied_itself nat_list_cmp_total text

pub same_cmp : (text other : List ℕ) → text_cmp text other ≡ Equal → text ≡ other
same_cmp text other is = exact_bytes text other is

-- The three ways to put a text among others.
pub with_less : (entry text : List ℕ) (entries : List (List ℕ)) → text_cmp entry text ≡ Less
    → with_entry (entry ∷ entries) text ≡ entry ∷ with_entry entries text
with_less entry text entries is =
    ap (λ (o : Ordering). if is_lt o then entry ∷ with_entry entries text
    else if is_eq o then entry ∷ entries else text ∷ entry ∷ entries) is

pub with_same : (entry text : List ℕ) (entries : List (List ℕ)) → text_cmp entry text ≡ Equal
    → with_entry (entry ∷ entries) text ≡ entry ∷ entries
with_same entry text entries is =
    ap (λ (o : Ordering). if is_lt o then entry ∷ with_entry entries text
    else if is_eq o then entry ∷ entries else text ∷ entry ∷ entries) is

pub with_more : (entry text : List ℕ) (entries : List (List ℕ)) → text_cmp entry text ≡ Greater
    → with_entry (entry ∷ entries) text ≡ text ∷ entry ∷ entries
with_more entry text entries is =
    ap (λ (o : Ordering). if is_lt o then entry ∷ with_entry entries text
    else if is_eq o then entry ∷ entries else text ∷ entry ∷ entries) is

-- They ascend.
pub both : (a b : Bool) → a ≡ true → b ≡ true → (a && b) ≡ true
both true true one two = refl
both true false one two = two
both false b one two = one

pub front_true : (a b : Bool) → (a && b) ≡ true → a ≡ true
front_true true b is = refl
front_true false b is = is

pub back_true : (a b : Bool) → (a && b) ≡ true → b ≡ true
back_true true b is = is
back_true false b is = cc

lt_less : (o : Ordering) → is_lt o ≡ true → o ≡ Less
lt_less Less is = refl
lt_less Equal is = cc
lt_less Greater is = cc

ascend_from-cons : (before text : List ℕ) (texts : List (List ℕ)) → text_cmp before text ≡ Less
    → ascend_from text texts ≡ true → ascend_from before (text ∷ texts) ≡ true
ascend_from-cons before text texts low up =
    both (is_lt (text_cmp before text)) (ascend_from text texts) (ap is_lt low) up

pub from_low : (before text : List ℕ) (texts : List (List ℕ))
    → ascend_from before (text ∷ texts) ≡ true → text_cmp before text ≡ Less
from_low before text texts up =
    lt_less (text_cmp before text)
    (front_true (is_lt (text_cmp before text)) (ascend_from text texts) up)

from_tail : (before text : List ℕ) (texts : List (List ℕ))
    → ascend_from before (text ∷ texts) ≡ true → ascend_from text texts ≡ true
from_tail before text texts up =
    back_true (is_lt (text_cmp before text)) (ascend_from text texts) up

pub tail_ascends : (text : List ℕ) (texts : List (List ℕ)) → ascend_from text texts ≡ true
    → texts_ascend texts ≡ true
tail_ascends text [] up = refl
tail_ascends text (next ∷ texts) up = from_tail text next texts up

ascend_from-with : (before text : List ℕ) (entries : List (List ℕ))
    → text_cmp before text ≡ Less → ascend_from before entries ≡ true
    → ascend_from before (with_entry entries text) ≡ true
ascend_from-with before text [] low up =
    both (is_lt (text_cmp before text)) true (ap is_lt low) refl
ascend_from-with before text (entry ∷ entries) low up =
    let here = from_low before entry entries up in
    let rest = from_tail before entry entries up in
    elim (ordered entry text) [
      | less is ↦
          ap (ascend_from before) (with_less entry text entries is)
          ∙ ascend_from-cons before entry (with_entry entries text) here
          (ascend_from-with entry text entries is rest)
      | same is ↦ ap (ascend_from before) (with_same entry text entries is) ∙ up
      | more is ↦
          ap (ascend_from before) (with_more entry text entries is)
          ∙ ascend_from-cons before text (entry ∷ entries) low
          (ascend_from-cons text entry entries (cmp_back entry text Greater is) rest)
    ]

pub ascend-with : (text : List ℕ) (entries : List (List ℕ)) → texts_ascend entries ≡ true
    → texts_ascend (with_entry entries text) ≡ true
ascend-with text [] up = refl
ascend-with text (entry ∷ entries) up =
    elim (ordered entry text) [
      | less is ↦
          ap texts_ascend (with_less entry text entries is)
          ∙ ascend_from-with entry text entries is up
      | same is ↦ ap texts_ascend (with_same entry text entries is) ∙ up
      | more is ↦
          ap texts_ascend (with_more entry text entries is)
          ∙ ascend_from-cons text entry entries (cmp_back entry text Greater is) up
    ]

pub ascend-fold : (entries texts : List (List ℕ)) → texts_ascend entries ≡ true
    → texts_ascend (fold with_entry entries texts) ≡ true
ascend-fold entries [] up = up
ascend-fold entries (text ∷ texts) up =
    ascend-fold (with_entry entries text) texts (ascend-with text entries up)

-- Whether a text is one of them.
abbrev pub Has : List (List ℕ) → List ℕ → Type 0
Has [] text = ⊥
Has (entry ∷ entries) text = (entry ≡ text) ⊎ Has entries text

with_has : (entries : List (List ℕ)) (text : List ℕ) → Has (with_entry entries text) text
with_has [] text = inl refl
with_has (entry ∷ entries) text = elim (ordered entry text) [
  | less is ↦ rw (with_less entry text entries is) (inr (with_has entries text))
  | same is ↦ rw (with_same entry text entries is) (inl (same_cmp entry text is))
  | more is ↦ rw (with_more entry text entries is) (inl refl)
]

with_keeps : (entries : List (List ℕ)) (text other : List ℕ) → Has entries other
    → Has (with_entry entries text) other
with_keeps [] text other there = absurd there
with_keeps (entry ∷ entries) text other there = elim (ordered entry text) [
  | less is ↦ rw (with_less entry text entries is) (elim there [
    | inl here ↦ inl here
    | inr behind ↦ inr (with_keeps entries text other behind)
  ])
  | same is ↦ rw (with_same entry text entries is) there
  | more is ↦ rw (with_more entry text entries is) (inr there)
]

with_only : (entries : List (List ℕ)) (text other : List ℕ)
    → Has (with_entry entries text) other → (text ≡ other) ⊎ Has entries other
with_only [] text other there = elim there [ inl here ↦ inl here | inr none ↦ absurd none ]
with_only (entry ∷ entries) text other there = elim (ordered entry text) [
  | less is ↦
      let put : Has (entry ∷ with_entry entries text) other =
      rw (with_less entry text entries is) at there in
      elim put [
        | inl here ↦ inr (inl here)
        | inr behind ↦ elim (with_only entries text other behind) [
          | inl new ↦ inl new
          | inr old ↦ inr (inr old)
        ]
      ]
  | same is ↦
      let put : Has (entry ∷ entries) other = rw (with_same entry text entries is) at there in
      inr put
  | more is ↦
      let put : Has (text ∷ entry ∷ entries) other =
      rw (with_more entry text entries is) at there in
      elim put [ inl new ↦ inl new | inr old ↦ inr old ]
]

pub fold_keeps : (entries texts : List (List ℕ)) (other : List ℕ) → Has entries other
    → Has (fold with_entry entries texts) other
fold_keeps entries [] other there = there
fold_keeps entries (text ∷ texts) other there =
    fold_keeps (with_entry entries text) texts other (with_keeps entries text other there)

pub fold_has : (entries texts : List (List ℕ)) (other : List ℕ) → Has texts other
    → Has (fold with_entry entries texts) other
fold_has entries [] other there = absurd there
fold_has entries (text ∷ texts) other there = elim there [
  | inl here ↦
      fold_keeps (with_entry entries text) texts other
      (subst (λ (t : List ℕ). Has (with_entry entries text) t) here (with_has entries text))
  | inr behind ↦ fold_has (with_entry entries text) texts other behind
]

pub fold_only : (entries texts : List (List ℕ)) (other : List ℕ)
    → Has (fold with_entry entries texts) other → Has entries other ⊎ Has texts other
fold_only entries [] other there = inl there
fold_only entries (text ∷ texts) other there =
    elim (fold_only (with_entry entries text) texts other there) [
      | inl put ↦ elim (with_only entries text other put) [
        | inl here ↦ inr (inl here)
        | inr old ↦ inl old
      ]
      | inr behind ↦ inr (inr behind)
    ]

-- They become no fewer.
with_longer : (entries : List (List ℕ)) (text : List ℕ)
    → length entries ≤ length (with_entry entries text)
with_longer [] text = omega arith
with_longer (entry ∷ entries) text = elim (ordered entry text) [
  | less is ↦
      omega (
        arith,
        ap length (with_less entry text entries is),
        with_longer entries text,
      )
  | same is ↦ omega (arith, ap length (with_same entry text entries is))
  | more is ↦ omega (arith, ap length (with_more entry text entries is))
]

pub fold_longer : (entries texts : List (List ℕ))
    → length entries ≤ length (fold with_entry entries texts)
fold_longer entries [] = omega arith
fold_longer entries (text ∷ texts) =
    omega (arith, fold_longer (with_entry entries text) texts, with_longer entries text)

-- Ascending texts that are the same ones are one list.
pub all_above : (before : List ℕ) (texts : List (List ℕ)) (text : List ℕ)
    → ascend_from before texts ≡ true → Has texts text → text_cmp before text ≡ Less
all_above before [] text up there = absurd there
all_above before (next ∷ texts) text up there =
    let low = from_low before next texts up in
    elim there [
      | inl here ↦ ap (text_cmp before) (sym here) ∙ low
      | inr behind ↦
          nat_list_cmp_total.trans before next text low
          (all_above next texts text (from_tail before next texts up) behind)
    ]

pub not_itself : (text : List ℕ) → text_cmp text text ≡ Less → ⊥
not_itself text low =
    let e : Equal ≡ Less = sym (tied_itself nat_list_cmp_total text) ∙ low in cc

not_both : (text other : List ℕ) → text_cmp text other ≡ Less → text_cmp other text ≡ Less → ⊥
not_both text other low high =
    let e : Greater ≡ Less = sym (cmp_back text other Less low) ∙ high in cc

same_first : (x y : List ℕ) (xs ys : List (List ℕ)) → ascend_from x xs ≡ true
    → ascend_from y ys ≡ true → Has (y ∷ ys) x → Has (x ∷ xs) y → x ≡ y
same_first x y xs ys first second in_ys in_xs = elim in_ys [
  | inl here ↦ sym here
  | inr behind ↦ elim in_xs [
    | inl here ↦ here
    | inr after ↦
        absurd (not_both y x (all_above y ys x second behind) (all_above x xs y first after))
  ]
]

behind_first : (x y : List ℕ) (xs ys : List (List ℕ)) (text : List ℕ)
    → ascend_from x xs ≡ true → x ≡ y → Has xs text → Has (y ∷ ys) text → Has ys text
behind_first x y xs ys text first is there here = elim here [
  | inl there_too ↦
      absurd (not_itself x (ap (text_cmp x) (is ∙ there_too) ∙ all_above x xs text first there))
  | inr behind ↦ behind
]

pub same_entries : (xs ys : List (List ℕ)) → texts_ascend xs ≡ true → texts_ascend ys ≡ true
    → ((text : List ℕ) → Has xs text → Has ys text)
    → ((text : List ℕ) → Has ys text → Has xs text) → xs ≡ ys
same_entries [] [] first second there back = refl
same_entries [] (y ∷ ys) first second there back = absurd (back y (inl refl))
same_entries (x ∷ xs) [] first second there back = absurd (there x (inl refl))
same_entries (x ∷ xs) (y ∷ ys) first second there back =
    let is = same_first x y xs ys first second (there x (inl refl)) (back y (inl refl)) in
    ap₂ (λ (t : List ℕ) (ts : List (List ℕ)). t ∷ ts) is
    (same_entries xs ys (tail_ascends x xs first) (tail_ascends y ys second)
    (λ text within. behind_first x y xs ys text first is within (there text (inr within)))
    (λ text within. behind_first y x ys xs text second (sym is) within (back text (inr within))))

-- A text that is there is not put.
pub with_there : (entries : List (List ℕ)) (text : List ℕ) → texts_ascend entries ≡ true
    → Has entries text → with_entry entries text ≡ entries
with_there [] text up there = absurd there
with_there (entry ∷ entries) text up there = elim there [
  | inl here ↦ with_same entry text entries (cmp_same entry text here)
  | inr behind ↦
      with_less entry text entries (all_above entry entries text up behind)
      ∙ ap (λ (ts : List (List ℕ)). entry ∷ ts)
      (with_there entries text (tail_ascends entry entries up) behind)
]
