-- The order of an object's keys while its members are read.
use Rattle.std.proofs.Common.{◌≡◌, ℕ, refl, sym, ap, ◌∙◌, subst, List, [], ◌∷◌, ◌++◌, Option}
use Rattle.std.proofs.Common.{Some, None}
use Rattle.std.proofs.lemmas.List.{append_assoc}
use Rattle.std.specs.Prelude.{IfSome}
use Rattle.std.specs.Ordering.{nat_cmp, match_ordering, ordering_reverse}
use Rattle.std.specs.declared.cmp.Ordering.{Ordering}
use Rattle.std.specs.declared.cmp.Ordering.TheVariants.{Less, Equal, Greater}
use Rattle.std.specs.Cmp.Lexicographic.{slice_cmp, nat_list_cmp_total}
use Rattle.std.specs.BTreeMap.{insert_entry}
use Rattle.jsonb_value.specs.Json.Syntax.{Entries, insert_all, pairs}
use Rattle.jsonb_value.specs.Tree.{Tree, Ascend, Ascends}
use Rattle.jsonb_codec.specs.Tape.{LastBelow}

-- the members in the order read, with one more, are those before with it inserted
pub inserts_last : (es ms : Entries) (k : List ℕ) (t : Tree)
    → insert_all es (ms ++ (k, t) ∷ []) ≡ insert_entry (slice_cmp nat_cmp) (insert_all es ms) k t
inserts_last es [] k t = refl
inserts_last es (m ∷ ms) k t =
    inserts_last (insert_entry (slice_cmp nat_cmp) es m.0 m.1) ms k t

pub ascends_snoc : (before : Option (List ℕ)) (es : Entries) (k : List ℕ) (t : Tree)
    → Ascends before (pairs es) → LastBelow before es k → Ascends before (pairs (es ++ (k, t) ∷ []))
ascends_snoc before [] k t h below = (below, tt)
ascends_snoc before (e ∷ es) k t h below = (h.0, ascends_snoc (Some e.0) es k t h.1 below)

-- a key between those before and after it
pub insert_ascends : (before : Option (List ℕ)) (es : Entries) (k : List ℕ) (t : Tree)
    → Ascends before (pairs es) → IfSome before (λ b. slice_cmp nat_cmp b k ≡ Less)
    → Ascends before (pairs (insert_entry (slice_cmp nat_cmp) es k t))
insert_ascends before [] k t h above = (above, tt)
insert_ascends before (e ∷ es) k t h above =
    by (slice_cmp nat_cmp k e.0) refl (insert_ascends (Some e.0) es k t h.1)
  where
    by : (o : Ordering) → slice_cmp nat_cmp k e.0 ≡ o
        → (slice_cmp nat_cmp e.0 k ≡ Less
        → Ascends (Some e.0) (pairs (insert_entry (slice_cmp nat_cmp) es k t)))
        → Ascends before
        (pairs (match_ordering o ((k, t) ∷ e ∷ es) ((e.0, t) ∷ es)
        (e ∷ insert_entry (slice_cmp nat_cmp) es k t)))
    by Less is later = (above, (is, h.1))
    by Equal is later = h
    by Greater is later = (h.0, later (nat_list_cmp_total.antisymm e.0 k ∙ ap ordering_reverse is))

pub all_ascend : (es ms : Entries) → Ascend (pairs es) → Ascend (pairs (insert_all es ms))
all_ascend es [] h = h
all_ascend es (m ∷ ms) h =
    all_ascend (insert_entry (slice_cmp nat_cmp) es m.0 m.1) ms
    (insert_ascends None es m.0 m.1 h tt)

-- a key above all goes to the end
goes_last : (before : Option (List ℕ)) (es rest : Entries) (k : List ℕ) (t : Tree)
    → Ascends before (pairs (es ++ (k, t) ∷ rest))
    → insert_entry (slice_cmp nat_cmp) es k t ≡ es ++ (k, t) ∷ []
goes_last before [] rest k t h = refl
goes_last before (e ∷ es) rest k t h =
    ap (λ o. match_ordering o ((k, t) ∷ e ∷ es) ((e.0, t) ∷ es)
    (e ∷ insert_entry (slice_cmp nat_cmp) es k t))
    (nat_list_cmp_total.antisymm k e.0 ∙ ap ordering_reverse (below e.0 es h.1))
    ∙ ap (λ xs. e ∷ xs) (goes_last (Some e.0) es rest k t h.1)
  where
    below : (b : List ℕ) (es : Entries) → Ascends (Some b) (pairs (es ++ (k, t) ∷ rest))
        → slice_cmp nat_cmp b k ≡ Less
    below b [] h = h.0
    below b (e ∷ es) h = nat_list_cmp_total.trans b e.0 k h.0 (below e.0 es h.1)

-- ascending members are in their order already
pub in_order : (es ms : Entries) → Ascend (pairs (es ++ ms)) → insert_all es ms ≡ es ++ ms
in_order es [] h = by es
  where
    by : (es : Entries) → es ≡ es ++ []
    by [] = refl
    by (e ∷ es) = ap (λ xs. e ∷ xs) (by es)
in_order es (m ∷ ms) h =
    let last = goes_last None es ms m.0 m.1 h in
    ap (λ xs. insert_all xs ms) last
    ∙ in_order (es ++ m ∷ []) ms (subst (λ xs. Ascend (pairs xs))
    (sym (append_assoc es (m ∷ []) ms)) h)
    ∙ append_assoc es (m ∷ []) ms
