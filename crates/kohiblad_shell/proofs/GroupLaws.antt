-- One more row of a group.
use Rattle.std.proofs.Common.{◌≡◌, ◌<◌, ◌≤◌, ◌+◌, ℕ, zero, suc, Bool, true, false, cond, List, []}
use Rattle.std.proofs.Common.{◌∷◌}
use Rattle.std.proofs.Common.{Vec, Global, get_or, length, map, set, take, refl, sym, ap, ◌∙◌}
use Rattle.std.proofs.Common.{subst}
use Rattle.std.proofs.Common.{add-one, arith}
use Rattle.std.specs.Prelude.{Option, Some, is_some, nat_eq, position, slice_get}
use Rattle.std.specs.Cmp.Lexicographic.{pointwise}
use Rattle.std.specs.Map.{keys_of, lookup, values_of}
use Rattle.std.proofs.lemmas.List.Quantifiers.{position-Some}
use Rattle.indexmap.specs.IndexMap.{insert_entry}
use Rattle.indexmap.specs.Layout.{set_value_at}
use Rattle.jsonb_codec.specs.Doc.{IsDocument}
use Rattle.jsonb_value.specs.declared.number.Number.{Number}
use Rattle.kohiblad_shell.specs.declared.groups.Kept.{Kept}
use Rattle.kohiblad_shell.specs.declared.total.Total.{Total}
use Rattle.kohiblad_shell.specs.Groups.{Group, HoldDocuments, first_totals, is_key, kept_group}
use Rattle.kohiblad_shell.specs.Groups.{with_entry, with_member}
use Rattle.kohiblad_shell.specs.Totals.{with_amount, with_amounts}

abbrev Key : Type 0
Key = Vec ℕ Global

abbrev Entries : Type 0
Entries = List (Key × Kept)

-- ---- sums

no_totals : (amounts : List (Option Number)) → with_amounts [] amounts ≡ []
no_totals [] = refl
no_totals (a ∷ amounts) = refl

totals_step : (start : List Total) (amounts : List (Option Number)) (i : ℕ)
    (a : Option Number) (t : Total) → i < length amounts → i < length start
    → set (with_amounts start (take i amounts)) i
    (with_amount (get_or (with_amounts start (take i amounts)) i t) (get_or amounts i a))
    ≡ with_amounts start (take (suc i) amounts)
totals_step start [] i a t low room = absurd (omega (arith, low))
totals_step [] (b ∷ amounts) i a t low room = absurd (omega (arith, room))
totals_step (s ∷ start) (b ∷ amounts) zero a t low room = refl
totals_step (s ∷ start) (b ∷ amounts) (suc i) a t low room =
    ap (λ ts. with_amount s b ∷ ts)
    (totals_step start amounts i a t (omega (arith, low)) (omega (arith, room)))

totals_stay : (start : List Total) (amounts : List (Option Number)) (i : ℕ) → length start ≤ i
    → with_amounts start (take i amounts) ≡ with_amounts start (take (suc i) amounts)
totals_stay [] amounts i past = no_totals (take i amounts) ∙ sym (no_totals (take (suc i) amounts))
totals_stay (s ∷ start) [] zero past = refl
totals_stay (s ∷ start) [] (suc i) past = refl
totals_stay (s ∷ start) (b ∷ amounts) zero past = absurd (omega (arith, past))
totals_stay (s ∷ start) (b ∷ amounts) (suc i) past =
    ap (λ ts. with_amount s b ∷ ts) (totals_stay start amounts i (omega (arith, past)))

-- the number of one more aggregate is added
pub totals_more : (start totals : List Total) (amounts : List (Option Number)) (i : ℕ)
    (a : Option Number) (t : Total) → totals ≡ with_amounts start (take i amounts)
    → i < length amounts → i < length start
    → set totals i (with_amount (get_or totals i t) (get_or amounts i a))
    ≡ with_amounts start (take (i + 1) amounts)
totals_more start totals amounts i a t so_far low room =
    rw (add-one, so_far) (totals_step start amounts i a t low room)

-- there is no further sum
pub totals_past : (start totals : List Total) (amounts : List (Option Number)) (i : ℕ)
    → totals ≡ with_amounts start (take i amounts) → length start ≤ i
    → totals ≡ with_amounts start (take (i + 1) amounts)
totals_past start totals amounts i so_far past =
    so_far ∙ rw add-one (totals_stay start amounts i past)

-- ---- groups

abbrev is_of : List ℕ → Key → Bool
is_of key k = pointwise nat_eq key k.items

-- a row joins the first group of its key
joins : (key document : List ℕ) (amounts : List (Option Number)) (es : Entries) (i : ℕ)
    (w v : Kept) (d : Key) → i < length (keys_of es) → is_of key (get_or (keys_of es) i d) ≡ true
    → ((k : ℕ) → k < i → is_of key (get_or (keys_of es) k d) ≡ false)
    → slice_get (values_of es) i ≡ Some w → v.first.items ≡ w.first.items
    → v.totals.items ≡ with_amounts w.totals.items amounts
    → map kept_group (set_value_at es i v) ≡ with_entry key document amounts (map kept_group es)
joins key document amounts [] i w v d low here before at first totals = absurd (omega (arith, low))
joins key document amounts (e ∷ es) zero w v d low here before at first totals =
    let same : e.1 ≡ w = cc in
    let firsts : v.first.items ≡ e.1.first.items =
    first ∙ ap (λ (x : Kept). x.first.items) (sym same) in
    let sums : v.totals.items ≡ with_amounts e.1.totals.items amounts =
    totals ∙ ap (λ (x : Kept). with_amounts x.totals.items amounts) (sym same) in
    rw (here, firsts, sums) refl
joins key document amounts (e ∷ es) (suc i) w v d low here before at first totals =
    let other : is_of key e.0 ≡ false = before 0 (omega arith) in
    rw other (ap (λ gs. kept_group e ∷ gs)
    (joins key document amounts es i w v d (omega (arith, low)) here
    (λ k less. before (suc k) (omega (arith, less))) at first totals))

pub row_joins : (key : Key) (document : List ℕ) (amounts : List (Option Number)) (es : Entries)
    (i : ℕ) (w v : Kept) → position (is_of key.items) (keys_of es) ≡ Some i
    → slice_get (values_of es) i ≡ Some w → v.first.items ≡ w.first.items
    → v.totals.items ≡ with_amounts w.totals.items amounts
    → map kept_group (set_value_at es i v)
    ≡ with_entry key.items document amounts (map kept_group es)
row_joins key document amounts es i w v found at first totals =
    let (low, here, before) = position-Some (is_of key.items) (keys_of es) i key found in
    joins key.items document amounts es i w v key low here before at first totals

begins_at : (key : Key) (document : List ℕ) (amounts : List (Option Number)) (e : Key × Kept)
    (es : Entries) (v : Kept) (b : Bool) → is_of key.items e.0 ≡ b
    → is_some (lookup (is_of key.items) (e ∷ es)) ≡ false
    → (is_some (lookup (is_of key.items) es) ≡ false
    → map kept_group (insert_entry (λ k l. pointwise nat_eq k.items l.items) es key v)
    ≡ with_entry key.items document amounts (map kept_group es))
    → map kept_group (insert_entry (λ k l. pointwise nat_eq k.items l.items) (e ∷ es) key v)
    ≡ with_entry key.items document amounts (map kept_group (e ∷ es))
begins_at key document amounts e es v true is none later =
    let there : true ≡ false = rw is at none in absurd cc
begins_at key document amounts e es v false is none later =
    rw is (ap (λ gs. kept_group e ∷ gs) (later (rw is at none)))

-- a row with a new key begins a group
pub row_begins : (key : Key) (document : List ℕ) (amounts : List (Option Number)) (es : Entries)
    (v : Kept) → is_some (lookup (is_of key.items) es) ≡ false → v.first.items ≡ document
    → v.totals.items ≡ first_totals amounts
    → map kept_group (insert_entry (λ k l. pointwise nat_eq k.items l.items) es key v)
    ≡ with_entry key.items document amounts (map kept_group es)
row_begins key document amounts [] v none first totals = rw (first, totals) refl
row_begins key document amounts (e ∷ es) v none first totals =
    begins_at key document amounts e es v (is_of key.items e.0) refl none
    (λ less. row_begins key document amounts es v less first totals)

-- ---- documents

hold_both : (b : Bool) (gs hs : List Group) → HoldDocuments gs → HoldDocuments hs
    → HoldDocuments (cond b gs hs)
hold_both true gs hs first second = first
hold_both false gs hs first second = second

-- one more row leaves documents
pub hold_more : (key document : List ℕ) (amounts : List (Option Number)) (gs : List Group)
    → IsDocument document → HoldDocuments gs → HoldDocuments (with_entry key document amounts gs)
hold_more key document amounts [] is hold = (is, tt)
hold_more key document amounts (g ∷ gs) is (here, hold) =
    hold_both (is_key key g.key) (with_member g amounts ∷ gs)
    (g ∷ with_entry key document amounts gs) (here, hold)
    (here, hold_more key document amounts gs is hold)

-- the first row of a group is a document
pub hold_at : (es : Entries) (i : ℕ) (e : Key × Kept) → slice_get es i ≡ Some e
    → HoldDocuments (map kept_group es) → IsDocument e.1.first.items
hold_at [] i e at hold = absurd cc
hold_at (d ∷ es) zero e at (here, hold) =
    let same : d ≡ e = cc in subst (λ (x : Key × Kept). IsDocument x.1.first.items) same here
hold_at (d ∷ es) (suc i) e at (here, hold) = hold_at es i e at hold

-- the first row of a group stays when others join it
pub hold_set : (es : Entries) (i : ℕ) (w v : Kept) → slice_get (values_of es) i ≡ Some w
    → v.first.items ≡ w.first.items → HoldDocuments (map kept_group es)
    → HoldDocuments (map kept_group (set_value_at es i v))
hold_set [] i w v at first hold = absurd cc
hold_set (e ∷ es) zero w v at first (here, hold) =
    let same : e.1 ≡ w = cc in
    let firsts : v.first.items ≡ e.1.first.items =
    first ∙ ap (λ (x : Kept). x.first.items) (sym same) in
    (subst IsDocument (sym firsts) here, hold)
hold_set (e ∷ es) (suc i) w v at first (here, hold) = (here, hold_set es i w v at first hold)
