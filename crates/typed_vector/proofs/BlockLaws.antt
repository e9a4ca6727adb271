-- The values of a block of rows, by their stored form.
use Rattle.std.proofs.Common.{◌≡◌, ℕ, suc, zero, Bool, true, false, cond, ◌+◌, ◌-◌, ◌*◌, ◌<◌}
use Rattle.std.proofs.Common.{List, [], ◌∷◌, ◌++◌, length, get_or, min, take, drop, refl, sym, ap}
use Rattle.std.proofs.Common.{ap₂, subst, ◌∙◌, arith, below_more}
use Rattle.std.proofs.lemmas.List.{append-nil, drop-map, get_or-map, get_or_append_left}
use Rattle.std.proofs.lemmas.List.{get_or_push, length-drop, length-map, length-take, take-map}
use Rattle.std.proofs.lemmas.List.{take_min, take_more}
use Rattle.std.specs.Bool.{beq}
use Rattle.std.specs.Prelude.{Option, None}
use Rattle.std.specs.declared.cmp.Ordering.{Ordering}
use Rattle.typed_vector.specs.Cells.{cells}
use Rattle.typed_vector.specs.ZoneMap.{IsZone, are_set, block_at, cell_values, set_values}
use Rattle.typed_vector.specs.declared.zone_map.Zone.{Zone}

set_values-push : {A : Type 0} (vs : List A) (bs : List Bool) (v : A) (b : Bool)
    → length bs ≡ length vs
    → set_values (vs ++ v ∷ []) (bs ++ b ∷ []) ≡ set_values vs bs ++ cond b (v ∷ []) []
set_values-push [] [] v true same = refl
set_values-push [] [] v false same = refl
set_values-push [] (x ∷ bs) v b same = absurd (omega (arith, same))
set_values-push (x ∷ vs) [] v b same = absurd (omega (arith, same))
set_values-push {A = A} (x ∷ vs) (true ∷ bs) v b same =
    ap (λ (xs : List A). x ∷ xs) (set_values-push vs bs v b (omega (arith, same)))
set_values-push (x ∷ vs) (false ∷ bs) v b same =
    set_values-push vs bs v b (omega (arith, same))

-- One more row.
set_values-more : {A : Type 0} (vs : List A) (bs : List Bool) (i : ℕ) (v : A)
    → length bs ≡ length vs → i < length vs
    → set_values (take (i + 1) vs) (take (i + 1) bs)
    ≡ set_values (take i vs) (take i bs) ++ cond (get_or bs i false) (get_or vs i v ∷ []) []
set_values-more vs bs i v same low =
    ap₂ set_values (take_more vs i v low) (take_more bs i false (omega (arith, same)))
    ∙ set_values-push (take i vs) (take i bs) (get_or vs i v) (get_or bs i false)
    (omega (arith, same, length-take i vs, length-take i bs))

pub set_values-set : {A : Type 0} (vs : List A) (bs : List Bool) (i : ℕ) (v : A)
    → length bs ≡ length vs → i < length vs → get_or bs i false ≡ true → v ≡ get_or vs i v
    → set_values (take i vs) (take i bs) ++ v ∷ []
    ≡ set_values (take (i + 1) vs) (take (i + 1) bs)
set_values-set {A = A} vs bs i v same low set is =
    ap (λ (x : A). set_values (take i vs) (take i bs) ++ x ∷ []) is
    ∙ ap (λ b. set_values (take i vs) (take i bs) ++ cond b (get_or vs i v ∷ []) []) (sym set)
    ∙ sym (set_values-more vs bs i v same low)

pub set_values-unset : {A : Type 0} (vs : List A) (bs : List Bool) (i : ℕ) (v : A)
    → length bs ≡ length vs → i < length vs → get_or bs i false ≡ false
    → set_values (take i vs) (take i bs) ≡ set_values (take (i + 1) vs) (take (i + 1) bs)
set_values-unset vs bs i v same low unset =
    sym (append-nil (set_values (take i vs) (take i bs)))
    ∙ ap (λ b. set_values (take i vs) (take i bs) ++ cond b (get_or vs i v ∷ []) []) (sym unset)
    ∙ sym (set_values-more vs bs i v same low)

cell_values-take : {A : Type 0} (n : ℕ) (vs : List A) (bs : List Bool) (rs : List (List ℕ))
    → length bs ≡ length vs → length rs ≡ length vs
    → cell_values (take n (cells vs bs rs)) ≡ set_values (take n vs) (take n bs)
cell_values-take zero vs bs rs hb hr = refl
cell_values-take (suc n) [] bs rs hb hr = refl
cell_values-take (suc n) (x ∷ vs) [] rs hb hr = absurd (omega (arith, hb))
cell_values-take (suc n) (x ∷ vs) (y ∷ bs) [] hb hr = absurd (omega (arith, hr))
cell_values-take {A = A} (suc n) (x ∷ vs) (true ∷ bs) (z ∷ rs) hb hr =
    ap (λ (xs : List A). x ∷ xs)
    (cell_values-take n vs bs rs (omega (arith, hb)) (omega (arith, hr)))
cell_values-take (suc n) (x ∷ vs) (false ∷ bs) ([] ∷ rs) hb hr =
    cell_values-take n vs bs rs (omega (arith, hb)) (omega (arith, hr))
cell_values-take (suc n) (x ∷ vs) (false ∷ bs) ((b ∷ z) ∷ rs) hb hr =
    cell_values-take n vs bs rs (omega (arith, hb)) (omega (arith, hr))

cell_values-between : {A : Type 0} (n m : ℕ) (vs : List A) (bs : List Bool) (rs : List (List ℕ))
    → length bs ≡ length vs → length rs ≡ length vs
    → cell_values (take n (drop m (cells vs bs rs)))
    ≡ set_values (take n (drop m vs)) (take n (drop m bs))
cell_values-between n zero vs bs rs hb hr = cell_values-take n vs bs rs hb hr
cell_values-between zero (suc m) vs bs rs hb hr = refl
cell_values-between (suc n) (suc m) [] bs rs hb hr = refl
cell_values-between n (suc m) (x ∷ vs) [] rs hb hr = absurd (omega (arith, hb))
cell_values-between n (suc m) (x ∷ vs) (y ∷ bs) [] hb hr = absurd (omega (arith, hr))
cell_values-between n (suc m) (x ∷ vs) (y ∷ bs) (z ∷ rs) hb hr =
    cell_values-between n m vs bs rs (omega (arith, hb)) (omega (arith, hr))

-- The slice of a block, whose end is not past the last row.
slice_is : {X : Type 0} (xs : List X) (size start end : ℕ)
    → end ≡ start + min size (length xs - start)
    → take (end - start) (drop start xs) ≡ take size (drop start xs)
slice_is xs size start end is =
    let long : end - start ≡ min size (length (drop start xs)) =
    omega (arith, is, length-drop start xs) in
    ap (λ n. take n (drop start xs)) long ∙ take_min size (drop start xs)

-- The values of a block are those that are set in the slices of it.
block_values : {A : Type 0} (vs : List A) (bs : List Bool) (rs : List (List ℕ))
    (size index end : ℕ) → length bs ≡ length vs → length rs ≡ length vs
    → end ≡ index * size + min size (length vs - index * size)
    → set_values (take (end - index * size) (drop (index * size) vs))
    (take (end - index * size) (drop (index * size) bs))
    ≡ cell_values (block_at size (cells vs bs rs) index)
block_values vs bs rs size index end hb hr is =
    let start = index * size in
    ap₂ set_values (slice_is vs size start end is)
    (slice_is bs size start end (is ∙ ap (λ n. start + min size (n - start)) (sym hb)))
    ∙ sym (cell_values-between size start vs bs rs hb hr)

-- One more item: what holds of each, by its index, holds of it too.
each_more : {X : Type 0} (P : ℕ → X → Type 0) (xs : List X) (x d : X) (i : ℕ) → length xs ≡ i
    → ((k : ℕ) → k < i → P k (get_or xs k d)) → P i x
    → (k : ℕ) → k < i + 1 → P k (get_or (xs ++ x ∷ []) k d)
each_more P xs x d i is each here =
    below_more (λ k. P k (get_or (xs ++ x ∷ []) k d)) i
    (λ k lt. subst (P k) (sym (get_or_append_left xs (x ∷ []) d k (omega (arith, is, lt))))
    (each k lt))
    (subst (P i) (sym (get_or_push xs x d i is)) here)

-- Which flag an index has.
pub set_flag : {F : Type 0} (eq : F → F → Bool) (set : F) (flags : List F) (i : ℕ) (flag : F)
    → i < length flags → flag ≡ get_or flags i flag
    → get_or (are_set eq set flags) i false ≡ eq flag set
set_flag eq set flags i flag low is =
    get_or-map (λ one. eq one set) flags i flag false low
    ∙ ap (λ one. eq one set) (sym is)

-- The flags of a part.
pub set_between : {F : Type 0} (eq : F → F → Bool) (set : F) (flags : List F) (n m : ℕ)
    → are_set eq set (take n (drop m flags)) ≡ take n (drop m (are_set eq set flags))
set_between eq set flags n m =
    sym (take-map (λ one. eq one set) n (drop m flags))
    ∙ ap (take n) (sym (drop-map (λ one. eq one set) m flags))

-- A flag that is true or false is itself.
pub set_itself : (flags : List Bool) → are_set beq true flags ≡ flags
set_itself [] = refl
set_itself (true ∷ flags) = ap (λ (xs : List Bool). true ∷ xs) (set_itself flags)
set_itself (false ∷ flags) = ap (λ (xs : List Bool). false ∷ xs) (set_itself flags)

-- The zone of the slices of a block is that of the block.
pub zone_is : {A F : Type 0} (cmp : A → A → Ordering) (eq : F → F → Bool) (set : F) (vs : List A)
    (flags : List F) (rs : List (List ℕ)) (size index rows : ℕ) (zone : Option (Zone A))
    → length flags ≡ length vs → length rs ≡ length vs
    → rows ≡ min size (length vs - index * size)
    → IsZone cmp (set_values (take (index * size + rows - index * size) (drop (index * size) vs))
    (are_set eq set (take (index * size + rows - index * size) (drop (index * size) flags)))) zone
    → IsZone cmp (cell_values (block_at size (cells vs (are_set eq set flags) rs) index)) zone
zone_is cmp eq set vs flags rs size index rows zone hb hr rows_is here =
    let start = index * size in
    let many = start + rows - start in
    let block = block_values vs (are_set eq set flags) rs size index (start + rows)
    (length-map flags (λ one. eq one set) ∙ hb) hr (ap (λ n. start + n) rows_is) in
    subst (λ items. IsZone cmp items zone)
    (ap (set_values (take many (drop start vs))) (set_between eq set flags many start) ∙ block)
    here

-- The zone of one more block.
pub zones_more : {A : Type 0} (P : ℕ → Option (Zone A) → Type 0)
    (zones new : List (Option (Zone A))) (zone : Option (Zone A)) (index : ℕ)
    → new ≡ zones ++ zone ∷ [] → length zones ≡ index
    → ((k : ℕ) → k < index → P k (get_or zones k None)) → P index zone
    → (k : ℕ) → k < index + 1 → P k (get_or new k None)
zones_more {A = A} P zones new zone index new_is count each here =
    subst (λ zs. (k : ℕ) → k < index + 1 → P k (get_or zs k None)) (sym new_is)
    (each_more P zones zone None index count each here)
