-- The members of a row that are kept in columns, and its rest with them.
use Rattle.std.proofs.Common.{◌≡◌, ◌⊎◌, inl, inr, ℕ, zero, suc, ◌<◌, ◌≤◌, List, [], ◌∷◌}
use Rattle.std.proofs.Common.{map, length, drop, slice_index_or, refl, sym, ap, subst, arith}
use Rattle.std.proofs.Common.{◌∙◌, Option, None, Some}
use Rattle.std.specs.Borrow.{Bor}
use Rattle.std.specs.List.{AllByRecursion}
use Rattle.std.specs.Prelude.{⊤, IfOk, IfSome, IsErrAnd, Result, Ok, Err, IsUtf8}
use Rattle.std.specs.BTreeMap.{insert_entry}
use Rattle.std.specs.declared.cmp.Ordering.{Ordering}
use Rattle.std.specs.declared.cmp.Ordering.TheVariants.{Less, Equal, Greater}
use Rattle.std.specs.Ordering.{match_ordering, nat_cmp}
use Rattle.std.specs.Cmp.Lexicographic.{slice_cmp}
use Rattle.jsonb_value.specs.Norm.{norm, norm_pairs}
use Rattle.jsonb_value.specs.Tree as trees
use Rattle.jsonb_value.specs.Tree.{Tree, object, Pairs, no_pairs, pair, Ascend, Ascends}
use Rattle.jsonb_value.specs.WellFormed.{ArePairs, IsTree}
use Rattle.jsonb_codec.specs.Canon.{Fits, canon, pairs_shapes, shape_of}
use Rattle.jsonb_value.specs.declared.error.Error.{Error}
use Rattle.jsonb_value.specs.declared.error.Error.TheVariants.{InvalidJsonb, OutOfMemory}
use Rattle.jsonb_codec.specs.Doc.{Doc}
use Rattle.jsonb_codec.specs.Made.{MadeIfFit}
use Rattle.jsonb.specs.declared.item_type.JsonbItemType.TheVariants as kinds
use Rattle.jsonb.specs.declared.owned.OwnedJsonb.{OwnedJsonb}
use Rattle.jsonb.specs.Document.{tree_in}
use Rattle.jsonb.specs.Kind.{kind_of_tree}
use Rattle.jsonb.specs.Owned.{owned_bytes}
use Rattle.jsonb.proofs.DocumentLaws.{tree_in-is}
use Rattle.jsonb.proofs.ObjectLaws.{key_cmp}
use Rattle.jsonb_functions.proofs.MemoryLaws.{with_memory}
use Rattle.jsonb_codec.specs.Shape as shapes
use Rattle.jsonb_codec.specs.Shape.{AllFit, leaf, shape_count}
use Rattle.jsonb_codec.specs.Stored.{AreStored, shapes_by}
use Rattle.jsonb_codec.proofs.CanonLaws.{Doc-canon, shape_of-norm}
use Rattle.jsonb_functions.specs.Joined.{joined, merged, put_beside, with_key}
use Rattle.jsonb_functions.proofs.JoinLaws.{ascends_from, with_lesser}
use Rattle.jsonb_functions.proofs.KeyOrder.{Below, ascend_later, key_equal, not_before, not_itself}
use Rattle.jsonb_typed_file.specs.declared.buffers.Buffers.{Buffers}
use Rattle.jsonb_typed_file.specs.declared.column.StoredValue.{StoredValue}
use Rattle.jsonb_typed_file.specs.declared.column.StoredValue.TheVariants as values
use Rattle.jsonb_typed_file.specs.ValueViews.{members_view, stored_view, value_code}
use Rattle.jsonb_typed_file.specs.Views.{buffers_view}
use Rattle.jsonb_typed_file.specs.Layout.{Parts}
use Rattle.jsonb_typed_file.specs.File.{AscendNames, HaveRows, HaveTexts}
use Rattle.jsonb_typed_file.specs.Rows.{IsMadeRow, column_members, with_fields, with_stored}
use Rattle.jsonb_typed_file.specs.Values.{AreColumnTexts, HasRows, column_cell}

-- The members ascend, since the names do.
cell_ascends : (before : Option (List ℕ)) (name : List ℕ) (o : Option Tree) (ps : Pairs)
    → IfSome before (λ b. Below b name) → Ascends (Some name) ps
    → Ascends before (with_stored name o ps)
cell_ascends before name (Some t) ps below later = (below, later)
cell_ascends None name None ps below later = ascend_later name ps later
cell_ascends (Some b) name None ps below later = ascends_from b name ps below later

pub members_ascend : (before : Option (List ℕ)) (ps : List Parts) (index : ℕ)
    → AscendNames before ps → Ascends before (column_members ps index)
members_ascend before [] index names = tt
members_ascend before (p ∷ ps) index names =
    cell_ascends before p.name (column_cell p index) (column_members ps index) names.0
    (members_ascend (Some p.name) ps index names.1)

-- No column is left.
pub no_members : (bs : List Buffers) (index : ℕ)
    → no_pairs ≡ column_members (map buffers_view (drop (length bs) bs)) index
no_members [] index = refl
no_members (b ∷ bs) index = no_members bs index

-- A column among others has as many rows as they.
pub rows_at : (rows : ℕ) (bs : List Buffers) (n : ℕ) (d : Buffers) → n < length bs
    → HaveRows rows (map buffers_view bs) → HasRows rows (buffers_view (slice_index_or bs n d))
rows_at rows [] n d low all = absurd (omega (arith, low))
rows_at rows (b ∷ bs) zero d low all = all.0
rows_at rows (b ∷ bs) (suc n) d low all = rows_at rows bs n d (omega (arith, low)) all.1

pub texts_at : (rows : ℕ) (bs : List Buffers) (n : ℕ) (d : Buffers) → n < length bs
    → HaveTexts rows (map buffers_view bs)
    → AreColumnTexts rows (buffers_view (slice_index_or bs n d))
texts_at rows [] n d low all = absurd (omega (arith, low))
texts_at rows (b ∷ bs) zero d low all = all.0
texts_at rows (b ∷ bs) (suc n) d low all = texts_at rows bs n d (omega (arith, low)) all.1

-- A member below all others comes before them.
pub put_first : (es after : List (Bor (List ℕ) × StoredValue)) (k : Bor (List ℕ)) (v : StoredValue)
    → Ascends (Some k.now) (members_view es) → after ≡ insert_entry key_cmp es k v
    → members_view after ≡ pair k.now (stored_view v) (members_view es)
put_first [] after k v ascend put = ap members_view put
put_first (e ∷ es) after k v ascend put =
    ap members_view (put ∙ ap (λ o. match_ordering o ((k, v) ∷ e ∷ es) ((e.0, v) ∷ es)
    (e ∷ insert_entry key_cmp es k v)) ascend.0)

-- The members of the columns after one are above its name.
pub members_above : (before : Option (List ℕ)) (bs : List Buffers) (n : ℕ) (d : Buffers)
    (index : ℕ) → n < length bs → AscendNames before (map buffers_view bs)
    → Ascends (Some (slice_index_or bs n d).name.now)
    (column_members (map buffers_view (drop (suc n) bs)) index)
members_above before [] n d index low names = absurd (omega (arith, low))
members_above before (b ∷ bs) zero d index low names =
    members_ascend (Some b.name.now) (map buffers_view bs) index names.1
members_above before (b ∷ bs) (suc n) d index low names =
    members_above (Some b.name.now) bs n d index (omega (arith, low)) names.1

-- The shape of a value is its entry.
value_shape : (v : StoredValue) → leaf (value_code v).0 (value_code v).1 ≡ shape_of (stored_view v)
value_shape (values.Boolean b) = refl
value_shape (values.Number x) = refl
value_shape (values.Text s) = refl
value_shape (values.Extension e) = refl

-- The shapes of members are those of their pairs.
member_shapes : (es : List (Bor (List ℕ) × StoredValue))
    → pairs_shapes (members_view es) ≡ shapes_by (λ e. e.0.now) (λ e. value_code e.1) es
member_shapes [] = refl
member_shapes (e ∷ es) = rw (member_shapes es, value_shape e.1) refl

all_stored : (es : List (Bor (List ℕ) × StoredValue)) → AllByRecursion (λ e. ⊤) es
all_stored [] = tt
all_stored (e ∷ es) = (tt, all_stored es)

pub are_stored : (es : List (Bor (List ℕ) × StoredValue))
    → AreStored (λ e. ⊤) (λ e. e.0.now) (λ e. value_code e.1) es (pairs_shapes (members_view es))
are_stored es = record { all = all_stored es; shapes = member_shapes es }

-- The object of members that are as their types guarantee means itself.
are_pairs : (es : List (Bor (List ℕ) × StoredValue))
    → AllByRecursion (λ e. IsUtf8 e.0.now × IsTree (stored_view e.1)) es
    → ArePairs (members_view es)
are_pairs [] held = tt
are_pairs (e ∷ es) held = (held.0.0, (held.0.1, are_pairs es held.1))

pub members_mean : (es : List (Bor (List ℕ) × StoredValue)) (bytes : List ℕ)
    → Ascend (members_view es)
    → AllByRecursion (λ e. IsUtf8 e.0.now × IsTree (stored_view e.1)) es
    → Fits (object (members_view es)) → bytes ≡ canon (object (members_view es))
    → Doc bytes (norm (object (members_view es)))
members_mean es bytes ascend held fit written =
    let t = object (members_view es) in
    subst (λ x. Doc x (norm t)) (sym written)
    (Doc-canon t (ascend, are_pairs es held) fit)

-- Signed zeros leave the shape of members that are put among others.
beside_shapes : (o : Ordering) (k j : List ℕ) (u v t s : Tree) (ps rs after later : Pairs)
    → shape_of u ≡ shape_of v → shape_of t ≡ shape_of s → pairs_shapes ps ≡ pairs_shapes rs
    → pairs_shapes after ≡ pairs_shapes later
    → pairs_shapes (put_beside o k u j t ps after) ≡ pairs_shapes (put_beside o k v j s rs later)
beside_shapes Less k j u v t s ps rs after later value first others rest = rw (first, rest) refl
beside_shapes Equal k j u v t s ps rs after later value first others rest =
    rw (value, others) refl
beside_shapes Greater k j u v t s ps rs after later value first others rest =
    rw (value, first, others) refl

with_shapes : (k : List ℕ) (u v : Tree) (ps rs : Pairs) → shape_of u ≡ shape_of v
    → pairs_shapes ps ≡ pairs_shapes rs
    → pairs_shapes (with_key k u ps) ≡ pairs_shapes (with_key k v rs)
with_shapes k u v no_pairs no_pairs value same = rw value refl
with_shapes k u v no_pairs (pair i s rs) value same = absurd cc
with_shapes k u v (pair j t ps) no_pairs value same = absurd cc
with_shapes k u v (pair j t ps) (pair i s rs) value same =
    let key : j ≡ i = cc in let first : shape_of t ≡ shape_of s = cc in
    let others : pairs_shapes ps ≡ pairs_shapes rs = cc in
    beside_shapes (slice_cmp nat_cmp j k) k j u v t s ps rs (with_key k u ps) (with_key k v rs)
    value first others (with_shapes k u v ps rs value others)
    ∙ ap (λ x. pairs_shapes (put_beside (slice_cmp nat_cmp x k) k v x s rs (with_key k v rs))) key

merged_shapes : (ps qs : Pairs)
    → pairs_shapes (merged ps (norm_pairs qs)) ≡ pairs_shapes (merged ps qs)
merged_shapes ps no_pairs = refl
merged_shapes ps (pair k u qs) =
    with_shapes k (norm u) u (merged ps (norm_pairs qs)) (merged ps qs) (shape_of-norm u)
    (merged_shapes ps qs)

pub joined_shape : (ps qs : Pairs)
    → shape_of (joined (object ps) (norm (object qs))) ≡ shape_of (with_fields (object ps) qs)
joined_shape ps qs = ap shapes.object (merged_shapes ps qs)

-- The first pairs stand among the second, in order.
abbrev StandIn : Pairs → Pairs → Type 0
StandIn no_pairs ms = ⊤
StandIn (pair k u qs) no_pairs = ⊥
StandIn (pair k u qs) (pair j t ms) =
    ((k ≡ j) × ((u ≡ t) × StandIn qs ms)) ⊎ StandIn (pair k u qs) ms

-- Behind a pair that is not above them they stand among the others.
stand_behind : (k j : List ℕ) (t : Tree) (qs ms : Pairs) → (Below k j → ⊥) → Ascends (Some k) qs
    → StandIn qs (pair j t ms) → StandIn qs ms
stand_behind k j t no_pairs ms late ascend stand = tt
stand_behind k j t (pair i s qs) ms late ascend (inl (key, _)) =
    absurd (late (subst (Below k) key ascend.0))
stand_behind k j t (pair i s qs) ms late ascend (inr stand) = stand

not_equal_below : (j k : List ℕ) → slice_cmp nat_cmp j k ≡ Equal → Below k j → ⊥
not_equal_below j k same below = not_itself k (subst (Below k) (key_equal j k same) below)

stand_with : (k : List ℕ) (u : Tree) (qs ms : Pairs) → Ascends (Some k) qs → StandIn qs ms
    → StandIn (pair k u qs) (with_key k u ms)
stand_with k u qs no_pairs ascend stand = inl (refl, (refl, stand))
stand_with k u qs (pair j t ms) ascend stand =
    placed (slice_cmp nat_cmp j k) refl (λ still. stand_with k u qs ms ascend still)
  where
    placed : (o : Ordering) → slice_cmp nat_cmp j k ≡ o
        → (StandIn qs ms → StandIn (pair k u qs) (with_key k u ms))
        → StandIn (pair k u qs) (put_beside o k u j t ms (with_key k u ms))
    placed Less is onward = inr (onward
        (stand_behind k j t qs ms (not_before j k is) ascend stand))
    placed Equal is onward = inl (
      refl,
      (refl, stand_behind k j t qs ms (not_equal_below j k is) ascend stand),
    )
    placed Greater is onward = inl (refl, (refl, stand))

merged_stand : (ps qs : Pairs) → Ascend qs → StandIn qs (merged ps qs)
merged_stand ps no_pairs ascend = tt
merged_stand ps (pair k u qs) ascend =
    stand_with k u qs (merged ps qs) ascend.1 (merged_stand ps qs (ascend_later k qs ascend.1))

fits_among : (qs ms : Pairs) → StandIn qs ms → AllFit (pairs_shapes ms)
    → AllFit (pairs_shapes qs)
    × (shape_count (pairs_shapes qs) ≤ shape_count (pairs_shapes ms))
fits_among no_pairs ms stand fit = (tt, omega arith)
fits_among (pair k u qs) no_pairs stand fit = absurd stand
fits_among (pair k u qs) (pair j t ms) (inl (key, (value, stand))) fit =
    let (each, few) = fits_among qs ms stand fit.1 in
    ((rw (key, value) fit.0, each), omega (arith, few))
fits_among (pair k u qs) (pair j t ms) (inr stand) fit =
    let (each, few) = fits_among (pair k u qs) ms stand fit.1 in (each, omega (arith, few))

-- If a row fits, the object of its members does.
pub members_fit : (ps qs : Pairs) → Ascend qs → Fits (with_fields (object ps) qs)
    → Fits (object qs)
members_fit ps qs ascend (few, fit) =
    let (each, less) = fits_among qs (merged ps qs) (merged_stand ps qs ascend) fit in
    (omega (arith, few, less), each)

-- Only an object is of the kind of objects.
pub object_kind : (t : Tree) (n : ℕ) → kind_of_tree t ≡ kinds.Object n
    → (ps : Pairs) × (t ≡ object ps)
object_kind trees.null n is = absurd cc
object_kind (trees.boolean b) n is = absurd cc
object_kind (trees.number x) n is = absurd cc
object_kind (trees.text s) n is = absurd cc
object_kind (trees.extension e) n is = absurd cc
object_kind (trees.array ts) n is = absurd cc
object_kind (object ps) n is = (ps, refl)

error_in : (e f : Error) → ◌≡◌ {A = Result OwnedJsonb Error} (Err e) (Err f) → e ≡ f
error_in e f same = cc

-- A row of an empty rest is its members.
merged_alone : (qs : Pairs) → Ascend qs → merged no_pairs qs ≡ qs
merged_alone no_pairs ascend = refl
merged_alone (pair k u qs) ascend =
    ap (with_key k u) (merged_alone qs (ascend_later k qs ascend.1)) ∙ with_lesser k u qs ascend.1

empty_kind : (ps : Pairs) (n : ℕ) → kind_of_tree (object ps) ≡ kinds.Object n → n ≡ 0
    → ps ≡ no_pairs
empty_kind no_pairs n is none = refl
empty_kind (pair k u ps) n is none = absurd (let never : ⊥ = cc in never)

pub made_alone : (t : Tree) (n : ℕ) (ms : Pairs) (ps : List Parts) (index : ℕ)
    (result : Result OwnedJsonb Error) → kind_of_tree t ≡ kinds.Object n → n ≡ 0
    → ms ≡ column_members ps index → AscendNames None ps
    → IfOk result (λ owned. owned_bytes owned ≡ canon (object ms))
    → MadeIfFit (Fits (object ms)) result
    → IsMadeRow (with_fields t (column_members ps index)) result
made_alone t n ms ps index result kind none is names document limits =
    let qs = column_members ps index in
    let (others, row) = object_kind t n kind in
    let empty : others ≡ no_pairs =
    empty_kind others n (sym (ap kind_of_tree row) ∙ kind) none in
    let same : object ms ≡ with_fields t qs =
    ap object (is ∙ sym (merged_alone qs (members_ascend None ps index names)))
    ∙ sym (ap (λ x. with_fields x qs) (row ∙ ap object empty)) in
    record {
      document = subst (λ x. IfOk result (λ owned. owned_bytes owned ≡ canon x)) same document;
      limits = with_memory (Fits (with_fields t qs)) result
          (subst (λ x. MadeIfFit (Fits x) result) same limits);
    }

-- A row is refused as its members are.
refused : (t m : Tree) (ps qs : Pairs) (e : Error) {A : Type 0}
    (result : Result OwnedJsonb Error) → t ≡ object ps → m ≡ object qs → Ascend qs
    → MadeIfFit {A = A} (Fits m) (Err e) → IsErrAnd result (λ x. x ≡ e)
    → IsMadeRow (with_fields t qs) result
refused t m ps qs e (Ok owned) row is ascend limits failed = absurd failed
refused t m ps qs e (Err f) row is ascend limits failed = record {
  document = tt;
  limits = record {
    fits = tt;
    past = λ named fit. limits.past.0 (ap Err (sym failed ∙ error_in f InvalidJsonb named))
        (subst Fits (sym is)
        (members_fit ps qs ascend (subst (λ x. Fits (with_fields x qs)) row fit)));
    only = subst (λ x. (x ≡ InvalidJsonb) ⊎ (x ≡ OutOfMemory)) (sym failed) limits.only;
  };
}

pub refused_row : (t m : Tree) (n : ℕ) (ps : List Parts) (index : ℕ) (e : Error) {A : Type 0}
    (result : Result OwnedJsonb Error) → kind_of_tree t ≡ kinds.Object n
    → m ≡ object (column_members ps index) → AscendNames None ps
    → MadeIfFit {A = A} (Fits m) (Err e) → IsErrAnd result (λ x. x ≡ e)
    → IsMadeRow (with_fields t (column_members ps index)) result
refused_row t m n ps index e {A = A} result kind is names limits failed =
    let (pairs, row) = object_kind t n kind in
    refused t m pairs (column_members ps index) e {A = A} result row is
    (members_ascend None ps index names) limits failed

-- The joined value is the row.
made : (t u m : Tree) (ps qs : Pairs) (result : Result OwnedJsonb Error) → t ≡ object ps
    → m ≡ object qs → u ≡ norm m → IfOk result (λ owned. owned_bytes owned ≡ canon (joined t u))
    → MadeIfFit (Fits (joined t u)) result → IsMadeRow (with_fields t qs) result
made t u m ps qs result row is members document limits =
    let same : shape_of (joined t u) ≡ shape_of (with_fields t qs) =
    rw (members, is, row) (joined_shape ps qs) in
    record {
      document = subst (λ s. IfOk result (λ owned. owned_bytes owned ≡ shapes.document s)) same
          document;
      limits = with_memory (Fits (with_fields t qs)) result
          (subst (λ s. MadeIfFit (shapes.ShapeFits s) result) same limits);
    }

pub made_row : (t m : Tree) (n : ℕ) (qs : Pairs) (bytes held : List ℕ)
    (result : Result OwnedJsonb Error) → kind_of_tree t ≡ kinds.Object n → m ≡ object qs
    → Doc held (norm m) → bytes ≡ held
    → IfOk result (λ owned. owned_bytes owned ≡ canon (joined t (tree_in bytes)))
    → MadeIfFit (Fits (joined t (tree_in bytes))) result → IsMadeRow (with_fields t qs) result
made_row t m n qs bytes held result kind is doc same document limits =
    let (ps, row) = object_kind t n kind in
    made t (tree_in bytes) m ps qs result row is
    (ap tree_in same ∙ tree_in-is held (norm m) doc) document limits
