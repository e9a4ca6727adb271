-- Stored values are written as the entries of the items that they represent.
use Rattle.std.proofs.Common.{◌≡◌, ℕ, suc, List, [], ◌∷◌, ◌++◌, length, map, Bor, refl}
use Rattle.std.proofs.Common.{ap, ap₂, ◌∙◌, arith}
use Rattle.std.proofs.lemmas.Map.Text.{is_eq-slice_cmp}
use Rattle.std.specs.Prelude.{is_some}
use Rattle.std.specs.BTreeMap.{insert_entry}
use Rattle.std.specs.List.{AllByRecursion}
use Rattle.std.specs.Map.{keys_of, values_of, lookup}
use Rattle.std.specs.Ordering.{match_ordering}
use Rattle.std.specs.declared.cmp.Ordering.{Ordering}
use Rattle.std.specs.declared.cmp.Ordering.TheVariants.{Less, Equal, Greater}
use Rattle.jsonb_codec.specs.Shape as shapes
use Rattle.jsonb_codec.specs.Shape.{Shapes, shape, leaf, shape_count, payload, AllFit, ShapeFits}
use Rattle.jsonb_codec.specs.Stored.{shapes_by}
use Rattle.jsonb.specs.declared.item.JsonbItem.{JsonbItem}
use Rattle.jsonb.specs.ItemView.{ItemView, item_view}
use Rattle.jsonb.specs.Entry.{Code}
use Rattle.jsonb.specs.Storage.{AreStorable, AreHeld, IsHeld, IsStored, codes_of, stored_code}
use Rattle.jsonb.specs.Building.{AreShort, key_codes, leaves, keyed_leaves}
use Rattle.jsonb.specs.Building.{FitArray, IsArrayOf, FitObject, IsObjectOf, has_key}
use Rattle.jsonb.specs.Building.{with_pair}
use Rattle.jsonb.specs.Children.{Pairwise, HasSameEntry, AreShown, IsShownAt, AreShownAt}
use Rattle.jsonb.specs.Children.{ItemPairs, map_keys, pairs_by}
use Rattle.jsonb.proofs.StorageLaws.{AreCodes-codes_of, codes_of-AreCodes, length-codes_of}
use Rattle.jsonb.proofs.StorageLaws.{AreStorable-FitArray}
use Rattle.jsonb.proofs.ObjectLaws.{key_test, key_cmp, is_some-cond}

-- the entries of a list of values, given their codes
abbrev entries_by : {A : Type 0} → (A → ℕ × List ℕ) → List A → List Code
entries_by code xs = map (λ x. record { type = (code x).0; payload = (code x).1 }) xs

-- Stored values have the shapes of leaves with their entries.
items_leaves : {A : Type 0} (code : A → ℕ × List ℕ) (xs : List A)
    → shapes_by (λ x. []) code xs ≡ leaves (entries_by code xs)
items_leaves code [] = refl
items_leaves code (x ∷ xs) = ap (shape [] (leaf (code x).0 (code x).1)) (items_leaves code xs)

members_leaves : {A : Type 0} (key : A → List ℕ) (code : A → ℕ × List ℕ) (xs : List A)
    → shapes_by key code xs ≡ keyed_leaves (map key xs) (entries_by code xs)
members_leaves key code [] = refl
members_leaves key code (x ∷ xs) =
    ap (shape (key x) (leaf (code x).0 (code x).1)) (members_leaves key code xs)

-- There are as many as entries, and they fit exactly if the entries are short.
record AreCounted (ss : Shapes) (keys values : List Code) : Type 0 where
  counted : shape_count ss ≡ length values
  short : AllFit ss → AreShort keys × AreShort values
  fit : AreShort keys → AreShort values → AllFit ss

are_counted : {A : Type 0} (key : A → List ℕ) (code : A → ℕ × List ℕ) (xs : List A)
    → AreCounted (shapes_by key code xs) (key_codes (map key xs)) (entries_by code xs)
are_counted key code [] =
    record { counted = refl; short = λ h. (tt, tt); fit = λ h k. tt }
are_counted key code (x ∷ xs) =
    let more = are_counted key code xs in
    record {
      counted = ap suc more.counted;
      short = λ h. let (keys, values) = more.short h.1 in ((h.0.0, keys), (h.0.1.1, values));
      fit = λ h k. ((h.0, (tt, k.0)), more.fit h.1 k.1);
    }

no_keys_short : {A : Type 0} (xs : List A) → AreShort (key_codes (map (λ x. []) xs))
no_keys_short [] = tt
no_keys_short (x ∷ xs) = (omega arith, no_keys_short xs)

module _ {T : Type 0} (stored : T → Type 0) (code : T → ℕ × List ℕ) where
  -- if the entries of a list are short, the items can be stored
  to_items : (xs : List T) (items : List ItemView) → AreShown stored code xs items
      → AllByRecursion stored xs → AreShort (entries_by code xs)
      → AreStorable items × (entries_by code xs ≡ codes_of items)
  to_items [] items h all short = rw h (tt, refl)
  to_items (x ∷ xs) [] h all short = absurd h
  to_items (x ∷ xs) (i ∷ items) h all short =
      let (storable, same) = to_items xs items h.1 all.1 short.1 in
      let here = h.0.1 all.0 in (
        ((h.0.0.0 all.0, rw here at short.0), storable),
        ap₂ (λ (c : ℕ × List ℕ) cs. record { type = c.0; payload = c.1 } ∷ cs) here same,
      )

  -- if the items can be stored, the entries of the list are short
  of_items : (xs : List T) (items : List ItemView) → AreShown stored code xs items
      → AreStorable items → AllByRecursion stored xs × AreShort (entries_by code xs)
  of_items [] items h storable = (tt, tt)
  of_items (x ∷ xs) [] h storable = absurd h
  of_items (x ∷ xs) (i ∷ items) h storable =
      let more = of_items xs items h.1 storable.1 in
      let here = h.0.0.1 storable.0.0 in
      ((here, more.0), (rw (h.0.1 here) storable.0.1, more.1))

  -- an array fits exactly if one can be built from the items, and is then that array
  module _ (xs : List T) (items : List ItemView) (h : AreShown stored code xs items) where
    pub array_made : AllByRecursion stored xs
        → ShapeFits (shapes.array (shapes_by (λ x. []) code xs))
        → IsArrayOf items (payload (shapes.array (shapes_by (λ x. []) code xs)))
    array_made all fits =
        let w = are_counted (λ x. []) code xs in
        let (storable, same) = to_items xs items h all (w.short fits.1).1 in
        let codes = AreCodes-codes_of items storable in
        record {
          fit = record {
            codes = codes_of items;
            are = codes.0;
            short = codes.1;
            few = rw (w.counted, same) at fits.0;
          };
          written = ap (λ ss. payload (shapes.array ss)) (items_leaves code xs ∙ ap leaves same);
        }

    pub array_fits : FitArray items → AllByRecursion stored xs
        × ShapeFits (shapes.array (shapes_by (λ x. []) code xs))
    array_fits fit =
        let w = are_counted (λ x. []) code xs in
        let (storable, few) = AreStorable-FitArray items fit in
        let (all, short) = of_items xs items h storable in
        let same = (to_items xs items h all short).1 in
        (all, (rw (w.counted, same, length-codes_of items) few, w.fit (no_keys_short xs) short))

  -- keys and values apart
  pub at_keys : (es : List (Bor (List ℕ) × T)) (ps : ItemPairs) → AreShownAt stored code es ps
      → (map_keys es ≡ keys_of ps)
      × AreShown (λ e. stored e.1) (λ e. code e.1) es (values_of ps)
  at_keys [] ps h = rw h (refl, refl)
  at_keys (e ∷ es) [] h = absurd h
  at_keys (e ∷ es) (p ∷ ps) h =
      let (keys, values) = at_keys es ps h.1 in
      (ap₂ (λ k ks. k ∷ ks) h.0.0 keys, (h.0.1, values))

-- An object fits exactly if one can be built from the items at keys, and is then that object.
module _ {T : Type 0} (stored : T → Type 0) (code : T → ℕ × List ℕ)
    (es : List (Bor (List ℕ) × T)) (ps : ItemPairs) (h : AreShownAt stored code es ps) where
  pub object_made : AllByRecursion (λ e. stored e.1) es
      → ShapeFits (shapes.object (shapes_by (λ e. e.0.now) (λ e. code e.1) es))
      → IsObjectOf ps (payload (shapes.object (shapes_by (λ e. e.0.now) (λ e. code e.1) es)))
  object_made all fits =
      let w = are_counted (λ e. e.0.now) (λ e. code e.1) es in
      let (keys, values) = at_keys stored code es ps h in
      let (short_keys, short) = w.short fits.1 in
      let (storable, same) = to_items (λ e. stored e.1) (λ e. code e.1) es _ values all short in
      let codes = AreCodes-codes_of (values_of ps) storable in
      record {
        fit = record {
          codes = codes_of (values_of ps);
          are = codes.0;
          short = codes.1;
          short_keys = rw keys at short_keys;
          few = rw (w.counted, same) at fits.0;
        };
        written = ap (λ ss. payload (shapes.object ss))
            (members_leaves (λ e. e.0.now) (λ e. code e.1) es ∙ ap₂ keyed_leaves keys same);
      }

  pub object_fits : FitObject ps → AllByRecursion (λ e. stored e.1) es
      × ShapeFits (shapes.object (shapes_by (λ e. e.0.now) (λ e. code e.1) es))
  object_fits fit =
      let w = are_counted (λ e. e.0.now) (λ e. code e.1) es in
      let (keys, values) = at_keys stored code es ps h in
      let (codes, storable) = codes_of-AreCodes (values_of ps) fit.codes fit.are fit.short in
      let (all, short) = of_items (λ e. stored e.1) (λ e. code e.1) es _ values storable in
      let same = (to_items (λ e. stored e.1) (λ e. code e.1) es _ values all short).1 in
      (all, (rw (w.counted, same, ← codes) fit.few, w.fit (rw keys fit.short_keys) short))

-- Items represent their own contents.
pub items_shown : (xs : List JsonbItem)
    → AreShown (λ x. IsStored (item_view x)) (λ x. stored_code (item_view x)) xs (map item_view xs)
items_shown [] = refl
items_shown (x ∷ xs) = (((λ h. h, λ h. h), λ h. refl), items_shown xs)

pub pairs_shown : (es : List (Bor (List ℕ) × JsonbItem))
    → AreShownAt (λ x. IsStored (item_view x)) (λ x. stored_code (item_view x)) es
    (pairs_by item_view es)
pairs_shown [] = refl
pairs_shown (e ∷ es) = ((refl, ((λ h. h, λ h. h), λ h. refl)), pairs_shown es)

pub items_held : (xs : List JsonbItem) → AllByRecursion (λ x. IsHeld (item_view x)) xs
    → AreHeld (map item_view xs)
items_held [] h = tt
items_held (x ∷ xs) h = (h.0, items_held xs h.1)

pub pairs_held : (es : List (Bor (List ℕ) × JsonbItem))
    → AllByRecursion (λ x. IsHeld (item_view x)) (values_of es)
    → AreHeld (values_of (pairs_by item_view es))
pairs_held [] h = tt
pairs_held (e ∷ es) h = (h.0, pairs_held es h.1)

pub keys_shown : {A : Type 0} (view : A → ItemView) (es : List (Bor (List ℕ) × A))
    → map_keys es ≡ keys_of (pairs_by view es)
keys_shown view [] = refl
keys_shown view (e ∷ es) = ap (λ ks. e.0.now ∷ ks) (keys_shown view es)

-- Appending to related lists, and inserting into related maps.
pub shown_push : {A B : Type 0} (R : A → B → Type 0) (xs : List A) (ys : List B)
    → Pairwise R xs ys → (x : A) (y : B) → R x y → Pairwise R (xs ++ x ∷ []) (ys ++ y ∷ [])
shown_push R [] ys h x y r = rw h (r, refl)
shown_push R (z ∷ xs) [] h x y r = absurd h
shown_push R (z ∷ xs) (w ∷ ys) h x y r = (h.0, shown_push R xs ys h.1 x y r)

module _ {T : Type 0} (stored : T → Type 0) (code : T → ℕ × List ℕ) where
  shown_at : (o : Ordering) (k : Bor (List ℕ)) (x : T) (item : ItemView)
      → HasSameEntry stored code x item → (e : Bor (List ℕ) × T) (es more : List (Bor (List ℕ) × T))
      (p : List ℕ × ItemView) (ps others : ItemPairs) → IsShownAt stored code e p
      → AreShownAt stored code es ps → AreShownAt stored code more others
      → AreShownAt stored code (match_ordering o ((k, x) ∷ e ∷ es) ((e.0, x) ∷ es) (e ∷ more))
      (match_ordering o ((k.now, item) ∷ p ∷ ps) ((p.0, item) ∷ ps) (p ∷ others))
  shown_at Less k x item is e es more p ps others here h rest = ((refl, is), (here, h))
  shown_at Equal k x item is e es more p ps others here h rest = ((here.0, is), h)
  shown_at Greater k x item is e es more p ps others here h rest = (here, rest)

  pub shown_insert : (es : List (Bor (List ℕ) × T)) (ps : ItemPairs) → AreShownAt stored code es ps
      → (k : Bor (List ℕ)) (x : T) (item : ItemView) → HasSameEntry stored code x item
      → AreShownAt stored code (insert_entry key_cmp es k x) (with_pair ps k.now item)
  shown_insert [] ps h k x item is = rw h ((refl, is), refl)
  shown_insert (e ∷ es) [] h k x item is = absurd h
  shown_insert (e ∷ es) (p ∷ ps) h k x item is =
      rw (← h.0.0) (shown_at (key_cmp k e.0) k x item is e es _ (e.0.now, p.1) ps _ (refl, h.0.1)
      h.1 (shown_insert es ps h.1 k x item is))

  pub has_key-shown : (es : List (Bor (List ℕ) × T)) (ps : ItemPairs)
      → AreShownAt stored code es ps → (key : List ℕ)
      → is_some (lookup (key_test key) es) ≡ has_key ps key
  has_key-shown [] ps h key = rw h
  has_key-shown (e ∷ es) [] h key = absurd h
  has_key-shown (e ∷ es) (p ∷ ps) h key =
      rw (← h.0.0, is_eq-slice_cmp key e.0.now, ← has_key-shown es ps h.1 key)
      (is_some-cond _ e.1 _)
