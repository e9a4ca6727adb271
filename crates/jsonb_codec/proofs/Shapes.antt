-- Laws of shapes: their lengths, and visiting children one after another.
use Rattle.std.proofs.Common.{◌≡◌, ◌↔◌, ◌<◌, ◌≤◌, ◌+◌, ◌*◌, ◌^◌, ℕ, List}
use Rattle.std.proofs.Common.{length, Option, Some, None, IfNone, refl, sym, ap, subst, ◌∙◌, arith}
use Rattle.std.proofs.Common.{length-append}
use Rattle.jsonb_codec.specs.declared.writer.source.Level.{Level}
use Rattle.jsonb_codec.specs.declared.writer.source.Level.TheVariants as levels
use Rattle.jsonb_codec.specs.Shape.{Shape, leaf, array, object, Shapes, no_shapes, shape}
use Rattle.jsonb_codec.specs.Shape.{shape_count}
use Rattle.jsonb_codec.specs.Shape.{key_entries, key_payloads, payload, entries, payloads, body}
use Rattle.jsonb_codec.specs.Shape.{document, AllFit, FitsEntry, ShapeFits}
use Rattle.jsonb_codec.specs.Source.{SourceMeaning, Laws, LevelIs, AreSplit}
use Rattle.jsonb_codec.specs.Writing.{TakesLeft}
use Rattle.jsonb_codec.proofs.Words.{length-word-append}

-- a consequence of what is known if there is no value
pub IfNone_then : {A P Q : Type 0} (r : Option A) → IfNone r P → (P → Q) → IfNone r Q
IfNone_then None h f = f h
IfNone_then (Some x) h f = tt

pub length-entries : (ss : Shapes) → length (entries ss) ≡ 4 * shape_count ss
length-entries no_shapes = refl
length-entries (shape k s ss) = omega (arith, length-entries ss, length-word-append)

pub length-key_entries : (ss : Shapes) → length (key_entries ss) ≡ 4 * shape_count ss
length-key_entries no_shapes = refl
length-key_entries (shape k s ss) = omega (arith, length-key_entries ss, length-word-append)

pub length-array : (ss : Shapes)
    → length (payload (array ss)) ≡ 4 + 4 * shape_count ss + length (payloads ss)
length-array ss = omega (arith, length-word-append, length-append {A = ℕ}, length-entries ss)

pub length-object : (ss : Shapes)
    → length (payload (object ss))
    ≡ 4 + 8 * shape_count ss + (length (key_payloads ss) + length (payloads ss))
length-object ss = omega (
  arith,
  length-word-append,
  length-append {A = ℕ},
  length-key_entries ss,
  length-entries ss,
)

-- ---- what fits is short: far below 2 ^ 64

payloads_short : (ss : Shapes) → AllFit ss → length (payloads ss) ≤ 2 ^ 28 * shape_count ss
payloads_short no_shapes h = omega arith
payloads_short (shape k s ss) h =
    omega (arith, length-append (payload s) (payloads ss), payloads_short ss h.1, h.0.1.1)

key_payloads_short : (ss : Shapes) → AllFit ss → length (key_payloads ss) ≤ 2 ^ 28 * shape_count ss
key_payloads_short no_shapes h = omega arith
key_payloads_short (shape k s ss) h =
    omega (arith, length-append k (key_payloads ss), key_payloads_short ss h.1, h.0.0)

pub children_short : (ss : Shapes) → AllFit ss → shape_count ss < 2 ^ 29 → body ss < 2 ^ 58
children_short ss h few = omega (arith, payloads_short ss h, key_payloads_short ss h)

-- ---- a level has only one shape

pub LevelIs-one : {L C I O M : Type 0} (code : L → ℕ × List ℕ) {m : SourceMeaning C I O M} → Laws m
    → (x : Level L I O) (s u : Shape) → LevelIs code m x s → LevelIs code m x u → s ≡ u
LevelIs-one code laws (levels.Leaf x) s u h k = h ∙ sym k
LevelIs-one code laws (levels.Array x) s u (ss, (e, h)) (us, (f, k)) =
    e ∙ ap array (laws.one_items x ss us h k) ∙ sym f
LevelIs-one code laws (levels.Object x) s u (ss, (e, h)) (us, (f, k)) =
    e ∙ ap object (laws.one_object x ss us h k) ∙ sym f

-- ---- documents

-- A leaf's document has two words before its payload.
pub leaf_document : (type : ℕ) (p : List ℕ) → length (document (leaf type p)) ≡ 8 + length p
leaf_document type p = omega (arith, length-word-append)

pub array_short : (ss : Shapes) → ShapeFits (array ss) → length (payload (array ss)) < 2 ^ 60
array_short ss f = omega (arith, length-array ss, children_short ss f.1 f.0)

pub object_short : (ss : Shapes) → ShapeFits (object ss) → length (payload (object ss)) < 2 ^ 60
object_short ss f = omega (arith, length-object ss, children_short ss f.1 f.0)

-- ---- a child's part of a total length

-- What is known for one shape of the child is known for each.
pub takes_of_each : {L C I O M W : Type 0} (code : L → ℕ × List ℕ) {m : SourceMeaning C I O M}
    → Laws m
    → (x : Level L I O) {Are : W → Shapes → Type 0} {b : W} {left : ℕ}
    → ((s : Shape) × (LevelIs code m x s × TakesLeft Are b s left)) → (t : Shape)
    → LevelIs code m x t
    → TakesLeft Are b t left
takes_of_each code laws x {Are} {b} {left} (s, (h, takes)) t k =
    subst (λ u. TakesLeft Are b u left) (LevelIs-one code laws x s t h k) takes

-- A child without later siblings takes the whole length.
pub takes_all : {W : Type 0} {Are : W → Shapes → Type 0} {b : W} {s : Shape} {left : ℕ}
    → (h : TakesLeft Are b s left) → shape_count h.others ≡ 0 → left ≡ length (payload s)
takes_all h none = omega (arith, h.both, ap body (none_left h.others none)) where
  none_left : (ss : Shapes) → shape_count ss ≡ 0 → ss ≡ no_shapes
  none_left no_shapes e = refl
  none_left (shape k s ss) e = absurd (omega arith)

-- ---- visiting children one after another

-- A first child with its key, and the others.
pub record First {C W : Type 0} (IsKey : List ℕ → Type 0) (IsChild : C → Shape → Type 0)
    (Are : W → Shapes → Type 0) (z : C × W) (ss : Shapes) : Type 0 where
  pub key : List ℕ
  pub child : Shape
  pub others : Shapes
  pub made : ss ≡ shape key child others
  pub keyed : IsKey key
  pub is : IsChild z.0 child
  pub later : Are z.1 others

pub first : {C W : Type 0} {IsKey : List ℕ → Type 0} (IsChild : C → Shape → Type 0)
    (Are : W → Shapes → Type 0) {z : C × W} (ss : Shapes) → AreSplit IsKey IsChild Are z ss
    → First IsKey IsChild Are z ss
first IsChild Are no_shapes h = absurd h
first IsChild Are (shape k s ss) h = record {
  key = k;
  child = s;
  others = ss;
  made = refl;
  keyed = h.0;
  is = h.1.0;
  later = h.1.1;
}

module _ {C W : Type 0} {IsKey : List ℕ → Type 0} {IsChild : C → Shape → Type 0}
    {Are : W → Shapes → Type 0} {z : C × W} {ss : Shapes}
    (f : First IsKey IsChild Are z ss) where
  pub first_body : body ss ≡ length f.key + length (payload f.child) + body f.others
  first_body = omega (
    arith,
    ap body f.made,
    length-append f.key (key_payloads f.others),
    length-append (payload f.child) (payloads f.others),
  )

  pub first_fits : AllFit ss → (length f.key < 2 ^ 28) × (FitsEntry f.child × AllFit f.others)
  first_fits h =
      let fits = subst AllFit f.made h in
      (fits.0.0, (record { inside = fits.0.1.0; short = fits.0.1.1 }, fits.1))

-- The children that were measured, and those that are left.
pub record Measured {W : Type 0} (Are : W → Shapes → Type 0) (size_of : W → ℕ) (Held : W → Type 0)
    (children : W) (start end : ℕ) (left : W) : Type 0 where
  pub all : Shapes
  pub are_all : Are children all
  pub some : Shapes
  pub are_some : Are left some
  pub fit : AllFit all ↔ AllFit some
  pub sum : end + body some ≡ start + body all
  pub small : end + 2 ^ 29 * shape_count some ≤ 2 ^ 61
  pub smaller : size_of left ≤ size_of children
  pub held : Held left → Held children

-- Once none are left, all are measured.
pub measured_end : {W : Type 0} {Are : W → Shapes → Type 0} {size_of : W → ℕ} {Held : W → Type 0}
    {children : W} {start end : ℕ} {left : W}
    (w : Measured Are size_of Held children start end left)
    → ((x : W) (ss us : Shapes) → Are x ss → Are x us → ss ≡ us) → w.some ≡ no_shapes
    → (ss : Shapes) → Are children ss → AllFit ss × (end ≡ start + body ss)
measured_end {children = children} w one none ss h =
    let same = one children w.all ss w.are_all h in (
      subst AllFit same (w.fit.1 (subst AllFit (sym none) tt)),
      omega (arith, w.sum, ap body none, ap body same),
    )
