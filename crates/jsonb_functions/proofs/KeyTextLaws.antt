-- The keys of an object are the items of an array of texts.
use Rattle.std.proofs.Common.{◌≡◌, ◌<◌, ◌^◌, ℕ, List, length, refl, ap, subst, arith, None, Some}
use Rattle.std.proofs.Common.{◌⊎◌, inl, inr}
use Rattle.jsonb_value.specs.declared.error.Error.{Error}
use Rattle.jsonb_value.specs.declared.error.Error.TheVariants.{InvalidJsonb, OutOfMemory}
use Rattle.jsonb_value.specs.Tree.{Tree, Trees, Pairs, no_pairs, pair, pair_count}
use Rattle.jsonb_value.specs.Tree.{null, boolean, number, text, extension, array, object}
use Rattle.jsonb_codec.specs.declared.constants.TheConstants.{CONTAINER_TAG}
use Rattle.jsonb_codec.specs.declared.parts.Members.{Members}
use Rattle.jsonb_codec.specs.Canon.{Fits, items_shapes, shape_of}
use Rattle.jsonb_codec.specs.Contents.{AreChildren, AreMembers}
use Rattle.jsonb_codec.specs.Doc.{Children, IsKey, Keys, One, type_of}
use Rattle.jsonb_codec.specs.Parts.{IsObject}
use Rattle.jsonb_codec.specs.PartSource as parts
use Rattle.jsonb_codec.specs.Shape as shapes
use Rattle.jsonb_codec.specs.Shape.{AllFit, Shapes}
use Rattle.jsonb_codec.proofs.TreeShapes.{count-items_shapes}
use Rattle.jsonb_codec.proofs.Unique.{Children-unique}
use Rattle.jsonb_value.specs.Tree as trees
use Rattle.jsonb_functions.specs.Keys.{key_array, key_texts}

texts_are : (ps : Pairs) → Keys ps ≡ Children (key_texts ps)
texts_are no_pairs = refl
texts_are (pair k t ps) = ap (One 268435456 (IsKey k)) (texts_are ps)

count_texts : (ps : Pairs) → trees.count (key_texts ps) ≡ pair_count ps
count_texts no_pairs = refl
count_texts (pair k t ps) = omega (arith, count_texts ps)

-- Stored keys are short enough to be stored again.
texts_fit : (ps : Pairs) (e p : List ℕ) → Keys ps e p → AllFit (items_shapes (key_texts ps))
texts_fit no_pairs e p h = tt
texts_fit (pair k t ps) e p h =
    let short : length k < 2 ^ 28 = subst (λ x. length x < 2 ^ 28) h.means.0 h.short in
    ((omega arith, (tt, short)), texts_fit ps _ _ h.others)

pub keys_level : (members : Members) (ps : Pairs) → AreMembers ps members
    → (ss : Shapes) × ((shape_of (array (key_texts ps)) ≡ shapes.array ss)
    × parts.PartItemsAre members.keys ss)
keys_level members ps h =
    let are : AreChildren (key_texts ps) members.keys =
    subst (λ R. R members.keys.entries.now members.keys.payloads.now) (texts_are ps) h.1.0 in (
      items_shapes (key_texts ps),
      (refl, ((key_texts ps, are), λ us k. ap items_shapes (Children-unique _ _ are k))),
    )

pub keys_fit : (n : ℕ) (body : List ℕ) (ps : Pairs) → IsObject n body ps
    → Fits (array (key_texts ps))
keys_fit n body ps h = (
  omega (arith, h.0, h.1.1.few, count_texts ps, count-items_shapes (key_texts ps)),
  texts_fit ps _ _ h.1.1.keys,
)

pub keys_of_other : (t : Tree) → (type_of t ≡ CONTAINER_TAG → ⊥) → key_array t ≡ None
keys_of_other (object ps) h = absurd (h refl)
keys_of_other null h = refl
keys_of_other (boolean b) h = refl
keys_of_other (number x) h = refl
keys_of_other (text s) h = refl
keys_of_other (extension e) h = refl
keys_of_other (array ts) h = refl

pub keys_of_array : (t : Tree) (ts : Trees) → t ≡ array ts → key_array t ≡ None
keys_of_array t ts e = rw e refl

pub keys_of_object : (t : Tree) (ps : Pairs) → t ≡ object ps
    → key_array t ≡ Some (array (key_texts ps))
keys_of_object t ps e = rw e refl

-- What fits is refused only for lack of memory.
pub only_memory : (e : Error) → (e ≡ InvalidJsonb) ⊎ (e ≡ OutOfMemory) → (e ≡ InvalidJsonb → ⊥)
    → e ≡ OutOfMemory
only_memory e (inl invalid) fits = absurd (fits invalid)
only_memory e (inr out) fits = out
