-- What scalar documents are read as.
use Rattle.std.proofs.Common.{◌≡◌, ℕ, Bool, true, false, List, refl}
use Rattle.std.proofs.Common.{sym}
use Rattle.jsonb_value.specs.declared.number.Number.{Number}
use Rattle.jsonb_value.specs.Tree.{Tree, boolean, number, text, extension}
use Rattle.jsonb_value.specs.Tree.{Extension}
use Rattle.jsonb_codec.specs.declared.constants.TheConstants.{TRUE_TAG, FALSE_TAG}
use Rattle.jsonb_codec.specs.Depth.{depth}
use Rattle.jsonb_codec.specs.Doc.{Doc, type_of}
use Rattle.jsonb_codec.proofs.Unique.{Doc-unique}

-- A document means one tree, so one number, text or truth value.
pub one_number : (b : List ℕ) (x y : Number) → Doc b (number x) → Doc b (number y) → x ≡ y
one_number b x y left right =
    let same = Doc-unique b (number x) (number y) left right in
    cc

pub one_text : (b s r : List ℕ) → Doc b (text s) → Doc b (text r) → s ≡ r
one_text b s r left right =
    let same = Doc-unique b (text s) (text r) left right in
    cc

pub one_boolean : (b : List ℕ) (x y : Bool) → Doc b (boolean x) → Doc b (boolean y) → x ≡ y
one_boolean b x y left right =
    let same = Doc-unique b (boolean x) (boolean y) left right in
    cc

-- numbers and truth values have depth 0
pub no_number : (b : List ℕ) → ((t : Tree) → depth t ≡ 0 → Doc b t → ⊥) → (x : Number)
    → Doc b (number x) → ⊥
no_number b none x doc = none (number x) refl doc

pub no_boolean : (b : List ℕ) → ((t : Tree) → depth t ≡ 0 → Doc b t → ⊥) → (x : Bool)
    → Doc b (boolean x) → ⊥
no_boolean b none x doc = none (boolean x) refl doc

pub neither_type : (tag : ℕ) (x : Bool) → type_of (boolean x) ≡ tag → (tag ≡ TRUE_TAG → ⊥)
    → (tag ≡ FALSE_TAG → ⊥) → ⊥
neither_type tag true is no_true no_false = no_true (sym is)
neither_type tag false is no_true no_false = no_false (sym is)

pub one_extension : (b : List ℕ) (x y : Extension) → Doc b (extension x) → Doc b (extension y)
    → x ≡ y
one_extension b x y left right =
    let same = Doc-unique b (extension x) (extension y) left right in
    cc

pub no_extension : (b : List ℕ) → ((t : Tree) → depth t ≡ 0 → Doc b t → ⊥) → (x : Extension)
    → Doc b (extension x) → ⊥
no_extension b none x doc = none (extension x) refl doc
