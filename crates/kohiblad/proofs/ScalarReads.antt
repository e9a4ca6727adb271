-- What payloads of scalars are read as.
use Rattle.std.proofs.Common.{◌≡◌, ◌≢◌, ℕ, Bool, true, false, List, [], Some, refl, sym, ap, ◌∙◌}
use Rattle.std.proofs.Common.{arith}
use Rattle.std.specs.Str.{IsUtf8}
use Rattle.jsonb_value.specs.ExtCode.{ExtCode}
use Rattle.jsonb_value.specs.NumCode.{NumCode}
use Rattle.jsonb_value.specs.Tree as trees
use Rattle.jsonb_value.specs.Tree.{Extension, Tree, array, object}
use Rattle.jsonb_value.specs.declared.number.Number.{Number}
use Rattle.jsonb_value.proofs.Codes.{NumCode-unique}
use Rattle.jsonb_value.proofs.ExtCodes.{ExtCode-unique}
use Rattle.jsonb_codec.specs.Doc.{type_of}
use Rattle.jsonb_codec.specs.Parts.{IsPayloadOf}
use Rattle.jsonb_codec.specs.declared.constants.TheConstants.{CONTAINER_TAG, EXTENSION_TAG}
use Rattle.jsonb_codec.specs.declared.constants.TheConstants.{FALSE_TAG, NULL_TAG, NUMBER_TAG}
use Rattle.jsonb_codec.specs.declared.constants.TheConstants.{STRING_TAG, TRUE_TAG}

-- The scalar of a payload of each type is the tree that it means.
null_means : (p : List ℕ) (t : Tree) → IsPayloadOf NULL_TAG p t → t ≡ trees.null
null_means p trees.null h = refl
null_means p (trees.boolean true) h = absurd (omega (arith, h.0))
null_means p (trees.boolean false) h = absurd (omega (arith, h.0))
null_means p t h = absurd (omega (arith, h.0))

truth_means : (b : Bool) (tag : ℕ) (p : List ℕ) (t : Tree) → type_of (trees.boolean b) ≡ tag
    → IsPayloadOf tag p t → t ≡ trees.boolean b
truth_means true tag p (trees.boolean true) is h = refl
truth_means false tag p (trees.boolean false) is h = refl
truth_means true tag p (trees.boolean false) is h = absurd (omega (arith, is, h.0))
truth_means false tag p (trees.boolean true) is h = absurd (omega (arith, is, h.0))
truth_means true tag p t is h = absurd (omega (arith, is, h.0))
truth_means false tag p t is h = absurd (omega (arith, is, h.0))

number_means : (p : List ℕ) (t : Tree) → IsPayloadOf NUMBER_TAG p t
    → (x : Number) × ((t ≡ trees.number x) × NumCode p x)
number_means p (trees.number x) h = (x, (refl, h.1))
number_means p (trees.boolean true) h = absurd (omega (arith, h.0))
number_means p (trees.boolean false) h = absurd (omega (arith, h.0))
number_means p t h = absurd (omega (arith, h.0))

text_means : (p : List ℕ) (t : Tree) → IsPayloadOf STRING_TAG p t
    → (t ≡ trees.text p) × IsUtf8 p
text_means p (trees.text s) h = rw h.1.0 (refl, h.1.1)
text_means p (trees.boolean true) h = absurd (omega (arith, h.0))
text_means p (trees.boolean false) h = absurd (omega (arith, h.0))
text_means p t h = absurd (omega (arith, h.0))

extension_means : (p : List ℕ) (t : Tree) → IsPayloadOf EXTENSION_TAG p t
    → (e : Extension) × ((t ≡ trees.extension e) × ExtCode p e)
extension_means p (trees.extension e) h = (e, (refl, h.1))
extension_means p (trees.boolean true) h = absurd (omega (arith, h.0))
extension_means p (trees.boolean false) h = absurd (omega (arith, h.0))
extension_means p t h = absurd (omega (arith, h.0))

pub null_read : (p : List ℕ) (t : Tree) → IsPayloadOf NULL_TAG p t → Some trees.null ≡ Some t
null_read p t h = ap (λ (u : Tree). Some u) (sym (null_means p t h))

pub true_read : (p : List ℕ) (t : Tree) → IsPayloadOf TRUE_TAG p t
    → Some (trees.boolean true) ≡ Some t
true_read p t h = ap (λ (u : Tree). Some u) (sym (truth_means true TRUE_TAG p t refl h))

pub false_read : (p : List ℕ) (t : Tree) → IsPayloadOf FALSE_TAG p t
    → Some (trees.boolean false) ≡ Some t
false_read p t h = ap (λ (u : Tree). Some u) (sym (truth_means false FALSE_TAG p t refl h))

-- Null and truth values have no bytes.
pub null_full : (p : List ℕ) (t : Tree) → IsPayloadOf NULL_TAG p t → p ≢ [] → ⊥
null_full p trees.null h full = full h.1
null_full p (trees.boolean true) h full = absurd (omega (arith, h.0))
null_full p (trees.boolean false) h full = absurd (omega (arith, h.0))
null_full p t h full = absurd (omega (arith, h.0))

truth_full : (b : Bool) (tag : ℕ) (p : List ℕ) (t : Tree) → type_of (trees.boolean b) ≡ tag
    → IsPayloadOf tag p t → p ≢ [] → ⊥
truth_full true tag p (trees.boolean true) is h full = full h.1
truth_full false tag p (trees.boolean false) is h full = full h.1
truth_full true tag p (trees.boolean false) is h full = absurd (omega (arith, is, h.0))
truth_full false tag p (trees.boolean true) is h full = absurd (omega (arith, is, h.0))
truth_full true tag p t is h full = absurd (omega (arith, is, h.0))
truth_full false tag p t is h full = absurd (omega (arith, is, h.0))

pub true_full : (p : List ℕ) (t : Tree) → IsPayloadOf TRUE_TAG p t → p ≢ [] → ⊥
true_full p t h full = truth_full true TRUE_TAG p t refl h full

pub false_full : (p : List ℕ) (t : Tree) → IsPayloadOf FALSE_TAG p t → p ≢ [] → ⊥
false_full p t h full = truth_full false FALSE_TAG p t refl h full

-- What was read is held.
pub null_held : (p : List ℕ) (t : Tree) → t ≡ trees.null → p ≡ [] → IsPayloadOf NULL_TAG p t
null_held p t is empty = rw (is, empty) (refl, refl)

pub true_held : (p : List ℕ) (t : Tree) → t ≡ trees.boolean true → p ≡ []
    → IsPayloadOf TRUE_TAG p t
true_held p t is empty = rw (is, empty) (refl, refl)

pub false_held : (p : List ℕ) (t : Tree) → t ≡ trees.boolean false → p ≡ []
    → IsPayloadOf FALSE_TAG p t
false_held p t is empty = rw (is, empty) (refl, refl)

pub number_held : (p : List ℕ) (x : Number) → NumCode p x → IsPayloadOf NUMBER_TAG p (trees.number x)
number_held p x code = (refl, code)

pub text_held : (p s : List ℕ) → s ≡ p → IsUtf8 p → IsPayloadOf STRING_TAG p (trees.text s)
text_held p s same utf8 = rw same (refl, (refl, utf8))

pub extension_held : (p : List ℕ) (e : Extension) → ExtCode p e
    → IsPayloadOf EXTENSION_TAG p (trees.extension e)
extension_held p e code = (refl, code)

pub number_read : (p : List ℕ) (t : Tree) (x : Number) → IsPayloadOf NUMBER_TAG p t → NumCode p x
    → Some (trees.number x) ≡ Some t
number_read p t x h code =
    let (y, (is, means)) = number_means p t h in
    ap (λ (z : Number). Some (trees.number z)) (NumCode-unique p x y code means)
    ∙ ap (λ (u : Tree). Some u) (sym is)

pub some_number : (p : List ℕ) (t : Tree) → IsPayloadOf NUMBER_TAG p t
    → ((x : Number) → NumCode p x → ⊥) → ⊥
some_number p t h none =
    let (x, (is, means)) = number_means p t h in none x means

pub text_read : (p s : List ℕ) (t : Tree) → IsPayloadOf STRING_TAG p t → s ≡ p
    → Some (trees.text s) ≡ Some t
text_read p s t h same =
    ap (λ (r : List ℕ). Some (trees.text r)) same
    ∙ ap (λ (u : Tree). Some u) (sym (text_means p t h).0)

pub some_text : (p : List ℕ) (t : Tree) → IsPayloadOf STRING_TAG p t → IsUtf8 p
some_text p t h = (text_means p t h).1

pub extension_read : (p : List ℕ) (t : Tree) (e : Extension) → IsPayloadOf EXTENSION_TAG p t
    → ExtCode p e → Some (trees.extension e) ≡ Some t
extension_read p t e h code =
    let (f, (is, means)) = extension_means p t h in
    ap (λ (z : Extension). Some (trees.extension z)) (ExtCode-unique p e f code means)
    ∙ ap (λ (u : Tree). Some u) (sym is)

pub some_extension : (p : List ℕ) (t : Tree) → IsPayloadOf EXTENSION_TAG p t
    → ((e : Extension) → ExtCode p e → ⊥) → ⊥
some_extension p t h none =
    let (e, (is, means)) = extension_means p t h in none e means

pub tagged : (type : ℕ) (p : List ℕ) (t : Tree) → type ≢ CONTAINER_TAG → IsPayloadOf type p t
    → (type ≢ NULL_TAG) → (type ≢ FALSE_TAG) → (type ≢ TRUE_TAG) → (type ≢ NUMBER_TAG)
    → (type ≢ STRING_TAG) → (type ≢ EXTENSION_TAG) → ⊥
tagged type p trees.null c h n f t x s e = n (sym h.0)
tagged type p (trees.boolean true) c h n f t x s e = t (sym h.0)
tagged type p (trees.boolean false) c h n f t x s e = f (sym h.0)
tagged type p (trees.number y) c h n f t x s e = x (sym h.0)
tagged type p (trees.text y) c h n f t x s e = s (sym h.0)
tagged type p (trees.extension y) c h n f t x s e = e (sym h.0)
tagged type p (array ts) c h n f t x s e = c (sym h.0)
tagged type p (object ps) c h n f t x s e = c (sym h.0)
