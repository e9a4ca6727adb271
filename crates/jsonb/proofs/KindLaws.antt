-- The kind read from a document is that of its tree.
use Rattle.std.proofs.Common.{◌≡◌, ◌≢◌, ℕ, ◌+◌, List, ◌++◌, true, false, length, Ok, refl}
use Rattle.std.proofs.Common.{ap, ◌∙◌, inl, inr, arith, IfOk}
use Rattle.jsonb_value.specs.Tree.{Tree, boolean, array, object}
use Rattle.jsonb_value.specs.Tree.{Trees, Pairs, count, pair_count}
use Rattle.jsonb_codec.specs.WordBytes.{word, header_at}
use Rattle.jsonb_codec.specs.JEntry.{jentry_at}
use Rattle.jsonb_codec.specs.Doc.{Doc, Scalar, Payload, type_of}
use Rattle.jsonb.specs.Kind.{kind, kind_under, kind_of_type, kind_of_tree}
use Rattle.jsonb.specs.declared.item_type.JsonbItemType.{JsonbItemType}
use Rattle.jsonb.specs.declared.item_type.JsonbItemType.TheVariants as kinds
use Rattle.jsonb.proofs.Places.{At, At-all, At-whole, At-left, At-after_word, header_at-At}
use Rattle.jsonb.proofs.Places.{header_of-array, header_of-object, header_of-scalar, IsTag}
use Rattle.jsonb.proofs.Places.{jentry_at-At}

pub IsTag-type_of : (t : Tree) → IsTag (type_of t)
IsTag-type_of (boolean true) = omega arith
IsTag-type_of (boolean false) = omega arith
IsTag-type_of t = omega arith

-- A tree with the type of a container is an array or an object.
pub container_cases : (P : Tree → Type 0) (t : Tree) → type_of t ≡ 1342177280
    → ((ts : Trees) → P (array ts)) → ((ps : Pairs) → P (object ps)) → P t
container_cases P (array ts) is of_array of_object = of_array ts
container_cases P (object ps) is of_array of_object = of_object ps
container_cases P (boolean true) is of_array of_object = absurd (omega arith)
container_cases P (boolean false) is of_array of_object = absurd (omega arith)
container_cases P t is of_array of_object = absurd (omega arith)

-- the header and the entry word of a document
pub header_at-Scalar : (b : List ℕ) (t : Tree) → Scalar t b → header_at b 0 ≡ Ok (536870912, 0)
header_at-Scalar b t h = header_at-At b 536870912 (omega arith)
    (At-whole b (word 536870912) _ h.parts) ∙ header_of-scalar

pub At-entry : (b : List ℕ) (t : Tree) (h : Scalar t b)
    → At b 4 (word (type_of t + length h.payload) ++ h.payload)
At-entry b t h = At-after_word b 0 4 536870912
    (word (type_of t + length h.payload) ++ h.payload) refl (At-all b _ h.parts)

pub At-payload : (b : List ℕ) (t : Tree) (h : Scalar t b) → At b 8 h.payload
At-payload b t h =
    At-after_word b 4 8 (type_of t + length h.payload) h.payload refl (At-entry b t h)

pub jentry_at-Scalar : (b : List ℕ) (t : Tree) (h : Scalar t b)
    → jentry_at b 4 ≡ Ok record { type_code = type_of t; length = length h.payload }
jentry_at-Scalar b t h = jentry_at-At b 4 (type_of t) (length h.payload) (IsTag-type_of t) h.short
    (At-left b 4 _ h.payload (At-entry b t h))

pub header_at-array : (b : List ℕ) (ts : Trees) → Payload (array ts) b
    → header_at b 0 ≡ Ok (2147483648, count ts)
header_at-array b ts h =
    let few = h.later.few in
    header_at-At b (2147483648 + count ts) (omega arith) (At-whole b _ h.rest h.parts)
    ∙ header_of-array (count ts) few

pub header_at-object : (b : List ℕ) (ps : Pairs) → Payload (object ps) b
    → header_at b 0 ≡ Ok (1073741824, pair_count ps)
header_at-object b ps h =
    let few = h.1.later.few in
    header_at-At b (1073741824 + pair_count ps) (omega arith) (At-whole b _ h.1.rest h.1.parts)
    ∙ header_of-object (pair_count ps) few

abbrev pub header_of_tree : Tree → ℕ × ℕ
header_of_tree (array ts) = (2147483648, count ts)
header_of_tree (object ps) = (1073741824, pair_count ps)
header_of_tree t = (536870912, 0)

header_of_scalar : (t : Tree) → type_of t ≢ 1342177280 → (536870912, 0) ≡ header_of_tree t
header_of_scalar (array ts) other = absurd (other refl)
header_of_scalar (object ps) other = absurd (other refl)
header_of_scalar t other = refl

pub header_at-Doc : (b : List ℕ) (t : Tree) → Doc b t → header_at b 0 ≡ Ok (header_of_tree t)
header_at-Doc b t (inl (other, h)) = header_at-Scalar b t h ∙ ap Ok (header_of_scalar t other)
header_at-Doc b t (inr (is, h)) =
    container_cases (λ t. Payload t b → header_at b 0 ≡ Ok (header_of_tree t)) t is
    (header_at-array b) (header_at-object b) h

kind_of_type-scalar : (t : Tree) → type_of t ≢ 1342177280
    → kind_of_type (type_of t) ≡ Ok (kind_of_tree t)
kind_of_type-scalar (boolean true) other = refl
kind_of_type-scalar (boolean false) other = refl
kind_of_type-scalar (array ts) other = absurd (other refl)
kind_of_type-scalar (object ps) other = absurd (other refl)
kind_of_type-scalar t other = refl

pub scalar_kind : (t : Tree) (type : ℕ) (k : JsonbItemType) → type_of t ≡ type
    → type_of t ≢ 1342177280 → IfOk (kind_of_type type) (λ kind. k ≡ kind) → k ≡ kind_of_tree t
scalar_kind t type k is other known = rw (← is, kind_of_type-scalar t other) at known

-- the kind of a document
pub kind-Doc : (b : List ℕ) (t : Tree) → Doc b t → kind b ≡ Ok (kind_of_tree t)
unfolding kind
kind-Doc b t (inl (other, h)) =
    rw (header_at-Scalar b t h, jentry_at-Scalar b t h) (kind_of_type-scalar t other)
kind-Doc b t (inr (is, h)) = rw (header_at-Doc b t (inr (is, h)))
    (container_cases (λ t. kind_under (header_of_tree t) b ≡ Ok (kind_of_tree t)) t is
    (λ ts. refl) (λ ps. refl))

-- the kind of an array or object, by its header
module _ (b : List ℕ) (t : Tree) (n : ℕ) (doc : Doc b t) where
  pub array_kind : Ok (2147483648, n) ≡ header_at b 0 → kinds.Array n ≡ kind_of_tree t
  unfolding kind
  array_kind read = let is = rw (← read) at (kind-Doc b t doc) in cc

  pub object_kind : Ok (1073741824, n) ≡ header_at b 0 → kinds.Object n ≡ kind_of_tree t
  unfolding kind
  object_kind read = let is = rw (← read) at (kind-Doc b t doc) in cc
