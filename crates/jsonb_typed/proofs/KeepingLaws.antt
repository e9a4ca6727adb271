-- When a row can have a cell.
use Rattle.std.proofs.Common.{◌≡◌, ◌↔◌, Result, Ok, Err, inl, inr, ap, refl, arith}
use Rattle.std.proofs.Common.{subst, sym}
use Rattle.std.specs.Prelude.{Option, Some, None, IfSome, List, ℕ, option_map}
use Rattle.std.specs.Borrow.{Bor}
use Rattle.jsonb_value.specs.declared.error.Error.{Error}
use Rattle.jsonb_value.specs.declared.error.Error.TheVariants.{InvalidJsonb, OutOfMemory}
use Rattle.jsonb_value.specs.Tree.{Tree}
use Rattle.jsonb_codec.specs.Doc.{Doc}
use Rattle.jsonb_codec.specs.Made.{MadeIfFit}
use Rattle.jsonb_codec.proofs.MadeLaws.{made_if_fit}
use Rattle.jsonb.specs.declared.node.Node.{Node}
use Rattle.jsonb.specs.declared.node.Node.TheVariants as nodes
use Rattle.jsonb.specs.Code.{CanBeStored, HasDocument, IsSignedZero, item_document}
use Rattle.jsonb.specs.Node.{HoldsNoScalar, IsContainer, node_tree, node_view}
use Rattle.jsonb.proofs.ItemDocuments.{node_means, signed_zero}
use Rattle.typed_vector.specs.Cells.{other}
use Rattle.jsonb_typed.specs.Cells.{HasCell, IsCellOf}
use Rattle.jsonb_typed.specs.Types.{IsText}

pub made_invalid : {A Fit : Type 0} → (Fit → ⊥) → MadeIfFit {A = A} Fit (Err InvalidJsonb)
made_invalid none = made_if_fit (Err InvalidJsonb) tt (λ refused. none) (λ out. absurd cc) (inl refl)

-- A signed zero by value has no document of its own, and every other short scalar has one.
pub zero_unkept : (member : Node) → IsSignedZero (node_view member)
    → HasDocument (node_view member) (node_tree member) → ⊥
zero_unkept member signed =
    signed_zero (node_view member) (node_tree member) signed (node_means member)

pub short_kept : (member : Node)
    → (CanBeStored (node_view member) → Doc (item_document (node_view member)) (node_tree member))
    → CanBeStored (node_view member) ↔ HasDocument (node_view member) (node_tree member)
short_kept member means = (λ short. (short, means short), λ kept. kept.0)

-- What fits is refused for memory alone.
refused : {A Fit : Type 0} (r : Result A Error) (e : Error) → Fit → MadeIfFit Fit r → r ≡ Err e
    → e ≡ OutOfMemory
refused (Ok x) e fit made is = absurd cc
refused (Err f) e fit made is =
    elim made.only [
      | inl invalid ↦ absurd (made.past.0 (ap Err invalid) fit)
      | inr out ↦ cc (is, out)
    ]

-- The member of a document is refused for memory alone.
pub only_memory : {V A : Type 0} (Stands : V → Tree → Type 0) (member : Option Node)
    (r : Result A Error) (e : Error)
    → IfSome member (λ node. HasDocument (node_view node) (node_tree node))
    → MadeIfFit (HasCell Stands member) r → r ≡ Err e → e ≡ OutOfMemory
only_memory Stands None r e kept made is = refused r e tt made is
only_memory Stands (Some node) r e kept made is = refused r e (inr kept) made is

-- A row whose member has a document of its own can have a cell.
pub kept_fits : {V : Type 0} (Stands : V → Tree → Type 0) (member : Option Node) (node : Node)
    → member ≡ Some node → HasDocument (node_view node) (node_tree node) → HasCell Stands member
kept_fits Stands member node is kept =
    subst (λ (m : Option Node). HasCell Stands m) (sym is) (inr kept)

-- The cell of a member for which no value stands is a document of it.
pub other_cell : {V : Type 0} (Stands : V → Tree → Type 0) (member : Option Node)
    (node opened : Node) (bytes : List ℕ) → member ≡ Some node
    → node_tree opened ≡ node_tree node → ((v : V) → Stands v (node_tree opened) → ⊥)
    → Doc bytes (node_tree node) → IsCellOf Stands (option_map node_tree member) (other bytes)
other_cell Stands member node opened bytes is same none doc =
    subst (λ (m : Option Node). IsCellOf Stands (option_map node_tree m) (other bytes)) (sym is)
    (doc, λ v stands. none v (subst (λ (t : Tree). Stands v t) (sym same) stands))

-- A value that is no text means none.
pub no_text : (node : Node) → ((s : Bor (List ℕ)) → node ≡ nodes.String s → ⊥)
    → HoldsNoScalar node → (v : List ℕ) → IsText v (node_tree node) → ⊥
no_text nodes.Null none held v is = cc
no_text (nodes.Boolean b) none held v is = cc
no_text (nodes.Number item) none held v is = cc
no_text (nodes.String s) none held v is = none s refl
no_text (nodes.Extension item) none held v is = cc
no_text (nodes.Container d) none held v is =
    let container = subst (λ (t : Tree). IsContainer t) is held in absurd (omega (arith, container))
