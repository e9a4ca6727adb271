-- The values of entries.
use Rattle.std.proofs.Common.{◌≡◌, ℕ, ◌≤◌, List, inl, inr, refl, sym, ap, subst, ◌∙◌, arith}
use Rattle.std.proofs.Common.{true, false, Some, Ok}
use Rattle.jsonb_value.specs.Tree.{Tree}
use Rattle.jsonb_codec.specs.declared.constants.TheConstants.{CONTAINER_TAG}
use Rattle.jsonb_codec.specs.Depth.{depth, IsDocumentWithin}
use Rattle.jsonb_codec.specs.Doc.{Doc, type_of}
use Rattle.jsonb_codec.specs.Parts.{HasPayload, IsPayloadOf}
use Rattle.jsonb_codec.proofs.Unique.{Doc-unique, same_tree}
use Rattle.jsonb.specs.Document.{document_bytes, document_tree}
use Rattle.jsonb.specs.Entry.{entry_there}
use Rattle.jsonb.specs.Node.{node_tree, IsContainer}
use Rattle.jsonb.specs.declared.document.Document.{Document}
use Rattle.jsonb.specs.declared.node.Node.{Node}
use Rattle.jsonb.specs.declared.node.Node.TheVariants as nodes
use Rattle.jsonb.proofs.DocumentLaws.{tree_of_bytes}
use Rattle.jsonb.specs.declared.entries.Entry.{Entry}
use Rattle.kohiblad.specs.EntryTexts.{IsPayloadWithin, IsPrintedPart}
use Rattle.kohiblad.specs.Places.{part_in}
use Rattle.kohiblad.proofs.PartLaws.{place_value}

-- the document of a container is the payload of its entry
payload_of_doc : (b : List ℕ) (t : Tree) → IsContainer t → Doc b t → IsPayloadOf CONTAINER_TAG b t
payload_of_doc b t is (inl (other, scalar)) = absurd (other is)
payload_of_doc b t is (inr (type, means)) = (is, means)

pub container_is : (d : ℕ) (b : List ℕ) (document : Document) (t : Tree) → IsDocumentWithin d b
    → document_bytes document ≡ b → t ≡ document_tree document → IsContainer t
    → IsPayloadWithin d CONTAINER_TAG b t
container_is d b document t (u, (small, doc)) bytes same is =
    let here = subst (Doc b) (sym same) (tree_of_bytes b document bytes) in
    let one = Doc-unique b u t doc here in
    (subst (λ v. depth v ≤ d) one small, payload_of_doc b t is here)

-- a value that is no container is not in the entry of one
scalar_type : (node : Node) → ((d : Document) → node ≡ nodes.Container d → ⊥)
    → IsContainer (node_tree node) → ⊥
scalar_type nodes.Null other is = omega (arith, is)
scalar_type (nodes.Boolean true) other is = omega (arith, is)
scalar_type (nodes.Boolean false) other is = omega (arith, is)
scalar_type (nodes.Number n) other is = omega (arith, is)
scalar_type (nodes.String s) other is = omega (arith, is)
scalar_type (nodes.Extension e) other is = omega (arith, is)
scalar_type (nodes.Container d) other is = other d refl

pub no_container : (d : ℕ) (b : List ℕ) (document : Document) (node : Node)
    → document_bytes document ≡ b → node_tree node ≡ document_tree document
    → ((d : Document) → node ≡ nodes.Container d → ⊥) → HasPayload d CONTAINER_TAG b → ⊥
no_container d b document node bytes same other (t, (small, (type, means))) =
    let one = Doc-unique b t (document_tree document) (inr (type, means))
    (tree_of_bytes b document bytes) in
    scalar_type node other (ap type_of (same ∙ sym one) ∙ type)

-- an entry has one value
pub one_value : (d type : ℕ) (p : List ℕ) (t u : Tree) → IsPayloadWithin d type p t
    → IsPayloadWithin d type p u → t ≡ u
one_value d type p t u (small, (is, means)) (low, (also, meant)) =
    same_tree t u (is ∙ sym also) p means meant

-- what holds of the value of an entry holds of the part at its position
pub printed_part : (d type : ℕ) (p : List ℕ) (Is : Tree → Type 0)
    → ((t : Tree) → IsPayloadWithin d type p t → Is t) → (b : List ℕ) (t : Tree) (nth : ℕ)
    (place : Entry) → Doc b t → part_in b nth ≡ Ok (Some place)
    → entry_there b place ≡ record { type = type; payload = p } → IsPrintedPart d t nth Is
printed_part d type p Is holds b t nth place document found is =
    let value = place_value b t nth place type p document found is in
    (value.0, (value.1.0, λ small. holds value.0 (small, value.1.1)))
