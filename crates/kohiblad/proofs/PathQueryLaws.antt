-- The members that were read, followed by those that are left.
use Rattle.std.proofs.Common.{◌≡◌, ◌++◌, ℕ, List, [], ◌∷◌, map, sym, ap, ◌∙◌, append_assoc}
use Rattle.std.specs.Borrow.{Bor}
use Rattle.std.proofs.lemmas.List.{map-append}
use Rattle.jsonb_value.specs.Tree.{Tree}
use Rattle.jsonb.specs.declared.node.Node.{Node}
use Rattle.jsonb.specs.Node.{member_tree}

-- After one more member was read.
pub members_on : (list : List (Bor (List ℕ) × Node)) (member : Bor (List ℕ) × Node)
    (left later all : List (List ℕ × Tree)) → left ≡ member_tree member ∷ later
    → map member_tree list ++ left ≡ all
    → map member_tree (list ++ (member ∷ [])) ++ later ≡ all
members_on list member left later all is before =
    ap (λ xs. xs ++ later) (map-append member_tree list (member ∷ []))
    ∙ append_assoc (map member_tree list) (member_tree member ∷ []) later
    ∙ sym (ap (λ xs. map member_tree list ++ xs) is) ∙ before
