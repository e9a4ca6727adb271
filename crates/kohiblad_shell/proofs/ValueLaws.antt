-- The lines of values.
use Rattle.std.proofs.Common.{◌≡◌, ℕ, ◌+◌, ◌<◌, List, [], ◌∷◌, ◌++◌, length, map, take, refl}
use Rattle.std.proofs.Common.{sym, ap, ◌∙◌, append_assoc}
use Rattle.std.specs.Prelude.{slice_index_or}
use Rattle.std.proofs.lemmas.List.{append-nil, map-append, take_more}
use Rattle.jsonb_value.specs.Tree.{Tree}
use Rattle.jsonb.specs.declared.node.Node.{Node}
use Rattle.jsonb.specs.Node.{node_tree}
use Rattle.kohiblad_shell.specs.declared.operation.Style.{Style}
use Rattle.kohiblad_shell.specs.Operations.{value_line, value_lines}

value_lines-append : (style : Style) (ts us : List Tree)
    → value_lines style (ts ++ us) ≡ value_lines style ts ++ value_lines style us
value_lines-append style [] us = refl
value_lines-append style (t ∷ ts) us =
    ap (λ b. value_line style t ++ b) (value_lines-append style ts us)
    ∙ sym (append_assoc (value_line style t) (value_lines style ts) (value_lines style us))

-- one more value
pub value_lines-more : (style : Style) (nodes : List Node) (i : ℕ) (node : Node)
    → i < length nodes → node ≡ slice_index_or nodes i node
    → value_lines style (map node_tree (take (i + 1) nodes))
    ≡ value_lines style (map node_tree (take i nodes)) ++ value_line style (node_tree node)
value_lines-more style nodes i node low is =
    let front = map node_tree (take i nodes) in
    let more : map node_tree (take (i + 1) nodes) ≡ front ++ node_tree node ∷ [] =
    ap (map node_tree) (take_more nodes i node low ∙ ap (λ r. take i nodes ++ r ∷ []) (sym is))
    ∙ map-append node_tree (take i nodes) (node ∷ []) in
    ap (value_lines style) more ∙ value_lines-append style front (node_tree node ∷ [])
    ∙ ap (λ b. value_lines style front ++ b) (append-nil (value_line style (node_tree node)))
