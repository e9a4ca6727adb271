use Rattle.std.proofs.Common.{◌≡◌, ◌++◌, ◌+◌, ◌*◌, ◌≤◌, ℕ, List, codes, length}
use Rattle.jsonb_value.specs.Text.{inside, line_start, laid_out, length_64}
use Rattle.jsonb_value.specs.Value.{trees_of}
use Rattle.jsonb_codec.specs.Depth.{depths, pair_depths, size, sizes, pair_sizes}
use Rattle.jsonb.specs.Document.{document_tree}
use Rattle.jsonb.specs.EntryTrees.{part_tree, rest_trees, rest_pairs}
use Rattle.jsonb.specs.Lines.{more_lines, item_lines, pair_lines}
use Rattle.jsonb.specs.Node.{node_tree, pairs_of, array_of, object_of}
use Rattle.jsonb.specs.Texts.{layout_of}
use Rattle.jsonb.proofs.text_len.+text_len.Given as goal

abbrev pub decreases-node_len : goal.decreases-node_len
decreases-node_len l = 4 * size (node_tree l.node) + 1

abbrev pub decreases-container_len : goal.decreases-container_len
decreases-container_len l = 4 * size (document_tree l.document)

abbrev pub decreases-items_len : goal.decreases-items_len
decreases-items_len l = 4 * sizes (trees_of (rest_trees l.items)) + 3

abbrev pub decreases-line_len : goal.decreases-line_len
decreases-line_len l = 4 * size (part_tree l.item) + 2

abbrev pub decreases-members_len : goal.decreases-members_len
decreases-members_len l = 4 * pair_sizes (pairs_of (rest_pairs l.members)) + 3

abbrev pub decreases-member_len : goal.decreases-member_len
decreases-member_len l = 4 * size (part_tree l.value) + 2

-- what is counted so far, followed by what is left to count, up to the closing bracket
abbrev pub invariant-items_len-items : goal.invariant-items_len-items
invariant-items_len-items l =
    let layout = layout_of l.fn.layout in
    let left = trees_of (rest_trees l.items) in
    let all = trees_of (rest_trees l.fn.items) in
    (sizes left ≤ sizes all)
    × (depths left ≤ depths all)
    × (done : List ℕ)
    × (done ++ (more_lines (inside layout) (item_lines (inside layout) left)
    ++ (line_start layout ++ codes "]")) ≡ laid_out layout (array_of (rest_trees l.fn.items)))
    × (l.len ≡ length_64 done)

abbrev pub decreases-items_len-items : goal.decreases-items_len-items
decreases-items_len-items l = length (rest_trees l.items)

abbrev pub invariant-members_len-members : goal.invariant-members_len-members
invariant-members_len-members l =
    let layout = layout_of l.fn.layout in
    let left = pairs_of (rest_pairs l.members) in
    let all = pairs_of (rest_pairs l.fn.members) in
    (pair_sizes left ≤ pair_sizes all)
    × (pair_depths left ≤ pair_depths all)
    × (done : List ℕ)
    × (done ++ (more_lines (inside layout) (pair_lines (inside layout) left)
    ++ (line_start layout ++ codes "}"))
    ≡ laid_out layout (object_of (rest_pairs l.fn.members)))
    × (l.len ≡ length_64 done)

abbrev pub decreases-members_len-members : goal.decreases-members_len-members
decreases-members_len-members l = length (rest_pairs l.members)
