use Rattle.std.proofs.Common.{◌≡◌, ◌++◌, ◌+◌, ◌*◌, ◌≤◌, ℕ, List, codes, length}
use Rattle.std.specs.Fmt.{IsFlush, HasWrittenStyled}
use Rattle.jsonb_value.specs.Text.{inside, line_start, laid_out}
use Rattle.jsonb_value.specs.Value.{trees_of}
use Rattle.jsonb_codec.specs.Depth.{depths, pair_depths, size, sizes, pair_sizes}
use Rattle.jsonb.specs.Document.{document_tree}
use Rattle.jsonb.specs.EntryTrees.{part_tree, rest_trees, rest_pairs}
use Rattle.jsonb.specs.Lines.{more_lines, item_lines, pair_lines}
use Rattle.jsonb.specs.Node.{node_tree, pairs_of, array_of, object_of}
use Rattle.jsonb.specs.Texts.{layout_of}
use Rattle.jsonb.proofs.text.+text.Given as goal

abbrev pub decreases-write_node : goal.decreases-write_node
decreases-write_node g l = 4 * size (node_tree l.node) + 1

abbrev pub decreases-write_container : goal.decreases-write_container
decreases-write_container g l = 4 * size (document_tree l.document)

abbrev pub decreases-write_items : goal.decreases-write_items
decreases-write_items g l = 4 * sizes (trees_of (rest_trees l.items)) + 3

abbrev pub decreases-write_line : goal.decreases-write_line
decreases-write_line g l = 4 * size (part_tree l.item) + 2

abbrev pub decreases-write_members : goal.decreases-write_members
decreases-write_members g l = 4 * pair_sizes (pairs_of (rest_pairs l.members)) + 3

abbrev pub decreases-write_member : goal.decreases-write_member
decreases-write_member g l = 4 * size (part_tree l.value) + 2

abbrev pub decreases-write_next_member : goal.decreases-write_next_member
decreases-write_next_member g l = 4 * size (part_tree l.value) + 2

-- what is written so far, followed by what is left to write, up to the closing bracket
abbrev pub invariant-write_items-items : goal.invariant-write_items-items
invariant-write_items-items g l =
    let layout = layout_of l.fn.layout in
    let left = trees_of (rest_trees l.items) in
    let all = trees_of (rest_trees l.fn.items) in
    (sizes left ≤ sizes all)
    × (depths left ≤ depths all)
    × (done : List ℕ)
    × (done ++ (more_lines (inside layout) (item_lines (inside layout) left)
    ++ (line_start layout ++ codes "]")) ≡ laid_out layout (array_of (rest_trees l.fn.items)))
    × (IsFlush l.fn.f → HasWrittenStyled g.W.Write.write_str_gives l.fn.f done l.f)

abbrev pub decreases-write_items-items : goal.decreases-write_items-items
decreases-write_items-items g l = length (rest_trees l.items)

abbrev pub invariant-write_members-members : goal.invariant-write_members-members
invariant-write_members-members g l =
    let layout = layout_of l.fn.layout in
    let left = pairs_of (rest_pairs l.members) in
    let all = pairs_of (rest_pairs l.fn.members) in
    (pair_sizes left ≤ pair_sizes all)
    × (pair_depths left ≤ pair_depths all)
    × (done : List ℕ)
    × (done ++ (more_lines (inside layout) (pair_lines (inside layout) left)
    ++ (line_start layout ++ codes "}"))
    ≡ laid_out layout (object_of (rest_pairs l.fn.members)))
    × (IsFlush l.fn.f → HasWrittenStyled g.W.Write.write_str_gives l.fn.f done l.f)

abbrev pub decreases-write_members-members : goal.decreases-write_members-members
decreases-write_members-members g l = length (rest_pairs l.members)
