use Rattle.std.proofs.Common.{rules, ◌++◌, ◌∙◌, codes, refl, sym, ap, subst, arith}
use Rattle.jsonb_value.specs.Text.{inside, line_start, colon_text, laid_out}
use Rattle.jsonb_value.specs.Value.{trees_of}
use Rattle.jsonb_value.proofs.Writing.{joins_two, joins_three}
use Rattle.jsonb.specs.EntryTrees.{part_tree, rest_trees, rest_pairs}
use Rattle.jsonb.specs.Lines.{item_lines, next_key, pair_lines, pair_text, HasIndentRoom}
use Rattle.jsonb_codec.specs.Depth.{depth, size}
use Rattle.jsonb.specs.Node.{pairs_of}
use Rattle.jsonb.proofs.EntryTreeLaws.{entry_tree-node}
use Rattle.jsonb.specs.Texts.{layout_of}
use Rattle.jsonb.proofs.LineLaws.{items_begin, items_after, pairs_begin, pairs_after, lines_next}
use Rattle.jsonb.proofs.LineLaws.{next_pair}
use Rattle.jsonb.proofs.text.+text.Goals as goal

pub write_line-write_node-requires : goal.write_line-write_node-requires
write_line-write_node-requires g t c κs within =
    let is = entry_tree-node c.args.item c.of_part.result c.of_part.ensures.means in (
      omega (arith, ap size is),
      (
        within,
        (
          c.of_part.ensures.container,
          subst (λ u. HasIndentRoom (layout_of c.args.layout) (depth u)) is c.requires.room,
        ),
      ),
    )

pub write_line-returns : goal.write_line-returns
write_line-returns g t c flush ok =
    let l = layout_of c.args.layout in
    let is = entry_tree-node c.args.item c.of_part.result c.of_part.ensures.means in
    let one = c.start_line.ensures flush (search rules) in
    let two = c.write_node.ensures one.flush ok in
    joins_two _ _ _ _ _ _ _ one two (ap (λ t. line_start l ++ laid_out l t) (sym is))

pub write_items-items-init : goal.write_items-items-init
write_items-items-init g t c =
    let l = layout_of c.args.layout in
    let u = part_tree c.in-Some.first in
    let later = items_after (rest_trees c.args.items)
    (rest_trees c.next_part.new.self) u c.in-Some.ensures in (
      later.less,
      later.no_deeper,
      codes "[" ++ (line_start (inside l) ++ laid_out (inside l) u),
      items_begin l (trees_of (rest_trees c.args.items)) u
          (trees_of (rest_trees c.next_part.new.self))
          (ap trees_of c.in-Some.ensures),
      λ flush.
          let one = c.write_str-2.ensures.styled flush (search rules) in
          let two = c.write_line.ensures one.flush (search rules) in
          joins_two _ _ _ _ _ _ _ one two
          (ap (λ i. codes "[" ++ (line_start i ++ laid_out i u)) c.inside.ensures),
    )

pub write_items-items-preserved : goal.write_items-items-preserved
write_items-items-preserved g t c =
    let l = layout_of c.args.layout in
    let end = line_start l ++ codes "]" in
    let u = part_tree c.in-Some-next_part.next in
    let line = laid_out (inside l) u in
    let left = rest_trees c.next_part-in-items.new.self in
    let (less, no_deeper, done, whole, writes) = c.items.invariant in
    let later = items_after (rest_trees c.items.items) left u c.in-Some-next_part.ensures in (
      omega (arith, later.less, less),
      omega (arith, later.no_deeper, no_deeper),
      done ++ (codes "," ++ (line_start (inside l) ++ line)),
      lines_next (inside l) done end _ line (item_lines (inside l) (trees_of left))
          (rw c.in-Some-next_part.ensures at whole),
      λ flush.
          let so_far = writes flush in
          let one = c.write_str-in-Some-next_part.ensures.styled so_far.flush (search rules) in
          let two = c.write_line-in-Some-next_part.ensures one.flush (search rules) in
          joins_three _ _ _ _ _ _ _ _ _ so_far one two
          (cc c.inside-in-Some-next_part.ensures),
    )

pub write_items-returns : goal.write_items-returns
write_items-returns g t c flush ok =
    let l = layout_of c.args.layout in
    let end = line_start l ++ codes "]" in
    let (less, no_deeper, done, whole, writes) = c.items.invariant in
    let so_far = writes flush in
    let one = c.start_line.ensures so_far.flush (search rules) in
    let two = c.write_str-3.ensures.styled one.flush ok in
    joins_three _ _ _ _ _ _ _ _ _ so_far one two
    (rw c.in_default-next_part.ensures.0 at whole)

pub write_member-write_node-requires : goal.write_member-write_node-requires
write_member-write_node-requires g t c κs within =
    let is = entry_tree-node c.args.value c.of_part.result c.of_part.ensures.means in
    let l = layout_of c.args.layout in
    let room : HasIndentRoom l (depth (part_tree c.args.value)) = search rules in (
      omega (arith, ap size is),
      (
        within,
        (
          c.of_part.ensures.container,
          subst (λ u. HasIndentRoom l (depth u)) is room,
        ),
      ),
    )

pub write_member-returns : goal.write_member-returns
write_member-returns g t c flush ok =
    let one = c.start_line.ensures flush (search rules) in
    let two = c.write_string.ensures one.flush (search rules) in
    let three = c.write_colon.ensures two.flush (search rules) in
    let four = c.write_node.ensures three.flush ok in
    let l = layout_of c.args.layout in
    let is = entry_tree-node c.args.value c.of_part.result c.of_part.ensures.means in
    let ends =
    joins_two _ _ _ _ _ _ _ three four (ap (λ t. colon_text l ++ laid_out l t) (sym is)) in
    joins_three _ _ _ _ _ _ _ _ _ one two ends refl

pub write_next_member-write_node-requires : goal.write_next_member-write_node-requires
write_next_member-write_node-requires g t c κs within =
    let is = entry_tree-node c.args.value c.of_part.result c.of_part.ensures.means in
    let l = layout_of c.args.layout in
    let room : HasIndentRoom l (depth (part_tree c.args.value)) = search rules in (
      omega (arith, ap size is),
      (
        within,
        (
          c.of_part.ensures.container,
          subst (λ u. HasIndentRoom l (depth u)) is room,
        ),
      ),
    )

pub write_next_member-returns : goal.write_next_member-returns
write_next_member-returns g t c flush ok =
    let one = c.write_next_key.ensures flush (search rules) in
    let two = c.write_node.ensures one.flush ok in
    let l = layout_of c.args.layout in
    let is = entry_tree-node c.args.value c.of_part.result c.of_part.ensures.means in
    joins_two _ _ _ _ _ _ _ one two
    (ap (λ t. next_key l c.args.key.now ++ laid_out l t) (sym is))

pub write_members-members-init : goal.write_members-members-init
write_members-members-init g t c =
    let l = layout_of c.args.layout in
    let k = c.in-Some.key.now in
    let u = part_tree c.in-Some.value in
    let later = pairs_after (rest_pairs c.args.members)
    (rest_pairs c.next_parts.new.self) k u c.in-Some.ensures in (
      later.less,
      later.no_deeper,
      codes "{" ++ (line_start (inside l) ++ pair_text (inside l) k u),
      pairs_begin l (pairs_of (rest_pairs c.args.members)) k u
          (pairs_of (rest_pairs c.next_parts.new.self)) (ap pairs_of c.in-Some.ensures),
      λ flush.
          let one = c.write_str-2.ensures.styled flush (search rules) in
          let two = c.write_member.ensures one.flush (search rules) in
          joins_two _ _ _ _ _ _ _ one two
          (ap (λ i. codes "{" ++ (line_start i ++ pair_text i k u)) c.inside.ensures),
    )

pub write_members-members-preserved : goal.write_members-members-preserved
write_members-members-preserved g t c =
    let l = layout_of c.args.layout in
    let end = line_start l ++ codes "}" in
    let k = c.in-Some-next_parts.key.now in
    let u = part_tree c.in-Some-next_parts.value in
    let line = pair_text (inside l) k u in
    let left = rest_pairs c.next_parts-in-members.new.self in
    let (less, no_deeper, done, whole, writes) = c.members.invariant in
    let later =
    pairs_after (rest_pairs c.members.members) left k u c.in-Some-next_parts.ensures in (
      omega (arith, later.less, less),
      omega (arith, later.no_deeper, no_deeper),
      done ++ (codes "," ++ (line_start (inside l) ++ line)),
      lines_next (inside l) done end _ line (pair_lines (inside l) (pairs_of left))
          (rw c.in-Some-next_parts.ensures at whole),
      λ flush.
          let so_far = writes flush in
          let one = c.write_next_member.ensures so_far.flush (search rules) in
          joins_two _ _ _ _ _ _ _ so_far one
          (ap (λ i. done ++ (next_key i k ++ laid_out i u)) c.inside-in-Some-next_parts.ensures
          ∙ ap (λ s. done ++ s) (next_pair (inside l) k u)),
    )

pub write_members-returns : goal.write_members-returns
write_members-returns g t c flush ok =
    let l = layout_of c.args.layout in
    let end = line_start l ++ codes "}" in
    let (less, no_deeper, done, whole, writes) = c.members.invariant in
    let so_far = writes flush in
    let one = c.start_line.ensures so_far.flush (search rules) in
    let two = c.write_str-3.ensures.styled one.flush ok in
    joins_three _ _ _ _ _ _ _ _ _ so_far one two
    (rw c.in_default-next_parts.ensures.0 at whole)
