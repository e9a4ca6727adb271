use Rattle.std.proofs.Common.{rules, ◌≡◌, ◌++◌, codes, refl, sym, ap, subst, ◌∙◌, arith}
use Rattle.jsonb_value.specs.Text.{inside, line_start, colon_text, laid_out, string_text}
use Rattle.jsonb_value.specs.Text.{length_64}
use Rattle.jsonb_value.specs.Value.{trees_of}
use Rattle.jsonb.specs.EntryTrees.{part_tree, rest_trees, rest_pairs}
use Rattle.jsonb.specs.Lines.{item_lines, pair_lines, pair_text, HasIndentRoom}
use Rattle.jsonb_codec.specs.Depth.{depth, size}
use Rattle.jsonb.specs.Node.{pairs_of}
use Rattle.jsonb.proofs.EntryTreeLaws.{entry_tree-node}
use Rattle.jsonb.specs.Texts.{layout_of}
use Rattle.jsonb.proofs.LineLaws.{items_begin, items_after, pairs_begin, pairs_after, lines_next}
use Rattle.jsonb.proofs.TextLengths.{plus_64, adds, adds_byte, adds_end, adds_four}
use Rattle.jsonb.proofs.text_len.+text_len.Goals as goal

pub line_len-node_len-requires : goal.line_len-node_len-requires
line_len-node_len-requires t c =
    let is = entry_tree-node c.args.item c.of_part.result c.of_part.ensures.means in (
      omega (arith, ap size is),
      (
        c.of_part.ensures.container,
        subst (λ u. HasIndentRoom (layout_of c.args.layout) (depth u)) is c.requires.room,
      ),
    )

pub line_len-returns : goal.line_len-returns
line_len-returns t c =
    let l = layout_of c.args.layout in
    let is = entry_tree-node c.args.item c.of_part.result c.of_part.ensures.means in
    let sum : c.saturating_add.result ≡ plus_64 c.start_len.result c.node_len.result =
    omega (arith, c.saturating_add.ensures) in
    sum ∙ adds _ _ _ _ c.start_len.ensures
    (c.node_len.ensures ∙ ap (λ t. length_64 (laid_out l t)) (sym is))

pub items_len-items-init : goal.items_len-items-init
items_len-items-init t c =
    let l = layout_of c.args.layout in
    let u = part_tree c.in-Some.first in
    let sum : c.saturating_add-len.result ≡ plus_64 c.line_len.result 1 =
    omega (arith, c.saturating_add-len.ensures) in
    let later = items_after (rest_trees c.args.items)
    (rest_trees c.next_part.new.self) u c.in-Some.ensures in (
      later.less,
      later.no_deeper,
      codes "[" ++ (line_start (inside l) ++ laid_out (inside l) u),
      items_begin l (trees_of (rest_trees c.args.items)) u
          (trees_of (rest_trees c.next_part.new.self))
          (ap trees_of c.in-Some.ensures),
      sum ∙ adds_byte (codes "[") _ _ refl
          (c.line_len.ensures
          ∙ ap (λ i. length_64 (line_start i ++ laid_out i u)) c.inside.ensures),
    )

pub items_len-items-preserved : goal.items_len-items-preserved
items_len-items-preserved t c =
    let l = layout_of c.args.layout in
    let end = line_start l ++ codes "]" in
    let u = part_tree c.in-Some-next_part.next in
    let line = laid_out (inside l) u in
    let left = rest_trees c.next_part-in-items.new.self in
    let (less, no_deeper, done, whole, counted) = c.items.invariant in
    let line_sum : c.saturating_add.result
    ≡ plus_64 c.line_len-in-Some-next_part.result 1 =
    omega (arith, c.saturating_add.ensures) in
    let sum : c.saturating_add-len-in-Some-next_part.result
    ≡ plus_64 c.items.len c.saturating_add.result =
    omega (arith, c.saturating_add-len-in-Some-next_part.ensures) in
    let later = items_after (rest_trees c.items.items) left u c.in-Some-next_part.ensures in (
      omega (arith, later.less, less),
      omega (arith, later.no_deeper, no_deeper),
      done ++ (codes "," ++ (line_start (inside l) ++ line)),
      lines_next (inside l) done end _ line (item_lines (inside l) (trees_of left))
          (rw c.in-Some-next_part.ensures at whole),
      sum ∙ adds done _ _ _ counted (line_sum ∙ adds_byte (codes ",") _ _ refl
          (c.line_len-in-Some-next_part.ensures
          ∙ ap (λ i. length_64 (line_start i ++ laid_out i u)) c.inside-in-Some-next_part.ensures)),
    )

pub items_len-returns : goal.items_len-returns
items_len-returns t c =
    let l = layout_of c.args.layout in
    let (less, no_deeper, done, whole, counted) = c.items.invariant in
    let sum : c.saturating_add-3.result ≡ plus_64 c.items.len (plus_64 c.start_len.result 1) =
    omega (arith, c.saturating_add-3.ensures, c.saturating_add-2.ensures) in
    sum ∙ adds_end done _ (codes "]") _ _ refl counted c.start_len.ensures
    ∙ ap length_64 (rw c.in_default-next_part.ensures.0 at whole)

pub member_len-node_len-requires : goal.member_len-node_len-requires
member_len-node_len-requires t c =
    let is = entry_tree-node c.args.value c.of_part.result c.of_part.ensures.means in
    let l = layout_of c.args.layout in
    let room : HasIndentRoom l (depth (part_tree c.args.value)) = search rules in (
      omega (arith, ap size is),
      (c.of_part.ensures.container, subst (λ u. HasIndentRoom l (depth u)) is room),
    )

pub member_len-returns : goal.member_len-returns
member_len-returns t c =
    let l = layout_of c.args.layout in
    let is = entry_tree-node c.args.value c.of_part.result c.of_part.ensures.means in
    let sum : c.saturating_add.result ≡ plus_64 (plus_64 c.start_len.result c.string_len.result)
    (plus_64 c.colon_len.result c.node_len.result) =
    omega (
      arith,
      c.saturating_add.ensures,
      c.saturating_add-before.ensures,
      c.saturating_add-value.ensures,
    ) in
    sum ∙ adds_four (line_start l) (string_text c.args.key.now) (colon_text l)
    (laid_out l (part_tree c.args.value)) _ _ _ _ c.start_len.ensures c.string_len.ensures
    c.colon_len.ensures
    (c.node_len.ensures ∙ ap (λ t. length_64 (laid_out l t)) (sym is))

pub members_len-members-init : goal.members_len-members-init
members_len-members-init t c =
    let l = layout_of c.args.layout in
    let k = c.in-Some.key.now in
    let u = part_tree c.in-Some.value in
    let sum : c.saturating_add-len.result ≡ plus_64 c.member_len.result 1 =
    omega (arith, c.saturating_add-len.ensures) in
    let later = pairs_after (rest_pairs c.args.members)
    (rest_pairs c.next_parts.new.self) k u c.in-Some.ensures in (
      later.less,
      later.no_deeper,
      codes "{" ++ (line_start (inside l) ++ pair_text (inside l) k u),
      pairs_begin l (pairs_of (rest_pairs c.args.members)) k u
          (pairs_of (rest_pairs c.next_parts.new.self)) (ap pairs_of c.in-Some.ensures),
      sum ∙ adds_byte (codes "{") _ _ refl
          (c.member_len.ensures
          ∙ ap (λ i. length_64 (line_start i ++ pair_text i k u)) c.inside.ensures),
    )

pub members_len-members-preserved : goal.members_len-members-preserved
members_len-members-preserved t c =
    let l = layout_of c.args.layout in
    let end = line_start l ++ codes "}" in
    let k = c.in-Some-next_parts.key.now in
    let u = part_tree c.in-Some-next_parts.value in
    let line = pair_text (inside l) k u in
    let left = rest_pairs c.next_parts-in-members.new.self in
    let (less, no_deeper, done, whole, counted) = c.members.invariant in
    let line_sum : c.saturating_add.result
    ≡ plus_64 c.member_len-in-Some-next_parts.result 1 =
    omega (arith, c.saturating_add.ensures) in
    let sum : c.saturating_add-len-in-Some-next_parts.result
    ≡ plus_64 c.members.len c.saturating_add.result =
    omega (arith, c.saturating_add-len-in-Some-next_parts.ensures) in
    let later =
    pairs_after (rest_pairs c.members.members) left k u c.in-Some-next_parts.ensures in (
      omega (arith, later.less, less),
      omega (arith, later.no_deeper, no_deeper),
      done ++ (codes "," ++ (line_start (inside l) ++ line)),
      lines_next (inside l) done end _ line (pair_lines (inside l) (pairs_of left))
          (rw c.in-Some-next_parts.ensures at whole),
      sum ∙ adds done _ _ _ counted (line_sum ∙ adds_byte (codes ",") _ _ refl
          (c.member_len-in-Some-next_parts.ensures
          ∙ ap (λ i. length_64 (line_start i ++ pair_text i k u))
          c.inside-in-Some-next_parts.ensures)),
    )

pub members_len-returns : goal.members_len-returns
members_len-returns t c =
    let l = layout_of c.args.layout in
    let (less, no_deeper, done, whole, counted) = c.members.invariant in
    let sum : c.saturating_add-3.result ≡ plus_64 c.members.len (plus_64 c.start_len.result 1) =
    omega (arith, c.saturating_add-3.ensures, c.saturating_add-2.ensures) in
    sum ∙ adds_end done _ (codes "}") _ _ refl counted c.start_len.ensures
    ∙ ap length_64 (rw c.in_default-next_parts.ensures.0 at whole)
