use Rattle.std.proofs.Common.{◌≡◌, ◌+◌, length, refl, ap, arith}
use Rattle.jsonb_codec.specs.WordBytes.{word}
use Rattle.jsonb_codec.specs.Room.{AppendsBytes}
use Rattle.jsonb_codec.specs.Shape.{shape_type, payload, entries}
use Rattle.jsonb_codec.proofs.Shapes.{first, first_body}
use Rattle.jsonb_codec.proofs.ShapeWriting.{going_start, going_on, going_takes, going_end}
use Rattle.jsonb_codec.proofs.ShapeWriting.{is_leaf, is_container}
use Rattle.jsonb_codec.proofs.writer.append.append_item_entries.Goals.{in-Leaf, in_default-level}
use Rattle.jsonb_codec.proofs.writer.append.append_item_entries.Goals as goal

pub loop-item-init : goal.loop-item-init
loop-item-init g c =
    let (ss, (are, (can, size))) = c.requires in
    record { going = going_start _ entries _ c.args.out.now ss are can; size = size }

pub item_size-size-requires : goal.item_size-size-requires
item_size-size-requires g c =
    let m = g.S.Source.meaning in
    let l = c.loop-item.invariant in let w = l.going in
    let f = first m.child m.items w.left (c.in-Some.ensures.split w.left w.are_left) in
    let is = c.level.ensures.is f.child f.is in
    (f.child, (is, going_takes w f (omega (arith, l.size, ap length f.keyed))))

pub loop-item-preserved : goal.loop-item-preserved
loop-item-preserved g c =
    let code = g.S.Leaf.Leaf.code in let m = g.S.Source.meaning in
    let l = c.loop-item.invariant in let w = l.going in
    let f = first m.child m.items w.left (c.in-Some.ensures.split w.left w.are_left) in
    let is = c.level.ensures.is f.child f.is in
    let size = length (payload f.child) in
    let put : AppendsBytes c.loop-item.out c.match-level.out (word (shape_type f.child + size))
    × (c.match-level.size_left ≡ size) =
    elim c.match-level.branch [
      | in-Leaf b ↦
          let same = is_leaf code m f.child b.in-Leaf.is is in
          let entry = b.append_leaf_entry.ensures in
          rw (b.out-is, b.size_left-is, same.0, same.1) (entry.written, entry.size)
      | in_default-level b ↦
          let type = is_container code m c.level.result f.child b.in_default-level.not-Leaf is in
          let known = b.item_size-size.ensures f.child is in
          let entry = b.append_container_entry.ensures in
          rw (b.out-is, b.size_left-is, type)
          (rw known at entry.written, rw known at entry.size)
    ] in record {
      going =
          going_on w f (λ k s. word (shape_type s + length (payload s))) (λ k s us. refl) _ put.0;
      size = omega (arith, l.size, first_body f, put.1, ap length f.keyed);
    }

pub returns : goal.returns
returns g c =
    let w = c.loop-item.invariant.going in
    going_end w g.S.Source.laws.one_items refl (c.in_default.ensures.split w.left w.are_left)
