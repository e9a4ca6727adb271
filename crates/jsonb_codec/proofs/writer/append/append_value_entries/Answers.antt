use Rattle.std.proofs.Common.{◌≡◌, ◌+◌, ℕ, List, length, refl, ap, arith}
use Rattle.jsonb_codec.specs.WordBytes.{word}
use Rattle.jsonb_codec.specs.Room.{AppendsBytes}
use Rattle.jsonb_codec.specs.Shape.{shape_type, payload, entries}
use Rattle.jsonb_codec.proofs.Shapes.{first, first_body}
use Rattle.jsonb_codec.proofs.ShapeWriting.{going_start, going_on, going_takes, going_end}
use Rattle.jsonb_codec.proofs.ShapeWriting.{is_leaf, is_container}
use Rattle.jsonb_codec.proofs.writer.append.append_value_entries.Goals.{in-Leaf, in_default-level}
use Rattle.jsonb_codec.proofs.writer.append.append_value_entries.Goals as goal

pub loop-key-init : goal.loop-key-init
loop-key-init g c =
    let (ss, (are, (can, size))) = c.requires in
    record { going = going_start _ entries _ c.args.out.now ss are can; size = size }

pub value_size-size-requires : goal.value_size-size-requires
value_size-size-requires g c =
    let m = g.S.Source.meaning in
    let l = c.loop-key.invariant in let w = l.going in
    let f = first m.child m.members w.left (c.in-Some.ensures.split w.left w.are_left) in
    let key = ap (λ (x : ℕ × List ℕ). length x.1) f.keyed in
    let is = c.level.ensures.is f.child f.is in
    (f.child, (is, going_takes w f (omega (arith, l.size, first_body f, key, c.len.ensures))))

pub loop-key-preserved : goal.loop-key-preserved
loop-key-preserved g c =
    let code = g.S.Leaf.Leaf.code in let m = g.S.Source.meaning in
    let l = c.loop-key.invariant in let w = l.going in
    let f = first m.child m.members w.left (c.in-Some.ensures.split w.left w.are_left) in
    let is = c.level.ensures.is f.child f.is in
    let size = length (payload f.child) in
    let key = ap (λ (x : ℕ × List ℕ). length x.1) f.keyed in
    let put : AppendsBytes c.loop-key.out c.match-level.out (word (shape_type f.child + size))
    × (c.match-level.size_left ≡ size) =
    elim c.match-level.branch [
      | in-Leaf b ↦
          let same = is_leaf code m f.child b.in-Leaf.is is in
          let entry = b.append_leaf_entry.ensures in
          rw (b.out-is, b.size_left-is, same.0, same.1) (entry.written, entry.size)
      | in_default-level b ↦
          let type = is_container code m c.level.result f.child b.in_default-level.not-Leaf is in
          let known = b.value_size-size.ensures f.child is in
          let entry = b.append_container_entry.ensures in
          rw (b.out-is, b.size_left-is, type)
          (rw known at entry.written, rw known at entry.size)
    ] in record {
      going =
          going_on w f (λ k s. word (shape_type s + length (payload s))) (λ k s us. refl) _ put.0;
      size = omega (arith, l.size, first_body f, put.1, key, c.len.ensures);
    }

pub returns : goal.returns
returns g c =
    let w = c.loop-key.invariant.going in
    going_end w g.S.Source.laws.one_members refl (c.in_default.ensures.split w.left w.are_left)
