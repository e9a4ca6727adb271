use Rattle.std.proofs.Common.{refl}
use Rattle.jsonb_codec.proofs.Shapes.{first}
use Rattle.jsonb_codec.proofs.ShapeWriting.{going_on, going_end}
use Rattle.jsonb_codec.proofs.writer.append.append_keys.Goals as goal

pub loop-key-preserved : goal.loop-key-preserved
loop-key-preserved g c =
    let m = g.S.Source.meaning in let w = c.loop-key.invariant in
    let f = first m.child m.members w.left (c.in-Some.ensures.split w.left w.are_left) in
    going_on w f (λ k s. k) (λ k s us. refl) _ (rw f.keyed at c.append_to.ensures)

pub returns : goal.returns
returns g c =
    let w = c.loop-key.invariant in
    going_end w g.S.Source.laws.one_members refl (c.in_default.ensures.split w.left w.are_left)
