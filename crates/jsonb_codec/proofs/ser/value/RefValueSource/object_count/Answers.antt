use Rattle.std.proofs.Common.{◌∙◌, sym}
use Rattle.jsonb_codec.proofs.Lengths.{pair_count-pairs_view}
use Rattle.jsonb_codec.proofs.ValueShapes.{pairs_count}
use Rattle.jsonb_codec.proofs.ser.value.RefValueSource.object_count.Goals as goal

pub returns : goal.returns
returns c ss h = pairs_count _ _ ss
    (pair_count-pairs_view c.args.object.now.entries ∙ sym c.len.ensures.len) h
