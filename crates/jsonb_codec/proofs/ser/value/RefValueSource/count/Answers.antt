use Rattle.jsonb_codec.proofs.Lengths.{count-items_view}
use Rattle.jsonb_codec.proofs.ValueShapes.{items_count}
use Rattle.jsonb_codec.proofs.ser.value.RefValueSource.count.Goals as goal

pub returns : goal.returns
returns c ss h = items_count _ _ ss (count-items_view _) h
