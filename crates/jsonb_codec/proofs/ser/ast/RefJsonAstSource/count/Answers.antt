use Rattle.jsonb_codec.proofs.Lengths.{count-asts_view}
use Rattle.jsonb_codec.proofs.ValueShapes.{items_count}
use Rattle.jsonb_codec.proofs.ser.ast.RefJsonAstSource.count.Goals as goal

pub returns : goal.returns
returns c ss h = items_count _ _ ss (count-asts_view _) h
