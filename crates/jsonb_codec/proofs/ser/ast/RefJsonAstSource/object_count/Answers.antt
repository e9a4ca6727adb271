use Rattle.jsonb_codec.proofs.Lengths.{pair_count-ast_pairs_view}
use Rattle.jsonb_codec.proofs.ValueShapes.{pairs_count}
use Rattle.jsonb_codec.proofs.ser.ast.RefJsonAstSource.object_count.Goals as goal

pub returns : goal.returns
returns c ss h = pairs_count _ _ ss (pair_count-ast_pairs_view c.args.object.left.now) h
