use Rattle.std.proofs.Common.{◌∙◌}
use Rattle.jsonb_codec.proofs.StoredLaws.{count-AreStored}
use Rattle.jsonb_codec.proofs.writer.stored.RefBTreeMapRefStrSource.object_count.Goals as goal

pub returns : goal.returns
returns g c ss h = c.len.ensures.len ∙ count-AreStored _ _ _ _ ss h
