use Rattle.jsonb_codec.proofs.StoredLaws.{count-AreStored}
use Rattle.jsonb_codec.proofs.writer.stored.RefBTreeMapRefStrSource.count.Goals as goal

pub returns : goal.returns
returns g c ss h = count-AreStored _ _ _ _ ss h
