use Rattle.jsonb.proofs.ItemMeaningLaws.{meaning_of-document, meaning_of-other}
use Rattle.jsonb.proofs.ItemMeaningLaws.{view_meaning-document}
use Rattle.jsonb.proofs.order.meaning_laws.Goals as goal

pub returns : goal.returns
returns c =
    record {
      document = meaning_of-document;
      other = meaning_of-other;
      item = view_meaning-document;
    }
