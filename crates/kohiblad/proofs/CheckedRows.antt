-- Rows that were checked are documents, and keys with documents.
use Rattle.std.proofs.Common.{ℕ, List, [], ◌∷◌}
use Rattle.std.specs.List.{AllByRecursion}
use Rattle.std.specs.Map.{keys_of, values_of}
use Rattle.jsonb_codec.specs.Doc.{IsDocument}
use Rattle.jsonb.specs.Building.{AreTexts}
use Rattle.kohiblad.specs.Results.{AreWithin, IsMember}

pub are_documents : (depth : ℕ) (documents : List (List ℕ)) → AreWithin depth documents
    → AllByRecursion IsDocument documents
are_documents depth [] within = tt
are_documents depth (b ∷ bs) ((t, (shallow, doc)), more) = ((t, doc), are_documents depth bs more)

pub are_members : (depth : ℕ) (pairs : List (List ℕ × List ℕ)) → AreWithin depth (values_of pairs)
    → AreTexts (keys_of pairs) → AllByRecursion IsMember pairs
are_members depth [] within texts = tt
are_members depth (p ∷ ps) ((t, (shallow, doc)), more) (text, others) =
    ((text, (t, doc)), are_members depth ps more others)
