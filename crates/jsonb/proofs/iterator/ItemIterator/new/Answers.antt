use Rattle.jsonb.specs.Raw.{raw_bytes}
use Rattle.jsonb.proofs.WalkLaws.{children_walk-bounded}
use Rattle.jsonb.proofs.DocumentWalks.{children_walk-Doc, children_entries-Doc}
use Rattle.jsonb.proofs.iterator.ItemIterator.new.Goals as goal

pub returns-clause-bounded : goal.returns-clause-bounded
returns-clause-bounded g c =
    rw c.over.ensures (children_walk-bounded _ (raw_bytes c.args.raw))

pub returns-clause-document : goal.returns-clause-document
returns-clause-document g c =
    λ t h. rw c.over.ensures (children_walk-Doc (raw_bytes c.args.raw) t h _)

pub returns-clause-entries : goal.returns-clause-entries
returns-clause-entries g c =
    λ t h. rw c.over.ensures (children_entries-Doc (raw_bytes c.args.raw) t h _)
