use Rattle.kohiblad.proofs.listed.ListedSource.split_item.Goals as goal

pub returns-in-Values-clause-split : goal.returns-in-Values-clause-split
returns-in-Values-clause-split c ss h = c.split_values.ensures.split ss (rw c.in-Values.is at h)

pub returns-in-Children-clause-split : goal.returns-in-Children-clause-split
returns-in-Children-clause-split c ss h =
    c.split_children.ensures.split ss (rw c.in-Children.is at h)
