use Rattle.typed_chunk.proofs.flags.unset_all.Goals as goal

pub returns : goal.returns
returns c = c.fill.ensures.after (λ y is. is)
