use Rattle.std.proofs.Common.{ℕ, List, inl, subst}
use Rattle.kohiblad.specs.Locating.{ArePlacesWritten}
use Rattle.kohiblad.proofs.locating.locate_names.Goals as goal

pub returns-clause-written : goal.returns-clause-written
returns-clause-written c order =
    inl
    (subst
    (λ (rows : List (ℕ × ℕ)). ArePlacesWritten c.args.reading c.args.bytes.now c.args.names.now
    rows c.args.places.now c.locate_all.new.places c.locate_all.result)
    c.start_and_ends-start.ensures.rows c.locate_all.ensures)
