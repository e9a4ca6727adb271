use Rattle.kohiblad.proofs.located.take_at.Goals as goal

pub returns : goal.returns
returns g c = rw c.blank.ensures at c.take_places.ensures

pub take_places-requires : goal.take_places-requires
take_places-requires g c = g.T.ColumnType.scalars c.args.column_type.now
