use Rattle.std.proofs.Common.{refl}
use Rattle.jsonb_typed_file.specs.Views.{buffers_view}
use Rattle.jsonb_typed_file.proofs.PlaceLaws.{column_lies}
use Rattle.jsonb_typed_file.proofs.places.places_in.Goals as goal

pub returns-clause-places : goal.returns-clause-places
returns-clause-places c front later bytes at is =
    column_lies (buffers_view c.args.column) front later bytes c.args.start c.end_of.result
    c.end_of-2.result c.end_of-3.result c.args.rows _ refl refl at is c.section_at-name.ensures
    c.end_of.ensures c.section_at-flags.ensures c.end_of-2.ensures c.section_at-numbers.ensures
    c.end_of-3.ensures c.section_at-texts.ensures
