use Rattle.std.proofs.Output.{has_written_styled_of_eq}
use Rattle.jsonb_path.proofs.PathTextLaws.{path_parts_text}
use Rattle.jsonb_path.proofs.print.write_path.Goals as goal

pub returns : goal.returns
returns g c flush ok =
    has_written_styled_of_eq _ _ _ _ _
    (path_parts_text _ _ _ _ c.mode.ensures c.mode_text.ensures c.parts-parts.ensures.parts)
    (c.write_at.ensures.part flush ok)
