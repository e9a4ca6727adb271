use Rattle.std.proofs.Common.{◌≡◌, IfOk, map, subst}
use Rattle.std.proofs.lemmas.Iterator.{items_from_collect}
use Rattle.std.proofs.lemmas.Iterator.Consumers.{YieldsList-from_rest}
use Rattle.std.specs.Map.{values_of}
use Rattle.kept_rows.specs.FirstRows.{row_line}
use Rattle.kept_rows.specs.TopRows.{Top}
use Rattle.kept_rows.proofs.TopLaws.{lines_of}
use Rattle.kept_rows.proofs.top.TopRows.into_lines.Goals as goal

pub returns : goal.returns
returns c =
    subst
    (λ (top : Top). IfOk c.collect.result
    (λ lines. map (λ line. line.items) lines.items ≡ map row_line top.rows)) c.self.view_is
    (lines_of c.self.inside.kept.entries c.collect.result
    (items_from_collect c.collect.result c.collect.ensures.ran
    (YieldsList-from_rest (values_of c.self.inside.kept.entries) c.into_values.ensures.rest)))
