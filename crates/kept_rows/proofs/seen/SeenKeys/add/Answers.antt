use Rattle.std.proofs.Common.{◌∙◌, ap, map, not, refl}
use Rattle.kept_rows.specs.FirstRows.{has_key, with_key}
use Rattle.kept_rows.proofs.FirstLaws.{stored_has, stored_with}
use Rattle.kept_rows.proofs.seen.SeenKeys.add.Goals as goal

pub returns-clause-first : goal.returns-clause-first
returns-clause-first c =
    c.in_ok-insert.ensures.added
    ∙ ap not (stored_has c.self.inside.stored.keys c.args.key.items)
    ∙ ap (λ keys. not (has_key keys c.args.key.items)) c.self.view_is

pub returns-clause-ok : goal.returns-clause-ok
returns-clause-ok c =
    ap (λ keys. map (λ key. key.items) keys) c.in_ok-insert.ensures.keys
    ∙ stored_with c.self.inside.stored.keys c.args.key _ refl
    ∙ ap (λ keys. with_key keys c.args.key.items) c.self.view_is
