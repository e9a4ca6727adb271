use Rattle.std.proofs.Common.{ap, ◌∙◌}
use Rattle.jsonb.specs.Texts.{plain_text, display_text}
use Rattle.uses.proofs.composition.display.Goals as goal

pub returns-clause-text : goal.returns-clause-text
returns-clause-text c = λ t means.
    c.in_ok-format.ensures.ok ∙ ap display_text c.in_ok-owned.ensures.ok
    ∙ ap plain_text (c.meaning_laws.ensures.document _ t means)
