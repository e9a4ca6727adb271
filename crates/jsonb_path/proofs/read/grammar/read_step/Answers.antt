use Rattle.std.proofs.Common.{◌∙◌, Some, ap, sym}
use Rattle.jsonb_path.specs.Dotted.{lexemes}
use Rattle.jsonb_path.proofs.GrammarLaws.{accessor_of_anywhere}
use Rattle.jsonb_path.proofs.read.grammar.read_step.Goals as goal

pub returns-clause-meaning : goal.returns-clause-meaning
returns-clause-meaning c =
    c.in_ok-accessor.ensures.meaning
    ∙ ap (λ k. Some (k, lexemes c.in_ok-accessor.rest.now))
    (sym (accessor_of_anywhere c.args.parts.now.items c.in_ok-accessor.accessor c.requires
    c.in_ok-accessor.ensures.accessor))
