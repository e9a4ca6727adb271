use Rattle.std.proofs.Common.{rules, sym, ◌∙◌}
use Rattle.jsonb_cli.proofs.Split.{words_from-first}
use Rattle.jsonb_cli.proofs.words.WordsIterator.next.Goals as goal

pub returns-clause-steps : goal.returns-clause-steps
returns-clause-steps c =
    sym c.self.view_is
    ∙ words_from-first _ _ _ _ c.in_ok-self.was c.split_word.ensures.word c.split_word.ensures.parts

pub returns-clause-goes : goal.returns-clause-goes
returns-clause-goes c = rw (returns-clause-steps c) (search rules)
