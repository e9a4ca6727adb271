use Rattle.std.proofs.Common.{rules, ◌≡◌, ◌∷◌, ◌++◌}
use Rattle.jsonb_cli.proofs.Forms.{no_cmp, if_none}
use Rattle.jsonb_cli.proofs.Split.{one_word_alone, three_words}
use Rattle.jsonb_cli.proofs.command.parse_cmp.Goals as goal

pub returns-in_err-right-clause-none : goal.returns-in_err-right-clause-none
returns-in_err-right-clause-none c = if_none _ _
    (no_cmp _
    (λ left right one_left one_right. one_word_alone _ _ _ c.in_err-right.was
    c.split_word.ensures.word c.split_word.ensures.parts left right))

pub returns-in-Some-clause-none : goal.returns-in-Some-clause-none
returns-in-Some-clause-none c =
    let parts : c.args.words.now ≡ c.split_word.result.0.now ++ 32 ∷ c.in_ok-right.field-0.now =
    search rules in
    no_cmp _ (three_words _ _ _ _ _ _ c.in-Some.is c.split_word.ensures.word parts
    c.split_word-2.ensures.parts)
