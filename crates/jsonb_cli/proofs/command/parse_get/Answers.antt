use Rattle.jsonb_cli.proofs.Forms.{no_get, if_none}
use Rattle.jsonb_cli.proofs.Split.{one_word_alone}
use Rattle.jsonb_cli.proofs.command.parse_get.Goals as goal

pub returns-in_err-key-clause-none : goal.returns-in_err-key-clause-none
returns-in_err-key-clause-none c = if_none _ _
    (no_get _
    (one_word_alone _ _ _ c.in_err-key.was c.split_word.ensures.word c.split_word.ensures.parts))
