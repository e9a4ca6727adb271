use Rattle.jsonb_cli.proofs.Answering.{IsRead}
use Rattle.jsonb_cli.proofs.calls.answer_arr.Given as goal

abbrev pub invariant-loop-word : goal.invariant-loop-word
invariant-loop-word l = IsRead l.fn.words l.word-iterator l.builder
