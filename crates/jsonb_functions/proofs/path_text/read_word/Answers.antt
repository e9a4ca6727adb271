use Rattle.jsonb_functions.proofs.FilterTextLaws.{no_word, word_read}
use Rattle.jsonb_functions.proofs.PathStepLaws.{all_bytes, no_bytes}
use Rattle.jsonb_functions.proofs.path_text.read_word.Goals as goal

pub returns-then-is_empty : goal.returns-then-is_empty
returns-then-is_empty c =
    no_word c.args.text.now c.split_word.result.0.now c.split_word.result.1.now c.requires
    c.split_word.ensures.whole c.split_word.ensures.word c.split_word.ensures.rest
    (λ t some is. some (all_bytes c.split_word.result.0.now c.if-is_empty.ensures))

pub returns-in-Some : goal.returns-in-Some
returns-in-Some c =
    word_read c.args.text.now c.split_word.result.0.now c.split_word.result.1
    c.in-Some.value c.requires c.split_word.ensures.whole c.split_word.ensures.word
    (no_bytes c.split_word.result.0.now c.if-is_empty.ensures)
    c.split_word.ensures.rest (rw c.in-Some.is at c.in_ok-value.ensures)

pub returns-in-None : goal.returns-in-None
returns-in-None c =
    no_word c.args.text.now c.split_word.result.0.now c.split_word.result.1.now c.requires
    c.split_word.ensures.whole c.split_word.ensures.word c.split_word.ensures.rest
    (λ t some. (rw c.in-None.is at c.in_ok-value.ensures) t)
