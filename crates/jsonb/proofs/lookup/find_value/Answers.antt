use Rattle.std.proofs.Common.{rules, ◌≡◌, Err}
use Rattle.jsonb.proofs.PrefixLaws.{word_past, word_placed, word_unread, word_within}
use Rattle.jsonb.proofs.lookup.find_value.Goals as goal

pub returns-in_err-value-clause-found : goal.returns-in_err-value-clause-found
returns-in_err-value-clause-found g c =
    let refused : c.from_residual.result ≡ Err c.in_err-value.field-0.0 = search rules in
    rw refused (word_unread _ _ _ _ _ 0 c.in_err-value.ensures.found)

pub returns-in_err-of_word-clause-found : goal.returns-in_err-of_word-clause-found
returns-in_err-of_word-clause-found g c =
    let refused : c.from_residual-in_err-of_word.result ≡ Err c.in_err-of_word.field-0.0 =
    search rules in
    rw refused (word_past _ _ _ _ c.in-Some.value _ _ (rw c.in-Some.is at c.in_ok-value.ensures.found)
    c.in_err-of_word.ensures.value)

pub returns-in_err-of_word-clause-whole : goal.returns-in_err-of_word-clause-whole
returns-in_err-of_word-clause-whole g c = λ all.
    absurd (word_within _ _ _ _ c.in-Some.value _ _
    (rw c.in-Some.is at c.in_ok-value.ensures.found) all c.in_err-of_word.ensures.value)

pub returns-clause-found : goal.returns-clause-found
returns-clause-found g c =
    word_placed _ _ _ _ c.in-Some.value _ _ (rw c.in-Some.is at c.in_ok-value.ensures.found)
    c.in_ok-of_word.ensures.value
