use Rattle.std.proofs.Common.{◌≡◌, ◌≢◌, codes}
use Rattle.jsonb_cli.specs.Commands.{arr}
use Rattle.jsonb_cli.proofs.Forms.{no_form, no_form_alone, arr_form, differs, equals, if_none}
use Rattle.jsonb_cli.proofs.Forms.{name_of}
use Rattle.jsonb_cli.proofs.command.Command.parse.Goals as goal

pub returns-then-eq-clause-some : goal.returns-then-eq-clause-some
returns-then-eq-clause-some c =
    let name : c.split_word.result.0.now ≡ codes "arr" =
    equals _ _ _ _ c.as_slice.ensures c.eq.ensures c.if-eq.true in
    rw c.new.ensures (arr_form _ _ _ name c.split_word.ensures.parts)

pub returns-in_err-rest-clause-none : goal.returns-in_err-rest-clause-none
returns-in_err-rest-clause-none c = if_none _ _
    (no_form_alone _ _ _ c.in_err-rest.was c.split_word.ensures.word c.split_word.ensures.parts
    (differs _ _ _ _ c.as_slice.ensures c.eq.ensures c.if-eq.false))

pub returns-else-eq-8-clause-none : goal.returns-else-eq-8-clause-none
returns-else-eq-8-clause-none c = no_form _ _ _ c.split_word.ensures.word c.split_word.ensures.parts
    (λ form. elim form as (λ f. c.split_word.result.0.now ≢ name_of f) [
      | arr words ↦ search differs
      | _ ↦ search differs
    ])
