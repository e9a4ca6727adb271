use Rattle.std.proofs.Common.{subst, Err, List, ℕ}
use Rattle.kohiblad.specs.Output.{ReadsAs, rule_of}
use Rattle.kohiblad.specs.Status.{IsHandedOver, IsRefused}
use Rattle.kohiblad.proofs.ReadLaws.{read_made, read_refused}
use Rattle.kohiblad.proofs.texts.kohiblad_parse.Goals as goal

pub returns-in-Ok : goal.returns-in-Ok
returns-in-Ok c =
    read_made (rule_of c.args.exponents) c.args.depth c.args.text.now _ c.args.out.now
    c.hand_over.new.out c.hand_over.new.size c.hand_over.result c.in-Ok.ensures
    (subst
    (λ (b : List ℕ). IsHandedOver b c.args.out.now c.hand_over.new.out c.hand_over.new.size
    c.hand_over.result) c.as_bytes.ensures c.hand_over.ensures)

pub returns-in-Err-Refused : goal.returns-in-Err-Refused
returns-in-Err-Refused c =
    let refuse = c.refuse-in-Err-Refused in
    read_refused (rule_of c.args.exponents) c.args.depth c.args.text.now c.args.out.now
    refuse.new.out c.in-Err-Refused.error refuse.new.size refuse.result
    (subst
    (λ f. ReadsAs (rule_of c.args.exponents) c.args.depth c.args.text.now (Err f))
    c.in-Err-Refused.field-0-is c.in-Err-Refused.ensures)
    (subst
    (λ (k : ℕ). IsRefused k c.args.out.now refuse.new.out refuse.new.size refuse.result)
    c.code.ensures refuse.ensures)
