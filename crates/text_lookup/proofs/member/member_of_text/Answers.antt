use Rattle.std.proofs.Common.{arith, rules}
use Rattle.jsonb_value.proofs.Json.Documents.{refused_within}
use Rattle.text_lookup.proofs.SinkLaws.{found_in}
use Rattle.text_lookup.proofs.member.member_of_text.Goals as goal

pub returns-in_err-read_text_within-clause-invalid :
    goal.returns-in_err-read_text_within-clause-invalid
returns-in_err-read_text_within-clause-invalid c =
    refused_within c.args.exponents _ _ _ _ c.from_residual.ensures.1
    c.in_err-read_text_within.ensures.err

pub returns-then-eq-clause-ok : goal.returns-then-eq-clause-ok
returns-then-eq-clause-ok c =
    found_in c.args.exponents c.args.depth c.args.text.now c.args.key.now
    c.read_text_within.new.sink c.utf8.text c.in_ok-read_text_within.ensures.within
    (first_of (omega arith, search rules)) (first_of (search rules, cc))
    c.in_ok-read_text_within.ensures.ok
