use Rattle.jsonb.proofs.ItemDocuments.{made_also}
use Rattle.jsonb_typed.proofs.KeepingLaws.{made_invalid, short_kept, zero_unkept}
use Rattle.jsonb_typed.proofs.keeping.document_of.Goals as goal

pub returns-then-is_signed_zero-clause-limits : goal.returns-then-is_signed_zero-clause-limits
returns-then-is_signed_zero-clause-limits c =
    made_invalid (zero_unkept c.args.member (c.is_signed_zero.ensures.0 c.if-is_signed_zero.true))

-- The member's own document means it, as it is no signed zero that was made from a number.
pub returns-clause-limits : goal.returns-clause-limits
returns-clause-limits c =
    made_also c.to_owned.result
    (short_kept c.args.member (λ short. c.to_owned.ensures.means short
    (λ signed. absurd cc (c.is_signed_zero.ensures.1 signed, c.if-is_signed_zero.false))))
    c.to_owned.ensures.limits
