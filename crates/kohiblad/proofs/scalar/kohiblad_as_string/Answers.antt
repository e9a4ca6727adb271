use Rattle.std.proofs.Common.{ap, length, List, ℕ}
use Rattle.kohiblad.specs.Scalars.{text_place}
use Rattle.kohiblad.proofs.ScalarValues.{one_text}
use Rattle.kohiblad.proofs.scalar.kohiblad_as_string.Goals as goal

pub returns-in-Some-clause-text : goal.returns-in-Some-clause-text
returns-in-Some-clause-text c = λ s doc.
    ap (λ (r : List ℕ). text_place (length r))
    (one_text c.args.bytes.now c.in-Some.text.now s c.in-Some.ensures.some doc)

pub returns-in-None-clause-text : goal.returns-in-None-clause-text
returns-in-None-clause-text c = λ s doc. absurd (c.in-None.ensures.none s doc)
