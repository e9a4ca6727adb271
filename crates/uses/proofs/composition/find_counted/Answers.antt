use Rattle.std.proofs.Common.{rules, nat_eq, length, arith}
use Rattle.std.specs.Cmp.Lexicographic.{pointwise}
use Rattle.jsonb.proofs.LookupLaws.{item_found, found_stored, words_found}
use Rattle.uses.proofs.composition.find_counted.Goals as goal

pub returns-clause-value : goal.returns-clause-value
returns-clause-value c = λ t h.
    item_found _ (pointwise nat_eq c.args.name.now) (length c.args.name.now)
    (λ key b same answers. search rules) _ t _ _ (c.in_ok-found.ensures.document t h)

pub returns-clause-entry : goal.returns-clause-entry
returns-clause-entry c = λ t h.
    found_stored _ (pointwise nat_eq c.args.name.now) (length c.args.name.now)
    (λ key b same answers. search rules) _ t _ _ h (c.in_ok-found.ensures.document t h)

pub returns-clause-words : goal.returns-clause-words
returns-clause-words c = λ t h.
    let words = words_found _ (pointwise nat_eq c.args.name.now) (length c.args.name.now)
    (λ key b same answers. search rules) _ t _ _ (c.in_ok-found.ensures.document t h) in
    omega (arith, words, c.count.ensures, c.new-reads.ensures)
