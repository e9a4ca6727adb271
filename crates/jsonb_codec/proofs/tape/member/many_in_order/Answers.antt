use Rattle.std.proofs.Common.{rules, sym, subst, ◌≡◌, [], map}
use Rattle.jsonb_value.specs.Json.Syntax.{insert_all}
use Rattle.jsonb_codec.specs.Keys.{Picks}
use Rattle.jsonb_codec.proofs.OnTape.Ordering.{number_of, picks_numbers}
use Rattle.jsonb_codec.proofs.tape.member.many_in_order.Goals as goal

pub returns-clause-ok : goal.returns-clause-ok
returns-clause-ok c = λ base ps read h.
    let same : c.loop-number.order.items ≡ map number_of c.into_iter-number-iterator.result =
    search rules in
    subst (λ xs. Picks read xs (insert_all [] read)) (sym same)
    (picks_numbers read _ (insert_all [] read) (search rules))
