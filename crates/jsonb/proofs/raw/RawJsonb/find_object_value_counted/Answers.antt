use Rattle.std.proofs.Common.{rules, ◌≡◌, ◌-◌, Some, Ok, Err, refl, subst, sym, ap, ◌∙◌, arith}
use Rattle.jsonb.specs.Parts.{IsPlaceOf}
use Rattle.jsonb.specs.Steps.{◌>>=◌}
use Rattle.jsonb.specs.Lookup.{found_view, no_header, unread, all_passed}
use Rattle.jsonb.specs.Lookup.{one_accepted}
use Rattle.jsonb.proofs.LookupLaws.{item_of-refused}
use Rattle.jsonb.proofs.raw.RawJsonb.find_object_value_counted.Goals as goal

-- on any bytes
pub returns-in_err-count-clause-bytes : goal.returns-in_err-count-clause-bytes
returns-in_err-count-clause-bytes g c =
    let refused : c.from_residual.result ≡ Err c.in_err-count.field-0.0 = search rules in
    rw (← c.as_bytes-bytes.ensures)
    (no_header _ (sym c.in_err-count.ensures.value) (cc refused))

pub returns-in_err-entry-clause-bytes : goal.returns-in_err-entry-clause-bytes
returns-in_err-entry-clause-bytes g c =
    let count = sym c.in_ok-count.ensures.value ∙ ap Ok c.in-Some.is in
    let refused : c.from_residual-in_err-entry.result ≡ Err c.in_err-entry.field-0.0 =
    search rules in
    rw (← c.as_bytes-bytes.ensures)
    (unread _ _ count (rw c.in_err-entry.was at c.find_value.ensures.found)
    (ap found_view refused))

pub returns-in_default-2-clause-bytes : goal.returns-in_default-2-clause-bytes
returns-in_default-2-clause-bytes g c =
    let count = sym c.in_ok-count.ensures.value ∙ ap Ok c.in-Some.is in
    let none = rw c.in_default-2.is at c.in_ok-entry.ensures.found in
    rw (← c.as_bytes-bytes.ensures) (all_passed _ count none.none refl
    (omega (arith, c.in_ok-count.ensures.cost, c.find_value.ensures.bound, none.cost)))

pub returns-in_err-item-clause-bytes : goal.returns-in_err-item-clause-bytes
returns-in_err-item-clause-bytes g c =
    let count = sym c.in_ok-count.ensures.value ∙ ap Ok c.in-Some.is in
    let found = (rw c.in-Some-2.is at c.in_ok-entry.ensures.found).0 in
    let refused : c.from_residual-in_err-item.result
    ≡ Err c.in_err-item.field-0.0 = search rules in
    rw (← c.as_bytes-bytes.ensures) (one_accepted _ found.pair _ count found.key found.there
    (ap found_view refused ∙ ap (λ r. r >>= (λ x. Ok (Some x))) c.in_err-item.ensures)
    (omega (arith, c.in_ok-count.ensures.cost, c.find_value.ensures.bound, found.cost)))

pub returns-clause-bytes : goal.returns-clause-bytes
returns-clause-bytes g c =
    let count = sym c.in_ok-count.ensures.value ∙ ap Ok c.in-Some.is in
    let found = (rw c.in-Some-2.is at c.in_ok-entry.ensures.found).0 in
    rw (← c.as_bytes-bytes.ensures) (one_accepted _ found.pair _ count found.key found.there
    (ap (λ r. r >>= (λ x. Ok (Some x))) c.in_ok-item.ensures)
    (omega (arith, c.in_ok-count.ensures.cost, c.find_value.ensures.bound, found.cost)))

pub returns-in_err-item-clause-refused : goal.returns-in_err-item-clause-refused
returns-in_err-item-clause-refused g c =
    let refused = item_of-refused _ _ _ c.in_err-item.ensures in search rules

-- the place
pub returns-clause-place : goal.returns-clause-place
returns-clause-place g c =
    let counted = rw c.in-Some.is at c.in_ok-count.ensures.counted in
    let cost = c.in_ok-count.ensures.cost in
    let part : c.find_value.new.reads - c.count_pairs.new.reads - 1
    ≡ c.find_value.new.reads - c.args.reads.now - 2 = omega (arith, cost) in
    let bytes = c.as_bytes-bytes.result.now in
    let entry = c.in-Some-2.entry in
    let placed = (rw c.in-Some-2.is at c.in_ok-entry.ensures.found).1 in
    rw (← c.as_bytes-bytes.ensures)
    (subst (λ k. IsPlaceOf bytes k (c.find_value.new.reads - c.args.reads.now - 2) entry) counted
    (subst (λ k. IsPlaceOf bytes c.in-Some.count k entry) part placed))
