use Rattle.std.proofs.Common.{rules, ◌≡◌, ◌∙◌, ◌++◌, length, None, Some, Ok, Err, refl, sym, ap}
use Rattle.std.proofs.Common.{◌+◌, ◌*◌}
use Rattle.jsonb_codec.specs.declared.constants.TheConstants.{ARRAY_CONTAINER_TAG}
use Rattle.jsonb.specs.declared.lookup.prefix.Progress.TheVariants as progress
use Rattle.jsonb.specs.Prefix.{item_stops, item_below}
use Rattle.jsonb.proofs.PrefixLaws.{at_hand, header_first, header_read, item_done, item_needed}
use Rattle.jsonb.proofs.PrefixLaws.{item_past, item_read_same, keys_held}
use Rattle.jsonb.proofs.lookup.prefix.find_index_in_prefix.Goals as goal

-- The header is needed.
pub returns-in-Some-clause-bytes : goal.returns-in-Some-clause-bytes
returns-in-Some-clause-bytes c = λ rest whole.
    header_first ARRAY_CONTAINER_TAG (item_stops c.args.index)
    (λ count found. found ≡ item_below (c.args.prefix.now ++ rest) c.args.index count)
    c.args.prefix.now rest c.args.len whole c.in-Some.end c.in-Some.ensures

-- It cannot be read, or is not that of an array.
pub returns-in_err-count-clause-bytes : goal.returns-in_err-count-clause-bytes
returns-in_err-count-clause-bytes c = λ rest whole.
    let e = c.in_err-count.field-0.0 in
    let refused : c.from_residual.result ≡ Err e = search rules in
    header_read ARRAY_CONTAINER_TAG (item_stops c.args.index)
    (λ count found. found ≡ item_below (c.args.prefix.now ++ rest) c.args.index count)
    c.args.prefix.now rest c.args.len whole c.in_default.ensures (Err e) _
    c.in_err-count.ensures.value (Err e, (refl, refused))

pub returns-in_default-2-clause-bytes : goal.returns-in_default-2-clause-bytes
returns-in_default-2-clause-bytes c = λ rest whole.
    header_read ARRAY_CONTAINER_TAG (item_stops c.args.index)
    (λ count found. found ≡ item_below (c.args.prefix.now ++ rest) c.args.index count)
    c.args.prefix.now rest c.args.len whole c.in_default.ensures (Ok None) (Ok progress.Absent)
    (ap Ok (sym c.in_default-2.is) ∙ c.in_ok-count.ensures.value) (Ok None, (refl, refl))

-- It has no such item.
pub returns-then-count-index-clause-bytes : goal.returns-then-count-index-clause-bytes
returns-then-count-index-clause-bytes c = λ rest whole.
    let b = c.args.prefix.now ++ rest in
    header_read ARRAY_CONTAINER_TAG (item_stops c.args.index)
    (λ count found. found ≡ item_below b c.args.index count) c.args.prefix.now rest c.args.len whole
    c.in_default.ensures (Ok (Some c.in-Some-2.count)) (Ok progress.Absent)
    (ap Ok (sym c.in-Some-2.is) ∙ c.in_ok-count.ensures.value)
    (item_past b c.args.index c.in-Some-2.count (length c.args.prefix.now) c.args.len
    c.if-count-index.true)

-- Its entry word is needed.
pub returns-in-Some-missing-clause-bytes : goal.returns-in-Some-missing-clause-bytes
returns-in-Some-missing-clause-bytes c = λ rest whole.
    let b = c.args.prefix.now ++ rest in
    header_read ARRAY_CONTAINER_TAG (item_stops c.args.index)
    (λ count found. found ≡ item_below b c.args.index count) c.args.prefix.now rest c.args.len whole
    c.in_default.ensures (Ok (Some c.in-Some-2.count)) (Ok (progress.Needs c.in-Some-missing.end))
    (ap Ok (sym c.in-Some-2.is) ∙ c.in_ok-count.ensures.value)
    (item_needed b c.args.index c.in-Some-2.count (length c.args.prefix.now) c.args.len
    c.if-count-index.false c.in-Some-missing.end c.in-Some-missing.ensures)

-- All that is read is at hand.
pub returns-in_err-start-clause-bytes : goal.returns-in_err-start-clause-bytes
returns-in_err-start-clause-bytes c = λ rest whole.
    let b = c.args.prefix.now ++ rest in
    let hand = length c.args.prefix.now in
    let e = c.in_err-start.field-0.0 in
    let refused : c.from_residual-in_err-start.result ≡ Err e = search rules in
    let held = keys_held hand c.args.len (8 + 4 * c.args.index) c.requires
    (at_hand c.args.len hand (8 + 4 * c.args.index) c.in_default-missing.ensures) in
    header_read ARRAY_CONTAINER_TAG (item_stops c.args.index)
    (λ count found. found ≡ item_below b c.args.index count) c.args.prefix.now rest c.args.len whole
    c.in_default.ensures (Ok (Some c.in-Some-2.count)) _
    (ap Ok (sym c.in-Some-2.is) ∙ c.in_ok-count.ensures.value)
    (item_done b c.args.index c.in-Some-2.count hand c.args.len c.if-count-index.false
    c.in_default-missing.ensures (Err e)
    (item_read_same c.args.prefix.now rest c.args.len c.args.index c.in-Some-2.count whole held
    ∙ rw (← c.in_err-start.ensures.value) refl) _ refused)

pub returns-in_err-within-clause-bytes : goal.returns-in_err-within-clause-bytes
returns-in_err-within-clause-bytes c = λ rest whole.
    let b = c.args.prefix.now ++ rest in
    let hand = length c.args.prefix.now in
    let e = c.in_err-within.field-0.0 in
    let refused : c.from_residual-in_err-within.result ≡ Err e = search rules in
    let held = keys_held hand c.args.len (8 + 4 * c.args.index) c.requires
    (at_hand c.args.len hand (8 + 4 * c.args.index) c.in_default-missing.ensures) in
    header_read ARRAY_CONTAINER_TAG (item_stops c.args.index)
    (λ count found. found ≡ item_below b c.args.index count) c.args.prefix.now rest c.args.len whole
    c.in_default.ensures (Ok (Some c.in-Some-2.count)) _
    (ap Ok (sym c.in-Some-2.is) ∙ c.in_ok-count.ensures.value)
    (item_done b c.args.index c.in-Some-2.count hand c.args.len c.if-count-index.false
    c.in_default-missing.ensures (Err e)
    (item_read_same c.args.prefix.now rest c.args.len c.args.index c.in-Some-2.count whole held
    ∙ rw (← c.in_ok-start.ensures.value, ← c.in_ok-jentry.ensures)
    (sym c.in_err-within.ensures.value)) _ refused)

pub returns-clause-bytes : goal.returns-clause-bytes
returns-clause-bytes c = λ rest whole.
    let b = c.args.prefix.now ++ rest in
    let hand = length c.args.prefix.now in
    let held = keys_held hand c.args.len (8 + 4 * c.args.index) c.requires
    (at_hand c.args.len hand (8 + 4 * c.args.index) c.in_default-missing.ensures) in
    header_read ARRAY_CONTAINER_TAG (item_stops c.args.index)
    (λ count found. found ≡ item_below b c.args.index count) c.args.prefix.now rest c.args.len whole
    c.in_default.ensures (Ok (Some c.in-Some-2.count)) _
    (ap Ok (sym c.in-Some-2.is) ∙ c.in_ok-count.ensures.value)
    (item_done b c.args.index c.in-Some-2.count hand c.args.len c.if-count-index.false
    c.in_default-missing.ensures (Ok c.in_ok-within.field-0)
    (item_read_same c.args.prefix.now rest c.args.len c.args.index c.in-Some-2.count whole held
    ∙ rw (← c.in_ok-start.ensures.value, ← c.in_ok-jentry.ensures)
    (sym c.in_ok-within.ensures.value)) _ refl)
