use Rattle.std.proofs.Common.{rules, ◌≡◌, ◌∙◌, Err, Ok, None, refl, sym, ap}
use Rattle.jsonb.proofs.PrefixLaws.{found_among, found_in_document, found_under}
use Rattle.jsonb.proofs.lookup.find_entry.Goals as goal

-- The header cannot be read, or is not that of an object.
pub returns-in_err-count-clause-bytes : goal.returns-in_err-count-clause-bytes
returns-in_err-count-clause-bytes c =
    let refused : c.from_residual.result ≡ Err c.in_err-count.field-0.0 = search rules in
    found_under _ _ (Err c.in_err-count.field-0.0) _ c.in_err-count.ensures.value refused

pub returns-in_default-clause-bytes : goal.returns-in_default-clause-bytes
returns-in_default-clause-bytes c =
    found_under _ _ (Ok None) _ (ap Ok (sym c.in_default.is) ∙ c.in_ok-count.ensures.value) refl

pub returns-clause-bytes : goal.returns-clause-bytes
returns-clause-bytes c =
    found_among _ _ _ (λ key b says. search rules) _ _ _
    (ap Ok (sym c.in-Some.is) ∙ c.in_ok-count.ensures.value) c.find_value.ensures.found

-- In a document.
pub returns-in_err-count-clause-document : goal.returns-in_err-count-clause-document
returns-in_err-count-clause-document c = λ t doc.
    found_in_document _ _ t _ (returns-in_err-count-clause-bytes c) doc

pub returns-in_default-clause-document : goal.returns-in_default-clause-document
returns-in_default-clause-document c = λ t doc.
    found_in_document _ _ t _ (returns-in_default-clause-bytes c) doc

pub returns-clause-document : goal.returns-clause-document
returns-clause-document c = λ t doc. found_in_document _ _ t _ (returns-clause-bytes c) doc
