use Rattle.std.proofs.Common.{rules, ◌≡◌, ◌∙◌, ◌++◌, length, None, Some, Ok, Err, refl, sym, ap}
use Rattle.jsonb.specs.declared.lookup.prefix.Progress.TheVariants as progress
use Rattle.jsonb.proofs.PrefixLaws.{document_progress, goes_on, header_needed, pairs_done}
use Rattle.jsonb.proofs.PrefixLaws.{pairs_needed}
use Rattle.jsonb.proofs.lookup.prefix.find_key_in_prefix.Goals as goal

-- The header is needed.
pub returns-in-Some-clause-bytes : goal.returns-in-Some-clause-bytes
returns-in-Some-clause-bytes c = λ rest whole.
    header_needed c.args.name.now c.args.prefix.now rest c.args.len whole c.in-Some.end
    c.in-Some.ensures

-- It cannot be read, or is not that of an object.
pub returns-in_err-count-clause-bytes : goal.returns-in_err-count-clause-bytes
returns-in_err-count-clause-bytes c = λ rest whole.
    let e = c.in_err-count.field-0.0 in
    let refused : c.from_residual.result ≡ Err e = search rules in
    goes_on c.args.prefix.now rest c.args.len whole c.in_default.ensures c.args.name.now (Err e) _
    c.in_err-count.ensures.value (Err e, (refl, refused))

pub returns-in_default-2-clause-bytes : goal.returns-in_default-2-clause-bytes
returns-in_default-2-clause-bytes c = λ rest whole.
    goes_on c.args.prefix.now rest c.args.len whole c.in_default.ensures c.args.name.now (Ok None)
    (Ok progress.Absent) (ap Ok (sym c.in_default-2.is) ∙ c.in_ok-count.ensures.value)
    (Ok None, (refl, refl))

-- The entry words or the keys are needed.
pub returns-in-Some-missing_of_pairs-clause-bytes :
    goal.returns-in-Some-missing_of_pairs-clause-bytes
returns-in-Some-missing_of_pairs-clause-bytes c = λ rest whole.
    pairs_needed c.args.prefix.now rest c.args.len whole c.in_default.ensures c.args.name.now
    c.in-Some-2.count c.in-Some-missing_of_pairs.end
    (ap Ok (sym c.in-Some-2.is) ∙ c.in_ok-count.ensures.value)
    (c.in-Some-missing_of_pairs.ensures.end rest whole)

-- All that is read is at hand.
pub returns-in_err-entry-clause-bytes : goal.returns-in_err-entry-clause-bytes
returns-in_err-entry-clause-bytes c = λ rest whole.
    let e = c.in_err-entry.field-0.0 in
    let refused : c.from_residual-in_err-entry.result ≡ Err e = search rules in
    pairs_done c.args.prefix.now rest c.args.len whole c.in_default.ensures c.args.name.now
    c.in-Some-2.count (Err e) _ (ap Ok (sym c.in-Some-2.is) ∙ c.in_ok-count.ensures.value)
    (c.in_default-missing_of_pairs.ensures.end rest whole) (c.in_err-entry.ensures rest whole)
    refused

pub returns-in-Some-3-clause-bytes : goal.returns-in-Some-3-clause-bytes
returns-in-Some-3-clause-bytes c = λ rest whole.
    pairs_done c.args.prefix.now rest c.args.len whole c.in_default.ensures c.args.name.now
    c.in-Some-2.count (Ok (Some c.in-Some-3.entry)) _
    (ap Ok (sym c.in-Some-2.is) ∙ c.in_ok-count.ensures.value)
    (c.in_default-missing_of_pairs.ensures.end rest whole)
    (rw c.in-Some-3.is at c.in_ok-entry.ensures rest whole) refl

pub returns-in-None-clause-bytes : goal.returns-in-None-clause-bytes
returns-in-None-clause-bytes c = λ rest whole.
    pairs_done c.args.prefix.now rest c.args.len whole c.in_default.ensures c.args.name.now
    c.in-Some-2.count (Ok None) _ (ap Ok (sym c.in-Some-2.is) ∙ c.in_ok-count.ensures.value)
    (c.in_default-missing_of_pairs.ensures.end rest whole)
    (rw c.in-None.is at c.in_ok-entry.ensures rest whole) refl

-- In a document.
pub returns-in-Some-clause-document : goal.returns-in-Some-clause-document
returns-in-Some-clause-document c = λ rest t whole doc.
    document_progress c.args.name.now (c.args.prefix.now ++ rest) (length c.args.prefix.now) _ t
    (returns-in-Some-clause-bytes c rest whole) doc

pub returns-in_err-count-clause-document : goal.returns-in_err-count-clause-document
returns-in_err-count-clause-document c = λ rest t whole doc.
    document_progress c.args.name.now (c.args.prefix.now ++ rest) (length c.args.prefix.now) _ t
    (returns-in_err-count-clause-bytes c rest whole) doc

pub returns-in_default-2-clause-document : goal.returns-in_default-2-clause-document
returns-in_default-2-clause-document c = λ rest t whole doc.
    document_progress c.args.name.now (c.args.prefix.now ++ rest) (length c.args.prefix.now) _ t
    (returns-in_default-2-clause-bytes c rest whole) doc

pub returns-in-Some-missing_of_pairs-clause-document :
    goal.returns-in-Some-missing_of_pairs-clause-document
returns-in-Some-missing_of_pairs-clause-document c = λ rest t whole doc.
    document_progress c.args.name.now (c.args.prefix.now ++ rest) (length c.args.prefix.now) _ t
    (returns-in-Some-missing_of_pairs-clause-bytes c rest whole) doc

pub returns-in_err-entry-clause-document : goal.returns-in_err-entry-clause-document
returns-in_err-entry-clause-document c = λ rest t whole doc.
    document_progress c.args.name.now (c.args.prefix.now ++ rest) (length c.args.prefix.now) _ t
    (returns-in_err-entry-clause-bytes c rest whole) doc

pub returns-in-Some-3-clause-document : goal.returns-in-Some-3-clause-document
returns-in-Some-3-clause-document c = λ rest t whole doc.
    document_progress c.args.name.now (c.args.prefix.now ++ rest) (length c.args.prefix.now) _ t
    (returns-in-Some-3-clause-bytes c rest whole) doc

pub returns-in-None-clause-document : goal.returns-in-None-clause-document
returns-in-None-clause-document c = λ rest t whole doc.
    document_progress c.args.name.now (c.args.prefix.now ++ rest) (length c.args.prefix.now) _ t
    (returns-in-None-clause-bytes c rest whole) doc
