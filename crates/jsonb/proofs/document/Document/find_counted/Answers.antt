use Rattle.std.proofs.Common.{None, Some, length, nat_eq, rules, subst, sym, ap, ◌∙◌, arith}
use Rattle.jsonb_codec.specs.Parts.{IsPayloadOf}
use Rattle.std.proofs.lemmas.Grind.{merely}
use Rattle.std.specs.Cmp.Lexicographic.{pointwise}
use Rattle.jsonb.specs.Document.{document_tree}
use Rattle.jsonb.proofs.LookupLaws.{value_by_entry, none_by_entries, none_by_header, always_read}
use Rattle.jsonb.proofs.LookupLaws.{entry_by_entry, entry_in, no_entry_by_entries}
use Rattle.jsonb.proofs.LookupLaws.{no_entry_by_header}
use Rattle.jsonb.proofs.LookupLaws.{count_read, count-Doc, entry_read, entry_unread}
use Rattle.jsonb.proofs.LookupLaws.{words_read-within}
use Rattle.jsonb.proofs.document.Document.find_counted.Goals as goal

-- The header can be read.
pub returns-in_err-ok-clause-entry : goal.returns-in_err-ok-clause-entry
returns-in_err-ok-clause-entry c =
    absurd (count-Doc _ _ _ c.count_pairs.ensures.value c.ok.ensures.value _
    c.as_bytes-bytes.ensures.document c.in_err-ok.was)

pub returns-in_err-ok-clause-cost : goal.returns-in_err-ok-clause-cost
returns-in_err-ok-clause-cost c =
    absurd (count-Doc _ _ _ c.count_pairs.ensures.value c.ok.ensures.value _
    c.as_bytes-bytes.ensures.document c.in_err-ok.was)

-- It is not that of an object.
pub returns-in_err-count-clause-entry : goal.returns-in_err-count-clause-entry
returns-in_err-count-clause-entry c =
    rw c.from_residual-in_err-count.ensures
    (entry_in _ _ _ _ _ None c.as_bytes-bytes.ensures.bytes
    (no_entry_by_header _ _ _ _ c.as_bytes-bytes.ensures.document
    (count_read _ _ _ c.count_pairs.ensures.value c.ok.ensures.value None
    (c.in_ok-ok.was ∙ ap Some c.in_err-count.was))))

pub returns-in_err-count-clause-cost : goal.returns-in_err-count-clause-cost
returns-in_err-count-clause-cost c =
    let counted = count_read _ _ _ c.count_pairs.ensures.value c.ok.ensures.value None
    (c.in_ok-ok.was ∙ ap Some c.in_err-count.was) in
    let (none, words) = none_by_header (pointwise nat_eq c.args.name.now) (length c.args.name.now)
    _ _ c.as_bytes-bytes.ensures.document counted in
    let one = rw (c.count_pairs.ensures.value ∙ sym counted) at c.count_pairs.ensures.cost in
    omega (arith, words, one)

-- The entries can be read.
pub returns-in_err-ok-2-clause-entry : goal.returns-in_err-ok-2-clause-entry
returns-in_err-ok-2-clause-entry c =
    let counted = count_read _ _ _ c.count_pairs.ensures.value c.ok.ensures.value
    (Some c.in_ok-count.count) (c.in_ok-ok.was ∙ ap Some c.in_ok-count.was) in
    absurd (entry_unread _ _ _ _ _ _ _ c.ok-2.ensures.value c.find_value.ensures.found
    (λ e. always_read _ (pointwise nat_eq c.args.name.now) _
    (λ key b same answers. search rules) _ _ _ e c.as_bytes-bytes.ensures.document counted)
    c.in_err-ok-2.was)

pub returns-in_err-ok-2-clause-cost : goal.returns-in_err-ok-2-clause-cost
returns-in_err-ok-2-clause-cost c =
    let counted = count_read _ _ _ c.count_pairs.ensures.value c.ok.ensures.value
    (Some c.in_ok-count.count) (c.in_ok-ok.was ∙ ap Some c.in_ok-count.was) in
    absurd (entry_unread _ _ _ _ _ _ _ c.ok-2.ensures.value c.find_value.ensures.found
    (λ e. always_read _ (pointwise nat_eq c.args.name.now) _
    (λ key b same answers. search rules) _ _ _ e c.as_bytes-bytes.ensures.document counted)
    c.in_err-ok-2.was)

pub returns-in_err-ok-2-clause-bound : goal.returns-in_err-ok-2-clause-bound
returns-in_err-ok-2-clause-bound c =
    let counted = count_read _ _ _ c.count_pairs.ensures.value c.ok.ensures.value
    (Some c.in_ok-count.count) (c.in_ok-ok.was ∙ ap Some c.in_ok-count.was) in
    absurd (entry_unread _ _ _ _ _ _ _ c.ok-2.ensures.value c.find_value.ensures.found
    (λ e. always_read _ (pointwise nat_eq c.args.name.now) _
    (λ key b same answers. search rules) _ _ _ e c.as_bytes-bytes.ensures.document counted)
    c.in_err-ok-2.was)

-- No key is the name.
pub returns-in_err-entry-clause-entry : goal.returns-in_err-entry-clause-entry
returns-in_err-entry-clause-entry c =
    let counted = count_read _ _ _ c.count_pairs.ensures.value c.ok.ensures.value
    (Some c.in_ok-count.count) (c.in_ok-ok.was ∙ ap Some c.in_ok-count.was) in
    rw c.from_residual-in_err-entry.ensures
    (entry_in _ _ _ _ _ None c.as_bytes-bytes.ensures.bytes
    (no_entry_by_entries _ (pointwise nat_eq c.args.name.now) _
    (λ key b same answers. search rules) _ _ _ _ c.as_bytes-bytes.ensures.document counted
    (entry_read _ _ _ _ _ _ _ c.ok-2.ensures.value c.find_value.ensures.found None
    (c.in_ok-ok-2.was ∙ ap Some c.in_err-entry.was))))

pub returns-in_err-entry-clause-cost : goal.returns-in_err-entry-clause-cost
returns-in_err-entry-clause-cost c =
    let counted = count_read _ _ _ c.count_pairs.ensures.value c.ok.ensures.value
    (Some c.in_ok-count.count) (c.in_ok-ok.was ∙ ap Some c.in_ok-count.was) in
    let (none, words) =
    none_by_entries _ (pointwise nat_eq c.args.name.now) _ (λ key b same answers. search rules)
    _ _ _ _ c.as_bytes-bytes.ensures.document counted
    (entry_read _ _ _ _ _ _ _ c.ok-2.ensures.value c.find_value.ensures.found None
    (c.in_ok-ok-2.was ∙ ap Some c.in_err-entry.was)) in
    let one = rw (c.count_pairs.ensures.value ∙ sym counted) at c.count_pairs.ensures.cost in
    omega (arith, words, one, c.find_value.ensures.bound)

pub returns-in_err-entry-clause-bound : goal.returns-in_err-entry-clause-bound
returns-in_err-entry-clause-bound c =
    omega (
      arith,
      returns-in_err-entry-clause-cost c,
      words_read-within (pointwise nat_eq c.args.name.now) (length c.args.name.now)
          (document_tree c.args.self.now),
    )

-- The entry is that of the key's value.
pub invariant_of-result : goal.invariant_of-result
invariant_of-result c =
    let counted = count_read _ _ _ c.count_pairs.ensures.value c.ok.ensures.value
    (Some c.in_ok-count.count) (c.in_ok-ok.was ∙ ap Some c.in_ok-count.was) in
    let found = entry_read _ _ _ _ _ _ _ c.ok-2.ensures.value c.find_value.ensures.found
    (Some c.in_ok-entry.entry) (c.in_ok-ok-2.was ∙ ap Some c.in_ok-entry.was) in
    let (v, (value, (means, words))) =
    value_by_entry _ (pointwise nat_eq c.args.name.now) _ (λ key b same answers. search rules)
    _ _ _ _ _ c.as_bytes-bytes.ensures.document counted found.0 in
    record {
      fact = merely (
        v,
        subst (λ p. IsPayloadOf c.in_ok-entry.entry.type_code p v)
            (sym c.payload.ensures.bytes) means,
      );
    }

pub returns-clause-entry : goal.returns-clause-entry
returns-clause-entry c =
    let counted = count_read _ _ _ c.count_pairs.ensures.value c.ok.ensures.value
    (Some c.in_ok-count.count) (c.in_ok-ok.was ∙ ap Some c.in_ok-count.was) in
    let found = entry_read _ _ _ _ _ _ _ c.ok-2.ensures.value c.find_value.ensures.found
    (Some c.in_ok-entry.entry) (c.in_ok-ok-2.was ∙ ap Some c.in_ok-entry.was) in
    rw c.payload.ensures.bytes
    (entry_in _ _ _ _ _ _ c.as_bytes-bytes.ensures.bytes
    (entry_by_entry _ (pointwise nat_eq c.args.name.now) _ (λ key b same answers. search rules)
    _ _ _ _ _ c.as_bytes-bytes.ensures.document counted found.0))

pub returns-clause-cost : goal.returns-clause-cost
returns-clause-cost c =
    let counted = count_read _ _ _ c.count_pairs.ensures.value c.ok.ensures.value
    (Some c.in_ok-count.count) (c.in_ok-ok.was ∙ ap Some c.in_ok-count.was) in
    let found = entry_read _ _ _ _ _ _ _ c.ok-2.ensures.value c.find_value.ensures.found
    (Some c.in_ok-entry.entry) (c.in_ok-ok-2.was ∙ ap Some c.in_ok-entry.was) in
    let (v, (value, (means, words))) =
    value_by_entry _ (pointwise nat_eq c.args.name.now) _ (λ key b same answers. search rules)
    _ _ _ _ _ c.as_bytes-bytes.ensures.document counted found.0 in
    let one = rw (c.count_pairs.ensures.value ∙ sym counted) at c.count_pairs.ensures.cost in
    omega (arith, words, one, c.find_value.ensures.bound)

pub returns-clause-bound : goal.returns-clause-bound
returns-clause-bound c =
    omega (
      arith,
      returns-clause-cost c,
      words_read-within (pointwise nat_eq c.args.name.now) (length c.args.name.now)
          (document_tree c.args.self.now),
    )
