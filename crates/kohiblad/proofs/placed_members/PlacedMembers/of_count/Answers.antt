use Rattle.std.proofs.Common.{◌∙◌, ◌+◌, ◌*◌, ap, sym}
use Rattle.jsonb.specs.Entries.{Run, others_left, run_from}
use Rattle.jsonb_functions.specs.PathPlaces.{first_entry, read_entries}
use Rattle.kohiblad.specs.declared.placed_members.PlacedMembers.{PlacedMembers}
use Rattle.kohiblad.proofs.PlacedMemberLaws.{document_runs, never_refused, next_of_read, one_run}
use Rattle.kohiblad.proofs.PlacedMemberLaws.{start_found, start_law}
use Rattle.kohiblad.proofs.placed_members.PlacedMembers.of_count.Goals as goal

pub returns-in_default-clause-found : goal.returns-in_default-clause-found
returns-in_default-clause-found c t document header name =
    let runs = document_runs c.args.bytes.now t c.args.count document header in
    absurd (never_refused c.over_values.result
    (run_from c.args.bytes.now c.args.count (4 + 4 * c.args.count) runs.end) _
    (c.over_values.ensures ∙ runs.values_are) c.in_default.is)

pub returns-clause-found : goal.returns-clause-found
returns-clause-found c t document header name =
    let b = c.args.bytes.now in
    let n = c.args.count in
    let runs = document_runs b t n document header in
    let next = c.next_entry-first in
    let left : PlacedMembers = record {
      bytes = c.args.bytes;
      first = next.result;
      keys = next.new.entries;
      values = c.in-Ok.values;
    } in
    let start = start_law b n runs left
    (next_of_read next.result (read_entries c.over_keys-keys.result.entries)
    (read_entries next.new.entries.entries) next.ensures.steps
    ∙ ap (λ (run : Run). first_entry (read_entries run.entries)) c.over_keys-keys.ensures)
    (next.ensures.rest
    ∙ ap (λ (run : Run). others_left run.entries) c.over_keys-keys.ensures)
    (ap (λ (run : Run). run.entries)
    (one_run c.in-Ok.values (run_from b n (4 + 4 * n) runs.end)
    (sym c.in-Ok.is ∙ c.over_values.ensures ∙ runs.values_are))) in
    start_found b name n left header start.1.0 start.1.1

pub returns-clause-whole : goal.returns-clause-whole
returns-clause-whole c t document header =
    let b = c.args.bytes.now in
    let n = c.args.count in
    let runs = document_runs b t n document header in
    let next = c.next_entry-first in
    let left : PlacedMembers = record {
      bytes = c.args.bytes;
      first = next.result;
      keys = next.new.entries;
      values = c.in-Ok.values;
    } in
    let start = start_law b n runs left
    (next_of_read next.result (read_entries c.over_keys-keys.result.entries)
    (read_entries next.new.entries.entries) next.ensures.steps
    ∙ ap (λ (run : Run). first_entry (read_entries run.entries)) c.over_keys-keys.ensures)
    (next.ensures.rest
    ∙ ap (λ (run : Run). others_left run.entries) c.over_keys-keys.ensures)
    (ap (λ (run : Run). run.entries)
    (one_run c.in-Ok.values (run_from b n (4 + 4 * n) runs.end)
    (sym c.in-Ok.is ∙ c.over_values.ensures ∙ runs.values_are))) in
    start.0
