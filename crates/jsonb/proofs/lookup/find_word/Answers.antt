use Rattle.std.proofs.Common.{rules, ◌≡◌, Err}
use Rattle.jsonb.proofs.CutKeyLaws.{first_unread}
use Rattle.jsonb.proofs.lookup.find_word.Goals as goal

pub returns-in_err-read_cut_keys-clause-found : goal.returns-in_err-read_cut_keys-clause-found
returns-in_err-read_cut_keys-clause-found g c =
    let refused : c.from_residual.result ≡ Err c.in_err-read_cut_keys.field-0.0 = search rules in
    let first = rw c.in_err-read_cut_keys.was at c.read_cut_keys.ensures.unread in
    rw refused (first_unread _ _ _ _ _ first)

pub returns-in_err-key-clause-found : goal.returns-in_err-key-clause-found
returns-in_err-key-clause-found g c =
    let refused : c.from_residual-in_err-key.result ≡ Err c.in_err-key.field-0.0 = search rules in
    rw refused (rw (c.in_err-key.was, c.as_bytes.ensures.value) at c.matching_key.ensures.found)

pub returns-clause-found : goal.returns-clause-found
returns-clause-found g c = record {
  pair = c.in-Some.key.pair;
  key = search rules;
  there = search rules;
  begins = c.skip_parts-start.ensures.start;
  cost = search rules;
}
