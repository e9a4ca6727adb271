-- The name has the bytes so far but for spaces, and then those that are left.
use Rattle.std.proofs.Common.{◌≡◌, drop}
use Rattle.jsonb_functions.specs.PathText.{name_len}
use Rattle.jsonb_functions.proofs.PathTextLaws.{passed_len}
use Rattle.jsonb_functions.proofs.path_text.name_len.Given as goal

abbrev pub invariant-loop-byte : goal.invariant-loop-byte
invariant-loop-byte l = record {
  count : l.passed ≡ l.byte-index;
  same : name_len l.fn.in_filter l.fn.text
      ≡ passed_len l.len l.passed (name_len l.fn.in_filter (drop l.byte-index l.fn.text));
}
