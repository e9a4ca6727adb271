use Rattle.std.proofs.Common.{◌≡◌, take, flat_map}
use Rattle.jsonb_value.specs.Text.{byte_text, length_64}
use Rattle.jsonb_value.proofs.text_len.content_len.Given as goal

abbrev pub invariant-bytes : goal.invariant-bytes
invariant-bytes l = l.len ≡ length_64 (flat_map byte_text (take l.byte-index l.bytes))
