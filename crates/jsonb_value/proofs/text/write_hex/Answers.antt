use Rattle.std.proofs.lemmas.Grind.{common_steps}
use Rattle.std.proofs.Common.{arith}
use Rattle.std.proofs.lemmas.Grind.{flat_map-append}
use Rattle.std.proofs.lemmas.List.{take_more}
use Rattle.jsonb_value.proofs.Writing.{joins_two}
use Rattle.jsonb_value.proofs.text.write_hex.Goals as goal

pub bytes-preserved : goal.bytes-preserved
bytes-preserved g c flush =
    grind (arith, common_steps, take_more, flat_map-append, joins_two)
