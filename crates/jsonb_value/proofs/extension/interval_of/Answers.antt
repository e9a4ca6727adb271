use Rattle.std.proofs.Common.{rules}
use Rattle.std.specs.Int.{w32, w64}
use Rattle.jsonb_value.proofs.BigEndian.{IsSigned-read}
use Rattle.jsonb_value.proofs.ExtCodes.{IsInterval-from}
use Rattle.jsonb_value.proofs.extension.interval_of.Goals as goal

pub returns-clause-found : goal.returns-clause-found
returns-clause-found c =
    IsInterval-from _ _ _ _ c.if-bytes-ne16.false
    (IsSigned-read w32 _ _ (search rules) (search rules) c.read_i32.ensures)
    (IsSigned-read w32 _ _ (search rules) (search rules) c.read_i32-2.ensures)
    (IsSigned-read w64 _ _ (search rules) (search rules) c.read_i64.ensures)
