use Rattle.std.proofs.Common.{refl, inl, inr, rules}
use Rattle.std.specs.Int.{w64, w128}
use Rattle.jsonb_value.proofs.BigEndian.{IsSigned-read}
use Rattle.jsonb_value.proofs.Codes.{IsDecimal-from, IsOldDecimal-from}
use Rattle.jsonb_value.proofs.number.decimal_of.Goals as goal

pub returns-in-9-clause-found : goal.returns-in-9-clause-found
returns-in-9-clause-found c =
    let value =
    IsSigned-read w64 _ _ (search rules) (search rules) c.read_i64.ensures in
    (_, (refl, IsDecimal-from w64 8 _ _ c.in-9.is value))

pub returns-in-17-clause-found : goal.returns-in-17-clause-found
returns-in-17-clause-found c =
    let value =
    IsSigned-read w128 _ _ (search rules) (search rules) c.read_i128.ensures in
    (_, (refl, inl (IsDecimal-from w128 16 _ _ c.in-17.is value)))

pub returns-in-18-clause-found : goal.returns-in-18-clause-found
returns-in-18-clause-found c =
    let value = IsSigned-read w128 _ _ (search rules)
    (search rules) c.read_i128-in-18.ensures in
    (_, (refl, inr (IsOldDecimal-from _ _ c.in-18.is value)))
