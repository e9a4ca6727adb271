use Rattle.std.proofs.Common.{ℤ, pos, inl, inr, ap, ◌∙◌, rules, arith}
use Rattle.std.specs.Prelude.{◌*ℤ◌}
use Rattle.std.specs.Int.{w8, w32, w64}
use Rattle.std.proofs.lemmas.Int.{to_z-of_z, ints}
use mir.Val.{SFits, to_z, of_z}
use Rattle.jsonb_value.proofs.BigEndian.{IsSigned-read}
use Rattle.jsonb_value.proofs.ExtCodes.{IsZoned-from, IsOldZoned-from}
use Rattle.jsonb_value.proofs.extension.timestamp_tz_of.Goals as goal

pub returns-in-12-clause-found : goal.returns-in-12-clause-found
returns-in-12-clause-found c =
    inl (IsZoned-from _ _ _ c.in-12.is
    (IsSigned-read w32 _ _ (search rules) (search rules) c.read_i32.ensures)
    (IsSigned-read w64 _ _ (search rules) (search rules) c.read_i64.ensures))

pub returns-in-9-clause-found : goal.returns-in-9-clause-found
returns-in-9-clause-found c =
    let byte : SFits w8 c.cast_signed.result = search rules in
    let hour : SFits w32 c.from.result = search rules in
    let seconds : SFits w32 (to_z w32 (of_z w32 c.from.result) *ℤ pos 3600) =
    first_of (search rules, search (rules, ints), grind (arith, ints), omega (arith, ints)) in
    inr (IsOldZoned-from c.args.bytes.now c.from.result _ _ c.in-9.is
    (c.from.ensures ∙ to_z-of_z w8 c.cast_signed.result byte ∙ c.cast_signed.ensures)
    (to_z-of_z w32 _ seconds ∙ ap (λ (z : ℤ). z *ℤ pos 3600) (to_z-of_z w32 c.from.result hour))
    (IsSigned-read w64 _ _ (search rules) (search rules) c.read_i64-in-9.ensures))
