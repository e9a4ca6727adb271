use Rattle.std.proofs.Common.{rules}
use Rattle.std.specs.Map.{keys_of, values_of}
use Rattle.jsonb.specs.Building.{AreTexts}
use Rattle.kohiblad.specs.Results.{AreWithin}
use Rattle.kohiblad.specs.Rows.{row_pairs}
use Rattle.kohiblad.proofs.CheckedRows.{are_members}
use Rattle.kohiblad.proofs.checked_rows.Members.within.Goals as goal

pub invariant_of-result : goal.invariant_of-result
invariant_of-result c =
    let within : AreWithin c.args.depth (values_of (row_pairs c.again.result)) =
    c.are_pairs_within.ensures.0 (search rules) in
    let texts : AreTexts (keys_of (row_pairs c.again-2.result)) =
    c.are_texts.ensures.0 (search rules) in
    are_members c.args.depth (row_pairs c.args.rows) (rw c.again.ensures at within)
    (rw c.again-2.ensures at texts)
