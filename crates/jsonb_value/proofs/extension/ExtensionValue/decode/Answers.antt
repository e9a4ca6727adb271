use Rattle.jsonb_value.proofs.Codes.{split_first}
use Rattle.jsonb_value.proofs.ExtCodes.{only_extension}
use Rattle.jsonb_value.proofs.extension.ExtensionValue.decode.Goals as goal

pub returns-in-len1-up-clause-only : goal.returns-in-len1-up-clause-only
returns-in-len1-up-clause-only c =
    let front = split_first c.args.bytes.now c.in-len1-up.len_at_least in
    let d = c.extension_of_tag in
    rw front (only_extension _ d.result d.ensures.ok d.ensures.none)
