use Rattle.kohiblad_shell.proofs.row.parse_text.Goals as goal

pub fault_in-requires : goal.fault_in-requires
fault_in-requires c json =
    let refused = rw (
      c.in-Err-Refused-InvalidJson.field-0-is,
      c.in-Err-Refused-InvalidJson.field-0-0-is,
    ) at c.in-Err-Refused-InvalidJson.ensures.value in
    refused.1 json.0 json.1
