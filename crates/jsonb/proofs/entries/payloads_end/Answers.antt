use Rattle.std.proofs.Common.{rules, sym}
use Rattle.jsonb.proofs.PayloadEnds.{payloads_end-short}
use Rattle.jsonb.proofs.entries.payloads_end.Goals as goal

pub returns-then-bytes-word-clause-value : goal.returns-then-bytes-word-clause-value
returns-then-bytes-word-clause-value c =
    sym (payloads_end-short c.args.bytes.now c.args.count c.args.word c.args.start
    c.requires.there (search rules))
