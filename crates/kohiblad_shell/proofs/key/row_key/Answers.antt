use Rattle.kohiblad_shell.proofs.KeyLaws.{document_row_key}
use Rattle.kohiblad_shell.proofs.key.row_key.Goals as goal

pub returns-in_ok-append_key-clause-ok : goal.returns-in_ok-append_key-clause-ok
returns-in_ok-append_key-clause-ok c =
    document_row_key c.args.paths.now c.args.document c.new-key.result.items
    c.append_key.new.buffer.items c.new-key.ensures.items c.if-is_empty.ensures
    c.in_ok-append_key.ensures.appended
