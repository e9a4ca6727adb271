-- The keys of the paths so far.
use Rattle.std.proofs.Common.{◌≡◌, take, true}
use Rattle.jsonb.specs.Document.{document_tree}
use Rattle.kohiblad_shell.specs.Keys.{path_keys}
use Rattle.kohiblad_shell.proofs.key.path_keys.Given as goal

abbrev pub invariant-loop-path : goal.invariant-loop-path
invariant-loop-path l = l.key.is_whole ≡ true
    → l.key.bytes.items ≡ path_keys (take l.path-index l.paths) (document_tree l.document)
