use Rattle.std.proofs.Common.{◌≡◌, ◌<◌, ℕ, List, ◌++◌, length, take, ap, ap₂, sym, ◌∙◌, arith}
use Rattle.std.proofs.lemmas.Grind.{common_steps}
use Rattle.jsonb.specs.Document.{document_tree}
use Rattle.kohiblad_shell.specs.Keys.{directed, path_key, path_keys}
use Rattle.kohiblad_shell.proofs.KeyLaws.{path_keys-more}
use Rattle.kohiblad_shell.proofs.key.path_keys.Goals as goal

pub loop-path-preserved : goal.loop-path-preserved
loop-path-preserved c = λ whole.
    let t = document_tree c.args.document in
    let (old, items) = c.in_ok-append_directed_key.ensures whole in
    let low : c.loop-path.path-index < length c.args.paths.now = omega arith in
    items
    ∙ ap₂ (λ (a b : List ℕ). a ++ b) (c.loop-path.invariant old)
    (ap (λ found. directed c.path-item.result.direction (path_key found)) c.in_ok-value.ensures)
    ∙ sym (path_keys-more c.args.paths.now c.loop-path.path-index c.path-item.result t low
    c.path-item.is)

pub returns-then-key-clause-ok : goal.returns-then-key-clause-ok
returns-then-key-clause-ok c =
    let all : take c.loop-path.path-index c.args.paths.now ≡ c.args.paths.now =
    grind (arith, common_steps) in
    c.loop-path.invariant c.if-key.true
    ∙ ap (λ ps. path_keys ps (document_tree c.args.document)) all
