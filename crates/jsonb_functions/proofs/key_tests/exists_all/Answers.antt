use Rattle.std.proofs.Common.{ap, ◌∙◌}
use Rattle.std.specs.Prelude.{◌&&◌, not}
use Rattle.jsonb.specs.Document.{document_tree}
use Rattle.jsonb_functions.specs.Contains.{has_top_key}
use Rattle.jsonb_functions.proofs.KeyTestLaws.{all_met}
use Rattle.jsonb_functions.proofs.key_tests.exists_all.Goals as goal

pub returns-clause-ok : goal.returns-clause-ok
returns-clause-ok c =
    let t = document_tree c.args.document in
    all_met (λ k. has_top_key k t) c.args.keys.now c.remove_keys.new.missing c.is_empty.result
    c.is_empty.ensures
    (λ q. c.remove_keys.ensures q
    ∙ ap (λ b. b && not (has_top_key q.now t)) (c.in_ok-missing.ensures.0 q))
