use Rattle.std.proofs.Common.{◌≡◌, ◌++◌, ap, rules, ◌∙◌}
use Rattle.std.specs.Prelude.{Err}
use Rattle.jsonb_value.specs.Tree.{array}
use Rattle.jsonb_codec.specs.Canon.{canon, shape_of}
use Rattle.jsonb_codec.proofs.Decision.{known_object}
use Rattle.jsonb_functions.specs.Keys.{key_texts}
use Rattle.jsonb_functions.proofs.KeyTextLaws.{keys_fit, keys_level, only_memory}
use Rattle.jsonb_functions.proofs.keys.key_document.Goals as goal

pub append_document-requires : goal.append_document-requires
append_document-requires c =
    let (ps, is) = known_object _ _ c.args.object.fact in (
      shape_of (array (key_texts ps)),
      keys_level c.members.result ps (c.members.ensures.members ps is),
    )

pub returns-in_err-append_document-clause-memory :
    goal.returns-in_err-append_document-clause-memory
returns-in_err-append_document-clause-memory c =
    let (ps, is) = known_object _ _ c.args.object.fact in
    let refused = c.in_err-append_document in
    let handed : c.from_residual.result ≡ Err refused.field-0.0 = search rules in
    rw handed (only_memory refused.field-0.0 refused.ensures.only
    (λ invalid. refused.ensures.past.0 (ap Err invalid) (shape_of (array (key_texts ps)))
    (keys_level c.members.result ps (c.members.ensures.members ps is)) (keys_fit _ _ ps is)))

pub returns-clause-ok : goal.returns-clause-ok
returns-clause-ok c ps is =
    let written = c.in_ok-append_document.ensures.appended (shape_of (array (key_texts ps)))
    (keys_level c.members.result ps (c.members.ensures.members ps is)) in
    c.new.ensures ∙ written.1
    ∙ ap (λ b. b ++ canon (array (key_texts ps))) c.new-bytes.ensures.items
