use Rattle.std.proofs.Common.{ap, sym, ◌∙◌}
use Rattle.std.specs.List.{list_any}
use Rattle.jsonb.specs.Node.{node_tree}
use Rattle.jsonb_value.specs.Tree.{Tree, text}
use Rattle.jsonb_functions.specs.Contains.{contained}
use Rattle.jsonb_functions.proofs.KeyTestLaws.{named_text, no_text_any}
use Rattle.jsonb_functions.proofs.key_tests.is_named_text.Goals as goal

pub returns-in-String : goal.returns-in-String
returns-in-String c =
    c.is_named.ensures ∙ named_text c.args.names.now c.in-String.text.now
    ∙ ap (λ (t : Tree). list_any (λ name. contained (text name.now) t) c.args.names.now)
    (ap node_tree (sym c.in-String.is))

pub returns-in_default : goal.returns-in_default
returns-in_default c =
    no_text_any c.args.node c.in_default.not-String c.requires.container c.args.names.now
