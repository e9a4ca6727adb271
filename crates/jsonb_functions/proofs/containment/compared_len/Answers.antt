use Rattle.std.proofs.Common.{ap, sym, ◌∙◌}
use Rattle.jsonb_value.specs.Tree.{text}
use Rattle.jsonb.specs.ItemValues.{extension_of_item}
use Rattle.jsonb.specs.Node.{node_tree}
use Rattle.jsonb_functions.proofs.WeightLaws.{data_apart, data_compared, plainly_compared}
use Rattle.jsonb_functions.proofs.WeightLaws.{texts_apart, texts_compared}
use Rattle.jsonb_functions.proofs.containment.compared_len.Goals as goal

pub returns-in-String-String-clause-differ : goal.returns-in-String-String-clause-differ
returns-in-String-String-clause-differ c =
    let both = c.in-String-String in
    texts_apart c.common_len.result c.as_bytes.result.now
    c.as_bytes-in-String-String.result.now (node_tree c.args.left) (node_tree c.args.right)
    (ap node_tree both.is-0 ∙ ap text (sym c.as_bytes.ensures.value))
    (ap node_tree both.is-1 ∙ ap text (sym c.as_bytes-in-String-String.ensures.value))
    c.common_len.ensures

pub returns-in-String-String-clause-steps : goal.returns-in-String-String-clause-steps
returns-in-String-String-clause-steps c =
    let both = c.in-String-String in
    texts_compared c.common_len.result c.as_bytes.result.now
    c.as_bytes-in-String-String.result.now (node_tree c.args.left) (node_tree c.args.right)
    (ap node_tree both.is-0 ∙ ap text (sym c.as_bytes.ensures.value))
    (ap node_tree both.is-1 ∙ ap text (sym c.as_bytes-in-String-String.ensures.value))
    c.common_len.ensures

pub returns-in-Extension-Extension-clause-differ :
    goal.returns-in-Extension-Extension-clause-differ
returns-in-Extension-Extension-clause-differ c =
    let both = c.in-Extension-Extension in
    data_apart c.common_len-in-Extension-Extension.result c.data_of.result.now
    c.data_of-in-Extension-Extension.result.now (extension_of_item both.left)
    (extension_of_item both.right) (node_tree c.args.left) (node_tree c.args.right)
    (ap node_tree both.is-0) (ap node_tree both.is-1) c.data_of.ensures
    c.data_of-in-Extension-Extension.ensures c.common_len-in-Extension-Extension.ensures

pub returns-in-Extension-Extension-clause-steps : goal.returns-in-Extension-Extension-clause-steps
returns-in-Extension-Extension-clause-steps c =
    let both = c.in-Extension-Extension in
    data_compared c.common_len-in-Extension-Extension.result c.data_of.result.now
    c.data_of-in-Extension-Extension.result.now (extension_of_item both.left)
    (extension_of_item both.right) (node_tree c.args.left) (node_tree c.args.right)
    (ap node_tree both.is-0) (ap node_tree both.is-1) c.data_of.ensures
    c.data_of-in-Extension-Extension.ensures c.common_len-in-Extension-Extension.ensures

pub returns-in_default-3-clause-steps : goal.returns-in_default-3-clause-steps
returns-in_default-3-clause-steps c =
    plainly_compared c.args.left (node_tree c.args.right) c.in_default.not-String-0
    c.in_default.not-Extension-0 c.requires.left
