use Rattle.std.proofs.Common.{◌≡◌, ◌<◌, ◌≤◌, ◌∙◌, ap, arith, length, sym}
use Rattle.jsonb_path.specs.PathTree.{primary_of}
use Rattle.jsonb_path.proofs.GrammarLaws.{number_with_steps, number_without_steps}
use Rattle.jsonb_path.proofs.read.operand.number_alone.Goals as goal

pub returns-in-empty : goal.returns-in-empty
returns-in-empty c = λ nodes.
    let same : length c.as_slice.result.now ≡ length c.in-Chain.accessors.items =
    ap length c.as_slice.ensures.value in
    let short : length c.in-Chain.accessors.items < 1 = omega (arith, c.in-empty.len_below) in
    rw c.in-Chain.is
    (c.literal_number.ensures nodes
    ∙ sym (number_without_steps nodes (primary_of nodes c.in-Chain.source)
    c.in-Chain.accessors.items short))

pub returns-in-len1-up : goal.returns-in-len1-up
returns-in-len1-up c = λ nodes.
    let same : length c.as_slice.result.now ≡ length c.in-Chain.accessors.items =
    ap length c.as_slice.ensures.value in
    let long : 1 ≤ length c.in-Chain.accessors.items = omega (arith, c.in-len1-up.len_at_least) in
    rw c.in-Chain.is
    (sym (number_with_steps nodes (primary_of nodes c.in-Chain.source)
    c.in-Chain.accessors.items long))
