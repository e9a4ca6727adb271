use Rattle.std.proofs.Common.{◌++◌, ◌∙◌, ap}
use Rattle.jsonb_functions.proofs.PathStepLaws.{all_bytes, no_bytes, plain_none, plain_read}
use Rattle.jsonb_functions.proofs.path_text.read_plain.Goals as goal

pub returns-then-is_empty : goal.returns-then-is_empty
returns-then-is_empty c =
    let rest = c.split_name.result.1.now in
    let none = all_bytes c.split_name.result.0.now c.if-is_empty.ensures in
    plain_none c.args.in_filter c.args.text.now rest c.requires
    (c.split_name.ensures.whole ∙ ap (λ xs. xs ++ rest) none) c.split_name.ensures.rest

pub returns-else-is_empty : goal.returns-else-is_empty
returns-else-is_empty c =
    plain_read c.args.in_filter c.args.text.now c.split_name.result.0.now c.split_name.result.1
    c.member_of.result c.requires c.split_name.ensures.whole c.split_name.ensures.name
    c.split_name.ensures.last c.split_name.ensures.rest
    (no_bytes c.split_name.result.0.now c.if-is_empty.ensures) c.member_of.ensures
