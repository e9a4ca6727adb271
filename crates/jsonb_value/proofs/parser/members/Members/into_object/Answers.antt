use Rattle.std.proofs.Common.{rules, ◌≡◌, ◌++◌}
use Rattle.std.specs.Prelude.{string_cmp}
use Rattle.std.specs.List.Sorted.{IsStrictlySortedBy}
use Rattle.std.specs.Map.{keys_of}
use Rattle.std.proofs.lemmas.Result.{IfOk-weaker}
use Rattle.jsonb_value.proofs.MemberLaws.{made_at_once}
use Rattle.jsonb_value.proofs.parser.members.Members.into_object.Goals as goal

pub returns-clause-ok : goal.returns-clause-ok
returns-clause-ok c =
    let few = c.args.self.few.entries in
    let others = c.args.self.others.items in
    let ordered : IsStrictlySortedBy string_cmp (keys_of few) = search rules in
    let whole : c.in_ok-join.field-0.items ≡ few ++ others =
    search rules in
    IfOk-weaker _ _ _
    (λ object. made_at_once few others c.in_ok-join.field-0.items object ordered whole)
    c.object_of.ensures.ok
