use Rattle.std.proofs.Common.{rules, ◌≡◌, to_z, of_z, ◌∙◌}
use Rattle.std.specs.Int.{w128}
use Rattle.jsonb_typed_file.proofs.fixed.decimal_in.Goals as goal

pub returns : goal.returns
returns c =
    let kept : to_z w128 (of_z w128 c.read_i128.result) ≡ c.read_i128.result = search rules in
    kept ∙ c.read_i128.ensures
