use Rattle.std.proofs.Common.{◌≤◌, arith}
use Rattle.std.proofs.lemmas.List.{drop_more}
use Rattle.jsonb_value.specs.TextDepth.{text_depth}
use Rattle.jsonb_value.proofs.ScanLaws.{one_more_character, one_too_many}
use Rattle.jsonb_value.proofs.text_depth.is_text_within.Goals as goal

pub loop-character-preserved : goal.loop-character-preserved
loop-character-preserved c =
    let walk = c.loop-character in
    let cut = drop_more c.args.text.now walk.character-index 0 c.loop-character-test.true in
    let most = c.level_after-level.ensures.most in
    let low = walk.invariant.low in
    record {
      same =
          one_more_character
          (text_depth c.args.text.now
          ≤ c.args.depth) walk.state walk.level _ c.args.depth _ _ cut walk.invariant.inside
          walk.invariant.same
          _ _ c.state_after-state.ensures c.level_after-level.ensures.value;
      low = omega arith;
      inside = c.if-depth-level.false;
    }

pub returns-then-depth-level : goal.returns-then-depth-level
returns-then-depth-level c =
    let walk = c.loop-character in
    let cut = drop_more c.args.text.now walk.character-index 0 c.loop-character-test.true in (
      λ h. let never : ⊥ = cc in absurd never,
      λ a. absurd (
          one_too_many
          (text_depth c.args.text.now
          ≤ c.args.depth) walk.state walk.level _ c.args.depth _ _ cut walk.invariant.inside
          walk.invariant.same
          _ c.level_after-level.ensures.value c.if-depth-level.true a
          ),
    )
