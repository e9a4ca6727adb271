use Rattle.std.proofs.Common.{rules, ◌≡◌, ◌++◌, ◌∷◌, [], length, refl}
use Rattle.jsonb_path.specs.Growth.{PartsGrow}
use Rattle.jsonb_path.proofs.GrammarLaws.{grown_accessor}
use Rattle.jsonb_path.proofs.GrowthLaws.{pushed_grows, pushed_source}
use Rattle.jsonb_path.proofs.read.operand.in_parentheses.Goals as goal

pub returns-clause-part : goal.returns-clause-part
returns-clause-part c =
    let before = c.args.parts.now.items in
    let after = c.push.new.parts.items in
    let pushed : after ≡ before ++ (c.args.part ∷ []) = search rules in
    let place : c.in_ok-at.at ≡ length before = search rules in
    let none : c.new.result.items ≡ [] = search rules in
    let grows : PartsGrow before after =
    pushed_grows before after c.args.part c.requires.parts c.requires.part pushed in
    c.in_ok-part.ensures.part after (pushed_source before after c.args.part c.in_ok-at.at pushed place)
    (rw none refl) (grown_accessor before after c.args.accessor grows c.requires.accessor)
