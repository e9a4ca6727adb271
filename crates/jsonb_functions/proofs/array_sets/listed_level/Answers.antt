use Rattle.std.proofs.Common.{refl}
use Rattle.jsonb_value.specs.Tree.{array}
use Rattle.jsonb_functions.specs.declared.overlay.Laid.TheVariants.{Changed}
use Rattle.jsonb_functions.specs.ChosenSource.{chosen_laws, chosen_meaning, listed_trees}
use Rattle.jsonb_functions.proofs.OverlayLaws.{array_is}
use Rattle.jsonb_functions.proofs.array_sets.listed_level.Goals as goal

pub returns : goal.returns
returns c =
    let ts = listed_trees c.args.parts.now in
    array_is chosen_meaning chosen_laws (Changed c.args.parts) (array ts) ts refl refl
