use Rattle.std.proofs.Common.{refl, Some}
use Rattle.jsonb_functions.specs.declared.overlay.Laid.TheVariants.{Changed}
use Rattle.jsonb_functions.specs.Patched.{pairs_or_none, pairs_patched}
use Rattle.jsonb_functions.specs.PatchSource.{patch_laws, patch_meaning}
use Rattle.jsonb_functions.proofs.OverlayLaws.{object_is}
use Rattle.jsonb_functions.proofs.PatchShapes.{other_patched, patched_object}
use Rattle.jsonb_functions.proofs.patch.patched_level.Goals as goal

pub returns-in_default-clause-is : goal.returns-in_default-clause-is
returns-in_default-clause-is c t u h k =
    rw (other_patched t u (c.in_default.ensures.object u k)) (c.kept_level.ensures.is u k)

pub returns-clause-is : goal.returns-clause-is
returns-clause-is c t u h k =
    let (qs, (is, object)) = c.in-Some.ensures.object u k in
    let ps = pairs_or_none t in
    let target = c.members_of.ensures.members ps (c.object_of_some.ensures.object t h) in
    let patch = c.members.ensures.members qs object in
    object_is patch_meaning patch_laws (Changed (record {
      members = record { target = c.members_of.result; patch = Some c.members.result };
      count = c.count_patched.result;
    })) _ (pairs_patched ps qs) (patched_object t u qs is)
    (((ps, qs), ((target, patch), refl)), c.count_patched.ensures ps qs (target, patch))
