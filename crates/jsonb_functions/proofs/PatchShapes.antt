-- What a tree is that another one patches.
use Rattle.std.proofs.Common.{◌≡◌, refl, Option, Some, None}
use Rattle.std.specs.Prelude.{MatchOption}
use Rattle.jsonb_value.specs.Tree.{Tree, null, boolean, number, text, extension, array, object}
use Rattle.jsonb_value.specs.Tree.{Pairs, no_pairs, Ascend}
use Rattle.jsonb_codec.specs.declared.parts.Members.{Members}
use Rattle.jsonb_codec.specs.declared.parts.Object.{Object}
use Rattle.jsonb_codec.specs.Parts.{IsObject}
use Rattle.jsonb_functions.specs.JoinSource.{MaybeMembers, MaybeObject, IsNoObject}
use Rattle.jsonb_functions.specs.Patched.{patched, pairs_patched, pairs_or_none}

-- A patch that is not an object takes the target's place.
pub other_patched : (t u : Tree) → IsNoObject u → patched t u ≡ u
other_patched t (object qs) h = absurd h
other_patched t null h = refl
other_patched t (boolean b) h = refl
other_patched t (number x) h = refl
other_patched t (text s) h = refl
other_patched t (extension e) h = refl
other_patched t (array ts) h = refl

pub no_pairs_in : (t : Tree) → IsNoObject t → pairs_or_none t ≡ no_pairs
no_pairs_in (object qs) h = absurd h
no_pairs_in null h = refl
no_pairs_in (boolean b) h = refl
no_pairs_in (number x) h = refl
no_pairs_in (text s) h = refl
no_pairs_in (extension e) h = refl
no_pairs_in (array ts) h = refl

pub patched_object : (t u : Tree) (qs : Pairs) → u ≡ object qs
    → patched t u ≡ object (pairs_patched (pairs_or_none t) qs)
patched_object t u qs e = rw e refl

-- The object that a part is, if there is one, has the pairs of the part's tree.
pub maybe_object : (x : Option Object) (t : Tree) → MatchOption x (IsNoObject t)
    (λ o. (ps : Pairs) × ((t ≡ object ps) × IsObject o.count o.body.now ps))
    → MaybeObject x (pairs_or_none t)
maybe_object None t h = no_pairs_in t h
maybe_object (Some o) t h = rw h.1.0 h.1.1

-- Members have ascending keys.
pub maybe_ascend : (x : Option Members) (ps : Pairs) → MaybeMembers x ps → Ascend ps
maybe_ascend None ps h = rw h tt
maybe_ascend (Some x) ps h = h.0
