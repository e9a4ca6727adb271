-- What two trees that are put together are.
use Rattle.std.proofs.Common.{◌≡◌, ◌+◌, refl, arith}
use Rattle.jsonb_value.specs.Tree as trees
use Rattle.jsonb_value.specs.Tree.{Tree, Trees, no_trees, tree, Pairs}
use Rattle.jsonb_value.specs.Tree.{array, object, null, boolean, number, text, extension}
use Rattle.jsonb_functions.specs.Joined.{merged, append_trees, joined, items_or_one}
use Rattle.jsonb_functions.specs.JoinSource.{IsNoObject}

pub count_append : (ts us : Trees)
    → trees.count (append_trees ts us) ≡ trees.count ts + trees.count us
count_append no_trees us = omega arith
count_append (tree t ts) us = omega (arith, count_append ts us)

-- What is not a pair of objects becomes an array.
pub other_joined : (t u : Tree) → IsNoObject t → joined t u
    ≡ array (append_trees (items_or_one t) (items_or_one u))
other_joined (object ps) u h = absurd h
other_joined null u h = refl
other_joined (boolean b) u h = refl
other_joined (number x) u h = refl
other_joined (text s) u h = refl
other_joined (extension e) u h = refl
other_joined (array ts) u h = refl

pub joined_other : (t u : Tree) → IsNoObject u → joined t u
    ≡ array (append_trees (items_or_one t) (items_or_one u))
joined_other t (object ps) h = absurd h
joined_other (object ps) null h = refl
joined_other (object ps) (boolean b) h = refl
joined_other (object ps) (number x) h = refl
joined_other (object ps) (text s) h = refl
joined_other (object ps) (extension e) h = refl
joined_other (object ps) (array ts) h = refl
joined_other t u h = refl

pub joined_objects : (t u : Tree) (ps qs : Pairs) → t ≡ object ps → u ≡ object qs
    → joined t u ≡ object (merged ps qs)
joined_objects t u ps qs e f = rw (e, f) refl
