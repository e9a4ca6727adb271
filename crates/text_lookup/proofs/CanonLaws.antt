-- What is at a key of a tree after it was written and read.
use Rattle.std.proofs.Common.{◌≡◌, ℕ, Bool, true, false, List, length, refl, Option, Some}
use Rattle.std.specs.Prelude.{◌==◌, ◌&&◌, if◌then◌else◌, option_map, nat_eq}
use Rattle.std.specs.Cmp.Lexicographic.{pointwise}
use Rattle.jsonb_value.specs.Norm.{norm, norm_pairs}
use Rattle.jsonb_value.specs.Tree.{Tree, null, boolean, number, text, extension, array, object}
use Rattle.jsonb_value.specs.Tree.{Pairs, no_pairs, pair}
use Rattle.jsonb_value.specs.WellFormed.{IsTree}
use Rattle.jsonb_codec.specs.Canon.{canon, Fits}
use Rattle.jsonb_codec.proofs.CanonLaws.{Doc-canon}
use Rattle.jsonb.specs.Document.{tree_in}
use Rattle.jsonb.specs.Lookup.{find, find_pair}
use Rattle.jsonb.specs.Node.{value_of_key}
use Rattle.jsonb.proofs.DocumentLaws.{tree_in-is}

module _ (accepts : List ℕ → Bool) (size : ℕ) where
  chosen : (test : Bool) (t : Tree) (x y : Option Tree) → x ≡ option_map norm y
      → (if test then Some (norm t) else x) ≡ option_map norm (if test then Some t else y)
  chosen true t x y is = refl
  chosen false t x y is = is

  pair_norm : (ps : Pairs)
      → find_pair accepts size (norm_pairs ps) ≡ option_map norm (find_pair accepts size ps)
  pair_norm no_pairs = refl
  pair_norm (pair k t ps) =
      chosen ((length k == size) && accepts k) t (find_pair accepts size (norm_pairs ps))
      (find_pair accepts size ps) (pair_norm ps)

  find_norm : (t : Tree) → find accepts size (norm t) ≡ option_map norm (find accepts size t)
  find_norm null = refl
  find_norm (boolean b) = refl
  find_norm (number x) = refl
  find_norm (text s) = refl
  find_norm (extension e) = refl
  find_norm (array ts) = refl
  find_norm (object ps) = pair_norm ps

-- The value at a key of what is read back is the one that was there, with signed zeros unsigned.
pub member_norm : (key : List ℕ) (t : Tree)
    → value_of_key key (norm t) ≡ option_map norm (value_of_key key t)
member_norm key t = find_norm (pointwise nat_eq key) (length key) t

-- What the canonical document means is the tree, with signed zeros unsigned.
pub canon_tree : (t : Tree) → IsTree t → Fits t → tree_in (canon t) ≡ norm t
canon_tree t is fits = tree_in-is (canon t) (norm t) (Doc-canon t is fits)
