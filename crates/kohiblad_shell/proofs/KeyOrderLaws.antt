-- Keys of rows compare as the rows.
use Rattle.std.proofs.Common.{◌≡◌, ℕ, ◌+◌, ◌-◌, ◌<◌, List, [], ◌∷◌, arith, append-nil, refl}
use Rattle.std.proofs.Common.{Option, None, Some, suc}
use Rattle.std.specs.Prelude.{ℤ, pos, negsuc, true, false}
use Rattle.std.specs.Cmp.Lexicographic.{slice_cmp}
use Rattle.std.specs.Ordering.{nat_cmp}
use Rattle.std.specs.declared.cmp.Ordering.{Ordering}
use Rattle.jsonb_value.proofs.BigEndian.{AreBytes}
use Rattle.jsonb_value.proofs.TreeLaws.{then-Equal}
use Rattle.jsonb_value.specs.Order.{extension_kind, fraction_of}
use Rattle.jsonb_value.specs.Tree.{Tree, null, boolean, number, text, extension, array, object}
use Rattle.jsonb_comparable.proofs.Comparing.{AreSmall, Compared, above, below, compared_complemented}
use Rattle.jsonb_comparable.proofs.Comparing.{compared_whole, ended, joined, same}
use Rattle.jsonb_comparable.proofs.KeyLaws.{keys_order}
use Rattle.jsonb_comparable.proofs.NumberLaws.{natural_key_begins}
use Rattle.jsonb_comparable.proofs.TreeLaws.{tree_key_decides}
use Rattle.jsonb_comparable.specs.Escaped.{escaped}
use Rattle.jsonb_comparable.specs.ExtensionKey.{fields_key}
use Rattle.jsonb_comparable.specs.NumberKey.{complemented, integer_key, scaled_value}
use Rattle.jsonb_comparable.specs.TreeKey.{pairs_key, tree_key, trees_key}
use Rattle.kohiblad_shell.specs.Asked.{first_asked}
use Rattle.kohiblad_shell.specs.KeyOrder.{HasKey, HavePathKeys, KeysDecide, directed_cmp, found_cmp}
use Rattle.kohiblad_shell.specs.KeyOrder.{paths_cmp}
use Rattle.kohiblad_shell.specs.Keys.{directed, path_key, path_keys}
use Rattle.kohiblad_shell.specs.declared.sort_path.Direction.{Direction}
use Rattle.kohiblad_shell.specs.declared.sort_path.Direction.TheVariants.{Rising, Falling}
use Rattle.kohiblad_shell.specs.declared.sort_path.SortPath.{SortPath}

-- the first byte of a key is above 0
record Begins (key : List ℕ) : Type 0 where
  pub first : ℕ
  pub others : List ℕ
  pub is : key ≡ first ∷ others
  pub over : 0 < first

integer_begins : (z : ℤ) → Begins (integer_key z)
integer_begins (pos n) =
    let begun = natural_key_begins n in
    record { first = begun.first; others = begun.others; is = begun.is; over = omega arith }
integer_begins (negsuc n) =
    let begun = natural_key_begins (suc n) in
    record {
      first = 255 - begun.first;
      others = complemented begun.others;
      is = rw begun.is refl;
      over = omega arith;
    }

begins : (t : Tree) → Begins (tree_key t)
unfolding tree_key
begins (extension e) =
    record {
      first = 16 + extension_kind e;
      others = fields_key e;
      is = refl;
      over = omega arith;
    }
begins (boolean true) = record { first = 33; others = []; is = refl; over = omega arith }
begins (boolean false) = record { first = 32; others = []; is = refl; over = omega arith }
begins (number x) = integer_begins (scaled_value (fraction_of x))
begins (text s) = record { first = 160; others = escaped s; is = refl; over = omega arith }
begins (object ps) = record { first = 176; others = pairs_key ps; is = refl; over = omega arith }
begins (array ts) = record { first = 192; others = trees_key ts; is = refl; over = omega arith }
begins null = record { first = 208; others = []; is = refl; over = omega arith }

small : (key : List ℕ) → AreBytes key → AreSmall key
small [] are = tt
small (b ∷ key) are = (are 0, small key (λ i. are (suc i)))

path_key_small : (found : Option Tree) → HasKey found → AreSmall (path_key found)
path_key_small None has = (omega arith, tt)
path_key_small (Some t) has = small (tree_key t) has.1

-- what paths lead to is compared by its keys
found_decides : (a b : Option Tree) → HasKey a → HasKey b
    → Compared (path_key a) (path_key b) (found_cmp a b)
found_decides None None h g = same ended
found_decides None (Some u) h g =
    let begun = begins u in rw begun.is (below {x = 0} {y = begun.first} begun.over)
found_decides (Some t) None h g =
    let begun = begins t in rw begun.is (above {x = begun.first} {y = 0} begun.over)
found_decides (Some t) (Some u) h g = tree_key_decides t u h.0 g.0

directed_decides : (d : Direction) (a b : Option Tree) → HasKey a → HasKey b
    → Compared (directed d (path_key a)) (directed d (path_key b)) (directed_cmp d (found_cmp a b))
directed_decides Rising a b h g = found_decides a b h g
directed_decides Falling a b h g =
    compared_complemented (found_decides a b h g) (path_key_small a h) (path_key_small b g)

paths_decide : (paths : List SortPath) (t u : Tree) → HavePathKeys paths t → HavePathKeys paths u
    → Compared (path_keys paths t) (path_keys paths u) (paths_cmp paths t u)
paths_decide [] t u h g = ended
paths_decide (p ∷ ps) t u h g =
    joined
    (directed_decides p.direction (first_asked p.path t) (first_asked p.path u) h.0 g.0)
    (paths_decide ps t u h.1 g.1)

alone : {a b : List ℕ} {o : Ordering} → Compared a b o → slice_cmp nat_cmp a b ≡ o
alone {a} {b} {o} h =
    let whole = compared_whole h [] [] in rw (append-nil a, append-nil b, then-Equal o) at whole

-- the keys of rows compare as the rows
pub keys_decide : (paths : List SortPath) → KeysDecide paths
keys_decide [] t u h g = keys_order t u h.0 g.0
keys_decide (path ∷ paths) t u h g = alone (paths_decide (path ∷ paths) t u h g)
