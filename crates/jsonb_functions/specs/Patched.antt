-- A tree patched by another one, as JSON Merge Patch says.
use Rattle.std.specs.Prelude.{ℕ, List}
use Rattle.std.specs.Ordering.{nat_cmp}
use Rattle.std.specs.Cmp.Lexicographic.{slice_cmp}
use Rattle.std.specs.declared.cmp.Ordering.{Ordering}
use Rattle.std.specs.declared.cmp.Ordering.TheVariants.{Less, Equal, Greater}
use Rattle.jsonb_value.specs.Tree.{Tree, null, object, Pairs, no_pairs, pair}
use Rattle.jsonb_functions.specs.Joined.{with_key}

-- The first tree if the order is Equal, and else the second.
abbrev pub if_equal : Ordering → Tree → Tree → Tree
if_equal Less t u = u
if_equal Equal t u = t
if_equal Greater t u = u

-- The value of a key among pairs, and null if none has it.
abbrev pub value_or_null : List ℕ → Pairs → Tree
value_or_null k no_pairs = null
value_or_null k (pair j t ps) = if_equal (slice_cmp nat_cmp j k) t (value_or_null k ps)

-- A pair put before others if the order is not Equal.
abbrev pub unless_equal : Ordering → List ℕ → Tree → Pairs → Pairs
unless_equal Less j t ps = pair j t ps
unless_equal Equal j t ps = ps
unless_equal Greater j t ps = pair j t ps

-- The pairs that do not have this key.
abbrev pub without_key : List ℕ → Pairs → Pairs
without_key k no_pairs = no_pairs
without_key k (pair j t ps) = unless_equal (slice_cmp nat_cmp j k) j t (without_key k ps)

-- The pairs of an object; any other tree has none.
abbrev pub pairs_or_none : Tree → Pairs
pairs_or_none (object ps) = ps
pairs_or_none t = no_pairs

abbrev mutual
  -- An object as a patch is merged into the target's pairs; any other patch takes its place.
  pub patched : Tree → Tree → Tree
  patched t (object qs) = object (pairs_patched (pairs_or_none t) qs)
  patched t u = u

  -- For each pair of the patch: null removes the pair with its key, and any other value patches the
  -- value of its key.
  pub pairs_patched : Pairs → Pairs → Pairs
  pairs_patched ps no_pairs = ps
  pairs_patched ps (pair k null qs) = without_key k (pairs_patched ps qs)
  pairs_patched ps (pair k u qs) =
      with_key k (patched (value_or_null k ps) u) (pairs_patched ps qs)
