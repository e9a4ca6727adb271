-- Names as the keys of a set.
use Rattle.std.specs.Prelude.{ℕ, List, Bool}
use Rattle.std.specs.Borrow.{Bor}
use Rattle.std.specs.BTreeSet.{BTreeSet, contains}
use Rattle.std.specs.Cmp.Lexicographic.{slice_cmp}
use Rattle.std.specs.Ordering.{nat_cmp}
use Rattle.std.specs.declared.cmp.Ordering.{Ordering}

-- The order of names is that of their bytes.
abbrev pub names_cmp : Bor (List ℕ) → Bor (List ℕ) → Ordering
names_cmp x y = slice_cmp nat_cmp x.now y.now

-- The set has the name.
abbrev pub has_name : BTreeSet (Bor (List ℕ)) → Bor (List ℕ) → Bool
has_name names name = contains names_cmp names name
