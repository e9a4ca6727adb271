-- The order of meanings is total.
use Rattle.std.proofs.Common.{arith}
use Rattle.std.specs.Prelude.{◌≡◌, ℕ, Bool, true, false, List, [], Option, Some, None}
use Rattle.std.proofs.Common.{subst}
use Rattle.std.specs.declared.cmp.Ordering.{Ordering}
use Rattle.std.specs.Ordering.{nat_cmp, bool_cmp, on, then_cmp}
use Rattle.std.specs.Option.{option_cmp}
use Rattle.std.specs.Cmp.{IsTotalOrder, bool_cmp_total}
use Rattle.std.specs.Cmp.Lexicographic.{slice_cmp, on_texts, options_total}
use Rattle.std.proofs.lemmas.Cmp.{on_total, then_total}
use Rattle.jsonb_value.specs.Tree.{Tree}
use Rattle.jsonb_value.specs.TreeOrder.{tree_cmp}
use Rattle.jsonb_value.specs.Meaning.{Meaning, document, other_bytes, meaning_cmp}
use Rattle.jsonb_value.proofs.TreeLaws.{tree_cmp_total, then-Equal}

abbrev meant_tree : Meaning → Option Tree
meant_tree (document x) = Some x
meant_tree (other_bytes b) = None

abbrev is_bytes : Meaning → Bool
is_bytes (document x) = false
is_bytes (other_bytes b) = true

abbrev meant_bytes : Meaning → List ℕ
meant_bytes (document x) = []
meant_bytes (other_bytes b) = b

-- compares first by whether there is a tree, then by the tree, then by the bytes
abbrev by_parts : Meaning → Meaning → Ordering
by_parts = then_cmp (on is_bytes bool_cmp)
    (then_cmp (on meant_tree (option_cmp tree_cmp)) (on meant_bytes (slice_cmp nat_cmp)))

by_parts_total : IsTotalOrder by_parts
by_parts_total = then_total (on_total is_bytes bool_cmp_total)
    (then_total (on_total meant_tree (options_total tree_cmp_total)) (on_texts meant_bytes))

by_parts_cmp : (m n : Meaning) → by_parts m n ≡ meaning_cmp m n
by_parts_cmp m n = grind (arith, then-Equal)

pub meaning_cmp_total : IsTotalOrder meaning_cmp
meaning_cmp_total = subst IsTotalOrder (λ i m n. by_parts_cmp m n i) by_parts_total
