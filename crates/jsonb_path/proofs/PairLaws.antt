-- Whether some pair passes, one after the other.
use Rattle.std.proofs.Common.{◌≡◌, Bool, true, false, List, [], ◌∷◌, ◌++◌, ◌∙◌, ap, sym, refl, inl}
use Rattle.std.proofs.Common.{inr}
use Rattle.std.proofs.Common.{◌≤◌, get_or, length, map}
use Rattle.std.specs.Prelude.{◌⊎◌, if◌then◌else◌}
use Rattle.jsonb_value.specs.Tree.{Tree}
use Rattle.jsonb.specs.declared.node.Node.{Node}
use Rattle.jsonb.specs.Node.{node_tree}
use Rattle.jsonb_path.specs.declared.compare.Truth.{Truth}
use Rattle.jsonb_path.specs.declared.compare.Truth.TheVariants.{True, False, Unknown}
use Rattle.jsonb_path.specs.declared.path.Mode.{Mode}
use Rattle.jsonb_path.specs.declared.path.Mode.TheVariants.{Lax, Strict}
use Rattle.jsonb_path.specs.declared.pairs.Check.{Check}
use Rattle.jsonb_path.specs.Comparison.{Comparand, comparand_of}
use Rattle.jsonb_path.specs.Found.{checked, checked_as, either_in, settles}
use Rattle.jsonb_path.specs.Meaning.{row, some_passes, some_true, some_unknown, table}
use Rattle.jsonb_path.proofs.PathTextLaws.{first_left, later}

-- a truth is unknown, or whether one is true is known
Known : Bool → Truth → Type 0
Known b t = (b ≡ true) ⊎ ((b ≡ false) × ((t ≡ True) ⊎ (t ≡ False)))

after_true : (b : Bool) (t : Truth) → Known b t → Known b True
unfolding Known
after_true b t (inl e) = inl e
after_true b t (inr (e, f)) = inr (e, inl refl)

all_known : (ts : List Truth) → Known (some_unknown ts) (some_true ts)
unfolding Known
all_known [] = inr (refl, inr refl)
all_known (Unknown ∷ ts) = inl refl
all_known (False ∷ ts) = all_known ts
all_known (True ∷ ts) = after_true (some_unknown ts) (some_true ts) (all_known ts)

true_first : (b : Bool) (u : Truth) → Known b u
    → (if b then Unknown else True) ≡ either_in Strict True (if b then Unknown else u)
unfolding Known
true_first b u (inl e) = rw e refl
true_first b u (inr (e, inl f)) = rw (e, f) refl
true_first b u (inr (e, inr f)) = rw (e, f) refl

false_first : (b : Bool) (u : Truth) → Known b u
    → (if b then Unknown else u) ≡ either_in Strict False (if b then Unknown else u)
unfolding Known
false_first b u (inl e) = rw e refl
false_first b u (inr (e, inl f)) = rw (e, f) refl
false_first b u (inr (e, inr f)) = rw (e, f) refl

-- the first truth, and the others
first_of : (mode : Mode) (t : Truth) (ts : List Truth)
    → some_passes mode (t ∷ ts) ≡ either_in mode t (some_passes mode ts)
first_of Lax t ts = refl
first_of Strict Unknown ts = refl
first_of Strict True ts = true_first (some_unknown ts) (some_true ts) (all_known ts)
first_of Strict False ts = false_first (some_unknown ts) (some_true ts) (all_known ts)

none_first : (mode : Mode) (t : Truth) → either_in mode False t ≡ t
none_first Lax t = refl
none_first Strict True = refl
none_first Strict False = refl
none_first Strict Unknown = refl

three : (mode : Mode) (a b c : Truth)
    → either_in mode (either_in mode a b) c ≡ either_in mode a (either_in mode b c)
three Lax True True True = refl
three Lax True True False = refl
three Lax True True Unknown = refl
three Lax True False True = refl
three Lax True False False = refl
three Lax True False Unknown = refl
three Lax True Unknown True = refl
three Lax True Unknown False = refl
three Lax True Unknown Unknown = refl
three Lax False True True = refl
three Lax False True False = refl
three Lax False True Unknown = refl
three Lax False False True = refl
three Lax False False False = refl
three Lax False False Unknown = refl
three Lax False Unknown True = refl
three Lax False Unknown False = refl
three Lax False Unknown Unknown = refl
three Lax Unknown True True = refl
three Lax Unknown True False = refl
three Lax Unknown True Unknown = refl
three Lax Unknown False True = refl
three Lax Unknown False False = refl
three Lax Unknown False Unknown = refl
three Lax Unknown Unknown True = refl
three Lax Unknown Unknown False = refl
three Lax Unknown Unknown Unknown = refl
three Strict True True True = refl
three Strict True True False = refl
three Strict True True Unknown = refl
three Strict True False True = refl
three Strict True False False = refl
three Strict True False Unknown = refl
three Strict True Unknown True = refl
three Strict True Unknown False = refl
three Strict True Unknown Unknown = refl
three Strict False True True = refl
three Strict False True False = refl
three Strict False True Unknown = refl
three Strict False False True = refl
three Strict False False False = refl
three Strict False False Unknown = refl
three Strict False Unknown True = refl
three Strict False Unknown False = refl
three Strict False Unknown Unknown = refl
three Strict Unknown True True = refl
three Strict Unknown True False = refl
three Strict Unknown True Unknown = refl
three Strict Unknown False True = refl
three Strict Unknown False False = refl
three Strict Unknown False Unknown = refl
three Strict Unknown Unknown True = refl
three Strict Unknown Unknown False = refl
three Strict Unknown Unknown Unknown = refl

-- one list of truths after the other
both_lists : (mode : Mode) (ts us : List Truth)
    → some_passes mode (ts ++ us) ≡ either_in mode (some_passes mode ts) (some_passes mode us)
both_lists Lax [] us = refl
both_lists Strict [] us = sym (none_first Strict (some_passes Strict us))
both_lists mode (t ∷ ts) us =
    first_of mode t (ts ++ us)
    ∙ ap (either_in mode t) (both_lists mode ts us)
    ∙ sym (three mode t (some_passes mode ts) (some_passes mode us))
    ∙ ap (λ x. either_in mode x (some_passes mode us)) (sym (first_of mode t ts))

settled : (mode : Mode) (t u : Truth) → settles mode t ≡ true → either_in mode t u ≡ t
settled Lax True u h = refl
settled Lax False u h = absurd (cc)
settled Lax Unknown u h = absurd (cc)
settled Strict Unknown u h = refl
settled Strict True u h = absurd (cc)
settled Strict False u h = absurd (cc)

nothing_after : (mode : Mode) (t : Truth) → either_in mode t False ≡ t
nothing_after Lax True = refl
nothing_after Lax False = refl
nothing_after Lax Unknown = refl
nothing_after Strict True = refl
nothing_after Strict False = refl
nothing_after Strict Unknown = refl

nothing_passes : (mode : Mode) → False ≡ some_passes mode []
nothing_passes Lax = refl
nothing_passes Strict = refl

-- ---- a walk over one list

module _ (mode : Mode) (first : List Truth) (t : Truth) (rest : List Truth)
    (split : first ≡ t ∷ rest) where
  pub truth_on : (whole so_far : Truth) → either_in mode so_far (some_passes mode first) ≡ whole
      → either_in mode (either_in mode so_far t) (some_passes mode rest) ≡ whole
  truth_on whole so_far h =
      three mode so_far t (some_passes mode rest)
      ∙ ap (either_in mode so_far) (sym (first_of mode t rest)
      ∙ ap (some_passes mode) (sym split))
      ∙ h

-- ---- rows

pub truth_start : (mode : Mode) (ts : List Truth)
    → either_in mode False (some_passes mode ts) ≡ some_passes mode ts
truth_start mode ts = none_first mode (some_passes mode ts)

-- the truth so far settles the whole
pub truth_settled : (mode : Mode) (so_far left whole : Truth) → settles mode so_far ≡ true
    → either_in mode so_far left ≡ whole → so_far ≡ whole
truth_settled mode so_far left whole h is = sym (settled mode so_far left h) ∙ is

-- nothing is left
pub truth_end : (mode : Mode) (so_far whole : Truth) (left : List Truth) → left ≡ []
    → either_in mode so_far (some_passes mode left) ≡ whole → so_far ≡ whole
truth_end mode so_far whole left none is =
    sym (nothing_after mode so_far)
    ∙ ap (either_in mode so_far) (nothing_passes mode ∙ ap (some_passes mode) (sym none))
    ∙ is

pub row_on : (mode : Mode) (test : Tree → Truth) (all rest : List Tree) (u : Tree)
    → all ≡ u ∷ rest → (whole so_far : Truth)
    → either_in mode so_far (some_passes mode (row test all)) ≡ whole
    → either_in mode (either_in mode so_far (test u)) (some_passes mode (row test rest)) ≡ whole
row_on mode test all rest u split whole so_far h =
    truth_on mode (row test all) (test u) (row test rest) (ap (row test) split) whole so_far h

pub table_on : (mode : Mode) (test : Tree → Tree → Truth) (all rest us : List Tree) (t : Tree)
    → all ≡ t ∷ rest → (whole so_far : Truth)
    → either_in mode so_far (some_passes mode (table test all us)) ≡ whole
    → either_in mode (either_in mode so_far (some_passes mode (row (test t) us)))
    (some_passes mode (table test rest us)) ≡ whole
table_on mode test all rest us t split whole so_far h =
    three mode so_far (some_passes mode (row (test t) us)) (some_passes mode (table test rest us))
    ∙ ap (either_in mode so_far) (sym (both_lists mode (row (test t) us) (table test rest us))
    ∙ ap (λ ts. some_passes mode (table test ts us)) (sym split))
    ∙ h

-- ---- the same over slices

pub row_slice : (mode : Mode) (check : Check) (value : Tree) (xs : List Node) (x : Node)
    → 1 ≤ length xs → x ≡ get_or xs 0 x → (v w : Comparand) (t so_far next whole : Truth)
    → v ≡ comparand_of value → w ≡ comparand_of (node_tree x) → t ≡ checked_as check v w
    → next ≡ either_in mode so_far t
    → either_in mode so_far (some_passes mode (row (checked check value) (map node_tree xs)))
    ≡ whole
    → either_in mode next (some_passes mode (row (checked check value) (map node_tree (later xs))))
    ≡ whole
row_slice mode check value xs x any is v w t so_far next whole left right asked joins h =
    let rest = some_passes mode (row (checked check value) (map node_tree (later xs))) in
    let same : t ≡ checked check value (node_tree x) =
    asked ∙ (λ i. checked_as check (left i) (right i)) in
    ap (λ u. either_in mode u rest) (joins ∙ ap (either_in mode so_far) same)
    ∙ row_on mode (checked check value) (map node_tree xs) (map node_tree (later xs)) (node_tree x)
    (ap (map node_tree) (first_left xs x any is)) whole so_far h

pub table_slice : (mode : Mode) (check : Check) (us : List Tree) (xs : List Node) (x : Node)
    → 1 ≤ length xs → x ≡ get_or xs 0 x → (t so_far next whole : Truth)
    → t ≡ some_passes mode (row (checked check (node_tree x)) us) → next ≡ either_in mode so_far t
    → either_in mode so_far (some_passes mode (table (checked check) (map node_tree xs) us)) ≡ whole
    → either_in mode next (some_passes mode (table (checked check) (map node_tree (later xs)) us))
    ≡ whole
table_slice mode check us xs x any is t so_far next whole asked joins h =
    let rest = some_passes mode (table (checked check) (map node_tree (later xs)) us) in
    ap (λ u. either_in mode u rest) (joins ∙ ap (either_in mode so_far) asked)
    ∙ table_on mode (checked check) (map node_tree xs) (map node_tree (later xs)) us (node_tree x)
    (ap (map node_tree) (first_left xs x any is)) whole so_far h

pub ruleset rows = (truth_start, truth_settled, truth_end, row_on, table_on)
