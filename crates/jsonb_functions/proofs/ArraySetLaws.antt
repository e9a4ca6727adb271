-- Counting equal items, and the items that are kept by their counts.
use Rattle.std.proofs.Common.{◌≡◌, ◌+◌, ◌-◌, ◌≤◌, ℕ, suc, List, [], ◌∷◌, ◌++◌, refl, sym, ap}
use Rattle.std.proofs.Common.{◌∙◌, ◌<◌, Bool, true, false, arith, nat_lt, get_or, drop, add-one}
use Rattle.std.proofs.Common.{drop-cons, length, zero}
use Rattle.std.proofs.lemmas.List.{drop_all}
use mathlib.Core.Bool.{beq}
use Rattle.std.specs.Prelude.{not, if◌then◌else◌, ◌==◌, Some, unwrap_or}
use Rattle.std.specs.Map.{lookup}
use Rattle.std.specs.Cmp.{IsEquivalence}
use Rattle.std.proofs.lemmas.Bool.{ltb-true, ltb-false, lt-ltb, le-ltb}
use Rattle.std.proofs.lemmas.Cmp.{eq_by_cmp_equiv}
use Rattle.jsonb_value.proofs.TreeLaws.{tree_cmp_total}
use Rattle.jsonb_value.specs.Tree.{Tree, Trees, no_trees, tree, count, null, boolean, number, text}
use Rattle.jsonb_value.specs.Tree.{extension, array, object, Pairs}
use Rattle.jsonb_codec.specs.declared.constants.TheConstants.{CONTAINER_TAG}
use Rattle.jsonb_codec.specs.declared.parts.Part.{Part}
use Rattle.jsonb_codec.specs.Doc.{type_of}
use Rattle.jsonb.specs.declared.node.Node.{Node}
use Rattle.jsonb.specs.EntryTrees.{part_tree}
use Rattle.jsonb.specs.Node.{node_tree}
use Rattle.jsonb_functions.specs.ArraySets.{are_equal, distinct_items, equals, is_first, is_matched}
use Rattle.jsonb_functions.specs.ArraySets.{items_by_counts, matched_items, some_shared}
use Rattle.jsonb_functions.specs.ChosenSource.{listed_trees}
use Rattle.jsonb_functions.specs.ItemCounts.{equals_count, CountsEquals, SetsEqualsCount}
use Rattle.jsonb_functions.specs.Joined.{append_trees, items_or_one}

equal_laws : IsEquivalence are_equal
equal_laws = eq_by_cmp_equiv tree_cmp_total

-- Equal values have the same equals.
pub equals_same : (t u : Tree) (ts : Trees) → are_equal t u ≡ true → equals t ts ≡ equals u ts
equals_same t u no_trees e = refl
equals_same t u (tree v ts) e = rw (equal_laws.congr t u v e, equals_same t u ts e) refl

pub equals_bound : (t : Tree) (ts : Trees) → equals t ts ≤ count ts
equals_bound t no_trees = omega arith
equals_bound t (tree u ts) = more (are_equal t u) (equals_bound t ts) where
  more : (b : Bool) → equals t ts ≤ count ts
      → (if b then suc (equals t ts) else equals t ts) ≤ suc (count ts)
  more true h = omega arith
  more false h = omega arith

-- The count of a value's equals is raised when the value is passed.
pub raised_counts : (old new : List (Node × ℕ)) (node : Node) (t : Tree) (before : Trees)
    → node_tree node ≡ t → CountsEquals old before
    → SetsEqualsCount old new node (suc (equals_count old node)) → CountsEquals new (tree t before)
raised_counts old new node t before is counted sets x =
    rw (← is) (case (are_equal (node_tree node) (node_tree x)) refl)
  where
    case : (b : Bool) → are_equal (node_tree node) (node_tree x) ≡ b
        → equals_count new x ≡ equals (node_tree x) (tree (node_tree node) before)
    case true same =
        let back : are_equal (node_tree x) (node_tree node) ≡ true =
        equal_laws.symm (node_tree x) (node_tree node) ∙ same in
        let raised : equals_count new x ≡ suc (equals_count old node) = sets x ∙ rw same refl in
        raised ∙ ap suc (counted node ∙ equals_same (node_tree node) (node_tree x) before same)
        ∙ sym (rw back refl)
    case false other =
        let back : are_equal (node_tree x) (node_tree node) ≡ false =
        equal_laws.symm (node_tree x) (node_tree node) ∙ other in
        let kept : equals_count new x ≡ equals_count old x = sets x ∙ rw other refl in
        kept ∙ counted x ∙ sym (rw back refl)

-- What is left of the counts of some items, where others took one each.
abbrev pub AreLeft : List (Node × ℕ) → Trees → Trees → Type 0
AreLeft counts us before = (x : Node)
    → equals_count counts x ≡ equals (node_tree x) us - equals (node_tree x) before

pub all_left : (counts : List (Node × ℕ)) (us : Trees) → CountsEquals counts us
    → AreLeft counts us no_trees
all_left counts us h x = omega (arith, h x)

pub lowered_counts : (old new : List (Node × ℕ)) (node : Node) (t : Tree) (us before : Trees)
    → node_tree node ≡ t → AreLeft old us before
    → SetsEqualsCount old new node (equals_count old node - 1) → AreLeft new us (tree t before)
lowered_counts old new node t us before is left sets x =
    rw (← is) (case (are_equal (node_tree node) (node_tree x)) refl)
  where
    case : (b : Bool) → are_equal (node_tree node) (node_tree x) ≡ b
        → equals_count new x
        ≡ equals (node_tree x) us - equals (node_tree x) (tree (node_tree node) before)
    case true same =
        let back : are_equal (node_tree x) (node_tree node) ≡ true =
        equal_laws.symm (node_tree x) (node_tree node) ∙ same in
        let lowered : equals_count new x ≡ equals_count old node - 1 = sets x ∙ rw same refl in
        let more : equals (node_tree x) (tree (node_tree node) before)
        ≡ suc (equals (node_tree x) before) = rw back refl in
        omega (
          arith,
          lowered,
          left node,
          more,
          equals_same (node_tree node) (node_tree x) us same,
          equals_same (node_tree node) (node_tree x) before same,
        )
    case false other =
        let back : are_equal (node_tree x) (node_tree node) ≡ false =
        equal_laws.symm (node_tree x) (node_tree node) ∙ other in
        let kept : equals_count new x ≡ equals_count old x = sets x ∙ rw other refl in
        kept ∙ left x ∙ sym (rw back refl)

-- Something is left exactly if fewer took one.
pub some_left : (a b : ℕ) → nat_lt 0 (a - b) ≡ nat_lt b a
some_left a b = case (nat_lt b a) refl where
  case : (r : Bool) → nat_lt b a ≡ r → nat_lt 0 (a - b) ≡ r
  case true e = lt-ltb 0 (a - b) (omega (arith, ltb-true b a e))
  case false e = le-ltb 0 (a - b) (omega (arith, ltb-false b a e))

pub matched_by : (m r : Bool) (a b : ℕ) → r ≡ nat_lt a b → is_matched m a b ≡ beq r m
matched_by true true a b e = sym e
matched_by true false a b e = sym e
matched_by false true a b e = ap not (sym e)
matched_by false false a b e = ap not (sym e)

-- One more part at the end of a list.
pub append_listed : (list : List Part) (part : Part) (ts : Trees)
    → append_trees (listed_trees (list ++ part ∷ [])) ts
    ≡ append_trees (listed_trees list) (tree (part_tree part) ts)
append_listed [] part ts = refl
append_listed (p ∷ list) part ts = ap (λ us. tree (part_tree p) us) (append_listed list part ts)

pub append_nothing : (ts : Trees) → append_trees ts no_trees ≡ ts
append_nothing no_trees = refl
append_nothing (tree t ts) = ap (λ us. tree t us) (append_nothing ts)

-- The first of the parts that are left.
pub next_listed : (items : List Part) (i : ℕ) (part : Part) → i < length items
    → part ≡ get_or items i part → listed_trees (drop i items)
    ≡ tree (part_tree part) (listed_trees (drop (i + 1) items))
next_listed items i part low is = rw add-one (ap listed_trees (drop-cons items i part low)
    ∙ ap (λ p. tree (part_tree p) (listed_trees (drop (suc i) items))) (sym is))

-- ---- counting items

-- The first items are counted, and with those that are left they are all.
abbrev pub AreCounted : List (Node × ℕ) → List Part → ℕ → Type 0
AreCounted counts items i = (before : Trees) × (CountsEquals counts before × ((count before ≡ i)
    × ((t : Tree) → equals t before + equals t (listed_trees (drop i items))
    ≡ equals t (listed_trees items))))

counted_further : (u t : Tree) (before rest : Trees)
    → equals u (tree t before) + equals u rest ≡ equals u before + equals u (tree t rest)
counted_further u t before rest = case (are_equal u t) (equals u before) (equals u rest) where
  case : (b : Bool) (m n : ℕ) → (if b then suc m else m) + n ≡ m + (if b then suc n else n)
  case true m n = omega arith
  case false m n = omega arith

pub counted_none : (counts : List (Node × ℕ)) (items : List Part) → counts ≡ []
    → AreCounted counts items 0
counted_none counts items e = (no_trees, ((λ x. rw e refl), (refl, (λ t. omega arith))))

pub counted_next : (old new : List (Node × ℕ)) (items : List Part) (i : ℕ) (part : Part)
    (node : Node) → i < length items → part ≡ get_or items i part
    → node_tree node ≡ part_tree part → AreCounted old items i
    → SetsEqualsCount old new node (suc (equals_count old node)) → AreCounted new items (i + 1)
counted_next old new items i part node low is means h sets =
    let (before, (counted, (n, all))) = h in
    let t = part_tree part in
    let rest = listed_trees (drop (i + 1) items) in (
      tree t before,
      (
        raised_counts old new node t before means counted sets,
        (
          omega (arith, n),
          λ u. counted_further u t before rest
              ∙ ap (λ ts. equals u before + equals u ts) (sym (next_listed items i part low is))
              ∙ all u,
        ),
      ),
    )

pub counted_few : (counts : List (Node × ℕ)) (items : List Part) (i : ℕ) (node : Node)
    → AreCounted counts items i → equals_count counts node ≤ i
counted_few counts items i node h =
    let (before, (counted, (n, all))) = h in
    omega (arith, n, counted node, equals_bound (node_tree node) before)

pub counted_all : (counts : List (Node × ℕ)) (items : List Part) (i : ℕ) → length items ≤ i
    → AreCounted counts items i → CountsEquals counts (listed_trees items)
counted_all counts items i done h x =
    let (before, (counted, (n, all))) = h in
    let u = node_tree x in
    omega (
      arith,
      counted x,
      all u,
      ap (λ ps. equals u (listed_trees ps)) (drop_all i items done),
    )

-- ---- choosing items

-- The items that are chosen of those that are left come after those in the list.
abbrev pub AreChosen : (ℕ → ℕ → Bool) → Trees → List Part → List Part → ℕ → Trees → Type 0
AreChosen test us list items i before =
    append_trees (listed_trees list) (items_by_counts test before (listed_trees (drop i items)) us)
    ≡ items_by_counts test no_trees (listed_trees items) us

chosen_or_not : (b : Bool) (list : List Part) (part : Part) (ts : Trees)
    → append_trees (listed_trees (if b then list ++ part ∷ [] else list)) ts
    ≡ append_trees (listed_trees list) (if b then tree (part_tree part) ts else ts)
chosen_or_not true list part ts = append_listed list part ts
chosen_or_not false list part ts = refl

pub chosen_next : (test : ℕ → ℕ → Bool) (us : Trees) (list new items : List Part) (i : ℕ)
    (before : Trees) (part : Part) (b : Bool) → i < length items → part ≡ get_or items i part
    → test (equals (part_tree part) before) (equals (part_tree part) us) ≡ b
    → new ≡ (if b then list ++ part ∷ [] else list) → AreChosen test us list items i before
    → AreChosen test us new items (i + 1) (tree (part_tree part) before)
chosen_next test us list new items i before part b low is passes more h =
    let t = part_tree part in
    let rest = items_by_counts test (tree t before) (listed_trees (drop (i + 1) items)) us in
    ap (λ ps. append_trees (listed_trees ps) rest) more ∙ chosen_or_not b list part rest
    ∙ ap (λ c. append_trees (listed_trees list) (if c then tree t rest else rest)) (sym passes)
    ∙ ap (λ ts. append_trees (listed_trees list) (items_by_counts test before ts us))
    (sym (next_listed items i part low is)) ∙ h

pub chosen_all : (test : ℕ → ℕ → Bool) (us : Trees) (list items : List Part) (i : ℕ)
    (before : Trees) → length items ≤ i → AreChosen test us list items i before
    → listed_trees list ≡ items_by_counts test no_trees (listed_trees items) us
chosen_all test us list items i before done h =
    sym (ap (λ ps. append_trees (listed_trees list)
    (items_by_counts test before (listed_trees ps) us)) (drop_all i items done)
    ∙ append_nothing (listed_trees list)) ∙ h

-- The distinct items so far, with the counts of all items so far.
abbrev pub AreDistinct : List (Node × ℕ) → List Part → List Part → ℕ → Type 0
AreDistinct counts list items i = (before : Trees) × (CountsEquals counts before
    × ((count before ≡ i) × AreChosen is_first no_trees list items i before))

pub distinct_none : (counts : List (Node × ℕ)) (list items : List Part) → counts ≡ [] → list ≡ []
    → AreDistinct counts list items 0
distinct_none counts list items e f = (
  no_trees,
  (
    (λ x. rw e refl),
    (
      refl,
      ap (λ ps. append_trees (listed_trees ps)
          (items_by_counts is_first no_trees (listed_trees items) no_trees)) f,
    ),
  ),
)

pub distinct_few : (counts : List (Node × ℕ)) (list items : List Part) (i : ℕ) (node : Node)
    → AreDistinct counts list items i → equals_count counts node ≤ i
distinct_few counts list items i node h =
    let (before, (counted, (n, chosen))) = h in
    omega (arith, n, counted node, equals_bound (node_tree node) before)

pub distinct_next : (old new : List (Node × ℕ)) (list next items : List Part) (i : ℕ)
    (part : Part) (node : Node) (n : ℕ) → i < length items → part ≡ get_or items i part
    → node_tree node ≡ part_tree part → AreDistinct old list items i → n ≡ equals_count old node
    → SetsEqualsCount old new node (suc (equals_count old node))
    → next ≡ (if n == 0 then list ++ part ∷ [] else list) → AreDistinct new next items (i + 1)
distinct_next old new list next items i part node n low is means h same sets more =
    let (before, (counted, (m, chosen))) = h in
    let t = part_tree part in
    let seen : equals t before ≡ n = ap (λ u. equals u before) (sym means) ∙ sym (counted node)
    ∙ sym same in (
      tree t before,
      (
        raised_counts old new node t before means counted sets,
        (
          omega (arith, m),
          chosen_next is_first no_trees list next items i before part (n == 0) low is
              (ap (λ k. k == 0) seen) more chosen,
        ),
      ),
    )

pub distinct_all : (counts : List (Node × ℕ)) (list items : List Part) (i : ℕ)
    → length items ≤ i → AreDistinct counts list items i
    → listed_trees list ≡ distinct_items (listed_trees items)
distinct_all counts list items i done h =
    let (before, (counted, (n, chosen))) = h in
    chosen_all is_first no_trees list items i before done chosen

-- The matched items so far, with what is left of the counts of the others.
abbrev pub AreMatched : Bool → Trees → List (Node × ℕ) → List Part → List Part → ℕ → Type 0
AreMatched m us counts list items i = (before : Trees) × (AreLeft counts us before
    × AreChosen (is_matched m) us list items i before)

pub matched_none : (m : Bool) (us : Trees) (counts : List (Node × ℕ)) (list items : List Part)
    → CountsEquals counts us → list ≡ [] → AreMatched m us counts list items 0
matched_none m us counts list items counted e = (
  no_trees,
  (
    all_left counts us counted,
    ap (λ ps. append_trees (listed_trees ps)
        (items_by_counts (is_matched m) no_trees (listed_trees items) us)) e,
  ),
)

pub matched_next : (m : Bool) (us : Trees) (old new : List (Node × ℕ)) (list next items : List Part)
    (i : ℕ) (part : Part) (node : Node) (r : Bool) → i < length items
    → part ≡ get_or items i part → node_tree node ≡ part_tree part
    → AreMatched m us old list items i → r ≡ nat_lt 0 (equals_count old node)
    → SetsEqualsCount old new node (equals_count old node - 1)
    → next ≡ (if beq r m then list ++ part ∷ [] else list)
    → AreMatched m us new next items (i + 1)
matched_next m us old new list next items i part node r low is means h was sets more =
    let (before, (left, chosen)) = h in
    let t = part_tree part in
    let there : r ≡ nat_lt (equals t before) (equals t us) = was ∙ ap (nat_lt 0) (left node)
    ∙ some_left (equals (node_tree node) us) (equals (node_tree node) before)
    ∙ ap (λ u. nat_lt (equals u before) (equals u us)) means in (
      tree t before,
      (
        lowered_counts old new node t us before means left sets,
        chosen_next (is_matched m) us list next items i before part (beq r m) low is
            (matched_by m r (equals t before) (equals t us) there) more chosen,
      ),
    )

pub matched_all : (m : Bool) (us : Trees) (counts : List (Node × ℕ)) (list items : List Part)
    (i : ℕ) → length items ≤ i → AreMatched m us counts list items i
    → listed_trees list ≡ matched_items m (listed_trees items) us
matched_all m us counts list items i done h =
    let (before, (left, chosen)) = h in
    chosen_all (is_matched m) us list items i before done chosen

-- No item that was passed has an equal.
pub shared_next : (us : Trees) (counts : List (Node × ℕ)) (items : List Part) (i : ℕ) (part : Part)
    (node : Node) → i < length items → part ≡ get_or items i part
    → node_tree node ≡ part_tree part → CountsEquals counts us → equals_count counts node ≤ 0
    → some_shared (listed_trees (drop i items)) us
    ≡ some_shared (listed_trees (drop (i + 1) items)) us
shared_next us counts items i part node low is means counted none =
    let zero_there : equals (part_tree part) us ≤ 0 =
    omega (arith, counted node, ap (λ t. equals t us) means) in
    ap (λ ts. some_shared ts us) (next_listed items i part low is)
    ∙ rw (le-ltb 0 (equals (part_tree part) us) zero_there) refl

pub shared_found : (us : Trees) (counts : List (Node × ℕ)) (items : List Part) (i : ℕ) (part : Part)
    (node : Node) → i < length items → part ≡ get_or items i part
    → node_tree node ≡ part_tree part → CountsEquals counts us → 0 < equals_count counts node
    → some_shared (listed_trees (drop i items)) us ≡ true
shared_found us counts items i part node low is means counted some =
    let there : 0 < equals (part_tree part) us =
    omega (arith, counted node, ap (λ t. equals t us) means) in
    ap (λ ts. some_shared ts us) (next_listed items i part low is)
    ∙ rw (lt-ltb 0 (equals (part_tree part) us) there) refl

pub shared_none : (us : Trees) (items : List Part) (i : ℕ) → length items ≤ i
    → some_shared (listed_trees (drop i items)) us ≡ false
shared_none us items i done =
    ap (λ ps. some_shared (listed_trees ps) us) (drop_all i items done)

-- The items of a value that is not an array.
pub one_or_items : (t : Tree) → (type_of t ≡ CONTAINER_TAG → ⊥) → items_or_one t ≡ tree t no_trees
one_or_items (object ps) h = absurd (h refl)
one_or_items (array ts) h = absurd (h refl)
one_or_items null h = refl
one_or_items (boolean b) h = refl
one_or_items (number x) h = refl
one_or_items (text s) h = refl
one_or_items (extension e) h = refl

pub one_object : (t : Tree) (ps : Pairs) → t ≡ object ps → items_or_one t ≡ tree t no_trees
one_object t ps e = rw e refl

-- The items that are left when one more is in the list.
pub listed_next : (list new : List Part) (part : Part) (t : Tree) (ts others us : Trees)
    → new ≡ list ++ part ∷ [] → part_tree part ≡ t → others ≡ tree t us
    → append_trees (listed_trees list) others ≡ ts → append_trees (listed_trees new) us ≡ ts
listed_next list new part t ts others us more is are h =
    ap (λ ps. append_trees (listed_trees ps) us) more ∙ append_listed list part us
    ∙ ap (λ u. append_trees (listed_trees list) (tree u us)) is
    ∙ ap (append_trees (listed_trees list)) (sym are) ∙ h

pub listed_all : (list : List Part) (ts others : Trees) → others ≡ no_trees
    → append_trees (listed_trees list) others ≡ ts → listed_trees list ≡ ts
listed_all list ts others none h =
    sym (ap (append_trees (listed_trees list)) none ∙ append_nothing (listed_trees list)) ∙ h

-- What was matched among lists is what is matched among the trees that they mean.
pub matched_trees : (m : Bool) (list kept ps items qs others : List Part) (ts us : Trees)
    → list ≡ kept → listed_trees kept ≡ matched_items m (listed_trees ps) (listed_trees qs)
    → ps ≡ items → listed_trees items ≡ ts → qs ≡ others → listed_trees others ≡ us
    → listed_trees list ≡ matched_items m ts us
matched_trees m list kept ps items qs others ts us a b c d e f =
    ap listed_trees a ∙ b ∙ ap (λ x. matched_items m x (listed_trees qs)) (ap listed_trees c ∙ d)
    ∙ ap (matched_items m ts) (ap listed_trees e ∙ f)

-- Equal values have one count.
pub same_count : (counts : List (Node × ℕ)) (node other : Node)
    → are_equal (node_tree node) (node_tree other) ≡ true
    → equals_count counts node ≡ equals_count counts other
same_count [] node other same = refl
same_count (e ∷ es) node other same =
    rw (equal_laws.congr (node_tree node) (node_tree other) (node_tree e.0) same)
    (case (are_equal (node_tree other) (node_tree e.0)) (same_count es node other same))
  where
    case : (b : Bool) → equals_count es node ≡ equals_count es other
        → unwrap_or (if b then Some e.1 else lookup
        (λ key. are_equal (node_tree node) (node_tree key)) es) 0
        ≡ unwrap_or (if b then Some e.1 else lookup
        (λ key. are_equal (node_tree other) (node_tree key)) es) 0
    case true h = refl
    case false h = h

-- The count of a value that has none is not lowered.
pub none_set : (counts : List (Node × ℕ)) (node : Node) → equals_count counts node ≡ 0
    → SetsEqualsCount counts counts node (equals_count counts node - 1)
none_set counts node none other = case (are_equal (node_tree node) (node_tree other)) refl where
  case : (b : Bool) → are_equal (node_tree node) (node_tree other) ≡ b
      → equals_count counts other
      ≡ (if b then equals_count counts node - 1 else equals_count counts other)
  case true same = omega (arith, none, same_count counts node other same)
  case false apart = refl

pub none_left : (n : ℕ) → (1 ≤ n → ⊥) → n ≡ 0
none_left zero h = refl
none_left (suc n) h = absurd (h (omega arith))
