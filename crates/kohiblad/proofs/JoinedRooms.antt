-- How many bytes two trees take together, and how many the steps of a path may add.
use Rattle.std.proofs.Common.{◌≡◌, ℕ, ◌+◌, ◌*◌, ◌≤◌, List, [], ◌∷◌, length, refl, ap, map, inl, inr}
use Rattle.std.proofs.Common.{arith, length-append, Option, None, Some, ℤ, pos, negsuc, Bool, true}
use Rattle.std.proofs.Common.{false}
use Rattle.std.specs.Prelude.{◌-◌, ◌^◌, ◌==◌, if◌then◌else◌}
use Rattle.std.specs.Ordering.{nat_cmp}
use Rattle.std.specs.Cmp.Lexicographic.{slice_cmp}
use Rattle.std.specs.declared.cmp.Ordering.{Ordering}
use Rattle.std.specs.declared.cmp.Ordering.TheVariants.{Less, Equal, Greater}
use Rattle.jsonb_value.specs.declared.number.Number.TheVariants.{Int64, UInt64, Decimal64}
use Rattle.jsonb_value.specs.declared.number.Number.TheVariants.{Decimal128}
use Rattle.jsonb_value.specs.Tree.{Tree, null, boolean, number, text, extension, array, object}
use Rattle.jsonb_value.specs.Tree.{Trees, no_trees, tree, Pairs, no_pairs, pair, count}
use Rattle.jsonb_codec.specs.Canon.{canon}
use Rattle.jsonb_codec.specs.Doc.{Doc, Payload, Children, type_of}
use Rattle.jsonb_functions.specs.Joined.{put_beside, with_key, merged, items_or_one, append_trees, joined}
use Rattle.jsonb_functions.specs.StoredPath.{StepView, key, index, past_end, step_view, step_to}
use Rattle.jsonb_functions.specs.StoredPath.{step_in, step_then, steps_in, path_in, stored_index}
use Rattle.jsonb_functions.specs.declared.path.Step.{Step}
use Rattle.jsonb_functions.specs.declared.path.Step.TheVariants.{Key, Index, FromEnd, End}
use Rattle.kohiblad.proofs.Rooms.{room, rooms, pair_rooms, path_room}
use Rattle.jsonb_codec.proofs.Words.{length-word-append}
use Rattle.kohiblad.proofs.StoredRooms.{written_room}

beside_room : (o : Ordering) (k : List ℕ) (u : Tree) (j : List ℕ) (t : Tree) (ps later : Pairs)
    → pair_rooms later ≤ pair_rooms ps + (4 + length k + room u)
    → pair_rooms (put_beside o k u j t ps later) ≤ pair_rooms (pair j t ps) + (4 + length k + room u)
beside_room Less k u j t ps later h = omega (arith, h)
beside_room Equal k u j t ps later h = omega arith
beside_room Greater k u j t ps later h = omega arith

with_room : (k : List ℕ) (u : Tree) (ps : Pairs)
    → pair_rooms (with_key k u ps) ≤ pair_rooms ps + (4 + length k + room u)
with_room k u no_pairs = omega arith
with_room k u (pair j t ps) =
    beside_room (slice_cmp nat_cmp j k) k u j t ps (with_key k u ps) (with_room k u ps)

merged_room : (ps qs : Pairs) → pair_rooms (merged ps qs) ≤ pair_rooms ps + pair_rooms qs
merged_room ps no_pairs = omega arith
merged_room ps (pair k u qs) = omega (arith, with_room k u (merged ps qs), merged_room ps qs)

append_room : (ts us : Trees) → rooms (append_trees ts us) ≡ rooms ts + rooms us
append_room no_trees us = omega arith
append_room (tree t ts) us = omega (arith, append_room ts us)

one_room : (t : Tree) → rooms (items_or_one t) ≤ room t
one_room (array ts) = omega arith
one_room t = omega arith

array_room : (t u : Tree)
    → length (canon (array (append_trees (items_or_one t) (items_or_one u)))) ≤ room t + room u + 4
array_room t u =
    omega (
      arith,
      written_room (array (append_trees (items_or_one t) (items_or_one u))),
      append_room (items_or_one t) (items_or_one u),
      one_room t,
      one_room u,
    )

pub joined_room : (t u : Tree) → length (canon (joined t u)) ≤ room t + room u + 4
joined_room (object ps) (object qs) =
    omega (arith, written_room (object (merged ps qs)), merged_room ps qs)
joined_room t u = array_room t u

-- what the steps of a path may add, by what they are
abbrev view_room : StepView → ℕ
view_room (key k) = 12 + length k
view_room s = 12

abbrev views_room : List StepView → ℕ
views_room [] = 0
views_room (s ∷ path) = view_room s + views_room path

viewed : (path : List Step) → path_room path ≡ views_room (map step_view path)
viewed [] = refl
viewed (Key k ∷ path) = omega (arith, viewed path)
viewed (Index i ∷ path) = omega (arith, viewed path)
viewed (FromEnd i ∷ path) = omega (arith, viewed path)
viewed (End ∷ path) = omega (arith, viewed path)

to_room : (z : ℤ) → view_room (step_to z) ≡ 12
to_room (pos n) = refl
to_room (negsuc n) = refl

either_room : (is_greatest : Bool) (n : ℕ)
    → view_room (if is_greatest then past_end else index n) ≡ 12
either_room true n = refl
either_room false n = refl

index_room : (n : ℕ) → view_room (stored_index n) ≡ 12
index_room n = either_room (n == 2 ^ 64 - 1) n

step_len : (t : Tree) (p : List ℕ) (s : StepView) → Payload t p → step_in t ≡ Some s
    → view_room s ≤ 3 * (4 + length p)
step_len (text k) p s h e = let same : key k ≡ s = cc in
    omega (arith, ap view_room same, ap length h.0)
step_len (number (UInt64 n)) p s h e = let same : stored_index n ≡ s = cc in
    omega (arith, ap view_room same, index_room n)
step_len (number (Int64 z)) p s h e = let same : step_to z ≡ s = cc in
    omega (arith, ap view_room same, to_room z)
step_len (number (Decimal64 d)) p s h e = absurd cc
step_len (number (Decimal128 d)) p s h e = absurd cc
step_len null p s h e = absurd cc
step_len (boolean b) p s h e = absurd cc
step_len (extension x) p s h e = absurd cc
step_len (array ts) p s h e = absurd cc
step_len (object ps) p s h e = absurd cc

then_len : (o : Option StepView) (q : Option (List StepView)) (vs : List StepView) (m n : ℕ)
    → step_then o q ≡ Some vs
    → ((s : StepView) → o ≡ Some s → view_room s ≤ 3 * m)
    → ((r : List StepView) → q ≡ Some r → views_room r ≤ 3 * n) → views_room vs ≤ 3 * (m + n)
then_len (Some s) (Some r) vs m n e first others =
    let same : s ∷ r ≡ vs = cc in
    omega (arith, ap views_room same, first s refl, others r refl)
then_len (Some s) None vs m n e first others = absurd cc
then_len None q vs m n e first others = absurd cc

steps_len : (ts : Trees) (e p : List ℕ) (vs : List StepView) → Children ts e p
    → steps_in ts ≡ Some vs → views_room vs ≤ 3 * (length e + length p)
steps_len no_trees e p vs h is =
    let same : [] ≡ vs = cc in omega (arith, ap views_room same)
steps_len (tree t ts) e p vs h is =
    let all = then_len (step_in t) (steps_in ts) vs (4 + length h.payload)
    (length h.other_entries + length h.other_payloads) is
    (λ s one. step_len t h.payload s h.means one)
    (λ r more. steps_len ts h.other_entries h.other_payloads r h.others more) in
    omega (
      arith,
      all,
      ap length h.entries_are,
      ap length h.payloads_are,
      length-word-append (type_of t + length h.payload) h.other_entries,
      length-append h.payload h.other_payloads,
    )

-- The path that a document gives adds at most three times its bytes.
pub given_path_room : (b : List ℕ) (p : Tree) (steps : List Step) (vs : List StepView) → Doc b p
    → path_in p ≡ Some vs → map step_view steps ≡ vs → path_room steps + 12 ≤ 3 * length b
given_path_room b (array ts) steps vs (inr (is, h)) e same =
    let all = steps_len ts h.later.entries h.later.payloads vs h.later.items e in
    omega (
      arith,
      viewed steps,
      ap views_room same,
      all,
      ap length h.parts,
      ap length h.later.parts,
      length-word-append (2147483648 + count ts) h.rest,
      length-append h.later.entries h.later.payloads,
    )
given_path_room b (array ts) steps vs (inl (other, h)) e same = absurd (other refl)
given_path_room b null steps vs h e same = absurd cc
given_path_room b (boolean v) steps vs h e same = absurd cc
given_path_room b (number x) steps vs h e same = absurd cc
given_path_room b (text s) steps vs h e same = absurd cc
given_path_room b (extension x) steps vs h e same = absurd cc
given_path_room b (object ps) steps vs h e same = absurd cc
