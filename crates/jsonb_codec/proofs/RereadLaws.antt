-- A tree that is parsed from a printed text fits if the printed tree does.
use Rattle.std.proofs.Common.{◌≡◌, ◌≤◌, ℕ, suc, Bool, length, chars, refl, ap, ◌∙◌, arith}
use Rattle.std.proofs.Common.{length-append}
use Rattle.jsonb_value.specs.Plain.{IsPlain}
use Rattle.jsonb_value.specs.Text.{Layout, laid_out}
use Rattle.jsonb_value.specs.Tree.{Tree, boolean, number, text, array, object, Trees, no_trees}
use Rattle.jsonb_value.specs.Tree.{tree, Pairs, no_pairs, pair, count, pair_count}
use Rattle.jsonb_value.specs.WellFormed.{IsTree}
use Rattle.jsonb_value.proofs.Json.Same.{IsSame, AreSame, PairsSame}
use Rattle.jsonb_value.proofs.Json.PrintedTrees.{reread_tree}
use Rattle.jsonb_codec.specs.Doc.{type_of}
use Rattle.jsonb_codec.specs.Canon.{payload_of, Fits}
use Rattle.jsonb_codec.specs.Reread.{MeansAgain}
use Rattle.jsonb_codec.proofs.Lengths.{length-payload_of-array, length-payload_of-object}
use Rattle.jsonb_codec.proofs.TreeShapes.{payloads_of, key_payloads, value_payloads, FitsInside}
use Rattle.jsonb_codec.proofs.TreeShapes.{AllFit, PairsFit, Fits-parts, count-items_shapes}
use Rattle.jsonb_codec.proofs.TreeShapes.{count-pairs_shapes}

type_of-IsSame : (u t : Tree) → IsSame u t → type_of u ≡ type_of t
type_of-IsSame (boolean a) (boolean b) s = ap (λ (c : Bool). type_of (boolean c)) s
type_of-IsSame u t s = grind arith

count-AreSame : (us ts : Trees) → AreSame us ts → count us ≡ count ts
count-AreSame no_trees no_trees s = refl
count-AreSame (tree u us) (tree t ts) s = ap suc (count-AreSame us ts s.1)
count-AreSame us ts s = absurd s

pair_count-PairsSame : (qs ps : Pairs) → PairsSame qs ps → pair_count qs ≡ pair_count ps
pair_count-PairsSame no_pairs no_pairs s = refl
pair_count-PairsSame (pair l u qs) (pair k t ps) s = ap suc (pair_count-PairsSame qs ps s.1.1)
pair_count-PairsSame qs ps s = absurd s

key_payloads-PairsSame : (qs ps : Pairs) → PairsSame qs ps
    → length (key_payloads qs) ≡ length (key_payloads ps)
key_payloads-PairsSame no_pairs no_pairs s = refl
key_payloads-PairsSame (pair l u qs) (pair k t ps) s =
    omega (arith, ap length s.0, key_payloads-PairsSame qs ps s.1.1, length-append {A = ℕ})
key_payloads-PairsSame qs ps s = absurd s

-- its payload is no longer
mutual
  shorter : (u t : Tree) → IsSame u t → length (payload_of u) ≤ length (payload_of t)
  shorter (number x) (number y) s = s.shorter
  shorter (text a) (text b) s = omega (arith, ap length s)
  shorter (array us) (array ts) s =
      omega (arith, length-payload_of-array, count-AreSame us ts s, all_shorter us ts s)
  shorter (object qs) (object ps) s = omega (
    arith,
    length-payload_of-object,
    pair_count-PairsSame qs ps s,
    key_payloads-PairsSame qs ps s,
    pairs_shorter qs ps s,
  )
  shorter u t s = grind arith

  all_shorter : (us ts : Trees) → AreSame us ts → length (payloads_of us) ≤ length (payloads_of ts)
  all_shorter no_trees no_trees s = omega arith
  all_shorter (tree u us) (tree t ts) s =
      omega (arith, shorter u t s.0, all_shorter us ts s.1, length-append {A = ℕ})
  all_shorter us ts s = absurd s

  pairs_shorter : (qs ps : Pairs) → PairsSame qs ps
      → length (value_payloads qs) ≤ length (value_payloads ps)
  pairs_shorter no_pairs no_pairs s = omega arith
  pairs_shorter (pair l u qs) (pair k t ps) s =
      omega (arith, shorter u t s.1.0, pairs_shorter qs ps s.1.1, length-append {A = ℕ})
  pairs_shorter qs ps s = absurd s

mutual
  inside_too : (u t : Tree) → IsSame u t → FitsInside t → FitsInside u
  inside_too (array us) (array ts) s h =
      let before = count-items_shapes us in
      let after = count-items_shapes ts in
      (omega (arith, h.0, count-AreSame us ts s, before, after), all_too us ts s h.1)
  inside_too (object qs) (object ps) s h =
      let before = count-pairs_shapes qs in
      let after = count-pairs_shapes ps in
      (omega (arith, h.0, pair_count-PairsSame qs ps s, before, after), pairs_too qs ps s h.1)
  inside_too u t s h = grind arith

  all_too : (us ts : Trees) → AreSame us ts → AllFit ts → AllFit us
  all_too no_trees no_trees s h = tt
  all_too (tree u us) (tree t ts) s h = (
    (h.0.0, (inside_too u t s.0 h.0.1.0, omega (arith, h.0.1.1, shorter u t s.0))),
    all_too us ts s.1 h.1,
  )
  all_too us ts s h = absurd s

  pairs_too : (qs ps : Pairs) → PairsSame qs ps → PairsFit ps → PairsFit qs
  pairs_too no_pairs no_pairs s h = tt
  pairs_too (pair l u qs) (pair k t ps) s h = (
    (
      omega (arith, h.0.0, ap length s.0),
      (inside_too u t s.1.0 h.0.1.0, omega (arith, h.0.1.1, shorter u t s.1.0)),
    ),
    pairs_too qs ps s.1.1 h.1,
  )
  pairs_too qs ps s h = absurd s

Fits-IsSame : (u t : Tree) → IsSame u t → Fits t → Fits u
Fits-IsSame u t s h =
    let parts = (Fits-parts t).0 h in
    (Fits-parts u).1 (record {
      inside = inside_too u t s parts.inside;
      short = λ other.
          omega (arith, shorter u t s, parts.short (λ e. other (type_of-IsSame u t s ∙ e)));
    })

-- The text of a tree without extension values means a tree that fits and compares Equal to it.
pub reread_text : (l : Layout) (t : Tree) → IsTree t → IsPlain t → Fits t
    → MeansAgain (chars (laid_out l t)) t
reread_text l t ok plain fits =
    let read = reread_tree l t ok plain in
    record {
      again = read.tree_is;
      is_tree = read.is_tree;
      fits = Fits-IsSame read.tree_is t read.is_same fits;
      is_meant = read.is_meant;
      is_equal = read.is_equal;
    }
