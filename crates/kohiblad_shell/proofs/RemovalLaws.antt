-- What is left of a document after a removal is a document.
use Rattle.std.proofs.Common.{◌≡◌, ℕ, zero, suc, List, [], ◌∷◌, refl, sym, subst, inl}
use Rattle.std.specs.Prelude.{Bool, true, false, Option, None, Some, Result, Ok, Err, IfOk, ⊤}
use Rattle.std.specs.declared.alloc.Global.{Global}
use Rattle.std.specs.declared.vec.Vec.{Vec}
use Rattle.jsonb_value.specs.declared.error.Error.{Error}
use Rattle.jsonb_value.specs.declared.error.Error.TheVariants.{InvalidJsonb, OutOfMemory}
use Rattle.jsonb_value.proofs.BigEndian.{AreBytes}
use Rattle.jsonb_value.specs.Norm.{norm}
use Rattle.jsonb_value.specs.Tree.{Tree, array, object}
use Rattle.jsonb_value.specs.Tree.{Trees, no_trees, tree, Pairs, no_pairs, pair, count, Ascends}
use Rattle.jsonb_value.specs.WellFormed.{IsTree, AreTrees, ArePairs}
use Rattle.jsonb_codec.specs.Canon.{canon, Fits}
use Rattle.jsonb_codec.specs.Doc.{IsDocument}
use Rattle.jsonb_codec.proofs.CanonLaws.{Doc-canon}
use Rattle.jsonb_codec.proofs.WellFormed.{IsTree-Doc}
use Rattle.jsonb_codec.specs.Made.{MadeIfFit}
use Rattle.jsonb.specs.declared.owned.OwnedJsonb.{OwnedJsonb}
use Rattle.jsonb.specs.Document.{tree_in}
use Rattle.jsonb.specs.Owned.{owned_bytes}
use Rattle.jsonb.proofs.DocumentLaws.{tree_in-is}
use Rattle.jsonb_functions.specs.declared.path.Step.{Step}
use Rattle.jsonb_functions.specs.declared.path.Step.TheVariants.{Key, Index, FromEnd, End}
use Rattle.jsonb_functions.specs.Path.{is_next, item_place}
use Rattle.jsonb_functions.specs.Edited.{remove, edited, edited_whole, edited_items, edited_pairs}
use Rattle.jsonb_functions.specs.EditSource.{Here, nothing, replaced, before, removed, here_at}
use Rattle.jsonb_functions.specs.EditSource.{first_done, done_after, first_pair_done}
use Rattle.jsonb_functions.specs.EditSource.{pairs_done_after, keys_before, pairs_have_key}
use Rattle.jsonb_functions.specs.MadeWithMemory.{MadeWithMemory}
use Rattle.jsonb_functions.proofs.EditLaws as edits
use Rattle.jsonb_functions.proofs.JoinLaws.{ascends_from}
use Rattle.jsonb_functions.proofs.KeyOrder.{ascend_later}
use Rattle.jsonb_rows.specs.declared.reach.Reach.{Reach}
use Rattle.jsonb_rows.specs.Each as each
use Rattle.jsonb_rows.specs.Each.{edited_each}
use Rattle.kohiblad_shell.specs.declared.input.Form.{Form}
use Rattle.kohiblad_shell.specs.Operations.{IsResultOf}
use Rattle.kohiblad_shell.specs.declared.target.Target.{Target}
use Rattle.kohiblad_shell.specs.Removals.{IsRemoved, without, without_each, without_one}

-- Nothing is inserted, and what replaces a tree is a tree.
abbrev Keeps : Here → Type 0
Keeps nothing = ⊤
Keeps (replaced f) = (t : Tree) → IsTree t → IsTree (f t)
Keeps (before v) = ⊥
Keeps removed = ⊤

removal_keeps : (items there next : Bool) (path : List Step) (f : Tree → Tree)
    → ((t : Tree) → IsTree t → IsTree (f t)) → Keeps (here_at items there next path remove f)
removal_keeps true true next [] f kept = tt
removal_keeps false true next [] f kept = tt
removal_keeps items true next (s ∷ path) f kept = kept
removal_keeps items false next path f kept = tt

first_trees : (here : Here) → Keeps here → (ts : Trees) → AreTrees ts
    → AreTrees (first_done here ts)
first_trees nothing keeps ts are = are
first_trees (before v) keeps ts are = absurd keeps
first_trees (replaced f) keeps (tree t ts) are = (keeps t are.0, are.1)
first_trees removed keeps (tree t ts) are = are.1
first_trees (replaced f) keeps no_trees are = are
first_trees removed keeps no_trees are = are

later_trees : (here : Here) → Keeps here → (n : ℕ) (ts : Trees) → AreTrees ts
    → AreTrees (done_after here n ts)
later_trees here keeps zero ts are = first_trees here keeps ts are
later_trees here keeps (suc n) (tree t ts) are = (are.0, later_trees here keeps n ts are.1)
later_trees here keeps (suc n) no_trees are = are

first_pairs : (key : List ℕ) (here : Here) → Keeps here → (ps : Pairs) → ArePairs ps
    → ArePairs (first_pair_done key here ps)
first_pairs key nothing keeps ps are = are
first_pairs key (before v) keeps ps are = absurd keeps
first_pairs key (replaced f) keeps (pair k t ps) are = (are.0, (keeps t are.1.0, are.1.1))
first_pairs key removed keeps (pair k t ps) are = are.1.1
first_pairs key (replaced f) keeps no_pairs are = are
first_pairs key removed keeps no_pairs are = are

later_pairs : (key : List ℕ) (here : Here) → Keeps here → (n : ℕ) (ps : Pairs) → ArePairs ps
    → ArePairs (pairs_done_after key here n ps)
later_pairs key here keeps zero ps are = first_pairs key here keeps ps are
later_pairs key here keeps (suc n) (pair k t ps) are =
    (are.0, (are.1.0, later_pairs key here keeps n ps are.1.1))
later_pairs key here keeps (suc n) no_pairs are = are

ascends_without : (b : Option (List ℕ)) (k : List ℕ) (t : Tree) (ps : Pairs)
    → Ascends b (pair k t ps) → Ascends b ps
ascends_without None k t ps up = ascend_later k ps up.1
ascends_without (Some j) k t ps up = ascends_from j k ps up.0 up.1

first_ascends : (key : List ℕ) (here : Here) → Keeps here → (b : Option (List ℕ)) (ps : Pairs)
    → Ascends b ps → Ascends b (first_pair_done key here ps)
first_ascends key nothing keeps b ps up = up
first_ascends key (before v) keeps b ps up = absurd keeps
first_ascends key (replaced f) keeps b (pair k t ps) up = up
first_ascends key removed keeps b (pair k t ps) up = ascends_without b k t ps up
first_ascends key (replaced f) keeps b no_pairs up = up
first_ascends key removed keeps b no_pairs up = up

later_ascends : (key : List ℕ) (here : Here) → Keeps here → (n : ℕ) (b : Option (List ℕ))
    (ps : Pairs) → Ascends b ps → Ascends b (pairs_done_after key here n ps)
later_ascends key here keeps zero b ps up = first_ascends key here keeps b ps up
later_ascends key here keeps (suc n) b (pair k t ps) up =
    (up.0, later_ascends key here keeps n (Some k) ps up.1)
later_ascends key here keeps (suc n) b no_pairs up = up

module _ (path : List Step) (f : Tree → Tree) (kept : (t : Tree) → IsTree t → IsTree (f t)) where
  items_left : (s : Step) (place : Option (ℕ × Bool)) (ts : Trees) → AreTrees ts
      → place ≡ item_place s (count ts) → AreTrees (edited_items s path remove f ts)
  items_left s None ts are e = rw (sym (edits.items_left s path remove f ts e)) are
  items_left s (Some place) ts are e =
      let next = is_next s (count ts) in
      rw (sym (edits.items_walked s path remove f ts place e))
      (later_trees (here_at true place.1 next path remove f)
      (removal_keeps true place.1 next path f kept) place.0 ts are)

  pairs_left : (s : Step) (ps : Pairs) → IsTree (object ps)
      → IsTree (object (edited_pairs s path remove f ps))
  pairs_left (Key k) ps is =
      let here = here_at false (pairs_have_key k.now ps) true path remove f in
      let keeps = removal_keeps false (pairs_have_key k.now ps) true path f kept in
      rw (sym (edits.pairs_walked k.now path remove f ps is.0)) (
        later_ascends k.now here keeps (keys_before k.now ps) None ps is.0,
        later_pairs k.now here keeps (keys_before k.now ps) ps is.1,
      )
  pairs_left (Index i) ps is = is
  pairs_left (FromEnd i) ps is = is
  pairs_left End ps is = is

edited_tree : (path : List Step) (t : Tree) → IsTree t → IsTree (edited path remove t)
edited_tree [] t is = is
edited_tree (s ∷ path) (array ts) is =
    items_left path (λ t. edited path remove t) (λ t. edited_tree path t) s
    (item_place s (count ts)) ts is refl
edited_tree (s ∷ path) (object ps) is =
    pairs_left path (λ t. edited path remove t) (λ t. edited_tree path t) s ps is
edited_tree (s ∷ path) t is = is

left_tree : (path : List Step) (t : Tree) → IsTree t → IsTree (edited_whole path remove t)
left_tree [] t is = is
left_tree (s ∷ path) t is = edited_tree (s ∷ path) t is

-- the canonical document of what is left is one
pub left_document : (path : List Step) (bytes left : List ℕ) → AreBytes bytes → IsDocument bytes
    → Fits (without_one path bytes) → left ≡ canon (without_one path bytes) → IsDocument left
left_document path bytes left are (t, means) fits is =
    let tree_is : IsTree (tree_in bytes) =
    subst IsTree (sym (tree_in-is bytes t means)) (IsTree-Doc bytes t are means) in
    let u = without_one path bytes in
    subst IsDocument (sym is)
    (norm u, Doc-canon u (left_tree path (tree_in bytes) tree_is) fits)

-- what an edit of a document that has these bytes gives
module _ (path : List Step) (seen bytes : List ℕ) (r : Result OwnedJsonb Error)
    (same : seen ≡ bytes) where
  pub left_bytes :
      IfOk r (λ left. owned_bytes left ≡ canon (edited_whole path remove (tree_in seen)))
      → IfOk r (λ left. owned_bytes left ≡ canon (without_one path bytes))
  left_bytes is =
      subst
      (λ b. IfOk r (λ left. owned_bytes left ≡ canon (edited_whole path remove (tree_in b))))
      same is

  pub left_limits : MadeIfFit (Fits (edited_whole path remove (tree_in seen))) r
      → MadeWithMemory (Fits (without_one path bytes)) r
  left_limits made =
      let here : MadeIfFit (Fits (without_one path bytes)) r =
      subst (λ b. MadeIfFit (Fits (edited_whole path remove (tree_in b))) r) same made in
      record { fits = here.fits; past = λ is. here.past.0 is; only = here.only }

pub left_is_document : (path : List Step) (bytes : List ℕ) (r : Result OwnedJsonb Error)
    → AreBytes bytes → IsDocument bytes
    → IfOk r (λ left. owned_bytes left ≡ canon (without_one path bytes))
    → MadeWithMemory (Fits (without_one path bytes)) r → IfOk r (λ left. IsDocument (owned_bytes left))
left_is_document path bytes (Ok left) are means is made =
    left_document path bytes (owned_bytes left) are means made.fits is
left_is_document path bytes (Err e) are means is made = tt

-- one more path before the others
pub removed_more : (form : Form) (path : Target) (paths : List Target)
    (bytes left : List ℕ) (r : Result (Vec ℕ Global) Error) → Fits (without path bytes)
    → left ≡ canon (without path bytes) → IsResultOf (IsRemoved form paths left) r
    → IsResultOf (IsRemoved form (path ∷ paths) bytes) r
removed_more form path paths bytes left (Ok lines) fits is done =
    inl (fits, subst (λ b. IsRemoved form paths b (Ok lines.items)) is done)
removed_more form path paths bytes left (Err InvalidJsonb) fits is done =
    inl (fits, subst (λ b. IsResultOf (IsRemoved form paths b) (Err InvalidJsonb)) is done)
removed_more form path paths bytes left (Err OutOfMemory) fits is done = tt
removed_more form path paths bytes left (Err e) fits is done = done

-- what a change at each place of a document that has these bytes gives
module _ (path : List Reach) (seen bytes : List ℕ) (r : Result OwnedJsonb Error)
    (same : seen ≡ bytes) where
  pub each_bytes :
      IfOk r (λ left. owned_bytes left ≡ canon (edited_each path each.remove (tree_in seen)))
      → IfOk r (λ left. owned_bytes left ≡ canon (without_each path bytes))
  each_bytes is =
      subst
      (λ b. IfOk r (λ left. owned_bytes left ≡ canon (edited_each path each.remove (tree_in b))))
      same is

  pub each_limits : MadeWithMemory (Fits (edited_each path each.remove (tree_in seen))) r
      → MadeWithMemory (Fits (without_each path bytes)) r
  each_limits made =
      subst (λ b. MadeWithMemory (Fits (edited_each path each.remove (tree_in b))) r) same made
