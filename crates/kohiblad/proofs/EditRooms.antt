-- How many bytes edited trees take.
use Rattle.std.proofs.Common.{◌≡◌, ℕ, zero, suc, ◌+◌, ◌≤◌, ◌&&◌, List, [], ◌∷◌, refl, sym}
use Rattle.std.proofs.Common.{length, Bool, true, false, Option, None, Some}
use Rattle.std.proofs.Common.{arith}
use Rattle.std.specs.Bool.{⊤}
use Rattle.std.specs.Prelude.{if◌then◌else◌}
use Rattle.jsonb_value.specs.Tree.{Tree, array, object}
use Rattle.jsonb_value.specs.Tree.{Trees, no_trees, tree, Pairs, no_pairs, pair, count}
use Rattle.jsonb_value.specs.WellFormed.{IsTree, AreTrees, ArePairs}
use Rattle.jsonb_functions.specs.declared.path.Step.{Step}
use Rattle.jsonb_functions.specs.declared.path.Step.TheVariants.{Key, Index, FromEnd, End}
use Rattle.jsonb_functions.specs.Path.{item_place, is_next}
use Rattle.jsonb_functions.specs.Edited.{Operation, put, create, insert, remove, wrapped, can_wrap}
use Rattle.jsonb_functions.specs.Edited.{new_child, edited, edited_whole, edited_items}
use Rattle.jsonb_functions.specs.Edited.{edited_pairs}
use Rattle.jsonb_functions.specs.EditSource.{Here, nothing, replaced, before, removed, here_last}
use Rattle.jsonb_functions.specs.EditSource.{comes, here_at, first_done, done_after}
use Rattle.jsonb_functions.specs.EditSource.{first_pair_done, pairs_done_after, keys_before}
use Rattle.jsonb_functions.specs.EditSource.{pairs_have_key}
use Rattle.jsonb_functions.proofs.EditLaws.{items_left, items_walked, pairs_walked}
use Rattle.kohiblad.proofs.Rooms.{room, rooms, pair_rooms, step_room, path_room, operation_room}

pub wrapped_room : (path : List Step) (v : Tree) → room (wrapped path v) ≤ room v + path_room path
wrapped_room [] v = omega arith
wrapped_room (Key k ∷ path) v = omega (arith, wrapped_room path v)
wrapped_room (Index i ∷ path) v = omega (arith, wrapped_room path v)
wrapped_room (FromEnd i ∷ path) v = omega (arith, wrapped_room path v)
wrapped_room (End ∷ path) v = omega (arith, wrapped_room path v)

-- What is done adds at most so many bytes to the children.
abbrev pub Adds : Here → ℕ → Type 0
Adds nothing d = ⊤
Adds (before v) d = room v ≤ d
Adds (replaced f) d = (t : Tree) → IsTree t → room (f t) ≤ room t + d
Adds removed d = ⊤

first_room : (here : Here) (ts : Trees) (d : ℕ) → Adds here d → AreTrees ts
    → rooms (first_done here ts) ≤ rooms ts + d
first_room nothing ts d h are = omega arith
first_room (before v) ts d h are = omega (arith, h)
first_room (replaced f) (tree t ts) d h are = omega (arith, h t are.0)
first_room removed (tree t ts) d h are = omega arith
first_room (replaced f) no_trees d h are = omega arith
first_room removed no_trees d h are = omega arith

done_room : (here : Here) (n : ℕ) (ts : Trees) (d : ℕ) → Adds here d → AreTrees ts
    → rooms (done_after here n ts) ≤ rooms ts + d
done_room here zero ts d h are = first_room here ts d h are
done_room here (suc n) (tree t ts) d h are = omega (arith, done_room here n ts d h are.1)
done_room here (suc n) no_trees d h are = omega arith

first_pair_room : (key : List ℕ) (here : Here) (ps : Pairs) (d : ℕ) → Adds here d → ArePairs ps
    → pair_rooms (first_pair_done key here ps) ≤ pair_rooms ps + (4 + length key + d)
first_pair_room key nothing ps d h are = omega arith
first_pair_room key (before v) ps d h are = omega (arith, h)
first_pair_room key (replaced f) (pair k t ps) d h are = omega (arith, h t are.1.0)
first_pair_room key removed (pair k t ps) d h are = omega arith
first_pair_room key (replaced f) no_pairs d h are = omega arith
first_pair_room key removed no_pairs d h are = omega arith

pair_done_room : (key : List ℕ) (here : Here) (n : ℕ) (ps : Pairs) (d : ℕ) → Adds here d
    → ArePairs ps
    → pair_rooms (pairs_done_after key here n ps) ≤ pair_rooms ps + (4 + length key + d)
pair_done_room key here zero ps d h are = first_pair_room key here ps d h are
pair_done_room key here (suc n) (pair k t ps) d h are =
    omega (arith, pair_done_room key here n ps d h are.1.1)
pair_done_room key here (suc n) no_pairs d h are = omega arith

made_adds : (b : Bool) (v : Tree) (d : ℕ) → room v ≤ d → Adds (comes (if b then Some v else None)) d
made_adds true v d h = h
made_adds false v d h = tt

new_adds : (next : Bool) (path : List Step) (op : Operation) (d : ℕ)
    → operation_room op + path_room path ≤ d → Adds (comes (new_child next path op)) d
new_adds next path (create v) d h =
    made_adds (next && can_wrap path) (wrapped path v) d (omega (arith, h, wrapped_room path v))
new_adds next path remove d h = tt
new_adds next [] (put v) d h = omega (arith, h)
new_adds next [] (insert v) d h = omega (arith, h)
new_adds next (s ∷ path) (put v) d h = tt
new_adds next (s ∷ path) (insert v) d h = tt

last_adds : (items : Bool) (op : Operation) (d : ℕ) → operation_room op ≤ d
    → Adds (here_last items op) d
last_adds items (put v) d h = λ t is. omega (arith, h)
last_adds items (create v) d h = λ t is. omega (arith, h)
last_adds true (insert v) d h = h
last_adds false (insert v) d h = tt
last_adds true remove d h = tt
last_adds false remove d h = tt

here_adds : (items there next : Bool) (path : List Step) (op : Operation) (below : Tree → Tree)
    (d : ℕ) → operation_room op + path_room path ≤ d
    → ((t : Tree) → IsTree t → room (below t) ≤ room t + d)
    → Adds (here_at items there next path op below) d
here_adds items true next [] op below d h deeper = last_adds items op d (omega (arith, h))
here_adds items true next (s ∷ path) op below d h deeper = deeper
here_adds items false next path op below d h deeper = new_adds next path op d h

items_room : (s : Step) (o : Option (ℕ × Bool)) (path : List Step) (op : Operation)
    (below : Tree → Tree) (ts : Trees) (d : ℕ) → operation_room op + path_room path ≤ d
    → ((t : Tree) → IsTree t → room (below t) ≤ room t + d) → AreTrees ts
    → o ≡ item_place s (count ts) → rooms (edited_items s path op below ts) ≤ rooms ts + d
items_room s None path op below ts d h deeper are e =
    rw (sym (items_left s path op below ts e)) (omega arith)
items_room s (Some place) path op below ts d h deeper are e =
    rw (sym (items_walked s path op below ts place e)) (done_room _ place.0 ts d
    (here_adds true place.1 (is_next s (count ts)) path op below d h deeper) are)

pairs_room : (s : Step) (path : List Step) (op : Operation) (below : Tree → Tree) (ps : Pairs)
    (d : ℕ) → operation_room op + path_room path ≤ d
    → ((t : Tree) → IsTree t → room (below t) ≤ room t + d) → IsTree (object ps)
    → pair_rooms (edited_pairs s path op below ps) ≤ pair_rooms ps + (step_room s + d)
pairs_room (Key k) path op below ps d h deeper is =
    let here = here_adds false (pairs_have_key k.now ps) true path op below d h deeper in
    rw (sym (pairs_walked k.now path op below ps is.0))
    (omega (arith, pair_done_room k.now _ (keys_before k.now ps) ps d here is.1))
pairs_room (Index i) path op below ps d h deeper is = omega arith
pairs_room (FromEnd i) path op below ps d h deeper is = omega arith
pairs_room End path op below ps d h deeper is = omega arith

pub edited_room : (path : List Step) (op : Operation) (t : Tree) → IsTree t
    → room (edited path op t) ≤ room t + (operation_room op + path_room path)
edited_room [] op t is = omega arith
edited_room (s ∷ path) op (array ts) is =
    let d = operation_room op + path_room path in
    let done = items_room s (item_place s (count ts)) path op (λ t. edited path op t) ts d
    (omega arith) (edited_room path op) is refl in
    omega (arith, done)
edited_room (s ∷ path) op (object ps) is =
    let d = operation_room op + path_room path in
    let done = pairs_room s path op (λ t. edited path op t) ps d (omega arith)
    (edited_room path op) is in
    omega (arith, done)
edited_room (s ∷ path) op t is = omega arith

pub whole_room : (path : List Step) (op : Operation) (t : Tree) → IsTree t
    → room (edited_whole path op t) ≤ room t + (operation_room op + path_room path)
whole_room [] (put v) t is = omega arith
whole_room [] (create v) t is = omega arith
whole_room path op t is = edited_room path op t is
