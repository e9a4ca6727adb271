-- The greatest lengths of the results of edits.
use Rattle.std.proofs.Common.{◌≡◌, ℕ, zero, suc, ◌+◌, ◌*◌, ◌≤◌, List, length, map, Option, None, Some}
use Rattle.std.proofs.Common.{Result, Ok, Err, inl, inr, refl, sym, ◌∙◌, ap, arith, ◌⊎◌, ◌<◌, subst}
use Rattle.std.proofs.lemmas.Bool.{cases_lt}
use Rattle.jsonb_value.specs.declared.error.Error.{Error}
use Rattle.jsonb_value.specs.declared.error.Error.TheVariants.{InvalidJsonb}
use Rattle.jsonb_value.specs.Meaning.{Meaning, document, other_bytes}
use Rattle.jsonb_value.specs.Tree.{Tree}
use Rattle.jsonb_value.specs.WellFormed.{IsTree}
use Rattle.jsonb_value.proofs.BigEndian.{AreBytes}
use Rattle.jsonb_value.proofs.PayloadDecision.{Decided}
use Rattle.jsonb_codec.specs.Canon.{canon}
use Rattle.jsonb_codec.specs.Depth.{depth}
use Rattle.jsonb_codec.specs.Doc.{Doc, IsDocument}
use Rattle.jsonb_codec.proofs.Decision.{decide}
use Rattle.jsonb_codec.proofs.Unique.{Doc-unique}
use Rattle.jsonb_codec.proofs.WellFormed.{IsTree-Doc}
use Rattle.jsonb.specs.Within.{meaning_within}
use Rattle.jsonb.proofs.WithinLaws.{bytes_within, document_within}
use Rattle.jsonb_functions.specs.Edited.{Operation, put, create, insert, remove, edited_whole}
use Rattle.jsonb_functions.specs.Joined.{joined}
use Rattle.jsonb_functions.specs.StoredPath.{StepView, path_in, step_view}
use Rattle.jsonb_functions.specs.declared.path.Step.{Step}
use Rattle.kohiblad.specs.Functions.{IsEdited, IsTreeEdited, MakesOfTwo, WritesTo}
use Rattle.kohiblad.specs.Functions.{operation_asked, IsConcatLength, IsEditLength}
use Rattle.kohiblad.specs.Status.{IsAnswered, IsOneAnswered}
use Rattle.kohiblad.proofs.EditRooms.{whole_room}
use Rattle.kohiblad.proofs.JoinedRooms.{given_path_room, joined_room}
use Rattle.kohiblad.proofs.Rooms.{operation_room, path_room, room}
use Rattle.kohiblad.proofs.StoredRooms.{canon_room, document_room}

-- bytes that mean a tree are a document of it
meant_shallow : (d : ℕ) (b : List ℕ) (t u : Tree) → Doc b u → meaning_within d b ≡ document t
    → (d < depth u) ⊎ (depth u ≤ d) → Doc b t
meant_shallow d b t u doc means (inr small) =
    let same : document u ≡ document t = sym (document_within b u d doc small) ∙ means in
    let tree : u ≡ t = cc in
    subst (Doc b) tree doc
meant_shallow d b t u doc means (inl deep) =
    let other = bytes_within d b (λ (v, (small, found)).
    let same = Doc-unique b u v doc found in omega (arith, deep, small, ap depth same)) in
    absurd cc

meant_by : (d : ℕ) (b : List ℕ) (t : Tree) → Decided (IsDocument b)
    → meaning_within d b ≡ document t → Doc b t
meant_by d b t (inl (u, doc)) means =
    meant_shallow d b t u doc means (cases_lt d (depth u))
meant_by d b t (inr none) means =
    let other = bytes_within d b (λ (u, (small, doc)). none (u, doc)) in absurd cc

meant : (d : ℕ) (b : List ℕ) (t : Tree) → meaning_within d b ≡ document t → Doc b t
meant d b t means = meant_by d b t (decide b) means

meant_room : (d : ℕ) (b : List ℕ) (t : Tree) → AreBytes b → meaning_within d b ≡ document t
    → 4 * room t ≤ 5 * (4 + length b)
meant_room d b t bytes means = document_room b t bytes (meant d b t means)

-- the length of a result is that of a canonical document, or 0
answered : (t : Tree) (n : ℕ) (before after : List ℕ) (size status : ℕ)
    → length (canon t) ≤ n → IsOneAnswered (WritesTo t) before after size status → size ≤ n
answered t n before after size status most (Ok answer, ((fits, is), (len, copied))) =
    omega (arith, most, len, ap length is)
answered t n before after size status most (Err e, (writes, (reason, (none, same)))) =
    omega (arith, none)

refused : (r : Result (List ℕ) Error) (e : Error) (before after : List ℕ) (size status : ℕ)
    → r ≡ Err e → IsAnswered r before after size status → size ≡ 0
refused (Ok answer) e before after size status is made = absurd cc
refused (Err e) f before after size status is (reason, (none, same)) = none

-- the value of an edit
operation_len : (e : ℕ) (o : Meaning) (op : Operation) (n : ℕ) → operation_asked e o ≡ Ok op
    → ((t : Tree) → o ≡ document t → 4 * room t ≤ 5 * (4 + n))
    → 4 * operation_room op ≤ 5 * (4 + n)
operation_len zero (document t) op n asked value =
    let same : put t ≡ op = cc in omega (arith, ap operation_room same, value t refl)
operation_len (suc zero) (document t) op n asked value =
    let same : insert t ≡ op = cc in omega (arith, ap operation_room same, value t refl)
operation_len (suc (suc zero)) o op n asked value =
    let same : remove ≡ op = cc in omega (arith, ap operation_room same)
operation_len (suc (suc (suc zero))) (document t) op n asked value =
    let same : create t ≡ op = cc in omega (arith, ap operation_room same, value t refl)
operation_len zero (other_bytes b) op n asked value = absurd cc
operation_len (suc zero) (other_bytes b) op n asked value = absurd cc
operation_len (suc (suc (suc zero))) (other_bytes b) op n asked value = absurd cc
operation_len (suc (suc (suc (suc e)))) o op n asked value = absurd cc

-- the edited tree
tree_len : (t : Tree) (path : Option (List StepView)) (asked : Result Operation ℕ) (m n k : ℕ)
    (before after : List ℕ) (size status : ℕ) → IsTree t → 4 * room t ≤ 5 * (4 + m)
    → ((vs : List StepView) (steps : List Step) → path ≡ Some vs → map step_view steps ≡ vs
    → path_room steps + 12 ≤ 3 * k)
    → ((op : Operation) → asked ≡ Ok op → 4 * operation_room op ≤ 5 * (4 + n))
    → IsTreeEdited t path asked before after size status
    → 4 * size ≤ 5 * (m + n) + 12 * k + 8
tree_len t (Some vs) (Ok op) m n k before after size status is tree path value
    (steps, (viewed, written)) =
    let most = answered (edited_whole steps op t)
    (room t + (operation_room op + path_room steps) + 4) before after size status
    (omega (arith, canon_room (edited_whole steps op t), whole_room steps op t is)) written in
    omega (arith, most, tree, path vs steps refl viewed, value op refl)
tree_len t None (Ok op) m n k before after size status is tree path value (reason, (none, same)) =
    omega (arith, none)
tree_len t path (Err e) m n k before after size status is tree steps value
    (reason, (none, same)) = omega (arith, none)

document_len : (m o q : Meaning) (e : ℕ) (b p v : List ℕ)
    (before after : List ℕ) (size status : ℕ)
    → ((t : Tree) → m ≡ document t → IsTree t × (4 * room t ≤ 5 * (4 + length b)))
    → ((t : Tree) → q ≡ document t → Doc p t)
    → ((t : Tree) → o ≡ document t → 4 * room t ≤ 5 * (4 + length v))
    → IsEdited m q (operation_asked e o) before after size status
    → 4 * size ≤ 5 * (length b + length v) + 12 * length p + 8
document_len (document t) o (document u) e b p v before after size status tree path value
    (inl edited) =
    tree_len t (path_in u) (operation_asked e o) (length b) (length v) (length p) before after size
    status (tree t refl).0 (tree t refl).1
    (λ vs steps is viewed. given_path_room p u steps vs (path u refl) is viewed)
    (λ op asked. operation_len e o op (length v) asked value) edited
document_len (document t) o (document u) e b p v before after size status tree path value
    (inr (reason, (none, same))) = omega (arith, none)
document_len (other_bytes x) o q e b p v before after size status tree path value
    (reason, (none, same)) = omega (arith, none)
document_len (document t) o (other_bytes x) e b p v before after size status tree path value
    (reason, (none, same)) = omega (arith, none)

pub edit_len : (d : ℕ) (b p v : List ℕ) (e : ℕ) (before after : List ℕ) (size status : ℕ)
    → AreBytes b → AreBytes v
    → IsEdited (meaning_within d b) (meaning_within d p) (operation_asked e (meaning_within d v))
    before after size status
    → IsEditLength b p v size
edit_len d b p v e before after size status bytes values edited =
    document_len (meaning_within d b) (meaning_within d v) (meaning_within d p) e b p v before after
    size status (λ t is. (IsTree-Doc b t bytes (meant d b t is), meant_room d b t bytes is))
    (λ t is. meant d p t is) (λ t is. meant_room d v t values is) edited

joined_len : (m o : Meaning) (b v : List ℕ) (before after : List ℕ) (size status : ℕ)
    → ((t : Tree) → m ≡ document t → 4 * room t ≤ 5 * (4 + length b))
    → ((t : Tree) → o ≡ document t → 4 * room t ≤ 5 * (4 + length v))
    → IsOneAnswered (MakesOfTwo WritesTo joined m o) before after size status
    → 4 * size ≤ 5 * (length b + length v) + 56
joined_len (document t) (document u) b v before after size status first second made =
    let most = answered (joined t u) (room t + room u + 4) before after size status
    (joined_room t u) made in
    omega (arith, most, first t refl, second u refl)
joined_len (other_bytes x) o b v before after size status first second (r, (is, made)) =
    omega (arith, refused r InvalidJsonb before after size status is made)
joined_len (document t) (other_bytes x) b v before after size status first second (r, (is, made)) =
    omega (arith, refused r InvalidJsonb before after size status is made)

pub concat_len : (d : ℕ) (b v before after : List ℕ) (size status : ℕ) → AreBytes b → AreBytes v
    → IsOneAnswered (MakesOfTwo WritesTo joined (meaning_within d b) (meaning_within d v))
    before after size status
    → IsConcatLength b v size
concat_len d b v before after size status bytes values made =
    joined_len (meaning_within d b) (meaning_within d v) b v before after size status
    (λ t is. meant_room d b t bytes is) (λ t is. meant_room d v t values is) made
