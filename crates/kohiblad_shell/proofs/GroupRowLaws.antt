-- The rows of groups, one after another.
use Rattle.std.proofs.Common.{◌≡◌, ◌<◌, ◌≤◌, ◌+◌, ◌++◌, ◌∙◌, ℕ, zero, suc, List, [], ◌∷◌, Result}
use Rattle.std.proofs.Common.{Ok, Err}
use Rattle.std.proofs.Common.{append_assoc, drop, inl, inr, length, map, refl, sym, ap, subst}
use Rattle.std.proofs.Common.{add-one, arith}
use Rattle.std.proofs.lemmas.List.{append-nil}
use Rattle.std.specs.Prelude.{Some, None, slice_get}
use Rattle.jsonb_value.specs.Tree.{Tree, Pairs, no_pairs, object}
use Rattle.jsonb_functions.specs.Joined.{with_key}
use Rattle.jsonb_path.specs.declared.path.PathError.{PathError}
use Rattle.kohiblad_shell.specs.GroupRows.{AreBuilt, object_of}
use Rattle.kohiblad_shell.specs.Outcomes.{IsOutcome, Outcome}
use Rattle.kohiblad_shell.specs.Templates.{IsBuilt, IsStoppedBy, MemberValue, members_after}
use Rattle.kohiblad_shell.specs.declared.input.Form.{Form}
use Rattle.kohiblad_shell.specs.declared.outcome.Unanswered.{Unanswered}
use Rattle.kohiblad_shell.specs.declared.outcome.Unanswered.TheVariants.{OutOfMemory, Wrong}

-- ---- members

-- members after others
members_append_from : (ms : List MemberValue) (ps qs : Pairs) (ns : List MemberValue)
    → members_after ps ms ≡ Ok qs → members_after ps (ms ++ ns) ≡ members_after qs ns
members_append_from [] ps qs ns is =
    let same : ps ≡ qs = cc in ap (λ rs. members_after rs ns) same
members_append_from ((k, Ok t) ∷ ms) ps qs ns is =
    members_append_from ms (with_key k t ps) qs ns is
members_append_from ((k, Err e) ∷ ms) ps qs ns is = absurd cc

-- none after a value that is not given
members_stop_from : (ms : List MemberValue) (ps : Pairs) (ns : List MemberValue) (e : PathError)
    → members_after ps ms ≡ Err e → members_after ps (ms ++ ns) ≡ Err e
members_stop_from [] ps ns e is = absurd cc
members_stop_from ((k, Ok t) ∷ ms) ps ns e is = members_stop_from ms (with_key k t ps) ns e is
members_stop_from ((k, Err f) ∷ ms) ps ns e is = is

-- a value that is not given stops all
pub value_stops : (ms ns : List MemberValue) (u : Unanswered)
    → IsStoppedBy (members_after no_pairs ms) u
    → IsStoppedBy (object_of (members_after no_pairs (ms ++ ns))) u
value_stops ms ns (Wrong fault) (e, (is, same)) =
    (e, (ap object_of (members_stop_from ms no_pairs ns e is), same))
value_stops ms ns OutOfMemory is = tt

-- a sum that is out of range stops all
pub total_stops : (ms ns : List MemberValue) (qs : Pairs) (u : Unanswered)
    → members_after no_pairs ms ≡ Ok qs → IsStoppedBy (members_after qs ns) u
    → IsStoppedBy (object_of (members_after no_pairs (ms ++ ns))) u
total_stops ms ns qs (Wrong fault) made (e, (is, same)) =
    (e, (ap object_of (members_append_from ms no_pairs qs ns made ∙ is), same))
total_stops ms ns qs OutOfMemory made is = tt

-- values, and then sums
pub object_made : (ms ns : List MemberValue) (qs ps : Pairs) → members_after no_pairs ms ≡ Ok qs
    → members_after qs ns ≡ Ok ps
    → object_of (members_after no_pairs (ms ++ ns)) ≡ Ok (object ps)
object_made ms ns qs ps made is =
    ap object_of (members_append_from ms no_pairs qs ns made ∙ is)

-- ---- rows

-- These rows, and after them what is given; a fault stays.
abbrev pub after_rows : List ℕ → Outcome → Outcome
after_rows rows (Ok more) = Ok (rows ++ more)
after_rows rows (Err fault) = Err fault

-- the value at an index, and those after it
pub next_value : {A B : Type 0} (f : A → B) (xs : List A) (i : ℕ) (x : A)
    → slice_get xs i ≡ Some x → drop i (map f xs) ≡ f x ∷ drop (i + 1) (map f xs)
next_value f [] i x is = absurd cc
next_value f (y ∷ xs) zero x is =
    let same : y ≡ x = cc in rw same refl
next_value f (y ∷ xs) (suc i) x is =
    next_value f xs i x is ∙ ap (λ n. f x ∷ drop n (map f xs)) (add-one i)
    ∙ ap (λ n. f x ∷ drop n (f y ∷ map f xs)) (sym (add-one (suc i)))

one_more : (form : Form) (r : Result Tree PathError) (rs : List (Result Tree PathError))
    (first : List ℕ) (outcome : Outcome) → IsBuilt form r (Ok first) → AreBuilt form rs outcome
    → AreBuilt form (r ∷ rs) (after_rows first outcome)
one_more form r rs first (Ok rows) is rest = (first, rows, is, rest, refl)
one_more form r rs first (Err fault) is rest = inr (first, is, rest)

two_parts : (rows first : List ℕ) (outcome : Outcome)
    → after_rows rows (after_rows first outcome) ≡ after_rows (rows ++ first) outcome
two_parts rows first (Ok more) = ap Ok (sym (append_assoc rows first more))
two_parts rows first (Err fault) = refl

-- one more row
pub rows_more : (form : Form) (all : List (Result Tree PathError)) (i : ℕ)
    (r : Result Tree PathError) (rows first made : List ℕ) → drop i all ≡ r ∷ drop (i + 1) all
    → IsBuilt form r (Ok first) → made ≡ rows ++ first
    → ((outcome : Outcome) → AreBuilt form (drop i all) outcome
    → AreBuilt form all (after_rows rows outcome))
    → (outcome : Outcome) → AreBuilt form (drop (i + 1) all) outcome
    → AreBuilt form all (after_rows made outcome)
rows_more form all i r rows first made at is more so_far outcome rest =
    rw (more, sym (two_parts rows first outcome))
    (so_far (after_rows first outcome)
    (rw at (one_more form r (drop (i + 1) all) first outcome is rest)))

-- a row has a fault
pub rows_stop : (form : Form) (all : List (Result Tree PathError)) (i : ℕ)
    (r : Result Tree PathError) (rows : List ℕ) (u : Unanswered)
    → drop i all ≡ r ∷ drop (i + 1) all
    → IsOutcome (λ outcome. IsBuilt form r outcome) (Err u)
    → ((outcome : Outcome) → AreBuilt form (drop i all) outcome
    → AreBuilt form all (after_rows rows outcome))
    → IsOutcome (λ outcome. AreBuilt form all outcome) (Err u)
rows_stop form all i r rows (Wrong fault) at is so_far =
    so_far (Err fault) (rw at (inl is))
rows_stop form all i r rows OutOfMemory at is so_far = tt

-- no group is left
pub rows_end : (form : Form) (all : List (Result Tree PathError)) (i : ℕ) (rows : List ℕ)
    → length all ≤ i
    → ((outcome : Outcome) → AreBuilt form (drop i all) outcome
    → AreBuilt form all (after_rows rows outcome))
    → AreBuilt form all (Ok rows)
rows_end form all i rows past so_far =
    subst (λ made. AreBuilt form all (Ok made)) (append-nil rows)
    (so_far (Ok []) (rw (none_left all i past) refl))
  where
    none_left : (xs : List (Result Tree PathError)) (n : ℕ) → length xs ≤ n → drop n xs ≡ []
    none_left [] zero low = refl
    none_left [] (suc n) low = refl
    none_left (x ∷ xs) zero low = absurd (omega (arith, low))
    none_left (x ∷ xs) (suc n) low = none_left xs n (omega (arith, low))

-- there is a value at each index below the length
pub none_there : {A : Type 0} (xs : List A) (i : ℕ) → i < length xs → slice_get xs i ≡ None → ⊥
none_there [] i low none = omega (arith, low)
none_there (x ∷ xs) zero low none = cc
none_there (x ∷ xs) (suc i) low none = none_there xs i (omega (arith, low)) none
