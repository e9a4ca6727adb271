-- Laws of walks on any bytes.
use Rattle.std.proofs.Common.{ℕ, ◌+◌, ◌*◌, ◌≤◌, List, [], ◌∷◌, length, map}
use Rattle.std.proofs.Common.{Option, Some, None, IfOk, IfSome}
use Rattle.std.proofs.Common.{Result, Ok, Err, refl, arith}
use Rattle.std.proofs.lemmas.List.{length-map}
use Rattle.std.proofs.lemmas.Slice.Zip.{length-zip}
use Rattle.std.specs.List.{zip}
use Rattle.jsonb_value.specs.declared.error.Error.{Error}
use Rattle.jsonb.specs.declared.iterator.ChildKind.{ChildKind}
use Rattle.jsonb.specs.declared.iterator.ChildKind.TheVariants.{ArrayItem, ObjectKey, ObjectValue}
use Rattle.jsonb.specs.Steps.{◌>>=◌}
use Rattle.jsonb.specs.Entry.{entry_read}
use Rattle.jsonb.specs.Entries.{Run, entries_of, key_run, payloads_end, run_from}
use Rattle.jsonb.specs.Entries.{until_error, value_run}
use Rattle.jsonb.specs.Walk.{Walk, ErrsLast, IsBounded, item_read, pair_read, count_under}
use Rattle.jsonb.specs.Walk.{item_walk, pair_walk}
use Rattle.jsonb.specs.Walk.{container_tag, walk_of_children, children_walk, pairs_iterator}
use Rattle.jsonb.specs.Walk.{pairs_walk}
use Rattle.jsonb.proofs.EntryLaws.{length-placed_from}

length-until_error : {A : Type 0} (xs : List (Result A Error)) → length (until_error xs) ≤ length xs
length-until_error [] = omega arith
length-until_error (Ok x ∷ xs) = let few = length-until_error xs in omega arith
length-until_error (Err e ∷ xs) = omega arith

ErrsLast-until_error : {A : Type 0} (xs : List (Result A Error)) → ErrsLast (until_error xs)
ErrsLast-until_error [] = tt
ErrsLast-until_error (Ok x ∷ xs) = ErrsLast-until_error xs
ErrsLast-until_error (Err e ∷ xs) = refl

-- there are at most as many entries as words
length-entries_of : (bytes : List ℕ) (n word start : ℕ)
    → length (entries_of (run_from bytes n word start)) ≤ n
length-entries_of bytes n word start =
    let run = run_from bytes n word start in
    let all = length-map run.entries (entry_read bytes) in
    let few = length-until_error (map (entry_read bytes) run.entries) in
    omega (arith, length-placed_from bytes n word start, all, few)

-- there are at most as many items as entries
bounded_items : (bytes : List ℕ) (n word start : ℕ)
    → IsBounded (item_walk n (run_from bytes n word start))
bounded_items bytes n word start =
    let entries = entries_of (run_from bytes n word start) in
    let few = length-entries_of bytes n word start in
    let items = length-until_error (map item_read entries) in
    let all = length-map entries item_read in
    record { few = omega arith; last = ErrsLast-until_error (map item_read entries) }

-- there are at most as many pairs as keys
bounded_pairs : (bytes : List ℕ) (n : ℕ) (run : Run)
    → IsBounded (pair_walk n (key_run bytes n) run)
bounded_pairs bytes n run =
    let keys = entries_of (key_run bytes n) in
    let values = entries_of run in
    let few = length-entries_of bytes n 4 (4 + 8 * n) in
    let both = length-zip keys values in
    let pairs = length-until_error (map pair_read (zip keys values)) in
    let all = length-map (zip keys values) pair_read in
    record { few = omega arith; last = ErrsLast-until_error (map pair_read (zip keys values)) }

-- the iterators have at most as many results as the header counts
abbrev AreBounded : {A : Type 0} → Result (Option (Walk A)) Error → Type 0
AreBounded r = IfOk r (λ o. IfSome o IsBounded)

bounded_steps : {X A : Type 0} (f : X → Result (Option (Walk A)) Error)
    → ((x : X) → AreBounded (f x)) → (r : Result X Error) → AreBounded (r >>= f)
bounded_steps f bounded (Ok x) = bounded x
bounded_steps f bounded (Err e) = tt

values_found : (bytes : List ℕ) (n : ℕ) (r : Result ℕ Error)
    → AreBounded (r >>= (λ start. Ok (run_from bytes n (4 + 4 * n) start))
    >>= (λ run. Ok (Some (item_walk n run))))
values_found bytes n (Ok start) = bounded_items bytes n (4 + 4 * n) start
values_found bytes n (Err e) = tt

walk_of_children-bounded : (kind : ChildKind) (bytes : List ℕ) (o : Option ℕ)
    → AreBounded (walk_of_children kind bytes o)
walk_of_children-bounded kind bytes None = tt
walk_of_children-bounded ArrayItem bytes (Some n) = bounded_items bytes n 4 (4 + 4 * n)
walk_of_children-bounded ObjectKey bytes (Some n) = bounded_items bytes n 4 (4 + 8 * n)
walk_of_children-bounded ObjectValue bytes (Some n) =
    values_found bytes n (payloads_end bytes n 4 (4 + 8 * n))

pub children_walk-bounded : (kind : ChildKind) (bytes : List ℕ)
    → AreBounded (children_walk kind bytes)
children_walk-bounded kind bytes = bounded_steps (walk_of_children kind bytes)
    (walk_of_children-bounded kind bytes) (count_under bytes (container_tag kind))

pairs_iterator-bounded : (bytes : List ℕ) (o : Option ℕ) → AreBounded (pairs_iterator bytes o)
pairs_iterator-bounded bytes None = tt
pairs_iterator-bounded bytes (Some n) = bounded_steps _ (bounded_pairs bytes n) (value_run bytes n)

pub pairs_walk-bounded : (bytes : List ℕ) → AreBounded (pairs_walk bytes)
pairs_walk-bounded bytes =
    bounded_steps (pairs_iterator bytes) (pairs_iterator-bounded bytes)
    (count_under bytes 1073741824)
