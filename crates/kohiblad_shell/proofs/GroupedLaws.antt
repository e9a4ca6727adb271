-- The groups of documents, one document after another.
use Rattle.std.proofs.Common.{◌≡◌, ◌||◌, ◌++◌, ◌∙◌, ℕ, Bool, true, false, List, [], ◌∷◌, cond}
use Rattle.std.proofs.Common.{filter, map}
use Rattle.std.proofs.Common.{refl, sym, ap, ap₂, subst}
use Rattle.std.specs.Prelude.{Option, not, ⊤}
use Rattle.std.specs.Cmp.Lexicographic.{bytes_decides}
use Rattle.std.specs.List.{list_any}
use Rattle.std.proofs.lemmas.List.{append-nil, map-append}
use Rattle.std.proofs.lemmas.List.Elements.{filter-append}
use Rattle.std.proofs.lemmas.List.Sums.{fold-append}
use Rattle.jsonb_value.specs.declared.number.Number.{Number}
use Rattle.kohiblad_shell.specs.declared.total.Total.{Total}
use Rattle.kohiblad_shell.specs.Grouped.{documents_with, first_document, first_keys, group_in}
use Rattle.kohiblad_shell.specs.Grouped.{groups_in, total}
use Rattle.kohiblad_shell.specs.Groups.{Group, first_totals, is_key, with_entry}
use Rattle.kohiblad_shell.specs.Groups.{with_member}
use Rattle.kohiblad_shell.specs.Totals.{no_total, with_amount, with_amounts}

abbrev Key : Type 0
Key = List ℕ

-- ---- keys

one_key : (k l : Key) → is_key k l ≡ true → k ≡ l
one_key k l h = (bytes_decides k l).0 h

own_key : (k : Key) → is_key k k ≡ true
own_key k = (bytes_decides k k).1 refl

turned_at : (k l : Key) (b c : Bool) → is_key k l ≡ b → is_key l k ≡ c → b ≡ c
turned_at k l true true h g = refl
turned_at k l false false h g = refl
turned_at k l true false h g =
    let same : k ≡ l = one_key k l h in
    let here : is_key l k ≡ true = rw same (own_key l) in absurd cc
turned_at k l false true h g =
    let same : l ≡ k = one_key l k g in
    let here : is_key k l ≡ true = rw same (own_key k) in absurd cc

key_turned : (k l : Key) → is_key k l ≡ is_key l k
key_turned k l = turned_at k l (is_key k l) (is_key l k) refl refl

-- whether a key is among others
abbrev is_in : Key → List Key → Bool
is_in k ks = list_any (λ l. is_key k l) ks

abbrev others : Key → List Key → List Key
others x ks = filter (λ l. not (is_key x l)) ks

-- a key that is not left out is still there
kept_at : (k x l : Key) (ls : List Key) (b : Bool) → is_key x l ≡ b → is_key k x ≡ false
    → is_in k (others x ls) ≡ is_in k ls → is_in k (others x (l ∷ ls)) ≡ is_in k (l ∷ ls)
kept_at k x l ls true is other rest =
    let same : x ≡ l = one_key x l is in
    let no : is_key k l ≡ false = subst (λ y. is_key k y ≡ false) same other in
    rw (is, no) rest
kept_at k x l ls false is other rest = rw is (ap (λ b. is_key k l || b) rest)

kept_in : (k x : Key) (ls : List Key) → is_key k x ≡ false → is_in k (others x ls) ≡ is_in k ls
kept_in k x [] other = refl
kept_in k x (l ∷ ls) other = kept_at k x l ls (is_key x l) refl other (kept_in k x ls other)

-- the key itself is left out
left_at : (x l : Key) (ls : List Key) (b : Bool) → is_key x l ≡ b → is_in x (others x ls) ≡ false
    → is_in x (others x (l ∷ ls)) ≡ false
left_at x l ls true is rest = rw is rest
left_at x l ls false is rest = rw (is, is) rest

left_out : (x : Key) (ls : List Key) → is_in x (others x ls) ≡ false
left_out x [] = refl
left_out x (l ∷ ls) = left_at x l ls (is_key x l) refl (left_out x ls)

-- what is not in a list is not in what is left of it
absent_at : (k x l : Key) (ls : List Key) (b c : Bool) → is_key x l ≡ b → is_key k l ≡ c
    → is_in k (l ∷ ls) ≡ false → (is_in k ls ≡ false → is_in k (others x ls) ≡ false)
    → is_in k (others x (l ∷ ls)) ≡ false
absent_at k x l ls b true is this absent rest =
    let there : true ≡ false = rw this at absent in absurd cc
absent_at k x l ls true false is this absent rest = rw is (rest (rw this at absent))
absent_at k x l ls false false is this absent rest = rw (is, this) (rest (rw this at absent))

absent_in : (k x : Key) (ls : List Key) → is_in k ls ≡ false → is_in k (others x ls) ≡ false
absent_in k x [] absent = refl
absent_in k x (l ∷ ls) absent =
    absent_at k x l ls (is_key x l) (is_key k l) refl refl absent (absent_in k x ls)

-- no key stands twice
abbrev AreApart : List Key → Type 0
AreApart [] = ⊤
AreApart (k ∷ ks) = (is_in k ks ≡ false) × AreApart ks

apart_at : (x l : Key) (ls : List Key) (b : Bool) → is_key x l ≡ b → is_in l ls ≡ false
    → AreApart (others x ls) → AreApart (others x (l ∷ ls))
apart_at x l ls true is absent rest = rw is rest
apart_at x l ls false is absent rest = rw is (absent_in l x ls absent, rest)

apart_others : (x : Key) (ls : List Key) → AreApart ls → AreApart (others x ls)
apart_others x [] apart = tt
apart_others x (l ∷ ls) (absent, rest) =
    apart_at x l ls (is_key x l) refl absent (apart_others x ls rest)

first_apart : (ks : List Key) → AreApart (first_keys ks)
first_apart [] = tt
first_apart (k ∷ ks) = (left_out k (first_keys ks), apart_others k (first_keys ks) (first_apart ks))

-- the first keys are those that there are
in_first_at : (k x : Key) (ks : List Key) (b : Bool) → is_key k x ≡ b
    → is_in k (first_keys ks) ≡ is_in k ks → is_in k (first_keys (x ∷ ks)) ≡ is_in k (x ∷ ks)
in_first_at k x ks true is rest = rw is refl
in_first_at k x ks false is rest = rw is (kept_in k x (first_keys ks) is ∙ rest)

in_first : (k : Key) (ks : List Key) → is_in k (first_keys ks) ≡ is_in k ks
in_first k [] = refl
in_first k (x ∷ ks) = in_first_at k x ks (is_key k x) refl (in_first k ks)

-- one more key
abbrev if_new : Key → Bool → List Key
if_new k b = cond b [] (k ∷ [])

new_at : (k x : Key) (ks : List Key) (b c : Bool) → is_key k x ≡ b → is_in k (first_keys ks) ≡ c
    → others x (if_new k c) ≡ if_new k (b || is_in k (others x (first_keys ks)))
new_at k x ks true true is there = refl
new_at k x ks true false is there =
    let turned : is_key x k ≡ true = key_turned x k ∙ is in rw turned refl
new_at k x ks false true is there = rw (kept_in k x (first_keys ks) is, there) refl
new_at k x ks false false is there =
    let turned : is_key x k ≡ false = key_turned x k ∙ is in
    rw (turned, kept_in k x (first_keys ks) is, there) refl

first_more : (k : Key) (ks : List Key)
    → first_keys (ks ++ k ∷ []) ≡ first_keys ks ++ if_new k (is_in k (first_keys ks))
first_more k [] = refl
first_more k (x ∷ ks) =
    ap (λ ls. x ∷ others x ls) (first_more k ks)
    ∙ ap (λ ls. x ∷ ls)
    (filter-append (λ l. not (is_key x l)) (first_keys ks) (if_new k (is_in k (first_keys ks)))
    ∙ ap (λ ls. others x (first_keys ks) ++ ls)
    (new_at k x ks (is_key k x) (is_in k (first_keys ks)) refl refl))

-- ---- groups

module _ {A : Type 0} (key : List ℕ → Key) (amount : A → List ℕ → Option Number) (named : List A)
  where
    abbrev with_key : List (List ℕ) → Key → List (List ℕ)
    with_key ds k = documents_with key amount named ds k

    abbrev group : List (List ℕ) → Key → Group
    group ds k = group_in key amount named ds k

    -- a document of another key, and one of this key
    other_row : (ds : List (List ℕ)) (d : List ℕ) (l : Key) → is_key (key d) l ≡ false
        → with_key (ds ++ d ∷ []) l ≡ with_key ds l
    other_row ds d l is =
        let turned : is_key l (key d) ≡ false = key_turned l (key d) ∙ is in
        filter-append (λ e. is_key l (key e)) ds (d ∷ []) ∙ rw turned (append-nil (with_key ds l))

    own_row : (ds : List (List ℕ)) (d : List ℕ) (l : Key) → is_key (key d) l ≡ true
        → with_key (ds ++ d ∷ []) l ≡ with_key ds l ++ d ∷ []
    own_row ds d l is =
        let turned : is_key l (key d) ≡ true = key_turned l (key d) ∙ is in
        filter-append (λ e. is_key l (key e)) ds (d ∷ []) ∙ rw turned refl

    other_group : (ds : List (List ℕ)) (d : List ℕ) (l : Key) → is_key (key d) l ≡ false
        → group (ds ++ d ∷ []) l ≡ group ds l
    other_group ds d l is = rw (other_row ds d l is) refl

    -- one more number in each sum
    total_more : (xs : List (Option Number)) (x : Option Number)
        → total (xs ++ x ∷ []) ≡ with_amount (total xs) x
    total_more xs x = fold-append with_amount no_total xs (x ∷ [])

    totals_grow : (is : List A) (rows : List (List ℕ)) (d : List ℕ)
        → map (λ a. total (map (amount a) (rows ++ d ∷ []))) is
        ≡ with_amounts (map (λ a. total (map (amount a) rows)) is) (map (λ a. amount a d) is)
    totals_grow [] rows d = refl
    totals_grow (a ∷ more) rows d =
        ap₂ (λ (t : Total) (ts : List Total). t ∷ ts)
        (ap total (map-append (amount a) rows (d ∷ []))
        ∙ total_more (map (amount a) rows) (amount a d))
        (totals_grow more rows d)

    totals_begin : (is : List A) (d : List ℕ)
        → map (λ a. total (map (amount a) (d ∷ []))) is ≡ first_totals (map (λ a. amount a d) is)
    totals_begin [] d = refl
    totals_begin (a ∷ more) d =
        ap (λ ts. with_amount no_total (amount a d) ∷ ts) (totals_begin more d)

    first_stays : (rows : List (List ℕ)) (d : List ℕ) → (rows ≡ [] → ⊥)
        → first_document (rows ++ d ∷ []) ≡ first_document rows
    first_stays [] d some = absurd (some refl)
    first_stays (e ∷ rows) d some = refl

    abbrev added : List ℕ → List (Option Number)
    added d = map (λ a. amount a d) named

    own_group : (ds : List (List ℕ)) (d : List ℕ) (l : Key) → is_key (key d) l ≡ true
        → (with_key ds l ≡ [] → ⊥) → group (ds ++ d ∷ []) l ≡ with_member (group ds l) (added d)
    own_group ds d l is some =
        rw (own_row ds d l is)
        (ap₂ (λ (f : List ℕ) (ts : List Total). record { key = l; first = f; totals = ts })
        (first_stays (with_key ds l) d some) (totals_grow named (with_key ds l) d))

    -- groups of other keys stay
    groups_stay : (ds : List (List ℕ)) (d : List ℕ) (ls : List Key) → is_in (key d) ls ≡ false
        → map (group (ds ++ d ∷ [])) ls ≡ map (group ds) ls
    groups_stay ds d [] absent = refl
    groups_stay ds d (l ∷ ls) absent = by (is_key (key d) l) refl (groups_stay ds d ls)
      where
        by : (b : Bool) → is_key (key d) l ≡ b
            → (is_in (key d) ls ≡ false → map (group (ds ++ d ∷ [])) ls ≡ map (group ds) ls)
            → map (group (ds ++ d ∷ [])) (l ∷ ls) ≡ map (group ds) (l ∷ ls)
        by true is rest = let there : true ≡ false = rw is at absent in absurd cc
        by false is rest =
            ap₂ (λ (g : Group) (gs : List Group). g ∷ gs) (other_group ds d l is)
            (rest (rw is at absent))

    -- each key has a document
    abbrev HaveRows : List (List ℕ) → List Key → Type 0
    HaveRows ds [] = ⊤
    HaveRows ds (l ∷ ls) = (with_key ds l ≡ [] → ⊥) × HaveRows ds ls

    joined : (ds : List (List ℕ)) (d : List ℕ) (ls : List Key) → AreApart ls → HaveRows ds ls
        → (is_in (key d) ls ≡ false → with_key ds (key d) ≡ [])
        → map (group (ds ++ d ∷ [])) (ls ++ if_new (key d) (is_in (key d) ls))
        ≡ with_entry (key d) d (added d) (map (group ds) ls)
    joined ds d [] apart some none =
        let own = own_row ds d (key d) (own_key (key d)) in
        rw (own, none refl)
        (ap (λ ts. record { key = key d; first = d; totals = ts } ∷ []) (totals_begin named d))
    joined ds d (l ∷ ls) (absent, apart) (here, some) none =
        by (is_key (key d) l) refl (joined ds d ls apart some)
      where
        by : (b : Bool) → is_key (key d) l ≡ b
            → ((is_in (key d) ls ≡ false → with_key ds (key d) ≡ [])
            → map (group (ds ++ d ∷ [])) (ls ++ if_new (key d) (is_in (key d) ls))
            ≡ with_entry (key d) d (added d) (map (group ds) ls))
            → map (group (ds ++ d ∷ [])) ((l ∷ ls) ++ if_new (key d) (is_in (key d) (l ∷ ls)))
            ≡ with_entry (key d) d (added d) (map (group ds) (l ∷ ls))
        by true is rest =
            let same : key d ≡ l = one_key (key d) l is in
            let gone : is_in (key d) ls ≡ false =
            subst (λ k. is_in k ls ≡ false) (sym same) absent in
            rw is
            (ap₂ (λ (g : Group) (gs : List Group). g ∷ gs) (own_group ds d l is here)
            (ap (map (group (ds ++ d ∷ []))) (append-nil ls) ∙ groups_stay ds d ls gone))
        by false is rest =
            let none' : is_in (key d) ls ≡ false → with_key ds (key d) ≡ [] =
            λ gone. none (rw is gone) in
            rw is
            (ap₂ (λ (g : Group) (gs : List Group). g ∷ gs) (other_group ds d l is) (rest none'))

    -- a key that is there has a document, and one that is not has none
    no_row_at : (d : List ℕ) (ds : List (List ℕ)) (k : Key) (b : Bool) → is_key k (key d) ≡ b
        → is_in k (map key (d ∷ ds)) ≡ false → (is_in k (map key ds) ≡ false → with_key ds k ≡ [])
        → with_key (d ∷ ds) k ≡ []
    no_row_at d ds k true is absent rest = let there : true ≡ false = rw is at absent in absurd cc
    no_row_at d ds k false is absent rest = rw is (rest (rw is at absent))

    no_row : (ds : List (List ℕ)) (k : Key) → is_in k (map key ds) ≡ false → with_key ds k ≡ []
    no_row [] k absent = refl
    no_row (d ∷ ds) k absent = no_row_at d ds k (is_key k (key d)) refl absent (no_row ds k)

    some_row_at : (d : List ℕ) (ds : List (List ℕ)) (k : Key) (b : Bool) → is_key k (key d) ≡ b
        → is_in k (map key (d ∷ ds)) ≡ true
        → (is_in k (map key ds) ≡ true → with_key ds k ≡ [] → ⊥) → with_key (d ∷ ds) k ≡ [] → ⊥
    some_row_at d ds k true is there rest none =
        let is_none : d ∷ with_key ds k ≡ [] = rw is at none in cc
    some_row_at d ds k false is there rest none = rest (rw is at there) (rw is at none)

    some_row : (ds : List (List ℕ)) (k : Key) → is_in k (map key ds) ≡ true
        → with_key ds k ≡ [] → ⊥
    some_row [] k there = absurd cc
    some_row (d ∷ ds) k there = some_row_at d ds k (is_key k (key d)) refl there (some_row ds k)

    have_rows : (ds : List (List ℕ)) (ls all : List Key)
        → ((l : Key) → is_in l ls ≡ true → is_in l (map key ds) ≡ true) → HaveRows ds ls
    have_rows ds [] all known = tt
    have_rows ds (l ∷ ls) all known = (
      some_row ds l (known l (rw (own_key l) refl)),
      have_rows ds ls all (λ m there. known m (or_there (is_key m l) (is_in m ls) there)),
    )
      where
        or_there : (a b : Bool) → b ≡ true → (a || b) ≡ true
        or_there true b is = refl
        or_there false b is = is

    -- one more document
    pub grouped_more : (ds : List (List ℕ)) (d : List ℕ)
        → groups_in key amount named (ds ++ d ∷ [])
        ≡ with_entry (key d) d (added d) (groups_in key amount named ds)
    grouped_more ds d =
        let ks = map key ds in
        ap (λ all. map (group (ds ++ d ∷ [])) (first_keys all)) (map-append key ds (d ∷ []))
        ∙ ap (map (group (ds ++ d ∷ []))) (first_more (key d) ks)
        ∙ joined ds d (first_keys ks) (first_apart ks)
        (have_rows ds (first_keys ks) ks (λ l there. sym (in_first l ks) ∙ there))
        (λ gone. no_row ds (key d) (sym (in_first (key d) ks) ∙ gone))
