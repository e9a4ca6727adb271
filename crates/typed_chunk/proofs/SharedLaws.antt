-- The laws of what texts share, and of texts that begin alike.
use Rattle.std.proofs.Common.{◌≡◌, ℕ, zero, suc, ◌+◌, ◌-◌, ◌<◌, ◌≤◌, Bool, true, false, cond, List}
use Rattle.std.proofs.Common.{[], ◌∷◌, ◌++◌, All, fold, length, get_or, map, take, drop, refl, sym}
use Rattle.std.proofs.Common.{ap, ap₂, ◌∙◌, arith, append-nil, eq-eqb, eqb-true}
use Rattle.std.proofs.Common.{length-append, length-take, take-append-drop, take-take, inl, inr}
use Rattle.std.specs.Prelude.{◌==◌}
use Rattle.std.proofs.Math.Seq.{drop-append_seam, take-append-add}
use Rattle.std.proofs.lemmas.Bool.{cases_Bool, false≢true}
use Rattle.std.proofs.lemmas.List.{length-map, length-take-le, take_all}
use Rattle.std.proofs.lemmas.List.Elements.{All-cons, All-head, All-nil, All-tail}
use Rattle.typed_chunk.specs.Flags.{some_has}
use Rattle.typed_chunk.specs.Texts.{beginning, common, shared, tails}
use Rattle.typed_chunk.specs.TextReading.{are_blank, with_beginning}
use Rattle.typed_chunk.proofs.BeginningLaws.{common_short, same_len}
use Rattle.typed_vector.specs.ZoneMap.{set_values}

drop_nothing : (n : ℕ) → drop {A = ℕ} n [] ≡ []
drop_nothing zero = refl
drop_nothing (suc n) = refl

-- What two texts share that begin alike.
same-front : (start text other : List ℕ)
    → same_len (start ++ text) (start ++ other) ≡ length start + same_len text other
same-front [] text other = omega arith
same-front (x ∷ start) text other =
    ap (λ (b : Bool). cond b (1 + same_len (start ++ text) (start ++ other)) 0)
    (eq-eqb x x refl)
    ∙ omega (arith, same-front start text other)

pub shared-front : (start text other : List ℕ)
    → shared (start ++ text) (start ++ other) ≡ start ++ shared text other
shared-front start text other =
    ap (λ (n : ℕ). take n (start ++ text)) (same-front start text other)
    ∙ take-append-add start text (same_len text other)

fold-front : (start text : List ℕ) (texts : List (List ℕ))
    → fold shared (start ++ text) (map (λ tail. start ++ tail) texts)
    ≡ start ++ fold shared text texts
fold-front start text [] = refl
fold-front start text (other ∷ texts) =
    ap (λ (xs : List ℕ). fold shared xs (map (λ tail. start ++ tail) texts))
    (shared-front start text other)
    ∙ fold-front start (shared text other) texts

pub common-front : (start : List ℕ) (most : ℕ) (texts : List (List ℕ)) → 0 < length texts
    → common (length start + most) (map (λ tail. start ++ tail) texts)
    ≡ start ++ common most texts
common-front start most [] some = absurd (omega (arith, some))
common-front start most (text ∷ texts) some =
    ap (λ (xs : List ℕ). fold shared xs (map (λ tail. start ++ tail) (text ∷ texts)))
    (take-append-add start text most)
    ∙ fold-front start (take most text) (text ∷ texts)

-- A text begins with another one.
abbrev pub BeginsWith : List ℕ → List ℕ → Type 0
BeginsWith start text = take (length start) text ≡ start

same_take : (text other : List ℕ) → take (same_len text other) other ≡ shared text other
same_take [] other = refl
same_take (x ∷ text) [] = refl
same_take (x ∷ text) (y ∷ other) =
    let n = same_len text other in
    let next : 1 + n ≡ suc n = omega arith in
    elim (cases_Bool (x == y)) [
      | inl same ↦
          ap (λ (b : Bool). take (cond b (1 + n) 0) (y ∷ other)) same
          ∙ ap (λ (k : ℕ). take k (y ∷ other)) next
          ∙ ap₂ (λ (z : ℕ) (zs : List ℕ). z ∷ zs) (sym (eqb-true x y same))
          (same_take text other)
          ∙ ap (λ (k : ℕ). take k (x ∷ text)) (sym next)
          ∙ sym (ap (λ (b : Bool). take (cond b (1 + n) 0) (x ∷ text)) same)
      | inr differ ↦
          ap (λ (b : Bool). take (cond b (1 + n) 0) (y ∷ other)) differ
          ∙ sym (ap (λ (b : Bool). take (cond b (1 + n) 0) (x ∷ text)) differ)
    ]

same_le : (text other : List ℕ) → same_len text other ≤ length text
same_le [] other = omega arith
same_le (x ∷ text) [] = omega arith
same_le (x ∷ text) (y ∷ other) = elim (cases_Bool (x == y)) [
  | inl same ↦ rw same (omega (arith, same_le text other))
  | inr differ ↦ rw differ (omega arith)
]

begins_trans : (start between text : List ℕ) → BeginsWith start between → BeginsWith between text
    → BeginsWith start text
begins_trans start between text first second =
    let short : length start ≤ length between =
    omega (arith, ap length first, length-take (length start) between) in
    sym (take-take (length start) (length between) text short)
    ∙ ap (take (length start)) second ∙ first

shared_begins : (text other : List ℕ) → BeginsWith (shared text other) text
shared_begins text other =
    ap (λ (n : ℕ). take n text)
    (length-take-le (same_len text other) text (same_le text other))

shared_begins_other : (text other : List ℕ) → BeginsWith (shared text other) other
shared_begins_other text other =
    ap (λ (n : ℕ). take n other)
    (length-take-le (same_len text other) text (same_le text other))
    ∙ same_take text other

fold_begins : (start : List ℕ) (texts : List (List ℕ))
    → BeginsWith (fold shared start texts) start
    × All (BeginsWith (fold shared start texts)) texts
fold_begins start [] = (take_all (length start) start (omega arith), All-nil (BeginsWith start))
fold_begins start (text ∷ texts) =
    let next = shared start text in
    let rest = fold_begins next texts in
    let all = fold shared next texts in (
      begins_trans all next start rest.0 (shared_begins start text),
      All-cons (BeginsWith all) text texts
          (begins_trans all next text rest.0 (shared_begins_other start text)) rest.1,
    )

pub all_begin : (most : ℕ) (texts : List (List ℕ)) → All (BeginsWith (common most texts)) texts
all_begin most texts = (fold_begins (take most (get_or texts 0 [])) texts).1

-- The rows that have a text, of texts with a beginning.
pub set-with : (start : List ℕ) (tails : List (List ℕ)) (has : List Bool)
    → set_values (with_beginning start tails has) has
    ≡ map (λ tail. start ++ tail) (set_values tails has)
set-with start [] has = refl
set-with start (tail ∷ tails) [] = refl
set-with start (tail ∷ tails) (true ∷ has) =
    ap (λ (xs : List (List ℕ)). (start ++ tail) ∷ xs) (set-with start tails has)
set-with start (tail ∷ tails) (false ∷ has) = set-with start tails has

pub some_set : (texts : List (List ℕ)) (has : List Bool) → length texts ≡ length has
    → some_has has ≡ true → 0 < length (set_values texts has)
some_set texts [] many some = absurd (false≢true some)
some_set [] (x ∷ has) many some = absurd (omega (arith, many))
some_set (text ∷ texts) (true ∷ has) many some = omega arith
some_set (text ∷ texts) (false ∷ has) many some =
    some_set texts has (omega (arith, many)) some

-- What is behind the beginning.
pub tails-with : (start : List ℕ) (texts : List (List ℕ)) (has : List Bool)
    → length texts ≡ length has → are_blank texts has ≡ true
    → tails (length start) (with_beginning start texts has) ≡ texts
tails-with start [] has many blank = refl
tails-with start (text ∷ texts) [] many blank = absurd (omega (arith, many))
tails-with start (text ∷ texts) (true ∷ has) many blank =
    ap₂ (λ (x : List ℕ) (xs : List (List ℕ)). x ∷ xs) (drop-append_seam start text)
    (tails-with start texts has (omega (arith, many)) blank)
tails-with start ([] ∷ texts) (false ∷ has) many blank =
    ap₂ (λ (x : List ℕ) (xs : List (List ℕ)). x ∷ xs) (drop_nothing (length start))
    (tails-with start texts has (omega (arith, many)) blank)
tails-with start ((x ∷ text) ∷ texts) (false ∷ has) many blank = absurd (false≢true blank)

pub with-tails : (start : List ℕ) (texts : List (List ℕ)) (has : List Bool)
    → length texts ≡ length has → are_blank texts has ≡ true
    → All (BeginsWith start) (set_values texts has)
    → with_beginning start (tails (length start) texts) has ≡ texts
with-tails start [] has many blank begin = refl
with-tails start (text ∷ texts) [] many blank begin = absurd (omega (arith, many))
with-tails start (text ∷ texts) (true ∷ has) many blank begin =
    let set = set_values texts has in
    let first = All-head (BeginsWith start) text set begin in
    let rest = All-tail (BeginsWith start) text set begin in
    ap₂ (λ (x : List ℕ) (xs : List (List ℕ)). x ∷ xs)
    (ap (λ (xs : List ℕ). xs ++ drop (length start) text) (sym first)
    ∙ take-append-drop (length start) text)
    (with-tails start texts has (omega (arith, many)) blank rest)
with-tails start ([] ∷ texts) (false ∷ has) many blank begin =
    ap (λ (xs : List (List ℕ)). [] ∷ xs)
    (with-tails start texts has (omega (arith, many)) blank begin)
with-tails start ((x ∷ text) ∷ texts) (false ∷ has) many blank begin =
    absurd (false≢true blank)

pub blank-tails : (size : ℕ) (texts : List (List ℕ)) (has : List Bool)
    → are_blank texts has ≡ true → are_blank (tails size texts) has ≡ true
blank-tails size [] has blank = refl
blank-tails size (text ∷ texts) [] blank = refl
blank-tails size (text ∷ texts) (true ∷ has) blank = blank-tails size texts has blank
blank-tails size ([] ∷ texts) (false ∷ has) blank =
    ap (λ (x : List ℕ). are_blank (x ∷ tails size texts) (false ∷ has)) (drop_nothing size)
    ∙ blank-tails size texts has blank
blank-tails size ((x ∷ text) ∷ texts) (false ∷ has) blank = absurd (false≢true blank)

-- Texts that begin so, and behind that share nothing, begin with that and no more.
pub beginning_is : (start : List ℕ) (texts : List (List ℕ)) (has : List Bool)
    → length start ≤ 255 → length texts ≡ length has → some_has has ≡ true
    → common (255 - length start) (set_values texts has) ≡ []
    → beginning (with_beginning start texts has) has ≡ start
beginning_is start texts has low many some none =
    let sum : 255 ≡ length start + (255 - length start) = omega (arith, low) in
    ap (common 255) (set-with start texts has)
    ∙ ap (λ (n : ℕ). common n (map (λ tail. start ++ tail) (set_values texts has))) sum
    ∙ common-front start (255 - length start) (set_values texts has)
    (some_set texts has many some)
    ∙ ap (λ (xs : List ℕ). start ++ xs) none ∙ append-nil start

-- Behind their beginning texts share nothing.
no_more : (start more : List ℕ) → start ≡ start ++ more → more ≡ []
no_more start [] is = refl
no_more start (x ∷ more) is =
    absurd (omega (arith, ap length is, length-append start (x ∷ more)))

pub nothing_shared : (texts : List (List ℕ)) (has : List Bool) → length texts ≡ length has
    → some_has has ≡ true → are_blank texts has ≡ true
    → common (255 - length (beginning texts has))
    (set_values (tails (length (beginning texts has)) texts) has) ≡ []
nothing_shared texts has many some blank =
    let start = beginning texts has in
    let rest = tails (length start) texts in
    let low : length start ≤ 255 = common_short 255 (set_values texts has) in
    let whole : with_beginning start rest has ≡ texts =
    with-tails start texts has many blank (all_begin 255 (set_values texts has)) in
    let long : length rest ≡ length has =
    length-map texts (drop (length start)) ∙ many in
    let sum : length start + (255 - length start) ≡ 255 = omega (arith, low) in
    no_more start (common (255 - length start) (set_values rest has))
    (sym (sym (common-front start (255 - length start) (set_values rest has)
    (some_set rest has long some))
    ∙ ap (λ (n : ℕ). common n (map (λ tail. start ++ tail) (set_values rest has))) sum
    ∙ ap (common 255) (sym (set-with start rest has))
    ∙ ap (λ (ts : List (List ℕ)). common 255 (set_values ts has)) whole))
