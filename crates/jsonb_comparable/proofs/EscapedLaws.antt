-- Escaped byte strings compare as the byte strings.
use Rattle.std.proofs.Common.{◌≡◌, ℕ, ◌<◌, ◌≤◌, ◌+◌, List, [], ◌∷◌, ◌++◌, refl, arith, sym, inl}
use Rattle.std.proofs.Common.{inr}
use Rattle.std.proofs.Common.{zero, suc, length, get_or, take, drop, ap, ap₂, ◌∙◌, drop-cons}
use Rattle.std.proofs.Common.{add-one}
use Rattle.std.proofs.lemmas.List.{take_all}
use Rattle.std.proofs.Math.ListN.{drop_of_length-le}
use Rattle.std.specs.Prelude.{nat_lt, true, false}
use Rattle.std.proofs.lemmas.Bool.{cases_lt, lt-ltb, le-ltb}
use Rattle.std.specs.declared.cmp.Ordering.{Ordering}
use Rattle.std.specs.Ordering.{nat_cmp, ordering_then}
use Rattle.std.specs.Cmp.Lexicographic.{slice_cmp}
use Rattle.jsonb_comparable.specs.Escaped.{escaped}
use Rattle.jsonb_comparable.proofs.Comparing.{Compared, ended, same, below, above}
use Rattle.jsonb_comparable.proofs.Comparing.{first_as, first_by}
use Rattle.jsonb_comparable.specs.Sink.{SinkLaws}
use Rattle.jsonb_comparable.proofs.Sinks.{Going, going_on, going_same}

-- how one byte is written before what follows it
low_byte : (b : ℕ) (bs : List ℕ) → b < 3 → escaped (b ∷ bs) ≡ 2 ∷ (b + 1) ∷ escaped bs
unfolding escaped
low_byte b bs h = let low : nat_lt b 3 ≡ true = lt-ltb b 3 h in rw low refl

high_byte : (b : ℕ) (bs : List ℕ) → 3 ≤ b → escaped (b ∷ bs) ≡ b ∷ escaped bs
unfolding escaped
high_byte b bs h = let high : nat_lt b 3 ≡ false = le-ltb b 3 h in rw high refl

-- The first byte of an escaped byte string is the terminator or above it.
pub record BeginsAbove (key : List ℕ) : Type 0 where
  pub first : ℕ
  pub others : List ℕ
  pub is : key ≡ first ∷ others
  pub above_end : 1 ≤ first

byte_begins : (b : ℕ) (bs : List ℕ)
    → (first : ℕ) × (others : List ℕ) × (escaped (b ∷ bs) ≡ first ∷ others) × (2 ≤ first)
byte_begins b bs =
    elim (cases_lt b 3) [
      | inl l ↦ (2, (b + 1) ∷ escaped bs, low_byte b bs l, omega arith)
      | inr g ↦ (b, escaped bs, high_byte b bs g, omega arith)
    ]

pub escaped_begins : (bs : List ℕ) → BeginsAbove (escaped bs)
unfolding escaped
escaped_begins [] = record { first = 1; others = []; is = refl; above_end = omega arith }
escaped_begins (b ∷ bs) =
    let begun = byte_begins b bs in
    record { first = begun.0; others = begun.1; is = begun.2; above_end = omega (arith, begun.3) }

byte_decides : (b c : ℕ) (bs cs : List ℕ) (o : Ordering) → Compared (escaped bs) (escaped cs) o
    → Compared (escaped (b ∷ bs)) (escaped (c ∷ cs)) (ordering_then (nat_cmp b c) o)
byte_decides b c bs cs o h =
    elim (cases_lt b 3) [
      | inl l ↦
          elim (cases_lt c 3) [
            | inl r ↦
                rw (low_byte b bs l, low_byte c cs r)
                (same (first_as b c (b + 1) (c + 1) (escaped bs) (escaped cs) o
                (λ x. omega arith) (λ x. omega arith) (λ x. rw x (same h))))
            | inr r ↦
                rw (low_byte b bs l, high_byte c cs r)
                (first_as b c 2 c ((b + 1) ∷ escaped bs) (escaped cs) o
                (λ x. omega arith) (λ x. omega arith) (λ x. absurd (omega arith)))
          ]
      | inr l ↦
          elim (cases_lt c 3) [
            | inl r ↦
                rw (high_byte b bs l, low_byte c cs r)
                (first_as b c b 2 (escaped bs) ((c + 1) ∷ escaped cs) o
                (λ x. omega arith) (λ x. omega arith) (λ x. absurd (omega arith)))
            | inr r ↦
                rw (high_byte b bs l, high_byte c cs r)
                (first_by b c (escaped bs) (escaped cs) o h)
          ]
    ]

-- Escaped byte strings have the order of the byte strings.
pub escaped_decides : (a b : List ℕ) → Compared (escaped a) (escaped b) (slice_cmp nat_cmp a b)
unfolding escaped
escaped_decides [] [] = same ended
escaped_decides [] (c ∷ cs) =
    let begun = byte_begins c cs in rw begun.2
    (below {x = 1} {y = begun.0} (omega (arith, begun.3)))
escaped_decides (b ∷ bs) [] =
    let begun = byte_begins b bs in rw begun.2
    (above {x = begun.0} {y = 1} (omega (arith, begun.3)))
escaped_decides (b ∷ bs) (c ∷ cs) = byte_decides b c bs cs _ (escaped_decides bs cs)

-- A run of bytes that are not escaped is written as it is,
pub escaped_run : (i : ℕ) (xs : List ℕ) → i ≤ length xs
    → ((k : ℕ) → k < i → 3 ≤ get_or xs k 0) → escaped xs ≡ take i xs ++ escaped (drop i xs)
escaped_run zero xs h before = refl
escaped_run (suc i) [] h before = absurd (omega arith)
escaped_run (suc i) (x ∷ xs) h before =
    high_byte x xs (before 0 (omega arith))
    ∙ ap (λ ys. x ∷ ys) (escaped_run i xs (omega arith) (λ k l. before (suc k) (omega arith)))

-- after it one that is,
pub escaped_low : (xs : List ℕ) (i : ℕ) → i < length xs
    → ((k : ℕ) → k < i → 3 ≤ get_or xs k 0) → get_or xs i 0 < 3
    → escaped xs ≡ take i xs ++ (2 ∷ (get_or xs i 0 + 1) ∷ escaped (drop (suc i) xs))
escaped_low xs i h before low =
    let h_le : i ≤ length xs = omega arith in
    escaped_run i xs h_le before
    ∙ ap (λ ys. take i xs ++ ys)
    (ap escaped (drop-cons xs i 0 h) ∙ low_byte (get_or xs i 0) (drop (suc i) xs) low)

-- and after a run to the end comes the terminator.
pub escaped_plain : (xs : List ℕ) (i : ℕ) → i ≡ length xs
    → ((k : ℕ) → k < i → 3 ≤ get_or xs k 0) → escaped xs ≡ xs ++ (1 ∷ [])
unfolding escaped
escaped_plain xs i e before =
    escaped_run i xs (omega arith) before
    ∙ ap₂ (λ ys zs. ys ++ escaped zs) (take_all i xs (omega arith))
    (drop_of_length-le xs {i = i} (omega arith))

-- A run, and the escaped byte after it, were appended.
pub run_on : {S : Type 0} {room : S → List ℕ → Type 0} {appends : S → S → List ℕ → Type 0}
    → SinkLaws room appends → {start now : S} {all : List ℕ} (left : List ℕ) (i : ℕ)
    → Going room appends start now all (escaped left) → i < length left
    → ((k : ℕ) → k < i → 3 ≤ get_or left k 0) → get_or left i 0 < 3
    → (first : S) → appends now first (take i left)
    → Going room appends start first all (2 ∷ (get_or left i 0 + 1) ∷ escaped (drop (suc i) left))
run_on laws left i going h before low first done =
    going_on laws going (take i left) (2 ∷ (get_or left i 0 + 1) ∷ escaped (drop (suc i) left))
    (escaped_low left i h before low) first done

pub escape_on : {S : Type 0} {room : S → List ℕ → Type 0} {appends : S → S → List ℕ → Type 0}
    → SinkLaws room appends → {start now : S} {all : List ℕ} (left : List ℕ) (i b : ℕ)
    → Going room appends start now all (2 ∷ b ∷ escaped (drop (suc i) left))
    → (next : S) → appends now next (2 ∷ b ∷ []) → (rest : List ℕ) → rest ≡ drop (i + 1) left
    → Going room appends start next all (escaped rest)
escape_on laws left i b going next done rest e =
    going_same (going_on laws going (2 ∷ b ∷ []) (escaped (drop (suc i) left)) refl next done)
    (escaped rest) (ap escaped (sym (e ∙ ap (λ n. drop n left) (add-one i))))
