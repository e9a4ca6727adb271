-- Steps of reading values.
use Rattle.std.proofs.Common.{◌≡◌, ℕ, zero, suc, ◌<◌, ◌≤◌, refl, sym}
use Rattle.std.proofs.Common.{ap, ◌∙◌, List, [], ◌∷◌, length, arith, Option, Some}
use Rattle.std.proofs.Common.{None, Result, Ok, Err, ◌⊎◌}
use Rattle.std.specs.Prelude.{IsErrAnd}
use Rattle.std.specs.Prelude.{IfErr, IfOk}
use Rattle.jsonb_value.specs.declared.parser.number.Exponents.{Exponents}
use Rattle.jsonb_value.specs.Tree.{Tree}
use Rattle.jsonb_value.specs.Json.Characters.{quote, colon}
use Rattle.jsonb_value.specs.Reader.Reading.{skip_blank, expect, read_text}
use Rattle.jsonb_value.specs.Reader.Reading.{read_value, read_kind, Kind, kind_begun}
use Rattle.jsonb_value.specs.Reader.Reading.{read_number, number_kind}
use Rattle.jsonb_value.proofs.Json.Shorter.{skip_shorter, expect_shorter, text_shorter}
use Rattle.jsonb_value.specs.declared.error.Error.{Error}
use Rattle.jsonb_value.specs.Reader.Gives.{Gives, Fails, FailsIf}
use Rattle.jsonb_value.specs.declared.error.Error.TheVariants.{InvalidJson, OutOfMemory}

-- an error that is passed on
pub fails_on : {Y Y' : Type 0} (e : Error) (read : Option Y) (other : Option Y')
    → (read ≡ None → other ≡ None) → Fails e read → Fails e other
fails_on e read other handed g = grind arith

pub fails_if : {Y : Type 0} (A : Type 0) (e : Error) (read : Option Y) → Fails e read
    → FailsIf A e read
fails_if A InvalidJson read fails = λ a. fails
fails_if A OutOfMemory read fails = tt
fails_if A e read fails = absurd (let h : ⊥ = grind arith in h)

pub fails_sure : {Y : Type 0} (A : Type 0) (e : Error) (read : Option Y) → A → FailsIf A e read
    → Fails e read
fails_sure A e read a fails = grind arith

pub all_sure : {X Y : Type 0} (A : Type 0) (r : Result X Error) (read : Option Y) → A
    → IfErr r (λ e. FailsIf A e read) → IfErr r (λ e. Fails e read)
all_sure A (Ok x) read a fails = tt
all_sure A (Err e) read a fails = fails_sure A e read a fails

pub fails_as : {Y : Type 0} (A : Type 0) (e : Error) (read : Option Y) → FailsIf A e read
    → (e ≡ InvalidJson) ⊎ (e ≡ OutOfMemory)
fails_as A e read fails = grind arith

-- a value of the kind that its first character determines
pub of_kind : (rule : Exponents) (P : Option (Tree × List ℕ) → Type 0) (s rest : List ℕ) (c : ℕ)
    (k : Kind) → s ≡ c ∷ rest → k ≡ kind_begun c
    → ((turns : ℕ) → length rest < turns
    → P (read_kind rule (read_value rule turns) turns k c rest))
    → (n : ℕ) → length s < n → P (read_value rule n s)
unfolding read_value
of_kind rule P s rest c k e is reads zero h = absurd (omega arith)
of_kind rule P s rest c k e is reads (suc n) h = rw (e, ← is) (reads n (omega (arith, ap length e)))

pub reads_kind : (rule : Exponents) (s rest : List ℕ) (c : ℕ) (k : Kind) (t : Tree) (after : List ℕ)
    → s ≡ c ∷ rest
    → k ≡ kind_begun c
    → ((turns : ℕ) → length rest < turns
    → read_kind rule (read_value rule turns) turns k c rest ≡ Some (t, after))
    → (n : ℕ) → length s < n → read_value rule n s ≡ Some (t, after)
reads_kind rule s rest c k t after = of_kind rule (λ q. q ≡ Some (t, after)) s rest c k

-- no value begins with a character past ASCII
kind_past_ascii : (c : ℕ) → 128 ≤ c → kind_begun c ≡ number_kind
kind_past_ascii c great = grind arith

number_past_ascii : (rule : Exponents) (c : ℕ) (s : List ℕ) → 128 ≤ c
    → read_number rule (c ∷ s) ≡ None
number_past_ascii rule c s great = grind arith

pub value_past_ascii : (rule : Exponents) (n : ℕ) (s : List ℕ)
    → ((c : ℕ) (more : List ℕ) → s ≡ c ∷ more → 128 ≤ c) → read_value rule n s ≡ None
unfolding read_value
value_past_ascii rule zero s great = refl
value_past_ascii rule (suc n) [] great = refl
value_past_ascii rule (suc n) (c ∷ s) great =
    let past = great c s refl in
    rw (kind_past_ascii c past, number_past_ascii rule c s past) refl

pub skipped_shorter : (s inside : List ℕ) → inside ≡ skip_blank s → length inside ≤ length s
skipped_shorter s inside e = grind (arith, skip_shorter)

pub passed_on : {X Y Y' : Type 0} (view : X → Y') (r : Result X Error) (e : Error) (read : Option Y)
    (other : Option Y') → IsErrAnd r (λ y. y ≡ e)
    → (read ≡ None → other ≡ None) → Fails e read → Gives view r other
passed_on view r e read other is handed g = grind (arith, fails_on)

-- after the opening quote of a key
pub opened_shorter : (s inside opened : List ℕ) → inside ≡ skip_blank s
    → Some opened ≡ expect quote inside → length opened < length s
opened_shorter s inside opened e is =
    omega (arith, skipped_shorter s inside e, expect_shorter quote inside opened (sym is))

pub opens : (s inside opened : List ℕ) → inside ≡ skip_blank s → Some opened ≡ expect quote inside
    → expect quote (skip_blank s) ≡ Some opened
opens s inside opened e is = ap (expect quote) (sym e) ∙ sym is

-- the text after the colon
pub after_shorter : (opened : List ℕ) (key after inside later : List ℕ)
    → ((n : ℕ) → length opened < n → read_text n [] opened ≡ Some (key, after))
    → inside ≡ skip_blank after → Some later ≡ expect colon inside → length later < length opened
after_shorter opened key after inside later is e found =
    omega (
      arith,
      text_shorter (suc (length opened)) [] opened key after
          (is (suc (length opened))
          (omega arith)),
      skipped_shorter after inside e,
      expect_shorter colon inside later
          (sym found),
    )

pub err_is : {X : Type 0} (r : Result X Error) (e : Error) (P : Error → Type 0)
    → IsErrAnd r (λ y. y ≡ e) → P e → IfErr r P
err_is r e P is p = grind arith

pub err_as : {X : Type 0} (r : Result X Error) (P Q : Error → Type 0) → IfErr r P
    → ((e : Error) → P e → Q e) → IfErr r Q
err_as (Ok x) P Q h turn = tt
err_as (Err e) P Q h turn = turn e h

pub ok_as : {X : Type 0} (r : Result X Error) (P Q : X → Type 0) → IfOk r P
    → ((x : X) → P x → Q x) → IfOk r Q
ok_as (Ok x) P Q h turn = turn x h
ok_as (Err e) P Q h turn = tt
