-- The names in a pointer, and the pointer of names.
use Rattle.std.proofs.Common.{◌≡◌, ◌<◌, ℕ, List, [], ◌∷◌, ◌++◌, length, refl, sym}
use Rattle.std.proofs.Common.{ap, ◌∙◌, arith, true, false, Bool, ne_eqb, length-append, inl, inr}
use Rattle.std.proofs.Common.{eqb-true}
use Rattle.std.specs.Prelude.{Option, None, Some, ◌==◌, ◌&&◌, ◌⊎◌, not}
use Rattle.std.proofs.lemmas.Bool.Decides.{nat_tests}
use Rattle.jsonb_functions.specs.Names.{with_byte, AreNames, BeginsNoMark}
use Rattle.jsonb_functions.specs.PathText.{StopsAt}
use Rattle.jsonb_functions.specs.Pointer.{is_unescaped, unescaped, escaped_name, pointer_of}
use Rattle.jsonb_functions.specs.Pointer.{pointer_name, character_of, with_character}
use Rattle.jsonb_functions.proofs.NameLaws.{IsRead, none_some, same_read, without_byte}

pub neither : (a b : Bool) → (not a && not b) ≡ true → (a ≡ false) × (b ≡ false)
neither false false e = (refl, refl)
neither false true e = absurd (cc)
neither true b e = absurd (cc)

pub ends_run : (c : ℕ) → is_unescaped c ≡ false → c < 128
ends_run c h = grind (arith, nat_tests)

pub takes_plain : (c : ℕ) (bytes : List ℕ) → is_unescaped c ≡ true
    → unescaped false (c ∷ bytes) ≡ with_byte c (unescaped false bytes)
takes_plain c bytes e =
    let tests = neither (c == 47) (c == 126) e in rw (tests.0, tests.1) refl

-- What a run of bytes ends with.
pub no_mark_ends : (rest : List ℕ) → StopsAt is_unescaped rest → BeginsNoMark rest
    → unescaped false rest ≡ Some ([], rest)
no_mark_ends [] stops none = refl
no_mark_ends (c ∷ rest) stops high =
    let low : c < 128 = ends_run c stops in absurd (omega (arith, low, high))

slash_by : (c : ℕ) (a b : Bool) → (c == 47) ≡ a → (c == 126) ≡ b → (not a && not b) ≡ false
    → b ≡ false → (c == 47) ≡ true
slash_by c true b e f stops other = e
slash_by c false true e f stops other = absurd (cc)
slash_by c false false e f stops other = absurd (cc)

pub slash_ends : (rest after : List ℕ) (c : ℕ) → StopsAt is_unescaped rest → rest ≡ c ∷ after
    → (c ≡ 126 → ⊥) → unescaped false rest ≡ Some ([], rest)
slash_ends [] after c stops e other = refl
slash_ends (d ∷ rest) after c stops e other =
    let same : d ≡ c = cc in
    let no : (d == 126) ≡ false = ne_eqb d 126 (λ is. other (sym same ∙ is)) in
    let slash : (d == 47) ≡ true = slash_by d (d == 47) (d == 126) refl refl stops no in
    rw slash refl

pub tilde_ends : (after : List ℕ) → BeginsNoMark after → unescaped true after ≡ None
tilde_ends [] none = refl
tilde_ends (c ∷ after) high =
    let first : (c == 48) ≡ false = ne_eqb c 48 (λ e. absurd (omega (arith, high, e))) in
    let second : (c == 49) ≡ false = ne_eqb c 49 (λ e. absurd (omega (arith, high, e))) in
    rw (first, second) refl

-- After a tilde.
pub tilde_then : (rest after : List ℕ) (c : ℕ) → rest ≡ c ∷ after → c ≡ 126
    → unescaped false rest ≡ unescaped true after
tilde_then rest after c e is = ap (unescaped false) (e ∙ ap (λ x. x ∷ after) is)

pub tilde_none : (rest after next : List ℕ) (c code : ℕ) → rest ≡ c ∷ after → c ≡ 126
    → after ≡ code ∷ next → None ≡ character_of code → unescaped false rest ≡ None
tilde_none rest after next c code e is more none =
    tilde_then rest after c e is ∙ ap (unescaped true) more
    ∙ ap (λ x. with_character x (unescaped false next)) (sym none)

pub tilde_some : (rest after next : List ℕ) (c code character : ℕ) → rest ≡ c ∷ after → c ≡ 126
    → after ≡ code ∷ next → Some character ≡ character_of code
    → unescaped false rest ≡ with_byte character (unescaped false next)
tilde_some rest after next c code character e is more some =
    tilde_then rest after c e is ∙ ap (unescaped true) more
    ∙ ap (λ x. with_character x (unescaped false next)) (sym some)

character_by : (code character : ℕ) (a b : Bool) → (code == 48) ≡ a → (code == 49) ≡ b
    → Some character ≡ character_of code
    → ((code ≡ 48) × (character ≡ 126)) ⊎ ((code ≡ 49) × (character ≡ 47))
character_by code character true b e f is =
    let some : Some character ≡ Some 126 = is ∙ rw e refl in inl (eqb-true code 48 e, cc)
character_by code character false true e f is =
    let some : Some character ≡ Some 47 = is ∙ rw (e, f) refl in inr (eqb-true code 49 f, cc)
character_by code character false false e f is =
    let some : Some character ≡ None = is ∙ rw (e, f) refl in let never : ⊥ = cc in absurd never

-- The two characters that a tilde writes.
pub character_is : (code character : ℕ) → Some character ≡ character_of code
    → ((code ≡ 48) × (character ≡ 126)) ⊎ ((code ≡ 49) × (character ≡ 47))
character_is code character is =
    character_by code character (code == 48) (code == 49) refl refl is

pub character_low : (code character : ℕ) → Some character ≡ character_of code → character < 128
character_low code character is =
    elim (character_is code character is) [
      | inl e ↦ omega (arith, e.1)
      | inr e ↦ omega (arith, e.1)
    ]

-- A name that was read is written so.
abbrev marked : Bool → List ℕ → List ℕ
marked true bytes = 126 ∷ bytes
marked false bytes = bytes

escaped_plain : (c : ℕ) (name : List ℕ) → (c == 126) ≡ false → (c == 47) ≡ false
    → escaped_name (c ∷ name) ≡ c ∷ escaped_name name
escaped_plain c name e f = rw (e, f) refl

module _ (c : ℕ) (bytes : List ℕ)
    (spelled : (b : Bool) (name rest : List ℕ) → unescaped b bytes ≡ Some (name, rest)
    → marked b bytes ≡ escaped_name name ++ rest) where
  code_spelled : (code : Option ℕ) → code ≡ character_of c → (name rest : List ℕ)
      → with_character code (unescaped false bytes) ≡ Some (name, rest)
      → 126 ∷ (c ∷ bytes) ≡ escaped_name name ++ rest
  code_spelled None is name rest e = absurd (none_some name rest e)
  code_spelled (Some character) is name rest e =
      let parts = without_byte character (unescaped false bytes) name rest e in
      let more : bytes ≡ escaped_name parts.0 ++ rest = spelled false parts.0 rest parts.1 in
      elim (character_is c character is) [
        | inl both ↦
            ap (λ x. 126 ∷ (x ∷ bytes)) both.0 ∙ ap (λ x. 126 ∷ (48 ∷ x)) more
            ∙ ap (λ x. escaped_name x ++ rest)
            (sym (parts.2 ∙ ap (λ x. x ∷ parts.0) both.1))
        | inr both ↦
            ap (λ x. 126 ∷ (x ∷ bytes)) both.0 ∙ ap (λ x. 126 ∷ (49 ∷ x)) more
            ∙ ap (λ x. escaped_name x ++ rest)
            (sym (parts.2 ∙ ap (λ x. x ∷ parts.0) both.1))
      ]

  plain_spelled : (a b : Bool) → (c == 47) ≡ a → (c == 126) ≡ b → (name rest : List ℕ)
      → unescaped false (c ∷ bytes) ≡ Some (name, rest) → c ∷ bytes ≡ escaped_name name ++ rest
  plain_spelled true b e f name rest is =
      let ends : Some ([], c ∷ bytes) ≡ Some (name, rest) = rw e at is in
      let same = same_read [] (c ∷ bytes) name rest ends in
      same.1 ∙ ap (λ x. escaped_name x ++ rest) same.0
  plain_spelled false true e f name rest is =
      let later : unescaped true bytes ≡ Some (name, rest) = rw (e, f) at is in
      ap (λ x. x ∷ bytes) (eqb-true c 126 f) ∙ spelled true name rest later
  plain_spelled false false e f name rest is =
      let later : with_byte c (unescaped false bytes) ≡ Some (name, rest) = rw (e, f) at is in
      let parts = without_byte c (unescaped false bytes) name rest later in
      ap (λ x. c ∷ x) (spelled false parts.0 rest parts.1)
      ∙ ap (λ x. x ++ rest) (sym (escaped_plain c parts.0 f e))
      ∙ ap (λ x. escaped_name x ++ rest) (sym parts.2)

pub name_spelled : (bytes : List ℕ) (b : Bool) (name rest : List ℕ)
    → unescaped b bytes ≡ Some (name, rest) → marked b bytes ≡ escaped_name name ++ rest
name_spelled [] true name rest e = absurd (none_some name rest e)
name_spelled [] false name rest e =
    let same = same_read [] [] name rest e in same.1 ∙ ap (λ x. escaped_name x ++ rest) same.0
name_spelled (c ∷ bytes) true name rest e =
    code_spelled c bytes (name_spelled bytes) (character_of c) refl name rest e
name_spelled (c ∷ bytes) false name rest e =
    plain_spelled c bytes (name_spelled bytes) (c == 47) (c == 126) refl refl name rest e

-- And what is written so is read.
module _ (rest : List ℕ) (ends : unescaped false rest ≡ Some ([], rest)) where
  byte_reads : (c : ℕ) (name : List ℕ)
      → unescaped false (escaped_name name ++ rest) ≡ Some (name, rest) → (a b : Bool)
      → (c == 126) ≡ a → (c == 47) ≡ b
      → unescaped false (escaped_name (c ∷ name) ++ rest) ≡ Some (c ∷ name, rest)
  byte_reads c name h true b e f =
      let is : c ≡ 126 = eqb-true c 126 e in
      ap (λ x. unescaped false (escaped_name (x ∷ name) ++ rest)) is ∙ ap (λ x. with_byte 126 x) h
      ∙ ap (λ x. Some (x ∷ name, rest)) (sym is)
  byte_reads c name h false true e f =
      let is : c ≡ 47 = eqb-true c 47 f in
      ap (λ x. unescaped false (escaped_name (x ∷ name) ++ rest)) is ∙ ap (λ x. with_byte 47 x) h
      ∙ ap (λ x. Some (x ∷ name, rest)) (sym is)
  byte_reads c name h false false e f =
      let plain : is_unescaped c ≡ true = rw (f, e) refl in
      ap (λ x. unescaped false (x ++ rest)) (escaped_plain c name e f)
      ∙ takes_plain c (escaped_name name ++ rest) plain ∙ ap (λ x. with_byte c x) h

  pub name_reads : (name : List ℕ) → unescaped false (escaped_name name ++ rest) ≡ Some (name, rest)
  name_reads [] = ends
  name_reads (c ∷ name) = byte_reads c name (name_reads name) (c == 126) (c == 47) refl refl

pointer_ends : (names : List (List ℕ))
    → unescaped false (pointer_of names) ≡ Some ([], pointer_of names)
pointer_ends [] = refl
pointer_ends (name ∷ names) = refl

pub first_by : (c : ℕ) (bytes name rest : List ℕ) (b : Bool) → (c == 47) ≡ b
    → pointer_name (c ∷ bytes) ≡ Some (name, rest) → c ∷ bytes ≡ 47 ∷ (escaped_name name ++ rest)
first_by c bytes name rest true e is =
    let later : unescaped false bytes ≡ Some (name, rest) = rw e at is in
    ap (λ x. x ∷ bytes) (eqb-true c 47 e)
    ∙ ap (λ x. 47 ∷ x) (name_spelled bytes false name rest later)
first_by c bytes name rest false e is =
    let none : ◌≡◌ {A = Option (List ℕ × List ℕ)} None (Some (name, rest)) = rw e at is in
    absurd (none_some name rest none)

-- The first name of a pointer is written so.
pub first_spelled : (text name rest : List ℕ) → pointer_name text ≡ Some (name, rest)
    → text ≡ 47 ∷ (escaped_name name ++ rest)
first_spelled [] name rest is = absurd (none_some name rest is)
first_spelled (c ∷ bytes) name rest is = first_by c bytes name rest (c == 47) refl is

pub first_shorter : (text name rest : List ℕ) → pointer_name text ≡ Some (name, rest)
    → length rest < length text
first_shorter text name rest is =
    omega (
      arith,
      ap length (first_spelled text name rest is),
      length-append (escaped_name name) rest,
    )

-- The names that are read are those of whose pointer the text is.
pub pointer_is : (names : List (List ℕ)) (text : List ℕ) → AreNames pointer_name [] text names
    → text ≡ pointer_of names
pointer_is [] text is = is
pointer_is (name ∷ names) text are =
    first_spelled text name are.0 are.1
    ∙ ap (λ x. 47 ∷ (escaped_name name ++ x)) (pointer_is names are.0 are.2)

pub pointer_reads : (names : List (List ℕ)) (text : List ℕ) → text ≡ pointer_of names
    → AreNames pointer_name [] text names
pointer_reads [] text e = e
pointer_reads (name ∷ names) text e = (
  pointer_of names,
  ap pointer_name e ∙ name_reads (pointer_of names) (pointer_ends names) name,
  pointer_reads names (pointer_of names) refl,
)

pub none_read_yet : (text : List ℕ)
    → IsRead (λ names. text ≡ pointer_of names) pointer_name [] text []
none_read_yet text = record {
  going = λ others are. pointer_is others text are;
  only = λ all e. (all, (refl, pointer_reads all text e));
}
