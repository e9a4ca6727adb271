-- The names in a list.
use Rattle.std.proofs.Common.{◌≡◌, ◌<◌, ◌≤◌, ℕ, List, [], ◌∷◌, ◌++◌, length, take, drop, refl}
use Rattle.std.proofs.Common.{sym, ap, subst, ◌∙◌, arith, true, false, Bool, ne_eqb}
use Rattle.std.proofs.Common.{length-drop, eq-eqb}
use Rattle.std.specs.Prelude.{Option, None, Some, ◌==◌, ◌&&◌, ◌||◌, ◌↔◌, not, codes}
use Rattle.std.specs.Prelude.{bytes_eq, if◌then◌else◌}
use Rattle.std.proofs.lemmas.Slice.Eq.{bytes_eq-Decides}
use Rattle.std.specs.List.{prefix_len}
use Rattle.std.proofs.lemmas.Bool.Decides.{nat_tests}
use Rattle.jsonb_functions.specs.Names.{with_byte, AreNames, BeginsNoMark}
use Rattle.jsonb_functions.specs.PathText.{StopsAt}
use Rattle.jsonb_functions.specs.NameList.{NameList, is_plain_byte, is_unquoted, is_null, quoted}
use Rattle.jsonb_functions.specs.NameList.{plain_name, list_name, name_after}
use Rattle.jsonb_functions.proofs.NameLaws.{IsRead, none_some, same_read, without_byte}
use Rattle.jsonb_functions.proofs.PointerLaws.{neither}

pub ends_run : (c : ℕ) → is_unquoted c ≡ false → c < 128
ends_run c h = grind (arith, nat_tests)

pub ends_plain : (c : ℕ) → is_plain_byte c ≡ false → c < 128
ends_plain c h = grind (arith, nat_tests)

pub takes_unquoted : (c : ℕ) (bytes : List ℕ) → is_unquoted c ≡ true
    → quoted false (c ∷ bytes) ≡ with_byte c (quoted false bytes)
takes_unquoted c bytes e =
    let tests = neither (c == 34) (c == 92) e in rw (tests.0, tests.1) refl

-- What a run of bytes between quotes ends with.
pub no_mark_none : (rest : List ℕ) → StopsAt is_unquoted rest → BeginsNoMark rest
    → quoted false rest ≡ None
no_mark_none [] stops none = refl
no_mark_none (c ∷ rest) stops high =
    let low : c < 128 = ends_run c stops in absurd (omega (arith, low, high))

pub quote_ends : (rest after : List ℕ) (c : ℕ) → rest ≡ c ∷ after → c ≡ 34
    → quoted false rest ≡ Some ([], after)
quote_ends rest after c e is = ap (quoted false) (e ∙ ap (λ x. x ∷ after) is)

backslash_by : (a b : Bool) → (not a && not b) ≡ false → a ≡ false → b ≡ true
backslash_by false true stops other = refl
backslash_by false false stops other = absurd (cc)
backslash_by true b stops other = absurd (cc)

-- After a backslash.
pub backslash_then : (rest after : List ℕ) (c : ℕ) → StopsAt is_unquoted rest
    → rest ≡ c ∷ after → (c ≡ 34 → ⊥) → quoted false rest ≡ quoted true after
backslash_then [] after c stops e other = let never : ⊥ = cc in absurd never
backslash_then (d ∷ rest) after c stops e other =
    let same : d ≡ c = cc in
    let tail : rest ≡ after = cc in
    let no : (d == 34) ≡ false = ne_eqb d 34 (λ is. other (sym same ∙ is)) in
    let yes : (d == 92) ≡ true = backslash_by (d == 34) (d == 92) stops no in
    let here : quoted false (d ∷ rest) ≡ quoted true rest = rw (no, yes) refl in
    here ∙ ap (quoted true) tail

-- What is not ASCII is taken as it is in any case.
pub no_mark_same : (after : List ℕ) → BeginsNoMark after → quoted true after ≡ quoted false after
no_mark_same [] none = refl
no_mark_same (c ∷ after) high =
    let first : (c == 34) ≡ false = ne_eqb c 34 (λ e. absurd (omega (arith, high, e))) in
    let second : (c == 92) ≡ false = ne_eqb c 92 (λ e. absurd (omega (arith, high, e))) in
    sym (rw (first, second) refl)

pub escaped_byte : (rest after next : List ℕ) (c byte : ℕ) → StopsAt is_unquoted rest
    → rest ≡ c ∷ after → (c ≡ 34 → ⊥) → after ≡ byte ∷ next
    → quoted false rest ≡ with_byte byte (quoted false next)
escaped_byte rest after next c byte stops e other more =
    backslash_then rest after c stops e other ∙ ap (quoted true) more

-- The name is not read where its first byte is another one.
pub no_mark_after : (mark : ℕ) (text : List ℕ) → mark < 128 → BeginsNoMark text
    → None ≡ name_after mark text
no_mark_after mark [] low none = refl
no_mark_after mark (c ∷ text) low high =
    let other : (c == mark) ≡ false = ne_eqb c mark (λ e. absurd (omega (arith, low, high, e))) in
    rw other refl

pub mark_after : (mark c : ℕ) (text rest : List ℕ) → text ≡ c ∷ rest → c ≡ mark
    → list_name rest ≡ name_after mark text
mark_after mark c text rest e is =
    let yes : (c == mark) ≡ true = rw is (eq-eqb mark mark refl) in rw (e, yes) refl

-- What is left after a name is shorter.
quoted_by : (c : ℕ) (bytes : List ℕ)
    → ((b : Bool) (name rest : List ℕ) → quoted b bytes ≡ Some (name, rest)
    → length rest < length bytes) → (x y : Bool) → (c == 34) ≡ x → (c == 92) ≡ y
    → (name rest : List ℕ) → quoted false (c ∷ bytes) ≡ Some (name, rest)
    → length rest < length (c ∷ bytes)
quoted_by c bytes less true y e f name rest is =
    let same = same_read [] bytes name rest (rw e at is) in
    let all : bytes ≡ rest = same.1 in omega (arith, ap length all)
quoted_by c bytes less false true e f name rest is =
    let later : quoted true bytes ≡ Some (name, rest) = rw (e, f) at is in
    omega (arith, less true name rest later)
quoted_by c bytes less false false e f name rest is =
    let later : with_byte c (quoted false bytes) ≡ Some (name, rest) = rw (e, f) at is in
    let parts = without_byte c (quoted false bytes) name rest later in
    omega (arith, less false parts.0 rest parts.1)

quoted_shorter : (bytes : List ℕ) (b : Bool) (name rest : List ℕ)
    → quoted b bytes ≡ Some (name, rest) → length rest < length bytes
quoted_shorter [] true name rest is = absurd (none_some name rest is)
quoted_shorter [] false name rest is = absurd (none_some name rest is)
quoted_shorter (c ∷ bytes) true name rest is =
    let parts = without_byte c (quoted false bytes) name rest is in
    omega (arith, quoted_shorter bytes false parts.0 rest parts.1)
quoted_shorter (c ∷ bytes) false name rest is =
    quoted_by c bytes (quoted_shorter bytes) (c == 34) (c == 92) refl refl name rest is

some_if : (b : Bool) (front back name rest : List ℕ)
    → ◌≡◌ {A = Option (List ℕ × List ℕ)} (if b then None else Some (front, back))
    (Some (name, rest))
    → (front ≡ name) × (back ≡ rest)
some_if true front back name rest is = let never : ⊥ = cc in absurd never
some_if false front back name rest is = same_read front back name rest is

plain_shorter : (bytes name rest : List ℕ) → plain_name bytes ≡ Some (name, rest)
    → length rest ≤ length bytes
plain_shorter bytes name rest is =
    let n = prefix_len is_plain_byte bytes in
    let same =
    some_if ((n == 0) || is_null (take n bytes)) (take n bytes) (drop n bytes) name rest is in
    let left : drop n bytes ≡ rest = same.1 in
    rw (← left) (simp length-drop (omega arith))

listed_by : (c : ℕ) (bytes name rest : List ℕ) (b : Bool) → (c == 34) ≡ b
    → list_name (c ∷ bytes) ≡ Some (name, rest) → length rest ≤ length (c ∷ bytes)
listed_by c bytes name rest true e is =
    let later : quoted false bytes ≡ Some (name, rest) = rw e at is in
    omega (arith, quoted_shorter bytes false name rest later)
listed_by c bytes name rest false e is =
    let plain : list_name (c ∷ bytes) ≡ plain_name (c ∷ bytes) =
    ap (λ b. if b then quoted false bytes else plain_name (c ∷ bytes)) e in
    let later : plain_name (c ∷ bytes) ≡ Some (name, rest) = sym plain ∙ is in
    plain_shorter (c ∷ bytes) name rest later

listed_shorter : (bytes name rest : List ℕ) → list_name bytes ≡ Some (name, rest)
    → length rest ≤ length bytes
listed_shorter [] name rest is = absurd (none_some name rest is)
listed_shorter (c ∷ bytes) name rest is = listed_by c bytes name rest (c == 34) refl is

after_by : (mark c : ℕ) (bytes name rest : List ℕ) (b : Bool) → (c == mark) ≡ b
    → name_after mark (c ∷ bytes) ≡ Some (name, rest) → length rest < length (c ∷ bytes)
after_by mark c bytes name rest true e is =
    let later : list_name bytes ≡ Some (name, rest) = rw e at is in
    omega (arith, listed_shorter bytes name rest later)
after_by mark c bytes name rest false e is =
    let none : ◌≡◌ {A = Option (List ℕ × List ℕ)} None (Some (name, rest)) = rw e at is in
    absurd (none_some name rest none)

pub after_shorter : (mark : ℕ) (text name rest : List ℕ) → name_after mark text ≡ Some (name, rest)
    → length rest < length text
after_shorter mark [] name rest is = absurd (none_some name rest is)
after_shorter mark (c ∷ text) name rest is = after_by mark c text name rest (c == mark) refl is

-- The list without names.
pub none_listed : (text : List ℕ) → text ≡ codes "{}" → (all : List (List ℕ))
    → NameList text all ↔ (Some [] ≡ Some all)
none_listed text e [] = (λ is. refl, λ is. e)
none_listed text e (name ∷ names) = (
  λ is.
      let here : name_after 123 (codes "{}") ≡ Some (name, is.0) = rw e at is.1 in
      let never : ⊥ = cc in absurd never,
  λ is. let never : ⊥ = cc in absurd never,
)

-- There is no first name.
pub no_first : (text : List ℕ) → (text ≡ codes "{}" → ⊥) → name_after 123 text ≡ None
    → (all : List (List ℕ)) → NameList text all ↔ ◌≡◌ {A = Option (List (List ℕ))} None (Some all)
no_first text some none [] = (λ is. absurd (some is), λ is. let never : ⊥ = cc in absurd never)
no_first text some none (name ∷ names) = (
  λ is. absurd (none_some name is.0 (sym none ∙ is.1)),
  λ is. let never : ⊥ = cc in absurd never,
)

first_only : (text name rest : List ℕ) → (text ≡ codes "{}" → ⊥)
    → name_after 123 text ≡ Some (name, rest) → (all : List (List ℕ)) → NameList text all
    → (others : List (List ℕ))
    × ((all ≡ name ∷ others) × AreNames (name_after 44) (codes "}") rest others)
first_only text name rest some first [] is = absurd (some is)
first_only text name rest some first (other ∷ others) is =
    let same = same_read other is.0 name rest (sym is.1 ∙ first) in (
      others,
      (
        ap (λ x. x ∷ others) same.0,
        subst (λ x. AreNames (name_after 44) (codes "}") x others) same.1 is.2,
      ),
    )

-- The first name was read.
pub first_read : (text name rest : List ℕ) (names : List (List ℕ)) → (text ≡ codes "{}" → ⊥)
    → name_after 123 text ≡ Some (name, rest) → names ≡ name ∷ []
    → IsRead (NameList text) (name_after 44) (codes "}") rest names
first_read text name rest names some first e = record {
  going = λ others are.
      subst (λ x. NameList text (x ++ others)) (sym e) (rest, first, are);
  only = λ all is.
      let was = first_only text name rest some first all is in
      (was.0, (was.1.0 ∙ ap (λ x. x ++ was.0) (sym e), was.1.1));
}

pub same_bytes : (xs ys : List ℕ) → true ≡ bytes_eq xs ys → xs ≡ ys
same_bytes xs ys e = (bytes_eq-Decides xs ys).0 (sym e)

pub other_bytes : (xs ys : List ℕ) → false ≡ bytes_eq xs ys → xs ≡ ys → ⊥
other_bytes xs ys e is =
    let never : true ≡ false = sym ((bytes_eq-Decides xs ys).1 is) ∙ sym e in absurd (cc)

turned : (b c : Bool) → b ≡ not c → not b ≡ c
turned true true e = absurd (cc)
turned true false e = refl
turned false true e = refl
turned false false e = absurd (cc)

pub same_by_test : (xs ys : List ℕ) → false ≡ not (bytes_eq xs ys) → xs ≡ ys
same_by_test xs ys e = same_bytes xs ys (turned false (bytes_eq xs ys) e)

pub other_by_test : (xs ys : List ℕ) → true ≡ not (bytes_eq xs ys) → xs ≡ ys → ⊥
other_by_test xs ys e = other_bytes xs ys (turned true (bytes_eq xs ys) e)
