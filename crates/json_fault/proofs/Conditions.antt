-- Tests on numbers and options, as facts.
use Rattle.std.proofs.Common.{◌≡◌, ℕ, ◌<◌, ◌≤◌, ◌⊎◌, inl, inr, true, refl, arith}
use Rattle.std.proofs.Common.{Option, Some, None}
use Rattle.std.specs.Prelude.{nat_lt, nat_le, is_some}
use Rattle.std.specs.Option.{option_or}
use Rattle.std.proofs.lemmas.Bool.Decides.{nat_tests}
use Rattle.jsonb_value.proofs.Json.Tests.{no_error}

pub less_from : (m n : ℕ) → nat_lt m n ≡ true → m < n
less_from m n e = grind (arith, nat_tests)

pub less_test : (m n : ℕ) → m < n → nat_lt m n ≡ true
less_test m n h = grind (arith, nat_tests)

pub most_from : (m n : ℕ) → nat_le m n ≡ true → m ≤ n
most_from m n e = grind (arith, nat_tests)

pub most_test : (m n : ℕ) → m ≤ n → nat_le m n ≡ true
most_test m n h = grind (arith, nat_tests)

pub is_some_found : {A : Type 0} (o : Option A) → is_some o ≡ true → (x : A) × (o ≡ Some x)
is_some_found None e = absurd (let h : ⊥ = cc in h)
is_some_found (Some x) e = (x, refl)

pub some_if : {A : Type 0} (o : Option A) → (o ≡ None → ⊥) → is_some o ≡ true
some_if None h = absurd (h refl)
some_if (Some x) h = refl

pub either_found : {A : Type 0} (x y : Option A) (z : A) → option_or x y ≡ Some z → (x ≡ Some z)
    ⊎ ((x ≡ None) × (y ≡ Some z))
either_found None y z e = inr (refl, e)
either_found (Some x) y z e = inl e

pub either_none : {A : Type 0} (x y : Option A) → x ≡ None → option_or x y ≡ y
either_none None y e = refl
either_none (Some x) y e = no_error (let h : None ≡ Some x = cc in h)

pub either_first : {A : Type 0} (x y : Option A) (z : A) → x ≡ Some z → option_or x y ≡ Some z
either_first None y z e = no_error e
either_first (Some x) y z e = e
