-- What a successful read implies about its steps.
use Rattle.std.proofs.Common.{arith}
use Rattle.std.proofs.Common.{◌≡◌, Bool, true, false, cond, ◌⊎◌, Option, Some, None}
use Rattle.std.proofs.Common.{ap}
use Rattle.std.specs.Prelude.{◌&&◌}
use Rattle.jsonb_value.specs.Json.Bind.{◌>>=◌}

pub bool_cases : (b : Bool) → (b ≡ true) ⊎ (b ≡ false)
bool_cases b = grind arith

pub cond_some : {A : Type 0} (b : Bool) (o : Option A) (y : A) → cond b o None ≡ Some y → (b ≡ true)
    × (o ≡ Some y)
cond_some b o y e = grind arith

pub chosen : {A : Type 0} (b : Bool) (x y z : A) → cond b x y ≡ z → ((b ≡ true) × (x ≡ z))
    ⊎ ((b ≡ false) × (y ≡ z))
chosen b x y z e = grind arith

pub and_true : (a b : Bool) → (a && b) ≡ true → (a ≡ true) × (b ≡ true)
and_true a b e = grind arith

pub and_both : (a b : Bool) → a ≡ true → b ≡ true → (a && b) ≡ true
and_both a b e h = grind arith

-- the parts of a successful step, passed on by name
pub bind_then : {A B C : Type 0} (r : Option A) (f : A → Option B) (y : B) → (r >>= f) ≡ Some y
    → ((x : A) → r ≡ Some x → f x ≡ Some y → C) → C
bind_then r f y e go = grind arith

pub some_same : {A : Type 0} (a b : A) → Some a ≡ Some b → a ≡ b
some_same a b e = cc

abbrev pub pair_found : {A B : Type 0} → A → B → Option (A × B)
pair_found a b = Some (a, b)

pub some_pair : {A B : Type 0} (a c : A) (b d : B) → pair_found a b ≡ pair_found c d → (a ≡ c)
    × (b ≡ d)
some_pair {A} {B} a c b d e =
    let P : Type 0 = A × B in
    let p : P = (a, b) in
    let q : P = (c, d) in
    let same : p ≡ q = some_same p q e in
    (ap (λ (r : P). r.0) same, ap (λ (r : P). r.1) same)

pub no_error : {A B : Type 0} {x : A} → None ≡ Some x → B
no_error e = absurd (let h : ⊥ = cc in h)

pub by_true : {A : Type 0} (b : Bool) (x y z : A) → b ≡ true → x ≡ z → cond b x y ≡ z
by_true b x y z e h = grind arith

pub by_false : {A : Type 0} (b : Bool) (x y z : A) → b ≡ false → y ≡ z → cond b x y ≡ z
by_false b x y z e h = grind arith

pub bound : {A B : Type 0} (r : Option A) (f : A → Option B) (z : Option B) (x : A) → r ≡ Some x
    → f x ≡ z → (r >>= f) ≡ z
bound r f z x e h = grind arith
