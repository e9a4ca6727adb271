-- How many steps a walk that may give up takes.
use Rattle.std.proofs.Common.{◌≡◌, ℕ, suc, ◌+◌, ◌*◌, ◌≤◌, ◌<◌, arith}
use Rattle.std.specs.Prelude.{Result, Err}
use Rattle.std.proofs.Math.Nat.{mul-suc, suc-mul}
use Rattle.std.proofs.lemmas.Nat.{mul-le}
use Rattle.jsonb_value.specs.Tree.{Tree, null, boolean, number, text, extension, array, object}
use Rattle.jsonb_functions.specs.Steps.{FallsShort, Takes}
use Rattle.jsonb_functions.specs.declared.steps.Unanswered.{Unanswered}
use Rattle.jsonb_functions.specs.declared.steps.Unanswered.TheVariants.{OutOfMemory, TooManySteps}
use Rattle.jsonb_functions.specs.Weight.{weight}

pub takes_more : {A : Type 0} (r : Result A Unanswered) (e : Unanswered) (cost before after : ℕ)
    → r ≡ Err e → e ≡ TooManySteps → before < cost → Takes r cost before after
takes_more r e cost before after is why h = rw (is, why) h

pub falls_short : (e : Unanswered) (m cost mid before : ℕ) → FallsShort mid m e
    → (mid < m → before < cost) → FallsShort before cost e
falls_short TooManySteps m cost mid before h more = more h
falls_short OutOfMemory m cost mid before h more = tt

pub takes_short : {A : Type 0} (r : Result A Unanswered) (e : Unanswered)
    (cost m before mid after : ℕ) → r ≡ Err e → (mid < m → before < cost) → FallsShort mid m e
    → Takes r cost before after
takes_short r e cost m before mid after is more h = rw is (falls_short e m cost mid before h more)

pub weight_positive : (t : Tree) → 1 ≤ weight t
weight_positive null = omega arith
weight_positive (boolean b) = omega arith
weight_positive (number x) = omega arith
weight_positive (text s) = omega arith
weight_positive (extension e) = omega arith
weight_positive (array ts) = omega arith
weight_positive (object ps) = omega arith

-- A value that is compared weighs no more than the product.
pub one_of_both : (t u : Tree) → weight t ≤ weight t * weight u
one_of_both t u = omega (
  arith,
  mul-le (weight t) 1 (weight t) (weight u) (omega arith) (weight_positive u),
)

-- One step, and what is in the one and the product of both.
pub product_parts : (a b m n : ℕ) → m ≡ suc a → n ≡ suc b → 1 + (a + a * b) ≤ m * n
product_parts a b m n e f =
    let parts : suc a * suc b ≡ a * suc b + suc b = suc-mul a (suc b) in
    let more : a * suc b ≡ a * b + a = mul-suc a b in
    rw (e, f) (omega (arith, parts, more))
