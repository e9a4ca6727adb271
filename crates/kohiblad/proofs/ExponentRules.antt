-- The rule for exponents that a number gives.
use Rattle.std.proofs.Common.{◌≡◌, ℕ, zero, suc, ◌<◌, subst, sym, arith}
use Rattle.jsonb_value.specs.declared.parser.number.Exponents.{Exponents}
use Rattle.jsonb_value.specs.declared.parser.number.Exponents.TheVariants.{Forbidden, Allowed}
use Rattle.kohiblad.specs.Output.{rule_of}

pub forbidden : (P : Exponents → Type 0) (n : ℕ) → n ≡ 0 → P Forbidden → P (rule_of n)
forbidden P n none p = subst (λ (m : ℕ). P (rule_of m)) (sym none) p

pub allowed : (P : Exponents → Type 0) (n : ℕ) → 0 < n → P Allowed → P (rule_of n)
allowed P zero some p = absurd (omega (arith, some))
allowed P (suc n) some p = p
