-- No two values stand for one member.
use Rattle.std.proofs.Common.{◌≡◌, ℕ, zero, suc, ◌^◌, Bool, true, false, None, Some, sym}
use Rattle.std.proofs.Common.{ap}
use Rattle.std.proofs.Common.{◌∙◌}
use Rattle.std.specs.Prelude.{ℤ, pos, negsuc, nat_lt, if◌then◌else◌}
use Rattle.jsonb_value.specs.Json.Numeral.{number_of, wide_number}
use Rattle.jsonb_value.specs.NumCode.{is_within}
use Rattle.jsonb_value.specs.Order.{fraction_of}
use Rattle.jsonb_value.specs.Tree as trees
use Rattle.jsonb_value.specs.Tree.{Tree}
use Rattle.jsonb_value.specs.declared.number.Number.{Number}
use Rattle.jsonb_value.specs.declared.number.Number.TheVariants.{Int64, UInt64, Decimal64}
use Rattle.jsonb_value.specs.declared.number.Number.TheVariants.{Decimal128}
use Rattle.jsonb_typed.specs.Numbers.{IsNumberAt}
use Rattle.jsonb_typed.specs.TypeValues.{StandsIn, ValueOf}
use Rattle.jsonb_typed.specs.Scalars.{ScalarOf, Stands}
use Rattle.jsonb_typed.specs.Types.{IsAtScale}
use Rattle.jsonb_typed.specs.declared.lattice.LeastType.{LeastType}
use Rattle.jsonb_typed.specs.declared.lattice.LeastType.TheVariants as types
use Rattle.jsonb_typed.specs.declared.numbers.Fit.{Fit}
use Rattle.jsonb_typed.specs.declared.numbers.Fit.TheVariants.{Exact, ByValue}
use Rattle.jsonb_typed.specs.declared.scalar.ScalarType.{ScalarType}
use Rattle.jsonb_typed.specs.declared.scalar.ScalarType.TheVariants as scalars
use Rattle.jsonb_typed.proofs.NumberLaws.{one_equal}

value_of_wide : (b : Bool) (scale : ℕ) (v : ℤ) (x : Number)
    → (if b then Some (Decimal128 (record { scale = scale; value = v })) else None) ≡ Some x
    → (fraction_of x).value ≡ v
value_of_wide true scale v x is =
    let same : Decimal128 (record { scale = scale; value = v }) ≡ x = cc in
    ap (λ (y : Number). (fraction_of y).value) (sym same)
value_of_wide false scale v x is = absurd cc

value_of_unsigned : (b : Bool) (m : ℕ) (x : Number)
    → (if b then Some (UInt64 m) else wide_number 0 (pos m)) ≡ Some x
    → (fraction_of x).value ≡ pos m
value_of_unsigned true m x is =
    let same : UInt64 m ≡ x = cc in ap (λ (y : Number). (fraction_of y).value) (sym same)
value_of_unsigned false m x is = value_of_wide (is_within 127 (pos m)) 0 (pos m) x is

value_of_signed : (b : Bool) (v : ℤ) (x : Number)
    → (if b then Some (Int64 v) else wide_number 0 v) ≡ Some x → (fraction_of x).value ≡ v
value_of_signed true v x is =
    let same : Int64 v ≡ x = cc in ap (λ (y : Number). (fraction_of y).value) (sym same)
value_of_signed false v x is = value_of_wide (is_within 127 v) 0 v x is

value_of_decimal : (over within : Bool) (scale : ℕ) (v : ℤ) (x : Number)
    → (if over then None else if within
    then Some (Decimal64 (record { scale = scale; value = v })) else wide_number scale v) ≡ Some x
    → (fraction_of x).value ≡ v
value_of_decimal true within scale v x is = absurd cc
value_of_decimal false true scale v x is =
    let same : Decimal64 (record { scale = scale; value = v }) ≡ x = cc in
    ap (λ (y : Number). (fraction_of y).value) (sym same)
value_of_decimal false false scale v x is = value_of_wide (is_within 127 v) scale v x is

value_of_number : (scale : ℕ) (v : ℤ) (x : Number) → number_of scale v ≡ Some x
    → (fraction_of x).value ≡ v
value_of_number zero (pos m) x is = value_of_unsigned (nat_lt m (2 ^ 64)) m x is
value_of_number zero (negsuc m) x is = value_of_signed (is_within 63 (negsuc m)) (negsuc m) x is
value_of_number (suc s) v x is =
    value_of_decimal (nat_lt 255 (suc s)) (is_within 63 v) (suc s) v x is

one_at : (fit : Fit) (scale : ℕ) (v w : ℤ) (x : Number) → IsNumberAt fit scale v x
    → IsNumberAt fit scale w x → v ≡ w
one_at Exact scale v w x first second =
    sym (value_of_number scale v x first) ∙ value_of_number scale w x second
one_at ByValue scale v w x first second =
    one_equal (fraction_of x) v w scale first second

one_number : (fit : Fit) (scale : ℕ) (v w : ℤ) (t : Tree) → IsAtScale fit scale v t
    → IsAtScale fit scale w t → v ≡ w
one_number fit scale v w (trees.number x) first second = one_at fit scale v w x first second
one_number fit scale v w trees.null first second = absurd first
one_number fit scale v w (trees.boolean b) first second = absurd first
one_number fit scale v w (trees.text bytes) first second = absurd first
one_number fit scale v w (trees.extension e) first second = absurd first
one_number fit scale v w (trees.array ts) first second = absurd first
one_number fit scale v w (trees.object ps) first second = absurd first

one_scalar : (fit : Fit) (type : ScalarType) (v w : ScalarOf type) (t : Tree)
    → Stands fit type v t → Stands fit type w t → v ≡ w
one_scalar fit scalars.Boolean v w t first second = let same = sym first ∙ second in cc
one_scalar fit scalars.Int64 v w t first second = one_number fit 0 v w t first.1 second.1
one_scalar fit scalars.UInt64 v w t first second =
    let same = one_number fit 0 (pos v) (pos w) t first.1 second.1 in cc
one_scalar fit (scalars.Decimal scale) v w t first second =
    one_number fit scale v w t first.1 second.1
one_scalar fit scalars.Text v w t first second = let same = sym first ∙ second in cc
one_scalar fit scalars.Date v w t first second = let same = sym first ∙ second in cc
one_scalar fit scalars.Timestamp v w t first second = let same = sym first ∙ second in cc
one_scalar fit scalars.ZonedTimestamp v w t first second = let same = sym first ∙ second in cc
one_scalar fit scalars.Interval v w t first second = let same = sym first ∙ second in cc
one_scalar fit scalars.Binary v w t first second = let same = sym first ∙ second in cc

pub one_value : (fit : Fit) (type : LeastType) (v w : ValueOf type) (t : Tree)
    → StandsIn fit type v t → StandsIn fit type w t → v ≡ w
one_value fit types.Nothing v w t first second = absurd first
one_value fit (types.Of type) v w t first second = one_scalar fit type v w t first second
one_value fit types.Mixed v w t first second = absurd first
