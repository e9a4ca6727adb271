-- Characters through which the scan goes.
use Rattle.std.proofs.Common.{◌≡◌, ℕ, true, refl, sym, ◌∙◌, subst, List, [], ◌∷◌, ◌++◌, Option}
use Rattle.std.proofs.Common.{Some}
use Rattle.jsonb_value.specs.Json.Characters.{is_blank, all_blank}
use Rattle.jsonb_value.specs.Json.Bind.{◌>>=◌}
use Rattle.jsonb_value.proofs.Json.Tests.{and_true, and_both, by_true, bind_then, bound, some_same}
use Rattle.jsonb_value.specs.declared.parser.number.Exponents.{Exponents}
use Rattle.json_fault.specs.declared.expected.Bracket.{Bracket}
use Rattle.json_fault.specs.declared.expected.Expected.{Expected}
use Rattle.json_fault.specs.declared.expected.Change.TheVariants.{Keep}
use Rattle.json_fault.specs.Scan.{Move, changed, innermost_bracket, followed, skips}

-- Each of the characters may come in its place.
unfoldable pub Going : Exponents → Expected → List Bracket → List ℕ → Type 0
Going rule e bs [] = Unit {0}
Going rule e bs (c ∷ w) = (m : Move) × (followed rule e (innermost_bracket bs) c ≡ Some m)
    × Going rule m.0 (changed m.1 bs) w

pub arrived : (rule : Exponents) (e : Expected) (bs : List Bracket) → Going rule e bs []
unfolding Going
arrived rule e bs = tt

pub step : (rule : Exponents) (e : Expected) (bs : List Bracket) (m : Move) (c : ℕ) (w : List ℕ)
    → followed rule e (innermost_bracket bs) c ≡ Some m → Going rule m.0 (changed m.1 bs) w
    → Going rule e bs (c ∷ w)
unfolding Going
step rule e bs m c w is more = (m, is, more)

pub blanks_go : (rule : Exponents) (e : Expected) (bs : List Bracket) → skips e ≡ true
    → (b w : List ℕ)
    → all_blank b ≡ true → Going rule e bs w → Going rule e bs (b ++ w)
blanks_go rule e bs skip [] w all more = more
blanks_go rule e bs skip (c ∷ b) w all more =
    let both = and_true (is_blank c) (all_blank b) all in
    step rule e bs (e, Keep) c (b ++ w) (by_true _ _ _ _ (and_both _ _ skip both.0) refl)
    (blanks_go rule e bs skip b w both.1 more)

-- ---- where the scan arrives

-- What is expected, and the open brackets.
abbrev pub Position : Type 0
Position = Expected × List Bracket

-- Where the scan is after the characters, if each may come.
abbrev pub arrives : Exponents → Position → List ℕ → Option Position
arrives rule x [] = Some x
arrives rule x (c ∷ w) =
    followed rule x.0 (innermost_bracket x.1) c >>= λ m. arrives rule (m.0, changed m.1 x.1) w

pub goes_on_after : (rule : Exponents) (x y : Position) (front w : List ℕ)
    → arrives rule x front ≡ Some y → Going rule x.0 x.1 (front ++ w) → Going rule y.0 y.1 w
unfolding Going
goes_on_after rule x y [] w e go =
    subst (λ (z : Position). Going rule z.0 z.1 w) (some_same x y e) go
goes_on_after rule x y (c ∷ front) w e go =
    bind_then (followed rule x.0 (innermost_bracket x.1) c) _ _ e (λ m is last.
    goes_on_after rule (m.0, changed m.1 x.1) y front w last
    (subst (λ (n : Move). Going rule n.0 (changed n.1 x.1) (front ++ w))
    (some_same go.0 m (sym go.1 ∙ is)) go.2))

pub arrives_on : (rule : Exponents) (x y : Position) (front : List ℕ) (m : Move) (c : ℕ)
    → arrives rule x front ≡ Some y → followed rule y.0 (innermost_bracket y.1) c ≡ Some m
    → arrives rule x (front ++ c ∷ []) ≡ Some (m.0, changed m.1 y.1)
arrives_on rule x y [] m c e is =
    subst (λ (z : Position). arrives rule z (c ∷ []) ≡ Some (m.0, changed m.1 y.1))
    (sym (some_same x y e)) (bound _ _ _ m is refl)
arrives_on rule x y (d ∷ front) m c e is =
    bind_then (followed rule x.0 (innermost_bracket x.1) d) _ _ e (λ n first last.
    bound _ _ _ n first (arrives_on rule (n.0, changed n.1 x.1) y front m c last is))

pub arrives_first : (rule : Exponents) (x y : Position) (front w : List ℕ)
    → arrives rule x (front ++ w) ≡ Some y
    → (z : Position) × ((arrives rule x front ≡ Some z) × (arrives rule z w ≡ Some y))
arrives_first rule x y [] w e = (x, (refl, e))
arrives_first rule x y (c ∷ front) w e =
    bind_then (followed rule x.0 (innermost_bracket x.1) c) _ _ e (λ m is last.
    let more = arrives_first rule (m.0, changed m.1 x.1) y front w last in
    (more.0, (bound _ _ _ m is more.1.0, more.1.1)))
