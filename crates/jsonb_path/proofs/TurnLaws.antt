-- Steps that each make something smaller end, however many turns they are given.
use Rattle.std.proofs.Common.{◌≡◌, ◌∙◌, ℕ, zero, suc, ◌<◌, ap, refl, arith, sym}
use Rattle.jsonb_path.specs.Turns.{Turn, ends_with, goes_on, after_turn, turns}

-- What a turn keeps: of where it goes on, or of the result.
abbrev pub Keeps : {X Y : Type 0} → (X → Type 0) → (Y → Type 0) → Turn X Y → Type 0
Keeps P Q (ends_with y) = Q y
Keeps P Q (goes_on x) = P x

kept_after : {X Y : Type 0} (P : X → Type 0) (Q : Y → Type 0) (go : X → Y)
    → ((x : X) → P x → Q (go x)) → (t : Turn X Y) → Keeps P Q t → Q (after_turn go t)
kept_after P Q go all (ends_with y) h = h
kept_after P Q go all (goes_on x) h = all x h

pub kept : {X Y : Type 0} (step : X → Turn X Y) (none : Y) (P : X → Type 0) (Q : Y → Type 0)
    → Q none → ((x : X) → P x → Keeps P Q (step x)) → (n : ℕ) (x : X) → P x
    → Q (turns step none n x)
kept step none P Q q keep zero x h = q
kept step none P Q q keep (suc n) x h =
    kept_after P Q (turns step none n) (λ y k. kept step none P Q q keep n y k) (step x) (keep x h)

same_after : {X Y : Type 0} (f g : X → Y) (t : Turn X Y)
    → ((x : X) → t ≡ goes_on x → f x ≡ g x) → after_turn f t ≡ after_turn g t
same_after f g (ends_with y) same = refl
same_after f g (goes_on x) same = same x refl

-- enough turns are as good as any
pub same_turns : {X Y : Type 0} (step : X → Turn X Y) (none : Y) (size : X → ℕ)
    → ((x y : X) → step x ≡ goes_on y → size y < size x)
    → (n m : ℕ) (x : X) → size x < n → size x < m → turns step none n x ≡ turns step none m x
same_turns step none size smaller zero m x h k = absurd (omega arith)
same_turns step none size smaller (suc n) zero x h k = absurd (omega arith)
same_turns step none size smaller (suc n) (suc m) x h k =
    same_after (turns step none n) (turns step none m) (step x)
    (λ y e. let less : size y < size x = smaller x y e in
    same_turns step none size smaller n m y (omega arith) (omega arith))

-- one turn, and then all others
pub turn : {X Y : Type 0} (step : X → Turn X Y) (none : Y) (size : X → ℕ)
    → ((x y : X) → step x ≡ goes_on y → size y < size x) → (x : X)
    → turns step none (suc (size x)) x
    ≡ after_turn (λ y. turns step none (suc (size y)) y) (step x)
turn step none size smaller x =
    same_after (turns step none (size x)) (λ y. turns step none (suc (size y)) y) (step x)
    (λ y e. let less : size y < size x = smaller x y e in
    same_turns step none size smaller (size x) (suc (size y)) y (omega arith) (omega arith))

-- ---- turns that each were seen to make something smaller

-- Turns from here lead to the result, and there are enough of them.
pub record Leads {X Y : Type 0} (step : X → Turn X Y) (none total : Y) (x : X) (size : ℕ)
    : Type 0 where
  pub count : ℕ
  pub enough : size < count
  pub rest : turns step none count x ≡ total

pub leads_begin : {X Y : Type 0} (step : X → Turn X Y) (none : Y) (x : X) (size : ℕ)
    → Leads step none (turns step none (suc size) x) x size
leads_begin step none x size = record { count = suc size; enough = omega arith; rest = refl }

counted_turn : {X Y : Type 0} (step : X → Turn X Y) (none total : Y) (x : X) (size : ℕ)
    (t : Turn X Y) → step x ≡ t → (count : ℕ) → size < count → turns step none count x ≡ total
    → (n : ℕ) × (size < suc n) × (after_turn (turns step none n) t ≡ total)
counted_turn step none total x size t e zero less rest = absurd (omega arith)
counted_turn step none total x size t e (suc n) less rest =
    (n, less, ap (after_turn (turns step none n)) (sym e) ∙ rest)

one_turn : {X Y : Type 0} (step : X → Turn X Y) (none total : Y) (x : X) (size : ℕ) (t : Turn X Y)
    → step x ≡ t → Leads step none total x size
    → (n : ℕ) × (size < suc n) × (after_turn (turns step none n) t ≡ total)
one_turn step none total x size t e h =
    counted_turn step none total x size t e h.count h.enough h.rest

pub leads_on : {X Y : Type 0} (step : X → Turn X Y) (none total : Y) (x y : X) (size less : ℕ)
    → Leads step none total x size → step x ≡ goes_on y → less < size
    → Leads step none total y less
leads_on step none total x y size less h e smaller =
    let one = one_turn step none total x size (goes_on y) e h in
    let enough : size < suc one.0 = one.1 in
    record { count = one.0; enough = omega arith; rest = one.2 }

pub leads_end : {X Y : Type 0} (step : X → Turn X Y) (none total : Y) (x : X) (size : ℕ) (y : Y)
    → Leads step none total x size → step x ≡ ends_with y → total ≡ y
leads_end step none total x size y h e =
    let one = one_turn step none total x size (ends_with y) e h in sym one.2
