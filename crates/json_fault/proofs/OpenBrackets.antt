-- The list of open brackets, whose last is the innermost.
use Rattle.std.proofs.Common.{◌≡◌, ◌↔◌, ◌<◌, ℕ, ◌-◌, suc, refl, sym, ap, ◌∙◌, arith, List, [], ◌∷◌}
use Rattle.std.proofs.Common.{◌++◌, length, append-nil, Option, Some, None, reverse}
use Rattle.std.specs.Prelude.{option_to_list, IsSome}
use Rattle.std.specs.List.{slice_get}
use Rattle.std.proofs.lemmas.List.{reverse-append}
use Rattle.jsonb_value.proofs.Json.Tests.{no_error}
use Rattle.json_fault.specs.declared.expected.Bracket.{Bracket}
use Rattle.json_fault.specs.Scan.{innermost_bracket, without_innermost}
use mathlib.Core.List.{reverse_aux}

last_onto : (b : Bracket) (bs more : List Bracket)
    → slice_get (b ∷ bs) (length bs) ≡ innermost_bracket (reverse_aux bs (b ∷ more))
last_onto b [] more = refl
last_onto b (c ∷ bs) more = last_onto c bs (b ∷ more)

pub last_is : (bs : List Bracket) → slice_get bs (length bs - 1) ≡ innermost_bracket (reverse bs)
last_is [] = refl
last_is (b ∷ bs) =
    let one : suc (length bs) - 1 ≡ length bs = omega arith in
    ap (λ k. slice_get (b ∷ bs) k) one ∙ last_onto b bs []

pub closed : (old new : List Bracket) (o : Option Bracket) → old ≡ new ++ option_to_list o
    → (o ≡ None → old ≡ []) → reverse new ≡ without_innermost (reverse old)
closed old new None e none =
    let same : new ≡ [] = sym (append-nil new) ∙ sym e ∙ none refl in
    ap reverse same ∙ sym (ap (λ s. without_innermost (reverse s)) (none refl))
closed old new (Some b) e none =
    sym (ap (λ s. without_innermost (reverse s)) e
    ∙ ap without_innermost (reverse-append new (b ∷ [])))

-- nothing is taken from an empty list alone
pub none_open : (bs : List Bracket) (o : Option Bracket) (n : ℕ) → n ≡ length bs
    → (IsSome o ↔ (0 < n)) → o ≡ None → bs ≡ []
none_open [] o n e some none = refl
none_open (b ∷ bs) None n e some none =
    let found = some.1 (omega arith) in absurd (let h : ⊥ = cc in h)
none_open (b ∷ bs) (Some x) n e some none = no_error (sym none)
