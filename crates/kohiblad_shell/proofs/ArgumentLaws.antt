-- Flags among arguments.
use Rattle.std.proofs.Common.{◌≡◌, ℕ, Bool, true, false, List, Option, None, Some, refl, ap}
use Rattle.std.specs.Prelude.{codes}
use Rattle.kohiblad_shell.specs.Arguments.{IsFlagText}

-- what is said of a flag case by case
pub flag_is : (text : Option (List ℕ)) (flag : Bool) → (text ≡ None → flag ≡ false)
    → (text ≡ Some (codes "true") → flag ≡ true) → (text ≡ Some (codes "false") → flag ≡ false)
    → IsFlagText text flag
flag_is None flag none set unset = none refl
flag_is (Some text) flag none set unset = (λ is. set (ap Some is), λ is. unset (ap Some is))
