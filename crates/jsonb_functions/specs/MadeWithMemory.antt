-- What is made with memory for the work, of something that may exceed the limits of the format.
use Rattle.std.specs.Prelude.{◌≡◌, ◌⊎◌, Result, Err, IfErr, OnOk}
use Rattle.jsonb_value.specs.declared.error.Error.{Error}
use Rattle.jsonb_value.specs.declared.error.Error.TheVariants.{InvalidJsonb, OutOfMemory}

-- It is made only if it fits; `InvalidJsonb` means that it does not, `OutOfMemory` leaves that
-- open, and there is no other error.
pub record MadeWithMemory {A : Type 0} (Fit : Type 0) (result : Result A Error) : Type 0 where
  pub fits : OnOk result Fit
  pub past : result ≡ Err InvalidJsonb → Fit → ⊥
  pub only : IfErr result (λ e. (e ≡ InvalidJsonb) ⊎ (e ≡ OutOfMemory))
