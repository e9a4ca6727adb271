-- Appending a payload to a buffer, whole or not at all.
use Rattle.std.specs.Prelude.{◌≡◌, ◌≤◌, ◌+◌, ◌++◌, ℕ, List, length, vec_len, vec_capacity, Result}
use Rattle.std.specs.Prelude.{IfOk, IfErr, OnOk, OnErr, IsOk}
use Rattle.std.specs.Global.{Vec}
use Rattle.jsonb_value.specs.declared.error.Error.{Error}
use Rattle.jsonb_value.specs.declared.error.Error.TheVariants.{OutOfMemory}

-- The bytes were appended and their number was returned, or memory ran out and the buffer has the
-- bytes that it had; it never does if the capacity suffices.
pub record Appends (bytes : List ℕ) (old new : Vec ℕ) (result : Result ℕ Error) : Type 0 where
  pub len : IfOk result (λ n. n ≡ length bytes)
  pub appended : OnOk result (new.items ≡ old.items ++ bytes)
  pub err : OnErr result (new.items ≡ old.items)
  pub memory : IfErr result (λ e. e ≡ OutOfMemory)
  pub capacity : vec_capacity old ≤ vec_capacity new
  pub room : vec_len old + length bytes ≤ vec_capacity old → IsOk result
