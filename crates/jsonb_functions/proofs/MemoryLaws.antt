-- What is made with memory for the work.
use Rattle.std.specs.Prelude.{Result}
use Rattle.jsonb_value.specs.declared.error.Error.{Error}
use Rattle.jsonb_codec.specs.Made.{MadeIfFit}
use Rattle.jsonb_functions.specs.MadeWithMemory.{MadeWithMemory}

-- It need not be known whether what no memory is left for would fit.
pub with_memory : {A : Type 0} (Fit : Type 0) (result : Result A Error) → MadeIfFit Fit result
    → MadeWithMemory Fit result
with_memory Fit result h = record { fits = h.fits; past = h.past.0; only = h.only }
