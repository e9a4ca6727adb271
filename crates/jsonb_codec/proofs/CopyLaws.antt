-- A canonical document is copied in the place of being written again.
use Rattle.std.proofs.Common.{◌≡◌, ◌+◌, ◌≤◌, ℕ, List, length, Result, Err, ap, sym, inr, refl}
use Rattle.std.proofs.Common.{arith}
use Rattle.jsonb_value.specs.declared.error.Error.{Error}
use Rattle.jsonb_value.specs.declared.error.Error.TheVariants.{InvalidJsonb, OutOfMemory}
use Rattle.jsonb_value.specs.Tree.{Tree}
use Rattle.jsonb_codec.specs.Canon.{canon, Fits}
use Rattle.jsonb_codec.specs.Canonical.{IsCanonical}
use Rattle.jsonb_codec.specs.Doc.{Doc}
use Rattle.jsonb_codec.specs.Made.{MadeIfFit}
use Rattle.jsonb_codec.proofs.MadeLaws.{made_if_fit}
use Rattle.jsonb_codec.proofs.Rewriting.{canonical_twice}

-- A canonical document is the one that is written for each tree that it means.
pub canonical_copy : (b : List ℕ) → IsCanonical b → (t : Tree) → Doc b t → Fits t × (canon t ≡ b)
canonical_copy b (u, (ok, (fits, e))) t h = canonical_twice b u (sym e) ok fits t h

-- The capacity for the document written anew is the capacity for its copy.
pub room_left : (b : List ℕ) (t : Tree) (n capacity : ℕ) → canon t ≡ b
    → n + length (canon t) ≤ capacity → n + length b ≤ capacity
room_left b t n capacity same room = omega (arith, room, ap length same)

-- A buffer that cannot grow is no limit of the format.
pub made_refused : {A Fit : Type 0} (r : Result A Error) → r ≡ Err OutOfMemory → Fit
    → MadeIfFit Fit r
made_refused r refused fit =
    rw refused (made_if_fit (Err OutOfMemory) tt
    (λ invalid. let never : Err OutOfMemory ≡ Err InvalidJsonb = invalid in absurd (cc))
    (λ out. fit) (inr refl))
