-- A search of keys, with the closure's results in another form.
use Rattle.std.proofs.Common.{ℕ, Bool, true, false, List, Option, None, Some, IfSome, Result, Ok}
use Rattle.std.proofs.Common.{Err, IsOkAnd}
use Rattle.jsonb_value.specs.declared.error.Error.{Error}
use Rattle.jsonb.specs.Parts.{key_of_size, PassedBefore, IsAccepted}

module _ (answers others : List ℕ → Bool → Type 0)
    (imply : (key : List ℕ) (b : Bool) → answers key b → others key b) (size : ℕ)
    (bytes : List ℕ) where
  passed_by : (r : Result (Option (List ℕ)) Error)
      → IsOkAnd r (λ asked. IfSome asked (λ key. answers key false))
      → IsOkAnd r (λ asked. IfSome asked (λ key. others key false))
  passed_by (Ok None) h = h
  passed_by (Ok (Some key)) h = imply key false h
  passed_by (Err e) h = h

  pub passed_before : (n pair : ℕ) → PassedBefore answers size bytes n pair
      → PassedBefore others size bytes n pair
  passed_before n pair before = λ k low. passed_by (key_of_size size bytes n k) (before k low)

  pub accepted : (n pair : ℕ) → IsAccepted answers size bytes n pair
      → IsAccepted others size bytes n pair
  accepted n pair h =
      record {
        among = h.among;
        key = h.key;
        there = h.there;
        accepted = imply h.key true h.accepted;
        earlier = passed_before n pair h.earlier;
      }
