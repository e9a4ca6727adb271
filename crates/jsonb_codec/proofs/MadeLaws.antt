-- Showing of a result that it is made only of what fits.
use Rattle.std.proofs.Common.{◌≡◌, ◌⊎◌, ◌↔◌, Result, Ok, Err, IfErr, OnOk, inl, inr, ap}
use Rattle.jsonb_value.specs.declared.error.Error.{Error}
use Rattle.jsonb_value.specs.declared.error.Error.TheVariants.{InvalidJsonb, OutOfMemory}
use Rattle.jsonb_codec.specs.Made.{MadeIfFit}

refused : {A Fit : Type 0} (r : Result A Error) → OnOk r Fit → (r ≡ Err OutOfMemory → Fit)
    → IfErr r (λ e. (e ≡ InvalidJsonb) ⊎ (e ≡ OutOfMemory)) → (Fit → ⊥) → r ≡ Err InvalidJsonb
refused (Ok x) fits memory only none = absurd (none fits)
refused (Err e) fits memory only none =
    elim only [ inl invalid ↦ ap Err invalid | inr out ↦ absurd (none (memory (ap Err out))) ]

-- Whether it fits decides between the two errors.
pub made_if_fit : {A Fit : Type 0} (r : Result A Error) → OnOk r Fit
    → (r ≡ Err InvalidJsonb → Fit → ⊥) → (r ≡ Err OutOfMemory → Fit)
    → IfErr r (λ e. (e ≡ InvalidJsonb) ⊎ (e ≡ OutOfMemory)) → MadeIfFit Fit r
made_if_fit r fits past memory only = record {
  fits = fits;
  past = (past, refused r fits memory only);
  memory = memory;
  only = only;
}

-- An error that is passed on says the same, also of what fits exactly if the other does.
pub made_passed_on : {A B F G : Type 0} (r : Result A Error) (s : Result B Error) (e : Error)
    → r ≡ Err e → s ≡ Err e → F ↔ G → MadeIfFit F s → MadeIfFit G r
made_passed_on r s e is was same made =
    let only = rw was at made.only in
    rw is (made_if_fit (Err e) tt
    (λ invalid g. let it : s ≡ Err InvalidJsonb = cc in made.past.0 it (same.1 g))
    (λ out. let it : s ≡ Err OutOfMemory = cc in same.0 (made.memory it)) only)

pub made_ok : {A Fit : Type 0} (x : A) → Fit → MadeIfFit Fit (Ok x)
made_ok x fit =
    made_if_fit (Ok x) fit (λ refused. absurd (let never : ⊥ = cc in never)) (λ out. fit) tt
