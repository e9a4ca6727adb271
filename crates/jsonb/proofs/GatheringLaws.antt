-- Values that are gathered for an array: one more, and the array of them.
use Rattle.std.proofs.Common.{◌≡◌, ◌+◌, ◌<◌, ◌^◌, ℕ, List, [], ◌∷◌, ◌++◌, length, IsTrue}
use Rattle.std.proofs.Common.{true, false, refl, arith, ◌∙◌, length-append, Err, inl, inr}
use Rattle.jsonb_value.specs.declared.error.Error.TheVariants.{InvalidJsonb, OutOfMemory}
use Rattle.jsonb_codec.specs.Made.{MadeIfFit}
use Rattle.jsonb_codec.proofs.MadeLaws.{made_if_fit}
use Rattle.jsonb.specs.declared.builder.gathered.Gathered.{Gathered}
use Rattle.jsonb.specs.ItemView.{ItemView}
use Rattle.jsonb.specs.Building.{FitArray}
use Rattle.jsonb.specs.Children.{AreShown}
use Rattle.jsonb.specs.Gathering.{IsGathered}
use Rattle.jsonb.specs.Storage.{AreStorable, IsStorable, codes_of}
use Rattle.jsonb.proofs.StorageLaws.{AreCodes-codes_of, AreStorable-FitArray, length-codes_of}

storable_more : (xs : List ItemView) (x : ItemView) → AreStorable xs → IsStorable x
    → AreStorable (xs ++ x ∷ [])
storable_more [] x all one = (one, tt)
storable_more (y ∷ xs) x all one = (all.0, storable_more xs x all.1 one)

storable_before : (xs : List ItemView) (x : ItemView) → AreStorable (xs ++ x ∷ [])
    → AreStorable xs × IsStorable x
storable_before [] x all = (tt, all.0)
storable_before (y ∷ xs) x all =
    let more = storable_before xs x all.1 in ((all.0, more.0), more.1)

fit_of : (xs : List ItemView) → AreStorable xs → length xs < 2 ^ 29 → FitArray xs
fit_of xs storable few =
    let codes = AreCodes-codes_of xs storable in
    record {
      codes = codes_of xs;
      are = codes.0;
      short = codes.1;
      few = rw (length-codes_of xs) few;
    }

-- An array can be built of one more item exactly if there is room for it and it can be stored.
pub record OneMore (xs : List ItemView) (x : ItemView) : Type 0 where
  pub before : FitArray xs
  pub room : length xs < 536870911
  pub storable : IsStorable x

fit_before : (xs : List ItemView) (x : ItemView) → FitArray (xs ++ x ∷ []) → OneMore xs x
fit_before xs x fit =
    let (storable, few) = AreStorable-FitArray (xs ++ x ∷ []) fit in
    let (all, one) = storable_before xs x storable in
    let long = length-append xs (x ∷ []) in
    record {
      before = fit_of xs all (omega (arith, few, long));
      room = omega (arith, few, long);
      storable = one;
    }

fit_more : (xs : List ItemView) (x : ItemView) → OneMore xs x → FitArray (xs ++ x ∷ [])
fit_more xs x one =
    fit_of (xs ++ x ∷ []) (storable_more xs x (AreStorable-FitArray xs one.before).0 one.storable)
    (omega (arith, one.room, length-append xs (x ∷ [])))

module _ {T : Type 0} (stored : T → Type 0) (code : T → ℕ × List ℕ) (old new : Gathered T)
    (xs : List ItemView) (x : ItemView) (before : IsGathered stored code old xs) where
  -- A value that the array cannot hold.
  pub unfit_push : (OneMore xs x → ⊥) → new.fit ≡ false → IsGathered stored code new (xs ++ x ∷ [])
  unfit_push never is = rw is record {
    fit = (λ fit. absurd (let no : ⊥ = cc in no), λ fit. absurd (never (fit_before xs x fit)));
    counted = λ fit. absurd (let no : ⊥ = cc in no);
    kept = λ fit. absurd (let no : ⊥ = cc in no);
  }

  pub not_fit : old.fit ≡ false → OneMore xs x → ⊥
  not_fit is one = let fit = before.fit.1 one.before in cc

  pub no_room : IsTrue old.fit → (old.count < 536870911 → ⊥) → OneMore xs x → ⊥
  no_room fit full one = full (omega (arith, before.counted fit, one.room))

  pub not_stored : (IsStorable x → ⊥) → OneMore xs x → ⊥
  not_stored never one = never one.storable

  -- A value that the array can hold.
  pub fit_push : old.fit ≡ true → old.count < 536870911 → IsStorable x → new.fit ≡ old.fit
      → new.count ≡ old.count + 1
      → (new.complete ≡ true → AreShown stored code new.values.items (xs ++ x ∷ []))
      → IsGathered stored code new (xs ++ x ∷ [])
  fit_push fit room storable same counted kept =
      let more = fit_more xs x record {
        before = before.fit.0 fit;
        room = omega (arith, before.counted fit, room);
        storable = storable;
      } in
      record {
        fit = (λ is. more, λ is. same ∙ fit);
        counted = λ is. omega (arith, counted, before.counted fit, length-append xs (x ∷ []));
        kept = λ is complete. kept complete;
      }

-- What is returned where no array is written.
module _ {T A : Type 0} (stored : T → Type 0) (code : T → ℕ × List ℕ) (g : Gathered T)
    (xs : List ItemView) (is : IsGathered stored code g xs) where
  pub unfit : g.fit ≡ false → MadeIfFit {A = A} (FitArray xs) (Err InvalidJsonb)
  unfit false_is = made_if_fit (Err InvalidJsonb) tt
      (λ e fit. let true_is = is.fit.1 fit in let no : ⊥ = cc in no)
      (λ e. absurd (let no : ⊥ = cc in no)) (inl refl)

  pub no_memory : g.fit ≡ true → MadeIfFit {A = A} (FitArray xs) (Err OutOfMemory)
  no_memory true_is = made_if_fit (Err OutOfMemory) tt
      (λ e. absurd (let no : ⊥ = cc in no)) (λ e. is.fit.0 true_is) (inr refl)
