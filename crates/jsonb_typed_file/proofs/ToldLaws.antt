-- What is told of how the bytes of a file are laid out.
use Rattle.std.proofs.Common.{◌≡◌, ◌≢◌, ◌⊎◌, inl, inr, ℕ, ◌≤◌, List, [], ◌++◌, Result, Ok, Err}
use Rattle.std.proofs.Common.{Option, None, Some, refl, sym, ap, subst, arith}
use Rattle.std.specs.Prelude.{◌↔◌, IsErrAnd}
use Rattle.std.specs.Result.{result_err}
use Rattle.std.proofs.lemmas.List.{append-nil}
use Rattle.jsonb_typed_file.specs.declared.error.FileError.{FileError}
use Rattle.jsonb_typed_file.specs.declared.error.FileError.TheVariants as errors
use Rattle.jsonb_typed_file.specs.File.{IsLayoutTold, LengthsFit}
use Rattle.jsonb_typed_file.specs.Layout.{Contents, HasNoMagic, HasOtherVersion, HasTrailingData}
use Rattle.jsonb_typed_file.specs.Layout.{IsCutOff, IsLayout}

-- Errors that say how bytes are laid out come before all others.
abbrev number : FileError → ℕ
number errors.BadMagic = 0
number errors.UnknownVersion = 1
number errors.Cut = 2
number errors.TrailingData = 3
number errors.WrongLength = 4
number errors.TooDeep = 5
number errors.OutOfForm = 6
number errors.OutOfMemory = 7

one_number : (e f : FileError) → Some e ≡ Some f → number e ≡ number f
one_number e f same = let inner : e ≡ f = cc in ap number inner

no_error : {e : FileError} → ◌≡◌ {A = Option FileError} None (Some e) → ⊥
no_error same = absurd cc

module _ (bytes : List ℕ) where
  -- What is told by an error is told by each result that has it.
  pub told_layout : {A : Type 0} (r : Result A FileError) (e : FileError)
      → IsErrAnd r (λ x. x ≡ e) → IsLayoutTold bytes (Some e) → IsLayoutTold bytes (result_err r)
  told_layout (Ok x) e is told = absurd is
  told_layout (Err x) e is told = subst (λ y. IsLayoutTold bytes (Some y)) (sym is) told

  -- Where no error is told of the layout, none of the other errors tells of it.
  pub other_told : (e : FileError) → 5 ≤ number e → IsLayoutTold bytes None
      → IsLayoutTold bytes (Some e)
  other_told e later told = record {
    magic = (
      λ is. absurd (omega (arith, later, one_number e errors.BadMagic is)),
      λ none. absurd (no_error (told.magic.1 none)),
    );
    version = (
      λ is. absurd (omega (arith, later, one_number e errors.UnknownVersion is)),
      λ other. absurd (no_error (told.version.1 other)),
    );
    cut = λ is. absurd (omega (arith, later, one_number e errors.Cut is));
    cut_refused = λ off. absurd (told.cut_refused off);
    trailing = λ is. absurd (omega (arith, later, one_number e errors.TrailingData is));
    trailing_refused = λ more. absurd (told.trailing_refused more);
    lengths = λ is. absurd (omega (arith, later, one_number e errors.WrongLength is));
    lengths_refused = λ f layout unfit. absurd (told.lengths_refused f layout unfit);
  }

  -- Bytes are refused before their lengths are tested.
  module _ {A : Type 0} (e : FileError)
      (magic : ◌≡◌ {A = Result A FileError} (Err e) (Err errors.BadMagic) ↔ HasNoMagic bytes)
      (version : ◌≡◌ {A = Result A FileError} (Err e) (Err errors.UnknownVersion)
      ↔ HasOtherVersion bytes)
      (begun : (f : Contents) (front more : List ℕ) → IsLayout f front → bytes ≡ front ++ more
      → (e ≡ errors.OutOfMemory) ⊎ ((e ≡ errors.TrailingData) × (more ≢ [])))
      (cut_off : IsCutOff bytes
      → (e ≡ errors.BadMagic) ⊎ ((e ≡ errors.Cut) ⊎ (e ≡ errors.OutOfMemory)))
      (trailing : ◌≡◌ {A = Result A FileError} (Err e) (Err errors.TrailingData)
      → HasTrailingData bytes)
      (sized : e ≢ errors.WrongLength) where
    not_cut : (more : List ℕ) → Some e ≡ Some errors.Cut
        → (e ≡ errors.OutOfMemory) ⊎ ((e ≡ errors.TrailingData) × (more ≢ [])) → ⊥
    not_cut more is (inl memory) =
        omega (arith, one_number e errors.Cut is, ap number memory)
    not_cut more is (inr (later, some)) =
        omega (arith, one_number e errors.Cut is, ap number later)

    turned : (more : List ℕ)
        → (e ≡ errors.OutOfMemory) ⊎ ((e ≡ errors.TrailingData) × (more ≢ []))
        → (e ≡ errors.TrailingData) ⊎ (e ≡ errors.OutOfMemory)
    turned more (inl memory) = inr memory
    turned more (inr (later, some)) = inl later

    whole : (more : List ℕ) → more ≡ []
        → (e ≡ errors.OutOfMemory) ⊎ ((e ≡ errors.TrailingData) × (more ≢ []))
        → e ≡ errors.OutOfMemory
    whole more none (inl memory) = memory
    whole more none (inr (later, some)) = absurd (some none)

    inner : (f : FileError) → Some e ≡ Some f → e ≡ f
    inner f same = cc

    pub read_told : IsLayoutTold bytes (Some e)
    read_told = record {
      magic = (λ is. magic.0 (ap Err (inner errors.BadMagic is)), λ none. cc (magic.1 none));
      version =
          (λ is. version.0 (ap Err (inner errors.UnknownVersion is)), λ other. cc (version.1 other));
      cut = λ is f front more layout parts. not_cut more is (begun f front more layout parts);
      cut_refused = cut_off;
      trailing = λ is. trailing (ap Err (inner errors.TrailingData is));
      trailing_refused = λ t. turned t.more (begun t.file t.front t.more t.layout t.parts);
      lengths = λ is. absurd (sized (inner errors.WrongLength is));
      lengths_refused = λ f layout unfit. inr (whole [] refl
          (begun f bytes [] layout (sym (append-nil bytes))));
    }

  -- Bytes are read, whose lengths fit or do not.
  module _ {A : Type 0} (l : A) (view : Contents)
      (magic : ◌≡◌ {A = Result A FileError} (Ok l) (Err errors.BadMagic) ↔ HasNoMagic bytes)
      (version : ◌≡◌ {A = Result A FileError} (Ok l) (Err errors.UnknownVersion)
      ↔ HasOtherVersion bytes)
      (same : (f : Contents) (front more : List ℕ) → IsLayout f front → bytes ≡ front ++ more
      → (view ≡ f) × (more ≡ []))
      (whole : IsCutOff bytes → ⊥) where
    no_refusal : (e : FileError) → ◌≡◌ {A = Result A FileError} (Ok l) (Err e) → ⊥
    no_refusal e is = absurd cc

    one_view : (f : Contents) → IsLayout f bytes → view ≡ f
    one_view f layout = (same f bytes [] layout (sym (append-nil bytes))).0

    pub unfit_told : (LengthsFit view → ⊥) → IsLayoutTold bytes (Some errors.WrongLength)
    unfit_told unfit = record {
      magic = (
        λ is. absurd (omega (arith, one_number errors.WrongLength errors.BadMagic is)),
        λ none. absurd (no_refusal errors.BadMagic (magic.1 none)),
      );
      version = (
        λ is. absurd (omega (arith, one_number errors.WrongLength errors.UnknownVersion is)),
        λ other. absurd (no_refusal errors.UnknownVersion (version.1 other)),
      );
      cut = λ is. absurd (omega (arith, one_number errors.WrongLength errors.Cut is));
      cut_refused = λ off. absurd (whole off);
      trailing = λ is. absurd
          (omega (arith, one_number errors.WrongLength errors.TrailingData is));
      trailing_refused = λ t. absurd (t.some (same t.file t.front t.more t.layout t.parts).1);
      lengths = λ is f layout fits. unfit (subst LengthsFit (sym (one_view f layout)) fits);
      lengths_refused = λ f layout unfit. inl refl;
    }

    pub fit_told : LengthsFit view → IsLayoutTold bytes None
    fit_told fits = record {
      magic = (
        λ is. absurd (no_error is),
        λ none. absurd (no_refusal errors.BadMagic (magic.1 none)),
      );
      version = (
        λ is. absurd (no_error is),
        λ other. absurd (no_refusal errors.UnknownVersion (version.1 other)),
      );
      cut = λ is. absurd (no_error is);
      cut_refused = λ off. whole off;
      trailing = λ is. absurd (no_error is);
      trailing_refused = λ t. absurd (t.some (same t.file t.front t.more t.layout t.parts).1);
      lengths = λ is. absurd (no_error is);
      lengths_refused = λ f layout unfit. absurd (unfit
          (subst LengthsFit (one_view f layout) fits));
    }
