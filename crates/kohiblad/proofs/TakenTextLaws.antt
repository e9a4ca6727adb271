-- The texts that are taken so far.
use Rattle.std.proofs.Common.{◌≡◌, ◌<◌, ◌≤◌, ◌%◌, ◌^◌, ◌-◌, ℕ, ◌+◌, List, [], ◌∷◌, ◌++◌}
use Rattle.std.proofs.Common.{length, map, take, drop, get_or, Result, Ok, Err, inl, inr, refl, sym}
use Rattle.std.proofs.Common.{subst, ap, ap₂, ◌∙◌, arith, append_assoc, length-append}
use Rattle.std.specs.Prelude.{slice_set}
use Rattle.std.specs.List.{AllZip, concat}
use Rattle.std.specs.Str.{IsUtf8}
use Rattle.std.proofs.Math.Nat.{mod-eq_of_lt}
use Rattle.std.proofs.lemmas.List.{append-nil, length-map, length-take-le, map-append, take_more}
use Rattle.std.proofs.lemmas.List.Folds.{concat-append}
use Rattle.std.proofs.lemmas.Slice.Zip.{all_zipped_more}
use Rattle.std.proofs.lemmas.Str.{IsUtf8-nil}
use Rattle.jsonb_value.specs.Meaning.{Meaning}
use Rattle.jsonb_functions.specs.declared.path.Step.{Step}
use Rattle.kohiblad.specs.Located.{IsTakenAt}
use Rattle.kohiblad.specs.OverRows.{OverRows}
use Rattle.kohiblad.specs.Taking.{IsTakenBy, values_put}
use Rattle.kohiblad.specs.declared.taking.Reading.TheVariants.{Unchecked}
use Rattle.kohiblad.specs.TakenTexts.{AreRowTextsTaken, AreTextsMade, AreTextsRefused}
use Rattle.kohiblad.specs.TakenTexts.{AreTextsTaken, HandingOver, IsBytes, IsBytesAt}
use Rattle.kohiblad.specs.TakenTexts.{IsBytesUnchecked, IsTextsOf, TextBuffers, ends_from}
use Rattle.kohiblad.specs.TakenTexts.{low_word, text_offsets}
use Rattle.kohiblad.specs.declared.places.KohibladPlace.{KohibladPlace}
use Rattle.kohiblad.specs.declared.taking.KohibladTaken.{KohibladTaken}
use Rattle.kohiblad.specs.declared.taking_texts.BytesType.{BytesType}
use Rattle.kohiblad.specs.declared.taking_texts.BytesType.TheVariants as bytes_types
use Rattle.kohiblad.specs.declared.taking_texts.TakenTexts.{TakenTexts}
use Rattle.kohiblad.proofs.OverRowsLaws.{not_refused, over_rows}
use Rattle.kohiblad.proofs.TakingLaws.{one_more_in}

-- No bytes are a text.
pub no_bytes : (bytes_type : BytesType) → bytes_type ≡ bytes_types.Text → IsUtf8 []
no_bytes bytes_type is = IsUtf8-nil

-- What is taken at a place, and is UTF-8 if it is a text.
pub bytes_at : (bytes_type : BytesType) (bytes : List ℕ) (place : KohibladPlace)
    (taken : List ℕ × ℕ) → IsTakenAt (IsBytes bytes_type) [] bytes place taken
    → (bytes_type ≡ bytes_types.Text → IsUtf8 taken.0) → IsBytesAt bytes_type bytes place taken
bytes_at bytes_types.Text bytes place taken is utf8 = (is, utf8 refl)
bytes_at bytes_types.Binary bytes place taken is utf8 = is

-- The same of a row that is not checked.
pub bytes_unchecked : (bytes_type : BytesType) (path : List Step) (row : List ℕ)
    (taken : List ℕ × ℕ) → IsTakenBy (IsBytes bytes_type) [] Unchecked path row taken
    → (bytes_type ≡ bytes_types.Text → IsUtf8 taken.0)
    → IsBytesUnchecked bytes_type path row taken
bytes_unchecked bytes_types.Text path row taken is utf8 = (is, utf8 refl)
bytes_unchecked bytes_types.Binary path row taken is utf8 = is

-- One text more ends where all of them do.
pub one_more_end : (start : ℕ) (texts : List (List ℕ)) (text : List ℕ)
    → ends_from start (texts ++ text ∷ [])
    ≡ ends_from start texts ++ (start + length (concat (texts ++ text ∷ []))) ∷ []
one_more_end start [] text =
    ap (λ (xs : List ℕ). (start + length xs) ∷ []) (sym (append-nil text))
one_more_end start (first ∷ texts) text =
    let next = start + length first in
    let long : length (concat (first ∷ (texts ++ text ∷ [])))
    ≡ length first + length (concat (texts ++ text ∷ [])) =
    length-append first (concat (texts ++ text ∷ [])) in
    let same : start + length first + length (concat (texts ++ text ∷ []))
    ≡ start + length (concat (first ∷ (texts ++ text ∷ []))) = omega arith in
    ap (λ (xs : List ℕ). next ∷ xs) (one_more_end next texts text)
    ∙ ap (λ (k : ℕ). next ∷ (ends_from next texts ++ k ∷ [])) same

-- The texts of some rows, and one more.
pub one_more_text : (taken : List (List ℕ × ℕ)) (kept after : TakenTexts) (one : List ℕ × ℕ)
    → IsTextsOf taken kept → after.texts.items ≡ kept.texts.items ++ one.0
    → after.offsets.items ≡ kept.offsets.items ++ length after.texts.items ∷ []
    → after.states.items ≡ kept.states.items ++ one.1 ∷ []
    → IsTextsOf (taken ++ one ∷ []) after
one_more_text taken kept after one are more_texts more_offsets more_states =
    let values : values_put (taken ++ one ∷ []) ≡ values_put taken ++ one.0 ∷ [] =
    map-append (λ (p : List ℕ × ℕ). p.0) taken (one ∷ []) in
    let joined : concat (values_put taken ++ one.0 ∷ []) ≡ concat (values_put taken) ++ one.0 =
    concat-append (values_put taken) (one.0 ∷ [])
    ∙ ap (λ (xs : List ℕ). concat (values_put taken) ++ xs) (append-nil one.0) in
    let texts_are : after.texts.items ≡ concat (values_put taken ++ one.0 ∷ []) =
    more_texts ∙ ap (λ (xs : List ℕ). xs ++ one.0) are.texts ∙ sym joined in
    let total = length (concat (values_put taken ++ one.0 ∷ [])) in
    let from_0 : total ≡ 0 + total = omega arith in
    let offsets_are : after.offsets.items ≡ text_offsets (values_put taken ++ one.0 ∷ []) =
    more_offsets
    ∙ ap₂ (λ (xs : List ℕ) (k : ℕ). xs ++ k ∷ []) are.offsets (ap length texts_are)
    ∙ ap (λ (k : ℕ). text_offsets (values_put taken) ++ k ∷ []) from_0
    ∙ ap (λ (xs : List ℕ). 0 ∷ xs) (sym (one_more_end 0 (values_put taken) one.0)) in
    record {
      texts = texts_are ∙ ap concat (sym values);
      offsets = offsets_are ∙ ap text_offsets (sym values);
      states =
          more_states
          ∙ ap (λ (xs : List ℕ). xs ++ one.1 ∷ []) are.states
          ∙ sym (map-append (λ (p : List ℕ × ℕ). p.1) taken (one ∷ []));
    }

-- The texts of the rows so far.
pub record TextsSoFar {A : Type 0} (IsTaken : A → List ℕ × ℕ → Type 0) (rows left : List A)
    (kept : TakenTexts) : Type 0 where
  pub done : List A
  pub taken : List (List ℕ × ℕ)
  pub whole : rows ≡ done ++ left
  pub each : AllZip IsTaken done taken
  pub are : IsTextsOf taken kept

pub no_texts : {A : Type 0} (IsTaken : A → List ℕ × ℕ → Type 0) (rows : List A)
    (kept : TakenTexts) → IsTextsOf [] kept → TextsSoFar IsTaken rows rows kept
no_texts IsTaken rows kept are = record {
  done = [];
  taken = [];
  whole = refl;
  each = tt;
  are = are;
}

pub one_more_row : {A : Type 0} (IsTaken : A → List ℕ × ℕ → Type 0) (rows left later : List A)
    (row : A) (kept after : TakenTexts) (one : List ℕ × ℕ) → TextsSoFar IsTaken rows left kept
    → left ≡ row ∷ later → IsTaken row one
    → ((taken : List (List ℕ × ℕ)) → IsTextsOf taken kept → IsTextsOf (taken ++ one ∷ []) after)
    → TextsSoFar IsTaken rows later after
one_more_row IsTaken rows left later row kept after one so_far cut is more = record {
  done = so_far.done ++ row ∷ [];
  taken = so_far.taken ++ one ∷ [];
  whole =
      so_far.whole
      ∙ ap (λ (xs : List _). so_far.done ++ xs) cut
      ∙ sym (append_assoc so_far.done (row ∷ []) later);
  each = all_zipped_more IsTaken so_far.done so_far.taken row one so_far.each is;
  are = more so_far.taken so_far.are;
}

pub all_texts : {A : Type 0} (IsTaken : A → List ℕ × ℕ → Type 0) (rows left : List A)
    (kept : TakenTexts) → TextsSoFar IsTaken rows left kept → left ≡ []
    → (taken : List (List ℕ × ℕ)) × (AllZip IsTaken rows taken × IsTextsOf taken kept)
all_texts IsTaken rows left kept so_far none =
    let whole : rows ≡ so_far.done =
    so_far.whole ∙ ap (λ (xs : List _). so_far.done ++ xs) none ∙ append-nil so_far.done in (
      so_far.taken,
      (
        subst (λ (xs : List _). AllZip IsTaken xs so_far.taken) (sym whole) so_far.each,
        so_far.are,
      ),
    )

-- The low half of one word more is written behind those of the first ones.
pub one_more_low : (words old now : List ℕ) (n d : ℕ) → n < length words → n < length old
    → now ≡ map low_word (take n words) ++ drop n old
    → slice_set now n (low_word (get_or words n d))
    ≡ map low_word (take (n + 1) words) ++ drop (n + 1) old
one_more_low words old now n d some room is =
    let front = map low_word (take n words) in
    let long : length front ≡ n =
    length-map (take n words) low_word ∙ length-take-le n words (omega arith) in
    let more : map low_word (take (n + 1) words) ≡ front ++ low_word (get_or words n d) ∷ [] =
    ap (λ (xs : List ℕ). map low_word xs) (take_more words n d some)
    ∙ map-append low_word (take n words) (get_or words n d ∷ []) in
    one_more_in front old now n (low_word (get_or words n d)) long room is
    ∙ ap (λ (xs : List ℕ). xs ++ drop (n + 1) old) (sym more)

-- Of texts that are not too long each offset has 32 bits.
low_ends : (start : ℕ) (texts : List (List ℕ)) → start + length (concat texts) < 2 ^ 32
    → map low_word (ends_from start texts) ≡ ends_from start texts
low_ends start [] short = refl
low_ends start (text ∷ texts) short =
    let next = start + length text in
    let long : length (concat (text ∷ texts)) ≡ length text + length (concat texts) =
    length-append text (concat texts) in
    let here : next % (2 ^ 32) ≡ next = mod-eq_of_lt (omega arith) in
    ap₂ (λ (k : ℕ) (xs : List ℕ). k ∷ xs) here (low_ends next texts (omega arith))

pub short_offsets : (texts : List (List ℕ)) → length (concat texts) ≤ 2 ^ 31 - 1
    → map low_word (text_offsets texts) ≡ text_offsets texts
short_offsets texts short =
    ap (λ (xs : List ℕ). 0 ∷ xs) (low_ends 0 texts (omega arith))

-- Texts that were made, and only the status with which they are refused.
abbrev made_of : TakenTexts → Result TakenTexts ℕ
made_of kept = Ok kept

abbrev only_status : ℕ → Result TakenTexts ℕ
only_status status = Err status

one_status : (status other : ℕ) → only_status status ≡ only_status other → status ≡ other
one_status status other same = cc

-- What becomes of texts that were made, or refused.
module _ (AreHandedOver : HandingOver) (IsTaken : List Step → List ℕ → List ℕ × ℕ → Type 0)
    (bytes offsets : List ℕ) (path : Meaning) (b : TextBuffers) (answer : KohibladTaken) where
  -- These are made of the rows.
  abbrev AreMade : Result TakenTexts ℕ → Type 0
  AreMade made =
      OverRows (λ status. made ≡ Err status) (λ all steps. AreTextsMade (IsTaken steps) all made)
      bytes offsets path

  pub made_texts : (kept : TakenTexts) → AreMade (made_of kept)
      → ((taken : List (List ℕ × ℕ)) → IsTextsOf taken kept → AreHandedOver taken b answer)
      → AreTextsTaken AreHandedOver IsTaken bytes offsets path b answer
  made_texts kept made hand =
      over_rows (λ status. made_of kept ≡ Err status) (λ status. AreTextsRefused status b answer)
      (λ all steps. AreTextsMade (IsTaken steps) all (made_of kept))
      (λ all steps. AreRowTextsTaken AreHandedOver (IsTaken steps) all b answer)
      (λ status both. absurd (not_refused kept status both))
      (λ all steps is. handed all steps is) bytes offsets path made
    where
      handed : (all : List (List ℕ)) (steps : List Step)
          → AreTextsMade (IsTaken steps) all (made_of kept)
          → AreRowTextsTaken AreHandedOver (IsTaken steps) all b answer
      handed all steps (inl (taken, (each, are))) = inl (taken, (each, hand taken are))
      handed all steps (inr both) = absurd (not_refused kept _ both)

  pub refused_texts : (status : ℕ) → AreMade (only_status status) → AreTextsRefused status b answer
      → AreTextsTaken AreHandedOver IsTaken bytes offsets path b answer
  refused_texts status made refused =
      over_rows (λ other. only_status status ≡ Err other)
      (λ other. AreTextsRefused other b answer)
      (λ all steps. AreTextsMade (IsTaken steps) all (only_status status))
      (λ all steps. AreRowTextsTaken AreHandedOver (IsTaken steps) all b answer)
      (λ other same. refused_so other same) (λ all steps is. not_made all steps is) bytes offsets
      path made
    where
      refused_so : (other : ℕ) → only_status status ≡ only_status other
          → AreTextsRefused other b answer
      refused_so other same =
          subst (λ (k : ℕ). AreTextsRefused k b answer) (one_status status other same) refused

      not_made : (all : List (List ℕ)) (steps : List Step)
          → AreTextsMade (IsTaken steps) all (only_status status)
          → AreRowTextsTaken AreHandedOver (IsTaken steps) all b answer
      not_made all steps (inl (taken, (each, are))) = absurd are
      not_made all steps (inr same) = inr (refused_so _ same)
