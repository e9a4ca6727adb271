-- The rows that are taken so far, and what is written for them.
use Rattle.std.proofs.Common.{◌≡◌, ℕ, ◌+◌, ◌<◌, ◌≤◌, List, [], ◌∷◌, ◌++◌, length, drop}
use Rattle.std.proofs.Common.{refl, sym, ap, ap₂, ◌∙◌, arith, append_assoc, length-append}
use Rattle.std.specs.Prelude.{slice_index_or, slice_set}
use Rattle.std.specs.List.{AllZip}
use Rattle.std.proofs.lemmas.List.{drop_more, length-map, map-append}
use Rattle.std.proofs.lemmas.Slice.Zip.{all_zipped_more}
use Rattle.std.proofs.Math.Seq.{set-append_seam}
use Rattle.kohiblad.specs.Taking.{states_of, values_put}

-- One more value is written behind those at the front.
pub one_more_in : {V : Type 0} (front : List V) (old now : List V) (n : ℕ) (v : V)
    → length front ≡ n → n < length old → now ≡ front ++ drop n old
    → slice_set now n v ≡ (front ++ v ∷ []) ++ drop (n + 1) old
one_more_in {V} front old now n v long inside is =
    let cut = drop_more old n v inside in
    let parts = is ∙ ap (λ (xs : List V). front ++ xs) cut in
    ap₂ (λ (xs : List V) (k : ℕ). slice_set xs k v) parts (sym long)
    ∙ set-append_seam front (slice_index_or old n v) (drop (n + 1) old) v
    ∙ sym (append_assoc front (v ∷ []) (drop (n + 1) old))

pub record TakenSoFar {R V : Type 0} (IsTaken : R → V × ℕ → Type 0) (rows left : List R)
    (number : ℕ) (values values_now : List V) (states states_now : List ℕ) : Type 0 where
  pub done : List R
  pub taken : List (V × ℕ)
  pub whole : rows ≡ done ++ left
  pub each : AllZip IsTaken done taken
  pub many : length taken ≡ number
  pub counted : number + length left ≡ length rows
  pub values_are : values_now ≡ values_put taken ++ drop number values
  pub states_are : states_now ≡ states_of taken ++ drop number states

pub none_taken : {R V : Type 0} (IsTaken : R → V × ℕ → Type 0) (rows : List R)
    (values : List V) (states : List ℕ)
    → TakenSoFar IsTaken rows rows 0 values values states states
none_taken IsTaken rows values states = record {
  done = [];
  taken = [];
  whole = refl;
  each = tt;
  many = refl;
  counted = omega arith;
  values_are = refl;
  states_are = refl;
}

pub one_more_taken : {R V : Type 0} (IsTaken : R → V × ℕ → Type 0)
    (rows left later : List R) (row : R) (number : ℕ) (values values_now : List V)
    (states states_now : List ℕ) (one : V × ℕ)
    → TakenSoFar IsTaken rows left number values values_now states states_now
    → left ≡ row ∷ later → IsTaken row one
    → length rows ≤ length values → length rows ≤ length states
    → TakenSoFar IsTaken rows later (number + 1) values (slice_set values_now number one.0) states
    (slice_set states_now number one.1)
one_more_taken {R} {V} IsTaken rows left later row number values values_now states states_now one
    so_far cut is room room_of_states =
    let counted = so_far.counted in
    let many = so_far.many in
    let shorter : length left ≡ length later + 1 = ap length cut ∙ omega arith in
    let longer : length (so_far.taken ++ one ∷ []) ≡ length so_far.taken + 1 =
    length-append so_far.taken (one ∷ []) in
    record {
      done = so_far.done ++ row ∷ [];
      taken = so_far.taken ++ one ∷ [];
      whole =
          so_far.whole
          ∙ ap (λ (xs : List R). so_far.done ++ xs) cut
          ∙ sym (append_assoc so_far.done (row ∷ []) later);
      each = all_zipped_more IsTaken so_far.done so_far.taken row one so_far.each is;
      many = omega arith;
      counted = omega arith;
      values_are =
          one_more_in (values_put so_far.taken) values values_now number one.0
          (length-map so_far.taken (λ (p : V × ℕ). p.0) ∙ many) (omega arith) so_far.values_are
          ∙ ap (λ (xs : List V). xs ++ drop (number + 1) values)
          (sym (map-append (λ (p : V × ℕ). p.0) so_far.taken (one ∷ [])));
      states_are =
          one_more_in (states_of so_far.taken) states states_now number one.1
          (length-map so_far.taken (λ (p : V × ℕ). p.1) ∙ many) (omega arith) so_far.states_are
          ∙ ap (λ (xs : List ℕ). xs ++ drop (number + 1) states)
          (sym (map-append (λ (p : V × ℕ). p.1) so_far.taken (one ∷ [])));
    }
