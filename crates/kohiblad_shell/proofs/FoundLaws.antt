-- The character at an offset of a text.
use Rattle.std.proofs.Common.{◌≡◌, ℕ, Bool, true, false, List, [], ◌∷◌, ◌++◌, ◌≤◌, length, arith}
use Rattle.std.proofs.Common.{drop, sym, ap, ◌∙◌, refl}
use Rattle.std.proofs.lemmas.Bool.{false≢true}
use Rattle.std.specs.Prelude.{◌&&◌}
use Rattle.std.specs.Str.{IsUtf8, IsCharBoundary, chars}
use Rattle.std.proofs.Math.Utf8.{scalar, scalars, encodes}
use Rattle.std.proofs.Math.Seq.{drop-append_seam}
use Rattle.std.proofs.lemmas.List.{length-append}
use Rattle.std.proofs.lemmas.Str.{IsCharBoundary-at_seam, chars_from_encodes, encodes-append}
use Rattle.std.proofs.lemmas.Str.{encodes-chars, scalars-chars}

-- Of two truths the second.
second : (a b : Bool) → (a && b) ≡ true → b ≡ true
second true b are = are
second false b are = absurd (false≢true are)

-- The last of some codes of characters are such.
scalars_of_back : (front back : List ℕ) → scalars (front ++ back) ≡ true → scalars back ≡ true
scalars_of_back [] back are = are
scalars_of_back (c ∷ front) back are =
    scalars_of_back front back (second (scalar c) (scalars (front ++ back)) are)

-- What stands after the bytes of the first characters of a text.
pub record IsSplit (text front back : List ℕ) : Type 0 where
  pub is_within : length (encodes front) ≤ length text
  pub is_cut : IsCharBoundary text (length (encodes front))
  pub is_rest : chars (drop (length (encodes front)) text) ≡ back

pub split_at : (text front back : List ℕ) → IsUtf8 text → chars text ≡ front ++ back
    → IsSplit text front back
split_at text front back utf8 split =
    let bytes : text ≡ encodes front ++ encodes back =
    sym (encodes-chars text utf8) ∙ ap encodes split ∙ encodes-append front back in
    let are = scalars_of_back front back (ap scalars (sym split) ∙ scalars-chars text utf8) in
    let is_utf8 : IsUtf8 (encodes back) = (back, (are, refl)) in
    record {
      is_within = rw (bytes, length-append (encodes front) (encodes back)) (omega arith);
      is_cut = IsCharBoundary-at_seam text (encodes front) (encodes back) bytes is_utf8;
      is_rest = rw (bytes, drop-append_seam (encodes front) (encodes back))
          (sym (chars_from_encodes back (encodes back) is_utf8 refl));
    }
