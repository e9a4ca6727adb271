-- Rows that are written one after another.
use Rattle.std.proofs.Common.{◌≡◌, ℕ, ◌+◌, ◌<◌, List, [], ◌∷◌, ◌++◌, length, take, drop, ap}
use Rattle.std.proofs.Common.{sym, ◌∙◌, append_assoc, refl, Result, Ok, Err}
use Rattle.std.proofs.lemmas.List.{append-nil, take-append-drop, take_more}
use Rattle.std.specs.Prelude.{OnOk, flat_map, slice_index_or}
use Rattle.std.specs.Io.KnownBytes.{Appends, Keeps}
use Rattle.std.proofs.KnownBytes.{Appends-kept}
use Rattle.answer_lines.specs.Output.{AppendsPrefix}
use Rattle.answer_lines.proofs.Output.{Known, appends_both, prefix_after_all, prefix_of_more}
use Rattle.kohiblad_shell.specs.declared.sort.Keyed.{Keyed}

pub on_ok : {T E P : Type 0} (r : Result T E) → P → OnOk r P
on_ok (Ok x) p = p
on_ok (Err e) p = tt

-- what was written stays
pub all_written : (old mid new : Known) (bytes : List ℕ) → Appends old mid bytes → Keeps mid new
    → Appends old new bytes
all_written old mid new bytes appends kept = Appends-kept old mid new bytes appends kept

-- what stands for a row beyond the last one
abbrev pub no_row : Keyed
no_row = record {
  key = record { ref_ptr = (0, 0); now = [] };
  line = record { ref_ptr = (0, 0); now = [] };
}

module _ {A : Type 0} (line_of : A → List ℕ) where
  lines-append : (xs ys : List A)
      → flat_map line_of (xs ++ ys) ≡ flat_map line_of xs ++ flat_map line_of ys
  lines-append [] ys = refl
  lines-append (x ∷ xs) ys =
      ap (λ b. line_of x ++ b) (lines-append xs ys)
      ∙ sym (append_assoc (line_of x) (flat_map line_of xs) (flat_map line_of ys))

module _ {A : Type 0} (line_of : A → List ℕ) (none : A) (rows : List A) (i : ℕ)
    (low : i < length rows) where
  lines-more : flat_map line_of (take (i + 1) rows)
      ≡ flat_map line_of (take i rows) ++ line_of (slice_index_or rows i none)
  lines-more =
      ap (flat_map line_of) (take_more rows i none low)
      ∙ lines-append line_of (take i rows) (slice_index_or rows i none ∷ [])
      ∙ ap (λ b. flat_map line_of (take i rows) ++ b)
      (append-nil (line_of (slice_index_or rows i none)))

  lines-parts : flat_map line_of rows
      ≡ (flat_map line_of (take i rows) ++ line_of (slice_index_or rows i none))
      ++ flat_map line_of (drop (i + 1) rows)
  lines-parts =
      ap (flat_map line_of) (sym (take-append-drop (i + 1) rows))
      ∙ lines-append line_of (take (i + 1) rows) (drop (i + 1) rows)
      ∙ ap (λ b. b ++ flat_map line_of (drop (i + 1) rows)) lines-more

  -- one more row is written
  pub one_more_row : (old mid new : Known)
      → Appends old mid (flat_map line_of (take i rows))
      → Appends mid new (line_of (slice_index_or rows i none))
      → Appends old new (flat_map line_of (take (i + 1) rows))
  one_more_row old mid new so_far then =
      rw lines-more
      (appends_both old mid new (flat_map line_of (take i rows))
      (line_of (slice_index_or rows i none)) so_far then)

  -- only a prefix of it is written
  pub row_breaks : (old mid new : Known)
      → Appends old mid (flat_map line_of (take i rows))
      → AppendsPrefix mid new (line_of (slice_index_or rows i none))
      → AppendsPrefix old new (flat_map line_of rows)
  row_breaks old mid new so_far then =
      rw lines-parts
      (prefix_of_more (flat_map line_of (drop (i + 1) rows))
      (prefix_after_all (flat_map line_of (take i rows)) so_far then))
