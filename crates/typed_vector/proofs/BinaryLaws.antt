-- Rows of binary values: one more that is appended to their stored form, and one of them.
use Rattle.std.proofs.Common.{◌≡◌, ℕ, suc, Bool, ◌+◌, ◌-◌, ◌<◌, ◌≤◌, List, [], ◌∷◌, ◌++◌}
use Rattle.std.proofs.Common.{length, get_or, take, drop, add-one, sym, ap, ◌∙◌, arith}
use Rattle.std.proofs.lemmas.List.{length-append}
use Rattle.std.proofs.lemmas.Slice.Zip.{all_zipped_more}
use Rattle.typed_vector.specs.Binaries.{AreBinaries, IsBlankUnlessSet}
use Rattle.typed_vector.specs.Cells.{cell, cells, rows}
use Rattle.typed_vector.specs.Cells.{AreOffsets}
use Rattle.typed_vector.proofs.CellLaws.{AreOffsets-push, IsRowAt, IsThere, is_there, length-rows}
use Rattle.typed_vector.proofs.CellLaws.{pushed_to, row-at, rows-push}

pub binaries_pushed : (vs vs' os os' : List ℕ) (bs bs' : List Bool) (rs rs' : List (List ℕ))
    (bytes : List ℕ) (is : Bool) (r : List ℕ) (end : ℕ) → AreBinaries vs os bs rs
    → IsBlankUnlessSet bytes is → vs' ≡ vs ++ bytes → os' ≡ os ++ end ∷ []
    → bs' ≡ bs ++ is ∷ [] → rs' ≡ rs ++ r ∷ [] → end ≡ length vs'
    → AreBinaries vs' os' bs' rs'
    × (cells (rows vs' os') bs' rs' ≡ cells (rows vs os) bs rs ++ cell bytes is r ∷ [])
binaries_pushed vs vs' os os' bs bs' rs rs' bytes is r end old blank pv po pb pr pe =
    let long : end ≡ length vs + length bytes = pe ∙ ap length pv ∙ length-append vs bytes in
    let more : rows vs' os' ≡ rows vs os ++ bytes ∷ [] =
    rw (pv, po) (rows-push vs bytes end os old.ascending long) in
    let both = pushed_to (rows vs os) (rows vs' os') bs bs' rs rs' bytes is r old.alike more pb pr
    in (
      record {
        ascending = rw (po, ← pe)
            (AreOffsets-push (length vs) end os old.ascending (omega (arith, long)));
        blank = rw (more, pb)
            (all_zipped_more IsBlankUnlessSet (rows vs os) bs bytes is old.blank blank);
        alike = both.0;
      },
      both.1,
    )

-- The row at an index lies between two offsets, which are inside the bytes.
pub record IsBetween (b offsets : List ℕ) (i : ℕ) : Type 0 where
  pub low : get_or offsets i 0 ≤ get_or offsets (i + 1) 0
  pub high : get_or offsets (i + 1) 0 ≤ length b
  pub row : take (get_or offsets (i + 1) 0 - get_or offsets i 0) (drop (get_or offsets i 0) b)
      ≡ get_or (rows b offsets) i []

pub row_between : (b offsets : List ℕ) (i : ℕ) → AreOffsets (length b) offsets
    → i + 1 < length offsets → IsBetween b offsets i
row_between b offsets i ascending within =
    let at : IsRowAt b offsets i = row-at b offsets i ascending within in
    let next : get_or offsets (suc i) 0 ≡ get_or offsets (i + 1) 0 =
    ap (λ (n : ℕ). get_or offsets n 0) (sym (add-one i)) in
    record {
      low = omega (arith, at.low, next);
      high = omega (arith, at.high, next);
      row = ap (λ (n : ℕ). take (n - get_or offsets i 0) (drop (get_or offsets i 0) b)) (sym next)
          ∙ sym at.row;
    }

-- What is there of the row of binary values at an index.
pub record IsBinaryThere (values value_offsets : List ℕ) (are_set : List Bool)
    (rests : List (List ℕ)) (i : ℕ) : Type 0 where
  pub bytes : i + 1 < length value_offsets
  pub there : IsThere (rows values value_offsets) are_set rests i

pub binary_there : (values value_offsets : List ℕ) (are_set : List Bool) (rests : List (List ℕ))
    (i : ℕ) → AreBinaries values value_offsets are_set rests
    → i < length (cells (rows values value_offsets) are_set rests)
    → IsBinaryThere values value_offsets are_set rests i
binary_there values value_offsets are_set rests i stored low =
    let there = is_there (rows values value_offsets) are_set rests i stored.alike low in
    record {
      bytes = omega (arith, there.value, length-rows values value_offsets stored.ascending);
      there = there;
    }
