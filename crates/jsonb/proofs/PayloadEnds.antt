-- The end of the payloads of entries, computed from their words alone.
use Rattle.std.proofs.Common.{◌≡◌, ℕ, zero, suc, ◌+◌, ◌-◌, ◌*◌, ◌^◌, ◌<◌, ◌≤◌, List, ◌++◌}
use Rattle.std.proofs.Common.{drop, take, length, Ok, Err, refl, sym, ap, subst, ◌∙◌, inl}
use Rattle.std.proofs.Common.{inr, arith, length-drop}
use Rattle.std.proofs.lemmas.Bool.Decides.{leb_tells}
use Rattle.std.proofs.lemmas.List.{take-append-drop, length-take-le}
use Rattle.std.proofs.lemmas.List.Folds.{drop_split}
use Rattle.std.specs.List.{slice_range}
use Rattle.std.specs.Int.{w32, from_be_bytes}
use Rattle.jsonb_value.specs.declared.error.Error.{Error}
use Rattle.jsonb_value.specs.declared.error.Error.TheVariants.{InvalidEOF}
use Rattle.jsonb_codec.specs.declared.jentry.JEntry.{JEntry}
use Rattle.jsonb_codec.specs.WordBytes.{word_at}
use Rattle.jsonb_codec.specs.JEntry.{jentry_of, jentry_in, jentry_at}
use Rattle.jsonb_codec.proofs.RoomLaws.{word_at-inside}
use Rattle.jsonb.specs.Entries.{payloads_end}
use Rattle.jsonb.proofs.Places.{At, At-right, word_at-within}
use Rattle.jsonb.proofs.PartLaws.{word_cut}

-- after an entry that can be read, the end is that of the rest
payloads_end-first : (bytes : List ℕ) (left place end : ℕ) (entry : JEntry)
    → jentry_at bytes place ≡ Ok entry
    → payloads_end bytes (suc left) place end
    ≡ payloads_end bytes left (place + 4) (end + entry.length)
payloads_end-first bytes left place end entry e = rw e

word_there : (xs : List ℕ) (i : ℕ) → i + 4 ≤ length xs → (k : ℕ) × (word_at xs i ≡ Ok k)
word_there xs i long = (from_be_bytes w32 (take 4 (drop i xs)), word_at-inside xs i long)

-- there is no end if some of the words are missing
pub payloads_end-short : (bytes : List ℕ) (left place end : ℕ) → (left ≡ 0 → place ≤ length bytes)
    → length bytes < place + 4 * left → payloads_end bytes left place end ≡ Err InvalidEOF
payloads_end-short bytes zero place end there short =
    let inside = there refl in absurd (omega arith)
payloads_end-short bytes (suc left) place end there short =
    elim (leb_tells (place + 4) (length bytes)) [
      | inl fits ↦
          let (k, word) = word_there bytes place fits.1 in
          rw word (payloads_end-short bytes left (place + 4) _ (λ none. fits.1) (omega arith))
      | inr cut ↦ rw (word_cut bytes place cut.1)
    ]

-- the remaining words, and the end of the payloads computed from them
module _ (bytes : List ℕ) (count word start : ℕ) where
  pub record EndsBy (words : List ℕ) (end : ℕ) : Type 0 where
    left : ℕ
    long : length words ≡ 4 * left
    few : left ≤ count
    at : At bytes (word + 4 * (count - left)) words
    same : payloads_end bytes left (word + 4 * (count - left)) end
        ≡ payloads_end bytes count word start

  -- all the words
  pub ends_by-all : (words : List ℕ) → word + 4 * count ≤ length bytes
      → words ≡ slice_range bytes word (word + 4 * count) → length words ≡ 4 * count
      → EndsBy words start
  ends_by-all words fits is long =
      let first : word ≡ word + 4 * (count - count) = omega arith in
      let at : At bytes word words = record {
        front = take word bytes;
        rest = drop (word + 4 * count) bytes;
        parts = sym (take-append-drop word bytes) ∙ ap (λ x. take word bytes ++ x)
            (drop_split bytes word (word + 4 * count) (omega arith)
            ∙ ap (λ x. x ++ drop (word + 4 * count) bytes) (sym is));
        place = sym (length-take-le word bytes (omega arith));
      } in
      record {
        left = count;
        long = long;
        few = omega arith;
        at = subst (λ i. At bytes i words) first at;
        same = ap (λ i. payloads_end bytes count i start) (sym first);
      }

  pub ends_by-others : (words : List ℕ) (end : ℕ) (entry : JEntry) → EndsBy words end
      → 4 ≤ length words → jentry_at words 0 ≡ Ok entry
      → EndsBy (drop 4 words) (end + entry.length)
  ends_by-others words end entry by some e =
      let place = word + 4 * (count - by.left) in
      let left = by.left - 1 in
      let one : by.left ≡ suc left = omega (arith, by.long) in
      let next : word + 4 * (count - left) ≡ place + 4 = omega (arith, by.few) in
      let here = ap jentry_in (word_at-within bytes place words by.at some) ∙ e in
      record {
        left = left;
        long = omega (arith, length-drop 4 words, by.long);
        few = omega (arith, by.few);
        at = At-right bytes place (word + 4 * (count - left)) (take 4 words) (drop 4 words)
            (omega (arith, length-take-le 4 words some)) (rw take-append-drop by.at);
        same = rw next (sym (payloads_end-first bytes left place end entry here)
            ∙ subst (λ n. payloads_end bytes n place end ≡ _) one by.same);
      }

  pub ends_by-none : (words : List ℕ) (end : ℕ) → EndsBy words end → length words < 4
      → Ok end ≡ payloads_end bytes count word start
  ends_by-none words end by few =
      let none : by.left ≡ 0 = omega (arith, by.long) in
      rw none at by.same

pub no_entry : (words : List ℕ) (e : Error) → jentry_at words 0 ≡ Err e → length words < 4
no_entry words e cut = elim (leb_tells 4 (length words)) [
  | inl fits ↦ let there = ap jentry_in (word_there words 0 fits.1).1 in cc
  | inr few ↦ few.1
]

pub some_entry : (words : List ℕ) (entry : JEntry) → jentry_at words 0 ≡ Ok entry
    → 4 ≤ length words
some_entry words entry e = elim (leb_tells 4 (length words)) [
  | inl fits ↦ fits.1
  | inr few ↦ let cut = ap jentry_in (word_cut words 0 few.1) in cc
]

-- the length has 28 bits
pub short_entry : (words : List ℕ) (entry : JEntry) → jentry_at words 0 ≡ Ok entry
    → entry.length < 2 ^ 28
short_entry words entry e =
    let (k, word) = word_there words 0 (some_entry words entry e) in
    let there = ap jentry_in word in
    let same : entry ≡ jentry_of k = cc in
    rw same (omega arith)
