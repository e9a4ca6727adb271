-- Look-ups of an item in a prefix of a document.
use Rattle.std.proofs.Common.{◌≡◌, ℕ, ◌<◌, ◌≤◌, ◌==◌, if◌then◌else◌, Bool, true, false, List}
use Rattle.std.proofs.Common.{length, Option, None, Some, Result, Ok, Err, refl, sym, ap, subst}
use Rattle.std.proofs.Common.{◌∙◌, inl, inr, arith, suc}
use Rattle.std.proofs.lemmas.Bool.{le-ltb, lt-ltb}
use Rattle.std.proofs.lemmas.Bool.Decides.{leb_tells}
use Rattle.jsonb_value.specs.declared.error.Error.{Error}
use Rattle.jsonb_value.specs.Tree.{Tree, array}
use Rattle.jsonb_codec.specs.declared.constants.TheConstants.{ARRAY_CONTAINER_TAG}
use Rattle.jsonb_codec.specs.Doc.{Doc}
use Rattle.jsonb_codec.specs.WordBytes.{header_at}
use Rattle.jsonb.specs.declared.entries.Entry.{Entry}
use Rattle.jsonb.specs.declared.lookup.prefix.Progress.{Progress}
use Rattle.jsonb.specs.Entries.{entry_count}
use Rattle.jsonb.specs.Prefix.{item_entry, item_below, some_entry, index_stops, next_stop}
use Rattle.jsonb.specs.Prefix.{progress_of, IsProgress, IsIndexProgress}
use Rattle.jsonb.specs.Steps.{◌>>=◌}
use Rattle.jsonb.specs.Walk.{count_if, count_under}
use Rattle.jsonb.proofs.PrefixLaws.{next_past}
use Rattle.kohiblad.specs.Places.{item_part, part_in, place_of_item, IsItemPlace}
use Rattle.kohiblad.specs.Prefix.{IsItemInDocument}
use Rattle.kohiblad.proofs.PlaceLaws.{part_past, part_read, place_of_item_stored}

-- The item at an index is the part with that number.
module _ (b : List ℕ) (index : ℕ) where
  item_numbered : (h : ℕ × ℕ) → header_at b 0 ≡ Ok h → (n : ℕ) → entry_count h ≡ n
      → item_below b index (Ok (Some n)) ≡ part_in b index
  item_numbered h is n count = elim (leb_tells (suc index) n) [
    | inl among ↦
        ap (λ (inside : Bool). if inside then some_entry (item_entry b index n) else Ok None)
        (lt-ltb index n among.1)
        ∙ sym (subst (λ (m : ℕ). part_in b index ≡ some_entry (item_entry b index m)) count
        (part_read b h is index (omega (arith, count, among.1))))
    | inr past ↦
        ap (λ (inside : Bool). if inside then some_entry (item_entry b index n) else Ok None)
        (le-ltb index n (omega (arith, past.1)))
        ∙ sym (part_past b h is index (omega (arith, count, past.1)))
  ]

  item_tagged : (h : ℕ × ℕ) → header_at b 0 ≡ Ok h
      → item_below b index (Ok (count_if ARRAY_CONTAINER_TAG h)) ≡ item_part b index h
  item_tagged h is = by (h.0 == ARRAY_CONTAINER_TAG) refl where
    by : (tagged : Bool) → (h.0 == ARRAY_CONTAINER_TAG) ≡ tagged
        → item_below b index (Ok (if tagged then Some h.1 else None))
        ≡ (if tagged then part_in b index else Ok None)
    by true tag = item_numbered h is h.1 (rw tag refl)
    by false tag = refl

  item_by : (r : Result (ℕ × ℕ) Error) → header_at b 0 ≡ r
      → item_below b index (r >>= λ h. Ok (count_if ARRAY_CONTAINER_TAG h))
      ≡ (r >>= item_part b index)
  item_by (Ok h) is = item_tagged h is
  item_by (Err e) is = refl

  item_same : item_below b index (count_under b ARRAY_CONTAINER_TAG) ≡ place_of_item b index
  unfolding count_under
  item_same = item_by (header_at b 0) refl

no_error : (b : List ℕ) (t : Tree) (index : ℕ) (e : Error) → IsItemPlace b t index (Err e) → ⊥
no_error b (array ts) index e h = let never = h.1.1.1.0 in absurd cc
no_error b t index e h = absurd cc

-- How far a look-up of an index comes in a document.
pub item_document : (index : ℕ) (b : List ℕ) (hand : ℕ) (progress : Result Progress Error)
    (t : Tree) → IsIndexProgress index b hand progress → Doc b t
    → IsItemInDocument index b t hand progress
item_document index b hand progress t h doc =
    by (next_stop hand (length b) (index_stops index b))
    (next_past (length b) hand (index_stops index b)) h where
      found_by : (found : Result (Option Entry) Error) → IsItemPlace b t index found
          → IsItemInDocument index b t hand (progress_of found)
      found_by (Ok None) place = place
      found_by (Ok (Some entry)) place = place
      found_by (Err e) place = no_error b t index e place

      by : (next : Option ℕ)
          → ((end : ℕ) → next ≡ Some end → (hand < end) × (end ≤ length b))
          → IsProgress next (λ found. found ≡ item_below b index (count_under b ARRAY_CONTAINER_TAG))
          progress
          → IsItemInDocument index b t hand progress
      by (Some end) past h = rw h (past end refl)
      by None past h =
          rw h.1.1 (found_by h.0 (subst (IsItemPlace b t index) (sym (h.1.0 ∙ item_same b index))
          (place_of_item_stored b t index doc)))
