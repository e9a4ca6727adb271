-- The result of a look-up, with the closure's results in another form, and the position in it.
use Rattle.std.proofs.Common.{◌≡◌, ℕ, ◌+◌, ◌-◌, ◌*◌, ◌<◌, ◌≤◌, Bool}
use Rattle.std.proofs.Common.{List, length, Option, None, Some, IfSome}
use Rattle.std.proofs.Common.{option_map, Result, Ok, Err, IfOk, refl, ap, subst, sym}
use Rattle.std.proofs.Common.{◌∙◌, arith}
use Rattle.std.proofs.lemmas.Bool.{eqb-true, le-leb}
use Rattle.std.proofs.lemmas.Bool.Decides.{nat_tests}
use Rattle.jsonb_value.specs.declared.error.Error.{Error}
use Rattle.jsonb_codec.specs.declared.constants.TheConstants.{OBJECT_CONTAINER_TAG}
use Rattle.jsonb_codec.specs.JEntry.{jentry_at}
use Rattle.jsonb_codec.specs.WordBytes.{header_at}
use Rattle.jsonb_codec.specs.declared.jentry.JEntry.{JEntry}
use Rattle.jsonb.specs.declared.entries.Entry.{Entry}
use Rattle.jsonb.specs.declared.lookup.FoundValue.{FoundValue}
use Rattle.jsonb.specs.ItemView.{ItemView}
use Rattle.jsonb.specs.Lookup as lookup
use Rattle.jsonb.specs.Lookup.{LooksUpBytes, no_header, other_header, unread, all_passed}
use Rattle.jsonb.specs.Lookup.{one_accepted}
use Rattle.jsonb.specs.Parts.{length_before}
use Rattle.jsonb.specs.Parts.{IsPlaceOf, IsUnreadable, key_unread, value_unread}
use Rattle.jsonb.specs.Steps.{◌>>=◌}
use Rattle.jsonb.specs.Walk.{count_if, count_under}
use Rattle.jsonb.proofs.AnswerLaws.{accepted, passed_before}
use Rattle.jsonb.proofs.PartLaws.{ends_there}
use Rattle.jsonb.specs.Prefix.{is_name}
use Rattle.kohiblad.specs.Places.{part_in, value_place, IsPlaceFound}
use Rattle.kohiblad.proofs.PlaceLaws.{part_from}

module _ (answers others : List ℕ → Bool → Type 0)
    (imply : (key : List ℕ) (b : Bool) → answers key b → others key b) (size : ℕ)
    (bytes : List ℕ) where
  unreadable : (n : ℕ) (e : Error) → IsUnreadable answers size bytes n e
      → IsUnreadable others size bytes n e
  unreadable n e (key_unread pair among before is) =
      key_unread pair among (passed_before answers others imply size bytes n pair before) is
  unreadable n e (value_unread pair key is) =
      value_unread pair (accepted answers others imply size bytes n pair key) is

  pub LooksUpBytes-weaker : (r : Result (Option ItemView) Error) (reads : ℕ)
      → LooksUpBytes answers size bytes r reads → LooksUpBytes others size bytes r reads
  LooksUpBytes-weaker r reads (no_header e count is) = no_header e count is
  LooksUpBytes-weaker r reads (other_header count is one) = other_header count is one
  LooksUpBytes-weaker r reads (unread n e count past is) = unread n e count (unreadable n e past) is
  LooksUpBytes-weaker r reads (all_passed n count none is cost) =
      all_passed n count (passed_before answers others imply size bytes n n none) is cost
  LooksUpBytes-weaker r reads (one_accepted n pair entry count key there is cost) =
      one_accepted n pair entry count (accepted answers others imply size bytes n pair key) there is
      cost

pub counted : (bytes : List ℕ) (header : ℕ × ℕ) → header_at bytes 0 ≡ Ok header
    → lookup.count_in_header bytes ≡ header.1
unfolding lookup.count_in_header
counted bytes header is = ap lookup.count_or_zero is

-- the header of an object
object_by : (n : ℕ) (r : Result (ℕ × ℕ) Error)
    → r >>= (λ (h : ℕ × ℕ). Ok (count_if OBJECT_CONTAINER_TAG h)) ≡ Ok (Some n)
    → r ≡ Ok (OBJECT_CONTAINER_TAG, n)
object_by n (Ok (tag, m)) is = grind (arith, eqb-true)
object_by n (Err e) is = absurd cc

object_header : (bytes : List ℕ) (n : ℕ) → count_under bytes OBJECT_CONTAINER_TAG ≡ Ok (Some n)
    → header_at bytes 0 ≡ Ok (OBJECT_CONTAINER_TAG, n)
unfolding count_under
object_header bytes n is = object_by n (header_at bytes 0) is

-- Where the payloads before one end, by the lengths in their words.
module _ (bytes : List ℕ) where
  word_there : (word : ℕ) (e : JEntry) → jentry_at bytes word ≡ Ok e → word + 4 ≤ length bytes
  word_there word e read = grind (arith, nat_tests)

  -- the part of an object with a place
  part_placed : (n : ℕ) → count_under bytes OBJECT_CONTAINER_TAG ≡ Ok (Some n) → (part : ℕ)
      → part < 2 * n → (entry : Entry) → IsPlaceOf bytes n part entry
      → part_in bytes part ≡ Ok (Some entry)
  part_placed n count part among entry is =
      let fits = word_there (4 + 4 * part) _ is.entry in
      let none : length_before bytes 0 ≡ 0 = refl in
      let all : 0 + part ≡ part = omega arith in
      let lengths = ap (length_before bytes) all in
      let same : 4 + 4 * (2 * n) + length_before bytes (0 + part) ≡ entry.start =
      omega (arith, lengths, is.start) in
      let inside = le-leb (entry.start + entry.length) (length bytes) is.inside in
      let word = is.entry in
      part_from bytes _ (object_header bytes n count) part among entry.start
      (ends_there bytes part 0 (4 + 4 * (2 * n)) 4 (4 + 4 * (2 * n)) (omega (arith, fits)) (omega arith)
      (omega (arith, none)) ∙ ap (λ (s : ℕ). Ok s) same)
      ∙ rw (word, inside) refl

-- The positions in the result of a look-up.
abbrev pub places_of : Result (Option FoundValue) Error → Result (Option Entry) Error
places_of (Ok found) = Ok (option_map (λ (f : FoundValue). f.entry) found)
places_of (Err e) = Err e

-- what is found, given the result of the call
module _ (answers : List ℕ → Bool → Type 0) (name bytes viewed : List ℕ) (same : viewed ≡ bytes)
    (imply : (key : List ℕ) (b : Bool) → answers key b → b ≡ is_name name key)
    (reads : ℕ) where
  looked_up : (r : Result (Option FoundValue) Error)
      → LooksUpBytes answers (length name) viewed (lookup.found_view r) reads
      → LooksUpBytes (λ key b. b ≡ is_name name key) (length name) bytes (lookup.found_view r) reads
  looked_up r looks_up =
      subst (λ (b : List ℕ). LooksUpBytes
      (λ key b. b ≡ is_name name key) (length name) b (lookup.found_view r) reads) same
      (LooksUpBytes-weaker answers
      (λ key b. b ≡ is_name name key) imply (length name) viewed
      (lookup.found_view r) reads looks_up)

  place_by : (f : FoundValue) (n pair : ℕ)
      → count_under bytes OBJECT_CONTAINER_TAG ≡ Ok (Some n) → pair < n → reads ≡ n + pair + 2
      → IsPlaceOf bytes (lookup.count_in_header bytes) (reads - 2) f.entry
      → Ok (Some f.entry) ≡ part_in bytes (reads - 2)
  place_by f n pair count among cost is =
      let same = counted bytes _ (object_header bytes n count) in
      sym (part_placed bytes n count (reads - 2) (omega (arith, cost, among)) f.entry
      (subst (λ (m : ℕ). IsPlaceOf bytes m (reads - 2) f.entry) same is))

  place_of : (r : Result (Option FoundValue) Error)
      → LooksUpBytes (λ key b. b ≡ is_name name key) (length name) bytes (lookup.found_view r) reads
      → IfOk r (λ o. IfSome o
      (λ f. IsPlaceOf bytes (lookup.count_in_header bytes) (reads - 2) f.entry))
      → places_of r ≡ value_place bytes reads (lookup.found_view r)
  place_of (Ok (Some f)) (one_accepted n pair entry count key there is cost) place =
      place_by f n pair count key.among cost place
  place_of (Ok (Some f)) (no_header e count is) place = absurd cc
  place_of (Ok (Some f)) (other_header count is one) place = absurd cc
  place_of (Ok (Some f)) (unread n e count past is) place = absurd cc
  place_of (Ok (Some f)) (all_passed n count none is cost) place = absurd cc
  place_of (Ok None) looks_up place = refl
  place_of (Err e) looks_up place = refl

  pub place_found : (r : Result (Option FoundValue) Error)
      → LooksUpBytes answers (length name) viewed (lookup.found_view r) reads
      → IfOk r (λ o. IfSome o
      (λ f. IsPlaceOf viewed (lookup.count_in_header viewed) (reads - 2) f.entry))
      → IsPlaceFound name bytes (places_of r)
  place_found r looks_up is = record {
    item = lookup.found_view r;
    reads = reads;
    looks_up = looked_up r looks_up;
    place = place_of r (looked_up r looks_up)
        (subst (λ (b : List ℕ). IfOk r (λ o. IfSome o
        (λ f. IsPlaceOf b (lookup.count_in_header b) (reads - 2) f.entry))) same is);
  }
