-- The position in a document of the value that a look-up finds.
use Rattle.std.proofs.Common.{◌≡◌, ℕ, ◌+◌, ◌-◌, Bool, List, length, slice_get, Option, None}
use Rattle.std.proofs.Common.{Some, option_map, Result, Ok, Err, IsOkAnd, refl, sym, ap, subst}
use Rattle.std.proofs.Common.{◌∙◌, inl, inr, arith}
use Rattle.std.specs.Map.{values_of}
use Rattle.jsonb_value.specs.declared.error.Error.{Error}
use Rattle.jsonb_value.specs.Tree.{Tree, object}
use Rattle.jsonb_value.specs.Tree.{Pairs}
use Rattle.jsonb_codec.specs.Doc.{Doc, Payload}
use Rattle.jsonb.specs.declared.entries.Entry.{Entry}
use Rattle.jsonb.specs.Entry.{Code}
use Rattle.jsonb.specs.ItemView.{ItemView}
use Rattle.jsonb.specs.Lookup.{AnswersBy, IsFound, IsNotFound, LooksUp}
use Rattle.jsonb.specs.StoredEntries.{entry_item}
use Rattle.jsonb.proofs.KindLaws.{header_at-object}
use Rattle.jsonb.proofs.LookupLaws.{find_entry-first, find_entry-none, tree_found}
use Rattle.jsonb.proofs.StoredEntryLaws.{IsObjectOfEntries-Payload, members_at}
use Rattle.jsonb.specs.Prefix.{is_name}
use Rattle.kohiblad.specs.Places.{part_in, value_place, IsPlaceFound, IsValuePlace}
use Rattle.kohiblad.proofs.Lookups.{counted}
use Rattle.kohiblad.proofs.PlaceLaws.{value_stored}

value_with : (o : Option Code) (x : ItemView) → option_map entry_item o ≡ Some (Ok x)
    → (c : Code) × (o ≡ Some c)
value_with None x is = absurd cc
value_with (Some c) x is = (c, refl)

module _ (name b : List ℕ) where
  abbrev answers : List ℕ → Bool → Type 0
  answers key says = says ≡ is_name name key

  by : AnswersBy (is_name name) answers (length name)
  by key says fits is = is

  none_among : (ps : Pairs) (reads : ℕ) → Payload (object ps) b
      → IsNotFound answers (length name) ps reads → IsValuePlace b (object ps) name (Ok None)
  none_among ps reads doc h =
      let m = IsObjectOfEntries-Payload b ps doc in
      let none =
      find_entry-none answers (is_name name) (length name) by m.0 ps m.1.mean h.none in
      (m.0, (m.1, (None, (refl, sym none))))

  some_among : (ps : Pairs) (x : ItemView) (reads : ℕ) → Payload (object ps) b
      → IsFound answers (length name) b ps x reads
      → IsValuePlace b (object ps) name (value_place b reads (Ok (Some x)))
  some_among ps x reads doc h =
      let ms = h.members in
      let pairs = counted b _ (members_at b ms h.stored.few h.stored.written).header in
      let count = counted b _ (header_at-object b ps doc) in
      let (c, there) = value_with (slice_get (values_of ms) h.index) x h.entry in
      let at = value_stored b ps ms h.stored h.index c there in
      let which : reads - 2 ≡ length ms + h.index = omega (arith, pairs, count, h.cost) in
      let first = find_entry-first answers (is_name name) (length name) by ms ps h.index h.value
      h.stored.mean h.first in (
        ms,
        (
          h.stored,
          (
            Some at.place,
            (
              ap (part_in b) which ∙ at.found,
              ap (λ (c : Code). Some c) at.there ∙ sym (first ∙ there),
            ),
          ),
        ),
      )

  in_tree : (t : Tree) (o : Option ItemView) (reads : ℕ) → Doc b t
      → LooksUp answers (length name) b t o reads
      → IsValuePlace b t name (value_place b reads (Ok o))
  in_tree (object ps) None reads (inr (is, doc)) h = none_among ps reads doc h
  in_tree (object ps) (Some x) reads (inr (is, doc)) h = some_among ps x reads doc h
  in_tree (object ps) o reads (inl (other, doc)) h = absurd (other refl)
  in_tree t o reads doc h = ap (λ (o : Option ItemView). value_place b reads (Ok o)) h.0

  by_item : (t : Tree) (item : Result (Option ItemView) Error) (reads : ℕ) → Doc b t
      → IsOkAnd item (λ o. LooksUp answers (length name) b t o reads)
      → IsValuePlace b t name (value_place b reads item)
  by_item t (Ok o) reads doc h = in_tree t o reads doc h
  by_item t (Err e) reads doc h = absurd h

  -- What the look-up finds in the bytes of a document is the position of the value.
  pub found_stored : (t : Tree) (found : Result (Option Entry) Error) → Doc b t
      → IsPlaceFound name b found → IsValuePlace b t name found
  found_stored t found doc h =
      subst (IsValuePlace b t name) (sym h.place)
      (by_item t h.item h.reads doc
      (tree_found answers (length name) b t h.item h.reads doc h.looks_up))
