-- Walks over the children of an array or object.
use Rattle.std.proofs.Common.{◌≡◌, ℕ, zero, suc, ◌+◌, ◌*◌, ◌<◌, nat_le, if◌then◌else◌, Bool}
use Rattle.std.proofs.Common.{true, false, List, Option, None, Some, Result, Ok, Err, refl}
use Rattle.std.proofs.Common.{sym, ap, ap₂, subst, ◌∙◌, arith}
use Rattle.std.proofs.lemmas.Bool.{leb-false}
use Rattle.jsonb_value.specs.declared.error.Error.{Error}
use Rattle.jsonb_value.specs.declared.error.Error.TheVariants as errors
use Rattle.jsonb_codec.specs.declared.jentry.JEntry.{JEntry}
use Rattle.jsonb_codec.specs.JEntry.{jentry_at}
use Rattle.jsonb_codec.specs.WordBytes.{header_at}
use Rattle.jsonb.specs.Entry.{placed_at, placed_by}
use Rattle.jsonb.specs.Entries.{entry_count, payloads_end}
use Rattle.jsonb.specs.Steps.{◌>>=◌}
use Rattle.jsonb.specs.declared.entries.Entry.{Entry}
use Rattle.kohiblad.specs.declared.children.Child.{Child}
use Rattle.kohiblad.specs.declared.children.KohibladCursor.{KohibladCursor}
use Rattle.kohiblad.specs.declared.children.ChildLayout.{ChildLayout}
use Rattle.kohiblad.specs.Children.{child_among, child_at_cursor, child_of, cursor_after}
use Rattle.kohiblad.specs.Children.{cursor_among, cursor_at, end_of, first_value, key_end}
use Rattle.kohiblad.specs.Children.{key_offset, layout_in, layout_under, numbered_among}
use Rattle.jsonb.specs.Prefix.{some_entry}
use Rattle.kohiblad.specs.Children.{numbered_child, part_at_cursor, payload_start}
use Rattle.kohiblad.specs.Children.{value_answer}
use Rattle.kohiblad.specs.Places.{part_in}
use Rattle.kohiblad.specs.Status.{code}
use Rattle.kohiblad.proofs.PlaceLaws.{part_from}

-- one entry more
module _ (bytes : List ℕ) (v : ℕ) (e : JEntry) where
  step_by : (n i s : ℕ) (r : Result JEntry Error)
      → ((x : JEntry) → payloads_end bytes n i (s + x.length) ≡ Ok v
      → payloads_end bytes (suc n) i (s + x.length) ≡ Ok (v + e.length))
      → r >>= (λ (x : JEntry). payloads_end bytes n i (s + x.length)) ≡ Ok v
      → r >>= (λ (x : JEntry). payloads_end bytes (suc n) i (s + x.length)) ≡ Ok (v + e.length)
  step_by n i s (Ok x) more here = more x here
  step_by n i s (Err d) more here = absurd cc

  end_step : (n i s j : ℕ) → j ≡ i + 4 * n → payloads_end bytes n i s ≡ Ok v
      → jentry_at bytes j ≡ Ok e → payloads_end bytes (suc n) i s ≡ Ok (v + e.length)
  end_step zero i s j at here there =
      let same : s ≡ v = cc in
      let first : i ≡ j = omega arith in
      ap (λ (r : Result JEntry Error). r >>= (λ (x : JEntry). Ok (s + x.length)))
      (ap (jentry_at bytes) first ∙ there)
      ∙ ap (λ (k : ℕ). Ok (k + e.length)) same
  end_step (suc n) i s j at here there =
      step_by n (i + 4) s (jentry_at bytes i)
      (λ x more. end_step n (i + 4) (s + x.length) j (omega arith) more there) here

-- The payload of an entry that was read ends where the next one begins.
module _ (bytes : List ℕ) (v : ℕ) (entry : Entry) where
  abbrev EndsBy : Result JEntry Error → Type 0
  EndsBy r = (e : JEntry) × ((r ≡ Ok e) × (v + e.length ≡ end_of entry))

  ends_by : (r : Result JEntry Error) → r >>= placed_by bytes v ≡ Ok entry → EndsBy r
  ends_by (Ok e) is = (e, (refl, grind arith))
  ends_by (Err e) is = absurd cc

  next_start : (part start : ℕ) → payloads_end bytes part 4 start ≡ Ok v
      → placed_at bytes (4 + 4 * part) v ≡ Ok entry
      → payloads_end bytes (suc part) 4 start ≡ Ok (end_of entry)
  next_start part start here is =
      let (e, (read, ends)) = ends_by (jentry_at bytes (4 + 4 * part)) is in
      end_step bytes v e part 4 start (4 + 4 * part) refl here read ∙ ap (λ (k : ℕ). Ok k) ends

-- The entries of a layout are all that are under its header.
entries_laid : (header : ℕ × ℕ) (layout : ChildLayout) → layout_under header ≡ Some layout
    → entry_count header ≡ first_value layout + layout.count
entries_laid (tag, n) layout laid = grind arith

-- The key of a child, if it has one, and its value.
key_same : (keyed : Bool) (r q value : Result (Option Entry) Error)
    → (keyed ≡ true → r ≡ q) → child_of keyed r value ≡ child_of keyed q value
key_same true r q value same = ap (λ k. child_of true k value) (same refl)
key_same false r q value same = refl

abbrev IsKey : Bool → Result Entry Error → Option Entry → Type 0
IsKey true r o = (key : Entry) × ((r ≡ Ok key) × (o ≡ Some key))
IsKey false r o = o ≡ None

child_found_by : (keyed : Bool) (r q : Result Entry Error) (child : Child)
    → child_of keyed (some_entry r) (some_entry q) ≡ Ok (Some child)
    → IsKey keyed r child.key × (q ≡ Ok child.value)
child_found_by true (Ok key) (Ok value) child is =
    let same : record { key = Some key; value = value } ≡ child = cc in
    ((key, (refl, sym (ap (λ (c : Child). c.key) same))), ap (λ (c : Child). Ok c.value) same)
child_found_by false r (Ok value) child is =
    let same : record { key = None; value = value } ≡ child = cc in
    (sym (ap (λ (c : Child). c.key) same), ap (λ (c : Child). Ok c.value) same)
child_found_by keyed r q child is = absurd cc

-- What is found at the cursor before the child with an index in this layout, and where it comes.
module _ (bytes : List ℕ) (i : ℕ) (header : ℕ × ℕ) (is : header_at bytes 0 ≡ Ok header)
    (layout : ChildLayout) (laid : layout_under header ≡ Some layout) where
  abbrev first : ℕ
  first = first_value layout

  part_here : (k v : ℕ) → k < first + layout.count → payload_start bytes layout k ≡ Ok v
      → part_in bytes k ≡ part_at_cursor bytes k v
  part_here k v among starts =
      let all = entries_laid header layout laid in
      part_from bytes header is k (omega (arith, all)) v
      (ap (λ (n : ℕ). payloads_end bytes k 4 (4 + 4 * n)) all ∙ starts)

  module _ (k v : ℕ) (key_is : key_offset bytes layout i ≡ Ok k)
      (value_is : payload_start bytes layout (first + i) ≡ Ok v) where
    abbrev here : KohibladCursor
    here = record { index = i; key = k; value = v }

    same_if : (past : Bool) → nat_le layout.count i ≡ past
        → (if past then Ok None else child_of layout.keyed (part_at_cursor bytes i k)
        (part_at_cursor bytes (first + i) v))
        ≡ (if past then Ok None
        else child_of layout.keyed (part_in bytes i) (part_in bytes (first + i)))
    same_if true past = refl
    same_if false past =
        let among = leb-false layout.count i past in
        key_same layout.keyed (part_at_cursor bytes i k) (part_in bytes i)
        (part_at_cursor bytes (first + i) v)
        (λ keyed. sym (part_here i k (omega (arith, among))
        (sym (ap (λ (b : Bool). if b then payload_start bytes layout i else Ok 0) keyed) ∙ key_is)))
        ∙ ap (child_of layout.keyed (part_in bytes i))
        (sym (part_here (first + i) v (omega (arith, among)) value_is))

    key_next : (keyed : Bool) (key : Option Entry)
        → (if keyed then payload_start bytes layout i else Ok 0) ≡ Ok k
        → IsKey keyed (placed_at bytes (4 + 4 * i) k) key
        → (if keyed then payload_start bytes layout (suc i) else Ok 0) ≡ Ok (key_end key k)
    key_next true key starts (entry, (found, is)) =
        next_start bytes k entry i _ starts found
        ∙ ap (λ (o : Option Entry). Ok (key_end o k)) (sym is)
    key_next false key starts is =
        starts ∙ ap (λ (o : Option Entry). Ok (key_end o k)) (sym is)

    next_if : (child : Child) (past : Bool)
        → (if past then Ok None else child_of layout.keyed (part_at_cursor bytes i k)
        (part_at_cursor bytes (first + i) v)) ≡ Ok (Some child)
        → cursor_among bytes (suc i) (Some layout)
        ≡ Ok (Some (cursor_after (Ok (Some child)) here))
    next_if child true found = absurd cc
    next_if child false found =
        let (key, value) = child_found_by layout.keyed (placed_at bytes (4 + 4 * i) k)
        (placed_at bytes (4 + 4 * (first + i)) v) child found in
        let number : first + suc i ≡ suc (first + i) = omega arith in
        ap₂ (λ (r q : Result ℕ Error). r >>= (λ (k : ℕ). q
        >>= (λ (v : ℕ). Ok (Some record { index = suc i; key = k; value = v }))))
        (key_next layout.keyed child.key key_is key)
        (ap (payload_start bytes layout) number
        ∙ next_start bytes v child.value (first + i) _ value_is value)

-- What the cursor before a child answers, and where it comes.
record Walks (bytes : List ℕ) (i : ℕ) (cursor : KohibladCursor) (o : Option ChildLayout) :
    Type 0 where
  same : child_among bytes cursor o ≡ numbered_among bytes i o
  next : (child : Child) → child_among bytes cursor o ≡ Ok (Some child)
      → cursor_among bytes (suc i) o ≡ Ok (Some (cursor_after (Ok (Some child)) cursor))

module _ (bytes : List ℕ) (i : ℕ) (cursor : KohibladCursor) where
  walks_from : (header : ℕ × ℕ) → header_at bytes 0 ≡ Ok header → (layout : ChildLayout)
      → layout_under header ≡ Some layout → (k v : Result ℕ Error)
      → key_offset bytes layout i ≡ k → payload_start bytes layout (first_value layout + i) ≡ v
      → k >>= (λ (key : ℕ). v
      >>= (λ (value : ℕ). Ok (Some record { index = i; key = key; value = value })))
      ≡ Ok (Some cursor)
      → Walks bytes i cursor (Some layout)
  walks_from header is layout laid (Ok k) (Ok v) key value at =
      let same : record { index = i; key = k; value = v } ≡ cursor = cc in
      subst (λ (c : KohibladCursor). Walks bytes i c (Some layout)) same (record {
        same = same_if bytes i header is layout laid k v key value _ refl;
        next = λ child. next_if bytes i header is layout laid k v key value child _;
      })
  walks_from header is layout laid k v key value at = absurd cc

  walks_at : (header : ℕ × ℕ) → header_at bytes 0 ≡ Ok header → (o : Option ChildLayout)
      → layout_under header ≡ o → cursor_among bytes i o ≡ Ok (Some cursor)
      → Walks bytes i cursor o
  walks_at header is None laid at = absurd cc
  walks_at header is (Some layout) laid at = walks_from header is layout laid _ _ refl refl at

  walks_by : (r : Result (ℕ × ℕ) Error) → header_at bytes 0 ≡ r
      → (r >>= (λ (h : ℕ × ℕ). Ok (layout_under h))) >>= cursor_among bytes i ≡ Ok (Some cursor)
      → (o : Option ChildLayout) × ((layout_in bytes ≡ Ok o) × Walks bytes i cursor o)
  walks_by (Ok header) is at = (
    layout_under header,
    (
      ap (λ (r : Result (ℕ × ℕ) Error). r >>= (λ (h : ℕ × ℕ). Ok (layout_under h))) is,
      walks_at header is (layout_under header) refl at,
    ),
  )
  walks_by (Err e) is at = absurd cc

  pub same_child : cursor_at bytes i ≡ Ok (Some cursor)
      → child_at_cursor bytes cursor ≡ numbered_child bytes i
  same_child at =
      let (o, (is, walks)) = walks_by (header_at bytes 0) refl at in
      ap (λ (r : Result (Option ChildLayout) Error). r >>= child_among bytes cursor) is
      ∙ walks.same
      ∙ sym (ap (λ (r : Result (Option ChildLayout) Error). r >>= numbered_among bytes i) is)

  pub next_child : (child : Child) → cursor_at bytes i ≡ Ok (Some cursor)
      → child_at_cursor bytes cursor ≡ Ok (Some child)
      → cursor_at bytes (suc i) ≡ Ok (Some (cursor_after (Ok (Some child)) cursor))
  next_child child at found =
      let (o, (is, walks)) = walks_by (header_at bytes 0) refl at in
      ap (λ (r : Result (Option ChildLayout) Error). r >>= cursor_among bytes (suc i)) is
      ∙ walks.next child
      (sym (ap (λ (r : Result (Option ChildLayout) Error). r >>= child_among bytes cursor) is)
      ∙ found)

-- a child was found where the status is 0
no_code : (e : Error) → code e ≡ 0 → ⊥
no_code errors.InvalidEOF is = omega arith
no_code e is = omega arith

pub child_found : (r : Result (Option Child) Error) → (value_answer r).status ≡ 0
    → (child : Child) × (r ≡ Ok (Some child))
child_found (Ok (Some child)) is = (child, refl)
child_found (Ok None) is = absurd (omega arith)
child_found (Err e) is = absurd (no_code e is)

-- the walk's step, by what the call wrote
pub walked : (bytes : List ℕ) (i : ℕ) (before after : KohibladCursor)
    → cursor_at bytes i ≡ Ok (Some before)
    → (value_answer (child_at_cursor bytes before)).status ≡ 0
    → after ≡ cursor_after (child_at_cursor bytes before) before
    → cursor_at bytes (suc i) ≡ Ok (Some after)
walked bytes i before after is well moved =
    let found = child_found (child_at_cursor bytes before) well in
    next_child bytes i before found.0 is found.1
    ∙ ap (λ (r : Result (Option Child) Error). Ok (Some (cursor_after r before))) (sym found.1)
    ∙ ap (λ (c : KohibladCursor). Ok (Some c)) (sym moved)
