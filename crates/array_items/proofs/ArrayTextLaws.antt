-- What reads find in the text of an array.
use Rattle.std.proofs.Common.{◌≡◌, ℕ, ◌==◌, ◌||◌, Bool, true, false, not, List, [], ◌∷◌, ◌++◌}
use Rattle.std.proofs.Common.{refl, ap, sym, ◌∙◌, append-nil}
use Rattle.std.specs.Prelude.{◌&&◌}
use Rattle.jsonb_value.specs.Json.Characters.{all_blank, is_blank}
use Rattle.array_items.specs.Arrays.{ItemRead, end_read, ends_item, first_read}
use Rattle.array_items.specs.Arrays.{item_at_end, item_at_first, item_at_next, item_before}
use Rattle.array_items.specs.Arrays.{mark_read, next_read}
use Rattle.array_items.specs.ArrayTexts as texts
use Rattle.array_items.specs.ArrayTexts.{AreLater, IsArrayText, IsItem, ReadsItems, begins_item}
use Rattle.array_items.specs.ArrayTexts.{may_end}
use Rattle.array_items.specs.Blanks.{trimmed}
use Rattle.array_items.specs.Values.{ends_word, left_from, place_after, value_from}
use Rattle.array_items.specs.declared.array.FoundItem.TheVariants.{Item, End}
use Rattle.array_items.specs.declared.value.Place.{Place}
use Rattle.array_items.specs.declared.value.Place.TheVariants.{Before, Word, After, Container}
use Rattle.array_items.specs.declared.value.Place.TheVariants.{Text, Escape}
use Rattle.array_items.proofs.ValueSteps.{left_append, value_append}

-- ---- white space

both_true : (a b : Bool) → (a && b) ≡ true → (a ≡ true) × (b ≡ true)
both_true true b is = (refl, is)
both_true false b is = absurd cc

neither : (a b : Bool) → not (a || b) ≡ true → (a ≡ false) × (b ≡ false)
neither true b is = absurd cc
neither false true is = absurd cc
neither false false is = (refl, refl)

second_false : (a b : Bool) → (a || b) ≡ false → b ≡ false
second_false true b is = absurd cc
second_false false b is = is

pub blank_before : (blank more : List ℕ) → all_blank blank ≡ true
    → trimmed (blank ++ more) ≡ trimmed more
blank_before [] more are = refl
blank_before (b ∷ blank) more are =
    let parts = both_true (is_blank b) (all_blank blank) are in
    rw parts.0 (blank_before blank more parts.1)

pub blank_only : (blank : List ℕ) → all_blank blank ≡ true → trimmed blank ≡ []
blank_only blank are = ap trimmed (sym (append-nil blank)) ∙ blank_before blank [] are

-- ---- what ends a number or a word

data Stops : List ℕ → Type 0 where
  stops : {bytes : List ℕ} (b : ℕ) → ends_word b ≡ true → Stops (b ∷ bytes)

blank_stops : (blank rest : List ℕ) → all_blank blank ≡ true → Stops rest → Stops (blank ++ rest)
blank_stops [] rest are later = later
blank_stops (b ∷ blank) rest are later =
    let parts = both_true (is_blank b) (all_blank blank) are in stops b (rw parts.0 refl)

later_stops : {rest : List ℕ} {items : List (List ℕ)} → AreLater rest items → Stops rest
later_stops (texts.none blank are) = stops 93 refl
later_stops (texts.more before item after are is too later) = stops 44 refl

value_stops : (place : Place) (bytes : List ℕ) → may_end place ≡ true → Stops bytes
    → value_from place bytes ≡ []
value_stops After _ may (stops b is) = refl
value_stops Word _ may (stops b is) = rw is refl
value_stops Before bytes may stopped = absurd cc
value_stops (Container depth) bytes may stopped = absurd cc
value_stops (Text depth) bytes may stopped = absurd cc
value_stops (Escape depth) bytes may stopped = absurd cc

left_stops : (place : Place) (bytes : List ℕ) → may_end place ≡ true → Stops bytes
    → left_from place bytes ≡ bytes
left_stops After _ may (stops b is) = refl
left_stops Word _ may (stops b is) = rw is refl
left_stops Before bytes may stopped = absurd cc
left_stops (Container depth) bytes may stopped = absurd cc
left_stops (Text depth) bytes may stopped = absurd cc
left_stops (Escape depth) bytes may stopped = absurd cc

-- ---- an item

module _ (item more : List ℕ) (is : IsItem item) (stopped : Stops more) where
  item_value : value_from Before (item ++ more) ≡ item
  item_value =
      value_append item more Before
      ∙ ap (λ (l : List ℕ). value_from Before item
      ++ value_from (place_after Before item) (l ++ more)) is.left
      ∙ ap (λ (l : List ℕ). value_from Before item ++ l)
      (value_stops (place_after Before item) more is.ends stopped)
      ∙ append-nil (value_from Before item) ∙ is.whole

  item_left : left_from Before (item ++ more) ≡ more
  item_left =
      left_append item more Before
      ∙ ap (λ (l : List ℕ). left_from (place_after Before item) (l ++ more)) is.left
      ∙ left_stops (place_after Before item) more is.ends stopped

begun : (item more : List ℕ) → begins_item item ≡ true
    → (trimmed (item ++ more) ≡ item ++ more)
    × (next_read (item ++ more)
    ≡ item_before (value_from Before (item ++ more)) (trimmed (left_from Before (item ++ more))))
begun [] more begins = absurd cc
begun (b ∷ item) more begins =
    let parts = neither (is_blank b) (ends_item b) begins in
    (rw parts.0 refl, rw parts.1 refl)

later_read : {rest : List ℕ} {items : List (List ℕ)} (item : List ℕ) → AreLater rest items
    → item_before item (trimmed rest) ≡ record { found = Item; item = item; left = rest }
later_read item (texts.none blank are) = refl
later_read item (texts.more before next after are is too later) = refl

next_is : {rest : List ℕ} {items : List (List ℕ)} (before item after : List ℕ)
    → all_blank before ≡ true → IsItem item → all_blank after ≡ true → AreLater rest items
    → item_at_next (before ++ (item ++ (after ++ rest)))
    ≡ record { found = Item; item = item; left = rest }
next_is {rest = rest} before item after are is too later =
    let more = after ++ rest in
    let stopped = blank_stops after rest too (later_stops later) in
    let start = begun item more is.begins in
    ap next_read (blank_before before (item ++ more) are ∙ start.0) ∙ start.1
    ∙ ap (λ (v : List ℕ). item_before v (trimmed (left_from Before (item ++ more))))
    (item_value item more is stopped)
    ∙ ap (λ (l : List ℕ). item_before item (trimmed l)) (item_left item more is stopped)
    ∙ ap (λ (l : List ℕ). item_before item l) (blank_before after rest too)
    ∙ later_read item later

first_is : {rest : List ℕ} {items : List (List ℕ)} (before item after : List ℕ)
    → all_blank before ≡ true → IsItem item → all_blank after ≡ true → AreLater rest items
    → item_at_first (before ++ (item ++ (after ++ rest)))
    ≡ item_at_next (before ++ (item ++ (after ++ rest)))
first_is {rest = rest} before item after are is too later =
    let whole = item ++ (after ++ rest) in
    by item is.begins (after ++ rest) (trimmed (before ++ whole))
    (blank_before before whole are ∙ (begun item (after ++ rest) is.begins).0)
  where
    by : (item : List ℕ) → begins_item item ≡ true → (more read : List ℕ) → read ≡ item ++ more
        → first_read read ≡ next_read read
    by [] begins more read same = absurd cc
    by (b ∷ item) begins more read same =
        let parts = neither (is_blank b) (ends_item b) begins in
        let other : (b == 93) ≡ false = second_false (b == 44) (b == 93) parts.1 in
        rw same (rw other refl)

-- ---- arrays

end_is : (blank : List ℕ) → all_blank blank ≡ true
    → item_at_end blank ≡ record { found = End; item = []; left = [] }
end_is blank are = ap end_read (blank_only blank are)

later_reads : {rest : List ℕ} {items : List (List ℕ)} → AreLater rest items → ReadsItems rest items
later_reads (texts.none blank are) = texts.none (end_is blank are)
later_reads (texts.more before item after are is too later) =
    texts.more (next_is before item after are is too later) (later_reads later)

pub array_reads : (text : List ℕ) (items : List (List ℕ)) → IsArrayText text items
    → ReadsItems text items
array_reads text items (texts.none start before after are spaces too) =
    texts.none (ap mark_read (blank_before start (91 ∷ (before ++ 93 ∷ after)) are)
    ∙ ap first_read (blank_before before (93 ∷ after) spaces) ∙ end_is after too)
array_reads text items (texts.some {rest} start before item after are spaces is too later) =
    texts.more (ap mark_read (blank_before start (91 ∷ (before ++ (item ++ (after ++ rest)))) are)
    ∙ first_is before item after spaces is too later
    ∙ next_is before item after spaces is too later) (later_reads later)

-- ---- one reading

pub one_reading : (text : List ℕ) (items others : List (List ℕ)) → ReadsItems text items
    → ReadsItems text others → items ≡ others
one_reading text [] [] (texts.none a) (texts.none b) = refl
one_reading text [] (item ∷ others) (texts.none a) (texts.more b later) =
    let differ : End ≡ Item = ap (λ (r : ItemRead). r.found) (sym a ∙ b) in absurd cc
one_reading text (item ∷ items) [] (texts.more a later) (texts.none b) =
    let differ : Item ≡ End = ap (λ (r : ItemRead). r.found) (sym a ∙ b) in absurd cc
one_reading text (item ∷ items) (other ∷ others) (texts.more {left} a later)
    (texts.more {left = rest} b then) =
    let both : record { found = Item; item = item; left = left }
    ≡ record { found = Item; item = other; left = rest } = sym a ∙ b in
    let same : item ≡ other = ap (λ (r : ItemRead). r.item) both in
    let rests : left ≡ rest = ap (λ (r : ItemRead). r.left) both in
    rw same (ap (λ (l : List (List ℕ)). other ∷ l)
    (one_reading rest items others (rw rests at later) then))
