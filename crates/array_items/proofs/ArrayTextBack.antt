-- A text whose reads come to the end of an array is an array.
use Rattle.std.proofs.Common.{◌≡◌, ◌≢◌, ℕ, ◌==◌, ◌||◌, ◌+◌, ◌-◌, Bool, true, false, List, []}
use Rattle.std.proofs.Common.{◌∷◌, ◌++◌}
use Rattle.std.proofs.Common.{refl, ap, ap₂, subst, sym, ◌∙◌, append-nil, arith}
use Rattle.std.proofs.lemmas.Bool.{false≢true}
use Rattle.std.proofs.lemmas.Bool.Decides.{nat_tests}
use Rattle.std.specs.Prelude.{if◌then◌else◌, ⊤}
use Rattle.jsonb_value.specs.Json.Characters.{all_blank, is_blank}
use Rattle.array_items.specs.Arrays.{ItemRead, end_read, ends_item, first_read, found_after}
use Rattle.array_items.specs.Arrays.{is_array_start, item_at_end}
use Rattle.array_items.specs.Arrays.{item_before, mark_read, next_read}
use Rattle.array_items.specs.ArrayTexts as texts
use Rattle.array_items.specs.ArrayTexts.{AreLater, IsArrayText, IsItem, ReadsItems}
use Rattle.array_items.specs.ArrayTexts.{may_end}
use Rattle.array_items.specs.Blanks.{first_byte, trimmed}
use Rattle.array_items.specs.Values.{closes, ended, ends_word, first_step, left_by, left_from}
use Rattle.array_items.specs.Values.{opens, place_after, place_by, step_at, value_by, value_from}
use Rattle.array_items.specs.declared.array.ArrayFault.{ArrayFault}
use Rattle.array_items.specs.declared.array.ArrayFault.TheVariants.{NoItem, NoComma}
use Rattle.array_items.specs.declared.array.ArrayFault.TheVariants.{NoEnd, AfterEnd}
use Rattle.array_items.specs.declared.array.FoundItem.TheVariants.{Item, End, Fault}
use Rattle.array_items.specs.declared.value.Place.{Place}
use Rattle.array_items.specs.declared.value.Place.TheVariants.{Before, Word, After, Container}
use Rattle.array_items.specs.declared.value.Place.TheVariants.{Text, Escape}
use Rattle.array_items.specs.declared.value.Step.{Step}
use Rattle.array_items.specs.declared.value.Step.TheVariants.{Skip, Take, Leave}

-- ---- white space

pub record Split (bytes : List ℕ) : Type 0 where
  pub blank : List ℕ
  pub are : all_blank blank ≡ true
  pub parts : bytes ≡ blank ++ trimmed bytes

split_by : (b : ℕ) (bytes : List ℕ) (t : Bool) → is_blank b ≡ t → Split bytes → Split (b ∷ bytes)
split_by b bytes true is later = record {
  blank = b ∷ later.blank;
  are = rw is later.are;
  parts = rw is (ap (λ (l : List ℕ). b ∷ l) later.parts);
}
split_by b bytes false is later = record { blank = []; are = refl; parts = sym (rw is refl) }

split : (bytes : List ℕ) → Split bytes
split [] = record { blank = []; are = refl; parts = refl }
split (b ∷ bytes) = split_by b bytes (is_blank b) refl (split bytes)

-- ---- steps within a value

abbrev within : Place → Bool
within Before = false
within place = true

abbrev Within : Step → Type 0
Within Skip = ⊥
Within (Take next) = within next ≡ true
Within Leave = ⊤

abbrev Takes : Step → Type 0
Takes Skip = ⊥
Takes (Take next) = within next ≡ true
Takes Leave = ⊥

choose : (P : Step → Type 0) (t : Bool) (x y : Step) → P x → P y → P (if t then x else y)
choose P true x y a b = a
choose P false x y a b = b

ended_within : (depth : ℕ) → within (ended depth) ≡ true
ended_within depth = by (depth == 0)
  where
    by : (t : Bool) → within (if t then After else Container depth) ≡ true
    by true = refl
    by false = refl

first_takes : (b : ℕ) → is_blank b ≡ false → Takes (first_step b)
first_takes b not_blank =
    rw not_blank
    (choose Takes (b == 34) (Take (Text 0)) (if opens b then Take (Container 1) else Take Word) refl
    (choose Takes (opens b) (Take (Container 1)) (Take Word) refl refl))

container_takes : (depth b : ℕ) → Takes (step_at (Container depth) b)
container_takes depth b =
    choose Takes (b == 34) (Take (Text depth))
    (if opens b then Take (Container (depth + 1))
    else if closes b then Take (ended (depth - 1)) else Take (Container depth)) refl
    (choose Takes (opens b) (Take (Container (depth + 1)))
    (if closes b then Take (ended (depth - 1)) else Take (Container depth)) refl
    (choose Takes (closes b) (Take (ended (depth - 1))) (Take (Container depth))
    (ended_within (depth - 1)) refl))

text_takes : (depth b : ℕ) → Takes (step_at (Text depth) b)
text_takes depth b =
    choose Takes (b == 92) (Take (Escape depth))
    (if b == 34 then Take (ended depth) else Take (Text depth)) refl
    (choose Takes (b == 34) (Take (ended depth)) (Take (Text depth)) (ended_within depth) refl)

takes_within : (step : Step) → Takes step → Within step
takes_within Skip is = absurd is
takes_within (Take next) is = is
takes_within Leave is = absurd is

step_within : (place : Place) (b : ℕ) → within place ≡ true → Within (step_at place b)
step_within Before b is = absurd (false≢true is)
step_within Word b is = choose Within (ends_word b) Leave (Take Word) tt refl
step_within (Container depth) b is =
    takes_within (step_at (Container depth) b) (container_takes depth b)
step_within (Text depth) b is = takes_within (step_at (Text depth) b) (text_takes depth b)
step_within (Escape depth) b is = refl
step_within After b is = tt

leave_may : (place : Place) (b : ℕ) → within place ≡ true → step_at place b ≡ Leave
    → may_end place ≡ true
leave_may Before b is leaves = absurd (false≢true is)
leave_may Word b is leaves = refl
leave_may (Container depth) b is leaves =
    absurd (rw leaves at (container_takes depth b))
leave_may (Text depth) b is leaves = absurd (rw leaves at (text_takes depth b))
leave_may (Escape depth) b is leaves = absurd cc
leave_may After b is leaves = refl

-- ---- a value and what is left

-- What a value is, from a place within it.
pub record Parts (place : Place) (bytes : List ℕ) : Type 0 where
  pub parts : bytes ≡ value_from place bytes ++ left_from place bytes
  pub again : value_from place (value_from place bytes) ≡ value_from place bytes
  pub none : left_from place (value_from place bytes) ≡ []
  pub ends : left_from place bytes ≢ []
      → may_end (place_after place (value_from place bytes)) ≡ true

parts_by : (place : Place) (b : ℕ) (bytes : List ℕ) (step : Step) → step_at place b ≡ step
    → Within step → (step ≡ Leave → may_end place ≡ true)
    → ((next : Place) → within next ≡ true → Parts next bytes) → Parts place (b ∷ bytes)
parts_by place b bytes Skip is stays may later = absurd stays
parts_by place b bytes Leave is stays may later =
    let value : value_from place (b ∷ bytes) ≡ [] =
    ap (λ (s : Step). value_by s b (λ n. value_from n bytes)) is in
    let left : left_from place (b ∷ bytes) ≡ b ∷ bytes =
    ap (λ (s : Step). left_by s b bytes (λ n. left_from n bytes)) is in record {
      parts = rw (value, left) refl;
      again = rw value refl;
      none = rw value refl;
      ends = λ _. rw value (may refl);
    }
parts_by place b bytes (Take next) is stays may later =
    let rest = later next stays in
    let v = value_from next bytes in
    let value : value_from place (b ∷ bytes) ≡ b ∷ v =
    ap (λ (s : Step). value_by s b (λ n. value_from n bytes)) is in
    let left : left_from place (b ∷ bytes) ≡ left_from next bytes =
    ap (λ (s : Step). left_by s b bytes (λ n. left_from n bytes)) is in
    let value_v : value_from place (b ∷ v) ≡ b ∷ value_from next v =
    ap (λ (s : Step). value_by s b (λ n. value_from n v)) is in
    let left_v : left_from place (b ∷ v) ≡ left_from next v =
    ap (λ (s : Step). left_by s b v (λ n. left_from n v)) is in
    let place_v : place_after place (b ∷ v) ≡ place_after next v =
    ap (λ (s : Step). place_by s (λ n. place_after n v)) is in record {
      parts = rw (value, left) (ap (λ (l : List ℕ). b ∷ l) rest.parts);
      again = ap (value_from place) value ∙ value_v ∙ ap (λ (l : List ℕ). b ∷ l) rest.again
          ∙ sym value;
      none = ap (left_from place) value ∙ left_v ∙ rest.none;
      ends = λ some. ap (λ (l : List ℕ). may_end (place_after place l)) value
          ∙ ap may_end place_v ∙ rest.ends (λ none. some (left ∙ none));
    }

parts_within : (bytes : List ℕ) (place : Place) → within place ≡ true → Parts place bytes
parts_within [] place is =
    record { parts = refl; again = refl; none = refl; ends = λ some. absurd (some refl) }
parts_within (b ∷ bytes) place is =
    parts_by place b bytes (step_at place b) refl (step_within place b is) (leave_may place b is)
    (parts_within bytes)

takes_no_leave : (step : Step) → Takes step → step ≡ Leave → (may_end Before ≡ true)
takes_no_leave step takes is = absurd (rw is at takes)

pub parts_before : (b : ℕ) (bytes : List ℕ) → is_blank b ≡ false → Parts Before (b ∷ bytes)
parts_before b bytes not_blank =
    let takes = first_takes b not_blank in
    parts_by Before b bytes (first_step b) refl (takes_within (first_step b) takes)
    (takes_no_leave (first_step b) takes) (parts_within bytes)

value_begins : (b : ℕ) (bytes : List ℕ) (step : Step) → first_step b ≡ step → Takes step
    → (rest : List ℕ) × (value_from Before (b ∷ bytes) ≡ b ∷ rest)
value_begins b bytes Skip is takes = absurd takes
value_begins b bytes Leave is takes = absurd takes
value_begins b bytes (Take next) is takes =
    (value_from next bytes, ap (λ (s : Step). value_by s b (λ n. value_from n bytes)) is)

-- ---- an item that was found

-- An item, by what was found after it.
item_of : (b : ℕ) (bytes : List ℕ) → is_blank b ≡ false → ends_item b ≡ false
    → left_from Before (b ∷ bytes) ≢ [] → IsItem (value_from Before (b ∷ bytes))
item_of b bytes not_blank not_end some =
    let all = parts_before b bytes not_blank in
    let first = value_begins b bytes (first_step b) refl (first_takes b not_blank) in record {
      begins = rw first.1 (rw (not_blank, not_end) refl);
      whole = all.again;
      left = all.none;
      ends = all.ends some;
    }

nothing_found : found_after [] ≡ Item → ⊥
nothing_found is = cc

-- What a read of an item that is found says of the bytes.
pub record Found (bytes item left : List ℕ) : Type 0 where
  pub before : List ℕ
  pub after : List ℕ
  pub are : all_blank before ≡ true
  pub is : IsItem item
  pub too : all_blank after ≡ true
  pub parts : bytes ≡ before ++ (item ++ (after ++ left))
  pub next : found_after left ≡ Item

found_by : (bytes item left : List ℕ) (b : ℕ) (more : List ℕ) → trimmed bytes ≡ b ∷ more
    → is_blank b ≡ false → ends_item b ≡ false
    → item_before (value_from Before (b ∷ more)) (trimmed (left_from Before (b ∷ more)))
    ≡ record { found = Item; item = item; left = left }
    → Found bytes item left
found_by bytes item left b more begun not_blank not_end read =
    let rest = left_from Before (b ∷ more) in
    let found : found_after (trimmed rest) ≡ Item = ap (λ (r : ItemRead). r.found) read in
    let same : value_from Before (b ∷ more) ≡ item = ap (λ (r : ItemRead). r.item) read in
    let lefts : trimmed rest ≡ left = ap (λ (r : ItemRead). r.left) read in
    let some : rest ≢ [] = λ none. nothing_found
    (ap (λ (l : List ℕ). found_after (trimmed l)) (sym none) ∙ found) in
    let front = split bytes in
    let back = split rest in record {
      before = front.blank;
      after = back.blank;
      are = front.are;
      is = subst IsItem same (item_of b more not_blank not_end some);
      too = back.are;
      next = subst (λ (l : List ℕ). found_after l ≡ Item) lefts found;
      parts = front.parts ∙ ap (λ (l : List ℕ). front.blank ++ l)
          (begun ∙ (parts_before b more not_blank).parts
          ∙ ap₂ (λ (v l : List ℕ). v ++ l) same
          (back.parts ∙ ap (λ (l : List ℕ). back.blank ++ l) lefts));
    }

-- ---- what is never found

fault_is_item : (fault : ArrayFault) → Fault fault ≡ Item → ⊥
fault_is_item fault same = cc

fault_is_end : (fault : ArrayFault) → Fault fault ≡ End → ⊥
fault_is_end fault same = cc

item_is_end : Item ≡ End → ⊥
item_is_end same = cc

after_is_end : (left : List ℕ) → found_after left ≡ End → ⊥
after_is_end [] same = fault_is_end NoEnd same
after_is_end (b ∷ left) same = by (ends_item b) same
  where
    by : (t : Bool) → (if t then Item else Fault NoComma) ≡ End → ⊥
    by true same = item_is_end same
    by false same = fault_is_end NoComma same

next_is_end : (begun : List ℕ) → (next_read begun).found ≡ End → ⊥
next_is_end [] same = fault_is_end NoEnd same
next_is_end (b ∷ begun) same = by (ends_item b) refl
  where
    by : (t : Bool) → ends_item b ≡ t → ⊥
    by true is = fault_is_end NoItem (rw is at same)
    by false is = after_is_end (trimmed (left_from Before (b ∷ begun))) (rw is at same)

end_is_item : (begun : List ℕ) → (end_read begun).found ≡ Item → ⊥
end_is_item [] same = item_is_end (sym same)
end_is_item (b ∷ begun) same = fault_is_item AfterEnd same

end_is_blank : (begun : List ℕ) → (end_read begun).found ≡ End → begun ≡ []
end_is_blank [] same = refl
end_is_blank (b ∷ begun) same = absurd (fault_is_end AfterEnd same)

blank_of : (bytes : List ℕ) → trimmed bytes ≡ [] → all_blank bytes ≡ true
blank_of bytes none =
    let front = split bytes in
    let same : bytes ≡ front.blank =
    front.parts ∙ ap (λ (l : List ℕ). front.blank ++ l) none ∙ append-nil front.blank in
    ap all_blank same ∙ front.are

first_by : (c : ℕ) (bytes : List ℕ) (b : ℕ) (more : List ℕ) (t : Bool) → is_blank c ≡ t
    → trimmed (c ∷ bytes) ≡ b ∷ more → (trimmed bytes ≡ b ∷ more → is_blank b ≡ false)
    → is_blank b ≡ false
first_by c bytes b more true is begun later = later (rw is at begun)
first_by c bytes b more false is begun later =
    let same : c ∷ bytes ≡ b ∷ more = rw is at begun in
    let head : c ≡ b = cc in rw head at is

first_not_blank : (bytes : List ℕ) (b : ℕ) (more : List ℕ) → trimmed bytes ≡ b ∷ more
    → is_blank b ≡ false
first_not_blank [] b more begun = absurd cc
first_not_blank (c ∷ bytes) b more begun =
    first_by c bytes b more (is_blank c) refl begun (first_not_blank bytes b more)

-- ---- items that were found

next_found : (bytes item left begun : List ℕ) → trimmed bytes ≡ begun
    → next_read begun ≡ record { found = Item; item = item; left = left } → Found bytes item left
next_found bytes item left [] is read =
    absurd (fault_is_item NoEnd (ap (λ (r : ItemRead). r.found) read))
next_found bytes item left (b ∷ more) is read = by (ends_item b) refl
  where
    by : (t : Bool) → ends_item b ≡ t → Found bytes item left
    by true ends =
        let same : next_read (b ∷ more)
        ≡ record { found = Fault NoItem; item = []; left = b ∷ more } = rw ends refl in
        absurd (fault_is_item NoItem (ap (λ (r : ItemRead). r.found) (sym same ∙ read)))
    by false ends =
        let same : next_read (b ∷ more)
        ≡ item_before (value_from Before (b ∷ more)) (trimmed (left_from Before (b ∷ more))) =
        rw ends refl in
        found_by bytes item left b more is (first_not_blank bytes b more is) ends (sym same ∙ read)

data Ender : List ℕ → Type 0 where
  comma : (more : List ℕ) → Ender (44 ∷ more)
  close : (more : List ℕ) → Ender (93 ∷ more)

ender_by : (c : ℕ) (more : List ℕ) (s t : Bool) → (c == 44) ≡ s → (c == 93) ≡ t
    → (if s || t then Item else Fault NoComma) ≡ Item → Ender (c ∷ more)
ender_by c more true t is other next =
    let same : c ≡ 44 = grind (arith, nat_tests) in rw same (comma more)
ender_by c more false true other is next =
    let same : c ≡ 93 = grind (arith, nat_tests) in rw same (close more)
ender_by c more false false a b next = absurd (fault_is_item NoComma next)

ender_of : (left : List ℕ) → found_after left ≡ Item → Ender left
ender_of [] next = absurd (fault_is_item NoEnd next)
ender_of (c ∷ left) next = ender_by c left (c == 44) (c == 93) refl refl next

later_back : {rest : List ℕ} {items : List (List ℕ)} → Ender rest → ReadsItems rest items
    → AreLater rest items
later_back (comma more) (texts.none read) =
    absurd (next_is_end (trimmed more) (ap (λ (r : ItemRead). r.found) read))
later_back (close more) (texts.none read) =
    texts.none more (blank_of more
    (end_is_blank (trimmed more) (ap (λ (r : ItemRead). r.found) read)))
later_back (close more) (texts.more read later) =
    absurd (end_is_item (trimmed more) (ap (λ (r : ItemRead). r.found) read))
later_back (comma more) (texts.more {left = left} {item = item} {items = items} read later) =
    let found = next_found more item left (trimmed more) refl read in
    subst (λ (l : List ℕ). AreLater (44 ∷ l) (item ∷ items)) (sym found.parts)
    (texts.more found.before item found.after found.are found.is found.too
    (later_back (ender_of left found.next) later))

-- ---- arrays

array_by : (text more : List ℕ) (items : List (List ℕ)) → trimmed text ≡ 91 ∷ more
    → (begun : List ℕ) → trimmed more ≡ begun → ReadsItems text items → IsArrayText text items
array_by text more items start [] none (texts.none read) =
    let same : first_read [] ≡ record { found = End; item = []; left = [] } =
    sym (ap mark_read start ∙ ap first_read none) ∙ read in
    absurd (fault_is_end NoEnd (ap (λ (r : ItemRead). r.found) same))
array_by text more items start [] none (texts.more {left = left} {item = item} read later) =
    let same : first_read [] ≡ record { found = Item; item = item; left = left } =
    sym (ap mark_read start ∙ ap first_read none) ∙ read in
    absurd (fault_is_item NoEnd (ap (λ (r : ItemRead). r.found) same))
array_by text more items start (c ∷ rest) first (texts.none read) = by (c == 93) refl
  where
    same : first_read (c ∷ rest) ≡ record { found = End; item = []; left = [] }
    same = sym (ap mark_read start ∙ ap first_read first) ∙ read

    by : (t : Bool) → (c == 93) ≡ t → IsArrayText text []
    by true is =
        let close : c ≡ 93 = grind (arith, nat_tests) in
        let ended : item_at_end rest ≡ record { found = End; item = []; left = [] } =
        rw is at same in
        let front = split text in
        let inner = split more in
        let parts : text ≡ front.blank ++ 91 ∷ (inner.blank ++ 93 ∷ rest) =
        front.parts ∙ ap (λ (l : List ℕ). front.blank ++ l) (start
        ∙ ap (λ (l : List ℕ). 91 ∷ l) (inner.parts
        ∙ ap (λ (l : List ℕ). inner.blank ++ l) (first ∙ ap (λ (b : ℕ). b ∷ rest) close))) in
        subst (λ (l : List ℕ). IsArrayText l []) (sym parts)
        (texts.none front.blank inner.blank rest front.are inner.are
        (blank_of rest (end_is_blank (trimmed rest) (ap (λ (r : ItemRead). r.found) ended))))
    by false is =
        let inner : first_read (c ∷ rest) ≡ next_read (c ∷ rest) = rw is refl in
        absurd (next_is_end (c ∷ rest) (ap (λ (r : ItemRead). r.found) (sym inner ∙ same)))
array_by text more items start (c ∷ rest) first
    (texts.more {left = left} {item = item} {items = others} read later) = by (c == 93) refl
  where
    same : first_read (c ∷ rest) ≡ record { found = Item; item = item; left = left }
    same = sym (ap mark_read start ∙ ap first_read first) ∙ read

    by : (t : Bool) → (c == 93) ≡ t → IsArrayText text (item ∷ others)
    by true is =
        absurd (end_is_item (trimmed rest) (ap (λ (r : ItemRead). r.found) (rw is at same)))
    by false is =
        let inner : first_read (c ∷ rest) ≡ next_read (c ∷ rest) = rw is refl in
        let found = next_found more item left (c ∷ rest) first (sym inner ∙ same) in
        let front = split text in
        let parts : text ≡ front.blank
        ++ 91 ∷ (found.before ++ (item ++ (found.after ++ left))) =
        front.parts ∙ ap (λ (l : List ℕ). front.blank ++ l)
        (start ∙ ap (λ (l : List ℕ). 91 ∷ l) found.parts) in
        subst (λ (l : List ℕ). IsArrayText l (item ∷ others)) (sym parts)
        (texts.some front.blank found.before item found.after front.are found.are found.is found.too
        (later_back (ender_of left found.next) later))

pub array_back : (text : List ℕ) (items : List (List ℕ))
    → is_array_start (first_byte (trimmed text)) ≡ true → ReadsItems text items
    → IsArrayText text items
array_back text items begins reads = by (trimmed text) refl begins
  where
    by : (begun : List ℕ) → trimmed text ≡ begun → is_array_start (first_byte begun) ≡ true
        → IsArrayText text items
    by [] none begins = absurd (false≢true begins)
    by (b ∷ more) start begins =
        let same : b ≡ 91 = grind (arith, nat_tests) in
        array_by text more items (start ∙ ap (λ (c : ℕ). c ∷ more) same) (trimmed more) refl reads
