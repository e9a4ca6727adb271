-- Copying payloads with their heads and parts.
use Rattle.std.proofs.Common.{◌≡◌, ℕ, ◌+◌, ◌-◌, ◌*◌, ◌<◌, ◌≤◌, ◌^◌, refl, sym, ap, subst, ◌∙◌, List}
use Rattle.std.proofs.Common.{[], ◌∷◌, ◌++◌, length, arith, length-append, drop, take}
use Rattle.std.specs.Prelude.{◌≢◌, Option, Some, None, IsSome, option_to_list, reverse, ⊤}
use Rattle.std.proofs.Common.{true, false}
use Rattle.std.proofs.lemmas.List.{append_assoc, append-nil, length-drop, length-take-le}
use Rattle.std.proofs.lemmas.List.{reverse-append}
use Rattle.jsonb_value.specs.Tree.{Tree, null, boolean, number, text, extension, array, object}
use Rattle.jsonb_codec.specs.WordBytes.{word}
use Rattle.jsonb_codec.specs.Shape.{FitsInside, shape_type}
use Rattle.jsonb_codec.specs.Canon.{shape_of, payload_of, canon, Fits}
use Rattle.jsonb_codec.specs.declared.constants.TheConstants.{SCALAR_CONTAINER_TAG, CONTAINER_TAG}
use Rattle.jsonb_codec.specs.Tape.{cut, EntryIs, IsHeadFirst, Joined, no_place, head_place}
use Rattle.jsonb_codec.specs.Tape.{part_place}
use Rattle.jsonb_codec.specs.declared.tape.entry.Entry.{Entry}
use Rattle.jsonb_codec.specs.declared.tape.place.Head.{Head}
use Rattle.jsonb_codec.specs.declared.tape.place.Part.{Part}
use Rattle.jsonb_codec.specs.declared.tape.place.Place.{Place}
use Rattle.jsonb_codec.specs.declared.tape.place.Place.TheVariants as place
use Rattle.jsonb_codec.specs.declared.tape.storage.Storage.{Storage}
use Rattle.jsonb_codec.specs.declared.tape.write.Left.{Left}

-- the payloads that are left, the next ones first, are these bytes
abbrev pub LeftAre : Storage → List Left → List ℕ → Type 0
LeftAre s [] r = r ≡ []
LeftAre s (x ∷ xs) r = (p : List ℕ) × ((q : List ℕ)
    × (Joined s x.start x.places.now x.end p × ((r ≡ p ++ q) × LeftAre s xs q)))

-- there are payloads next, or none are left
abbrev pub HasNext : Option Left → List Left → Type 0
HasNext None xs = xs ≡ []
HasNext (Some x) xs = ⊤

-- ---- what is left becomes less

abbrev pub weight : Place → ℕ
weight (place.Open f) = 0
weight (place.Head h) = 1
weight (place.Part p) = 2 * p.size

abbrev pub weights : List Place → ℕ
weights [] = 0
weights (x ∷ xs) = weight x + weights xs

abbrev pub left_weight : List Left → ℕ
left_weight [] = 0
left_weight (x ∷ xs) = (weights x.places.now + 1) + left_weight xs

length_cut : {A : Type 0} (a b : ℕ) (xs : List A) → a ≤ b → b ≤ length xs
    → length (cut a b xs) ≡ b - a
length_cut a b xs low high =
    length-take-le (b - a) (drop a xs) (omega (arith, low, high, length-drop a xs))

pub weigh : (s : Storage) (a : ℕ) (ps : List Place) (b : ℕ) (r : List ℕ) → Joined s a ps b r
    → weights ps ≤ 2 * length r
weigh s a [] b r h = omega arith
weigh s a (place.Head h ∷ ps) b all (head_place _ _ _ _ r _ from at long heads rest same) = omega (
  arith,
  weigh s h.until ps b r rest,
  long,
  ap length same,
  length-append (cut a h.at s.payload.items) (cut h.start h.end s.heads.items ++ r),
  length-append (cut h.start h.end s.heads.items) r,
  length_cut h.start h.end s.heads.items (omega arith) heads,
)
weigh s a (place.Part p ∷ ps) b all
    (part_place _ _ _ _ q r _ low high front some size own rest same) = omega (
      arith,
      weigh s a ps b r rest,
      size,
      ap length same,
      length-append q r,
    )
weigh s a (place.Open f ∷ ps) b r h = elim h [ ]

-- the places of a part weigh less than it
pub weigh_part : (s : Storage) (a : ℕ) (ps : List Place) (b : ℕ) (r : List ℕ) → IsHeadFirst ps
    → Joined s a ps b r → 1 ≤ length r → weights ps + 2 ≤ 2 * length r
weigh_part s a [] b r front h some = omega arith
weigh_part s a (place.Head h ∷ ps) b all front
    (head_place _ _ _ _ r _ from at long heads rest same) some = omega (
      arith,
      weigh s h.until ps b r rest,
      long,
      ap length same,
      length-append (cut a h.at s.payload.items) (cut h.start h.end s.heads.items ++ r),
      length-append (cut h.start h.end s.heads.items) r,
      length_cut h.start h.end s.heads.items (omega arith) heads,
    )
weigh_part s a (place.Part p ∷ ps) b all front h some = absurd front
weigh_part s a (place.Open f ∷ ps) b all front h some = absurd front

-- ---- one step

-- nothing is put into the next payloads
pub plain_next : (s : Storage) (x : Left) (xs : List Left) (r : List ℕ) → LeftAre s (x ∷ xs) r
    → x.places.now ≡ [] → (x.start ≤ x.end) × ((x.end ≤ length s.payload.items)
    × ((q : List ℕ) × ((r ≡ cut x.start x.end s.payload.items ++ q) × LeftAre s xs q)))
plain_next s x xs r (p, (q, (own, (same, others)))) is =
    by (subst (λ ps. Joined s x.start ps x.end p) is own)
  where
    by : Joined s x.start [] x.end p → (x.start ≤ x.end) × ((x.end ≤ length s.payload.items)
        × ((q : List ℕ) × ((r ≡ cut x.start x.end s.payload.items ++ q) × LeftAre s xs q)))
    by (no_place _ _ _ low high plain) =
        (low, (high, (q, (same ∙ ap (λ y. y ++ q) plain, others))))

-- a head is put in, and what is left after it
pub record AfterHead (s : Storage) (r : List ℕ) (x y : Left) (h : Head) (xs : List Left) : Type 0
  where
    pub rest : List ℕ
    pub from : x.start ≤ h.at
    pub at : h.at ≤ length s.payload.items
    pub low : h.start ≤ h.end
    pub heads : h.end ≤ length s.heads.items
    pub same : r ≡ (cut x.start h.at s.payload.items ++ cut h.start h.end s.heads.items) ++ rest
    pub left : LeftAre s (y ∷ xs) rest

pub head_next : (s : Storage) (x y : Left) (xs : List Left) (r : List ℕ) (h : Head)
    → LeftAre s (x ∷ xs) r → x.places.now ≡ place.Head h ∷ y.places.now → y.start ≡ h.until
    → y.end ≡ x.end → AfterHead s r x y h xs
head_next s x y xs r h (all, (q, (own, (whole, others)))) is start end =
    by (subst (λ ps. Joined s x.start ps x.end all) is own)
  where
    by : Joined s x.start (place.Head h ∷ y.places.now) x.end all → AfterHead s r x y h xs
    by (head_place _ _ _ _ p _ from at long heads rest same) =
        let before = cut x.start h.at s.payload.items in
        let head = cut h.start h.end s.heads.items in
        record {
          rest = p ++ q;
          from = from;
          at = at;
          low = omega arith;
          heads = heads;
          same = whole ∙ ap (λ z. z ++ q) same ∙ append_assoc before (head ++ p) q
              ∙ ap (λ z. before ++ z) (append_assoc head p q)
              ∙ sym (append_assoc before head (p ++ q));
          left = (
            p,
            (
              q,
              (
                subst (λ k. Joined s k y.places.now y.end p) (sym start)
                    (subst (λ k. Joined s h.until y.places.now k p) (sym end) rest),
                (refl, others),
              ),
            ),
          );
        }

-- a part is put in, and what is left after it
pub record AfterPart (s : Storage) (r : List ℕ) (x y z : Left) (p : Part) (xs : List Left) : Type 0
  where
    pub low : p.first ≤ p.last
    pub high : p.last ≤ length s.moved.items
    pub left : z.places.now ≡ cut p.first p.last s.moved.items → LeftAre s (z ∷ y ∷ xs) r
    pub less : z.places.now ≡ cut p.first p.last s.moved.items
        → left_weight (z ∷ y ∷ xs) < left_weight (x ∷ xs)

pub part_next : (s : Storage) (x y z : Left) (xs : List Left) (r : List ℕ) (p : Part)
    → LeftAre s (x ∷ xs) r → x.places.now ≡ place.Part p ∷ y.places.now → y.start ≡ x.start
    → y.end ≡ x.end → z.start ≡ p.start → z.end ≡ p.end → AfterPart s r x y z p xs
part_next s x y z xs r p (all, (q, (own, (whole, others)))) is start end own_start own_end =
    by (subst (λ ps. Joined s x.start ps x.end all) is own)
  where
    by : Joined s x.start (place.Part p ∷ y.places.now) x.end all → AfterPart s r x y z p xs
    by (part_place _ _ _ _ o n _ low high front some size inner rest same) = record {
      low = low;
      high = high;
      left = λ are. (
        o,
        (
          n ++ q,
          (
            subst (λ k. Joined s k z.places.now z.end o) (sym own_start)
                (subst (λ k. Joined s p.start z.places.now k o) (sym own_end)
                (subst (λ ps. Joined s p.start ps p.end o) (sym are) inner)),
            (
              whole ∙ ap (λ z. z ++ q) same ∙ append_assoc o n q,
              (
                n,
                (
                  q,
                  (
                    subst (λ k. Joined s k y.places.now y.end n) (sym start)
                        (subst (λ k. Joined s x.start y.places.now k n) (sym end) rest),
                    (refl, others),
                  ),
                ),
              ),
            ),
          ),
        ),
      );
      less = λ are. omega (
        arith,
        ap weights are,
        ap weights is,
        weigh_part s p.start (cut p.first p.last s.moved.items) p.end o front inner
            (omega (arith, some, size)),
        size,
      );
    }

-- the payload of a scalar is put in, and what is left after it
pub record AfterScalar (s : Storage) (r : List ℕ) (x y : Left) (p : Part) (xs : List Left) : Type 0
  where
    pub rest : List ℕ
    pub low : p.start ≤ p.end
    pub high : p.end ≤ length s.payload.items
    pub same : r ≡ cut p.start p.end s.payload.items ++ rest
    pub left : LeftAre s (y ∷ xs) rest
    pub less : left_weight (y ∷ xs) < left_weight (x ∷ xs)

none_cut : {A : Type 0} (a b : ℕ) (xs : List A) → a ≡ b → cut a b xs ≡ []
none_cut a b xs same =
    let none : b - a ≡ 0 = omega (arith, same) in
    ap (λ n. take n (drop a xs)) none

pub scalar_next : (s : Storage) (x y : Left) (xs : List Left) (r : List ℕ) (p : Part)
    → LeftAre s (x ∷ xs) r → x.places.now ≡ place.Part p ∷ y.places.now → y.start ≡ x.start
    → y.end ≡ x.end → p.first ≡ p.last → AfterScalar s r x y p xs
scalar_next s x y xs r p h is start end none =
    let inner = record y.places { now = cut p.first p.last s.moved.items } in
    let z : Left = record { start = p.start; end = p.end; places = inner } in
    let after = part_next s x y z xs r p h is start end refl refl in
    let (low, (high, (q, (same, left)))) =
    plain_next s z (y ∷ xs) r (after.left refl) (none_cut p.first p.last s.moved.items none) in
    record {
      rest = q;
      low = low;
      high = high;
      same = same;
      left = left;
      less = omega (arith, after.less refl);
    }

pub one_left : (s : Storage) (x : Left) (p : List ℕ) → Joined s x.start x.places.now x.end p
    → LeftAre s (x ∷ []) p
one_left s x p h = (p, ([], (h, (sym (append-nil p), refl))))

-- ---- a list as a stack

pub popped : {X : Type 0} (old new : List X) (r : Option X) (x : X) → old ≡ new ++ option_to_list r
    → r ≡ Some x → reverse old ≡ x ∷ reverse new
popped old new r x left is =
    ap reverse (left ∙ ap (λ o. new ++ option_to_list o) is) ∙ reverse-append new (x ∷ [])

pub pushed : {X : Type 0} (old new : List X) (x : X) → new ≡ old ++ x ∷ []
    → reverse new ≡ x ∷ reverse old
pushed old new x more = ap reverse more ∙ reverse-append old (x ∷ [])

-- ---- the document of an entry

pub container_canon : (t : Tree) → shape_type (shape_of t) ≡ CONTAINER_TAG
    → (canon t ≡ payload_of t) × (FitsInside (shape_of t) → Fits t)
container_canon null is = absurd (omega (arith, is))
container_canon (boolean true) is = absurd (omega (arith, is))
container_canon (boolean false) is = absurd (omega (arith, is))
container_canon (number x) is = absurd (omega (arith, is))
container_canon (text b) is = absurd (omega (arith, is))
container_canon (extension e) is = absurd (omega (arith, is))
container_canon (array ts) is = (refl, λ h. h)
container_canon (object ps) is = (refl, λ h. h)

abbrev pub ScalarCanon : Tree → Type 0
ScalarCanon t = (canon t ≡ word SCALAR_CONTAINER_TAG
    ++ (word (shape_type (shape_of t) + length (payload_of t)) ++ payload_of t))
    × ((length (payload_of t) < 2 ^ 28 → Fits t) × (Fits t → length (payload_of t) < 2 ^ 28))

pub scalar_canon : (t : Tree) → shape_type (shape_of t) ≢ CONTAINER_TAG → ScalarCanon t
scalar_canon null other = (refl, (λ h. h, λ h. h))
scalar_canon (boolean b) other = (refl, (λ h. h, λ h. h))
scalar_canon (number x) other = (refl, (λ h. h, λ h. h))
scalar_canon (text b) other = (refl, (λ h. h, λ h. h))
scalar_canon (extension e) other = (refl, (λ h. h, λ h. h))
scalar_canon (array ts) other = absurd (other refl)
scalar_canon (object ps) other = absurd (other refl)

pub popped_all : {X : Type 0} (old new : List X) (r : Option X) → old ≡ new ++ option_to_list r
    → reverse old ≡ option_to_list r ++ reverse new
popped_all old new None is = ap reverse (is ∙ append-nil new)
popped_all old new (Some x) is = ap reverse is ∙ reverse-append new (x ∷ [])

pub popped_next : (old new : List Left) (r : Option Left) → old ≡ new ++ option_to_list r
    → (0 < length old → IsSome r) → HasNext r new
popped_next old new (Some x) is some = tt
popped_next old [] None is some = refl
popped_next old (x ∷ new) None is some = absurd (no (some (omega (arith, ap length is)))) where
  no : false ≡ true → ⊥
  no same = grind (arith, same)

pub none_left : (s : Storage) (next : Option Left) (xs : List Left) (r : List ℕ) → next ≡ None
    → HasNext next xs → LeftAre s (option_to_list next ++ reverse xs) r → r ≡ []
none_left s None [] r none has left = left
none_left s None (x ∷ xs) r none has left = absurd (omega (arith, ap length has))
none_left s (Some x) xs r none has left = absurd (omega (
  arith,
  ap (λ o. length
      (option_to_list o)) none,
))

pub container_written : (t : Tree) (e : Entry) (out : List ℕ) → EntryIs e t
    → e.type_code ≡ CONTAINER_TAG → out ≡ payload_of t → Fits t × (out ≡ canon t)
container_written t e out is tag written =
    let canonical = container_canon t (sym is.type ∙ tag) in
    (canonical.1 is.fits, written ∙ sym canonical.0)

pub scalar_written : (t : Tree) (e : Entry) (w : ℕ) (out : List ℕ) → EntryIs e t
    → e.type_code ≢ CONTAINER_TAG → w ≡ e.type_code + e.size → e.size < 2 ^ 28
    → out ≡ (word SCALAR_CONTAINER_TAG ++ word w) ++ payload_of t → Fits t × (out ≡ canon t)
scalar_written t e w out is other word_is short written =
    let scalar = scalar_canon t (λ same. other (is.type ∙ same)) in (
      scalar.1.0 (omega (arith, is.size, short)),
      written ∙ append_assoc (word SCALAR_CONTAINER_TAG) (word w) (payload_of t)
          ∙ ap (λ n. word SCALAR_CONTAINER_TAG ++ (word n ++ payload_of t))
          (word_is ∙ omega (arith, is.type, is.size)) ∙ sym scalar.0,
    )
