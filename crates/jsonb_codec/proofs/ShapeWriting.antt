-- Writing shapes front to back: the children of a container one after another.
use Rattle.std.proofs.Common.{◌≡◌, ◌<◌, ◌+◌, ◌^◌, ℕ, List, [], ◌++◌, length, refl, ap, subst, ◌∙◌}
use Rattle.std.proofs.Common.{arith, length-append, append_assoc, le_trans}
use Rattle.std.specs.Global.{Vec}
use Rattle.jsonb_codec.specs.declared.constants.TheConstants.{ARRAY_CONTAINER_TAG}
use Rattle.jsonb_codec.specs.declared.constants.TheConstants.{OBJECT_CONTAINER_TAG, CONTAINER_TAG}
use Rattle.jsonb_codec.specs.declared.writer.source.Level.{Level}
use Rattle.jsonb_codec.specs.declared.writer.source.Level.TheVariants as levels
use Rattle.jsonb_codec.specs.WordBytes.{word}
use Rattle.jsonb_codec.specs.Shape.{Shape, array, object, Shapes, no_shapes, shape, shape_count}
use Rattle.jsonb_codec.specs.Shape.{shape_type}
use Rattle.jsonb_codec.specs.Shape.{payload, entries, payloads}
use Rattle.jsonb_codec.specs.Shape.{key_entries, key_payloads, body, AllFit}
use Rattle.jsonb_codec.specs.Shape.{FitsEntry}
use Rattle.jsonb_codec.specs.Source.{SourceMeaning, LevelIs}
use Rattle.jsonb_codec.specs.Room.{HasRoom, AppendsBytes, HasWordsAt}
use Rattle.jsonb_codec.specs.Writing.{AreFew, CanGoOn, TakesLeft}
use Rattle.jsonb_codec.proofs.Appending.{Underway, underway_start, underway_next, underway_on}
use Rattle.jsonb_codec.proofs.Appending.{underway_end}
use Rattle.jsonb_codec.proofs.Appending.{length-Appended}
use Rattle.jsonb_codec.proofs.RoomLaws.{HasWordsAt-Appended, HasWordsAt-first, HasWordsAt-more}
use Rattle.jsonb_codec.proofs.RoomLaws.{HasWordsAt-next}
use Rattle.jsonb_codec.proofs.Shapes.{First, first_fits, first_body}

-- The children that were written, and those that are left.
pub record Going {W : Type 0} (Are : W → Shapes → Type 0) (Bytes : Shapes → List ℕ) (start : W)
    (old now : Vec ℕ) (rest : W) : Type 0 where
  pub all : Shapes
  pub are_all : Are start all
  pub left : Shapes
  pub are_left : Are rest left
  pub few : AreFew left
  pub underway : Underway old now (Bytes all) (Bytes left)

abbrev pub going_start : {W : Type 0} (Are : W → Shapes → Type 0) (Bytes : Shapes → List ℕ)
    (start : W) (out : Vec ℕ) (ss : Shapes) → Are start ss → CanGoOn out ss (Bytes ss)
    → Going Are Bytes start out out start
going_start Are Bytes start out ss are can = record {
  all = ss;
  are_all = are;
  left = ss;
  are_left = are;
  few = can.few;
  underway = underway_start can.room;
}

module _ {C W : Type 0} {IsKey : List ℕ → Type 0} {IsChild : C → Shape → Type 0}
    {Are : W → Shapes → Type 0} {Bytes : Shapes → List ℕ} {start : W} {old now : Vec ℕ} {rest : W}
    (w : Going Are Bytes start old now rest) {x : C × W}
    (f : First IsKey IsChild Are x w.left) where
  pub going_fit : (length f.key < 2 ^ 28) × (FitsEntry f.child × AllFit f.others)
  going_fit = first_fits f w.few.fit

  pub going_few : AreFew f.others
  going_few = record { fit = going_fit.1.1; few = omega (arith, w.few.few, ap shape_count f.made) }

  -- the child's part of the length that is left
  pub going_takes : {size : ℕ} → size + length f.key ≡ body w.left → TakesLeft Are x.1 f.child size
  going_takes size = record {
    fits = going_fit.1.0;
    others = f.others;
    are = f.later;
    few = going_few;
    both = omega (arith, size, first_body f);
  }

  -- Each child is written as bytes of its own.
  module _ (One : List ℕ → Shape → List ℕ) (law : (k : List ℕ) (s : Shape) (us : Shapes)
      → Bytes (shape k s us) ≡ One k s ++ Bytes us) where
    pub going_underway : Underway old now (Bytes w.all) (One f.key f.child ++ Bytes f.others)
    going_underway = subst (Underway old now (Bytes w.all))
        (ap Bytes f.made ∙ law f.key f.child f.others) w.underway

    pub going_next : HasRoom now (One f.key f.child)
    going_next = underway_next (One f.key f.child) (Bytes f.others) going_underway

    abbrev pub going_on : (new : Vec ℕ) → AppendsBytes now new (One f.key f.child)
        → Going Are Bytes start old new x.1
    going_on new put = record {
      all = w.all;
      are_all = w.are_all;
      left = f.others;
      are_left = f.later;
      few = going_few;
      underway = underway_on (One f.key f.child) (Bytes f.others) going_underway put;
    }

-- Once none are left, all are written.
pub going_end : {W : Type 0} {Are : W → Shapes → Type 0} {Bytes : Shapes → List ℕ} {start : W}
    {old now : Vec ℕ} {rest : W} (w : Going Are Bytes start old now rest)
    → ((x : W) (ss us : Shapes) → Are x ss → Are x us → ss ≡ us) → Bytes no_shapes ≡ []
    → w.left ≡ no_shapes → (ss : Shapes) → Are start ss → AppendsBytes old now (Bytes ss)
going_end {Bytes = Bytes} {start} {old} {now} w one empty none ss are =
    subst (λ us. AppendsBytes old now (Bytes us)) (one start w.all ss w.are_all are)
    (underway_end (subst (Underway old now (Bytes w.all)) (ap Bytes none ∙ empty) w.underway))

-- A leaf is written unchanged, and a level that is not a leaf has a container's type.
pub is_leaf : {L C I O M : Type 0} (code : L → ℕ × List ℕ) (m : SourceMeaning C I O M)
    {v : Level L I O}
    {x : L} (s : Shape) → v ≡ levels.Leaf x → LevelIs code m v s
    → (shape_type s ≡ (code x).0) × (payload s ≡ (code x).1)
is_leaf code m s e is =
    let same = subst (λ v. LevelIs code m v s) e is in
    (ap shape_type same, ap payload same)

pub is_container : {L C I O M : Type 0} (code : L → ℕ × List ℕ) (m : SourceMeaning C I O M)
    (v : Level L I O) (s : Shape) → ((x : L) → v ≡ levels.Leaf x → ⊥) → LevelIs code m v s
    → shape_type s ≡ CONTAINER_TAG
is_container code m (levels.Leaf x) s other is = absurd (other x refl)
is_container code m (levels.Array x) s other (ss, (e, h)) = ap shape_type e
is_container code m (levels.Object x) s other (ss, (e, h)) = ap shape_type e

-- The entry word of the first child precedes those of the others.
pub stored_first : {C W : Type 0} {IsKey : List ℕ → Type 0} {IsChild : C → Shape → Type 0}
    {Are : W → Shapes → Type 0} {x : C × W} {ss : Shapes} (f : First IsKey IsChild Are x ss)
    (at : ℕ) (bytes : List ℕ) → HasWordsAt at (entries ss) bytes
    → HasWordsAt at (word (shape_type f.child + length (payload f.child)) ++ entries f.others) bytes
stored_first f at bytes stored =
    subst (λ (us : Shapes). HasWordsAt at (entries us) bytes) f.made stored

-- The payloads of children are written one after another, at their words.
module _ {C W : Type 0} {IsKey : List ℕ → Type 0} {IsChild : C → Shape → Type 0}
    {Are : W → Shapes → Type 0} {start : W} {old now : Vec ℕ} {rest : W}
    (w : Going Are payloads start old now rest) {x : C × W} (f : First IsKey IsChild Are x w.left)
    {at : ℕ} (stored : HasWordsAt at (entries w.left) now.items) where
  pub payload_can : FitsEntry f.child × (HasRoom now (payload f.child)
      × HasWordsAt at (word (shape_type f.child + length (payload f.child))) now.items)
  payload_can = (
    (going_fit w f).1.0,
    (
      going_next w f (λ k s. payload s) (λ k s us. refl),
      HasWordsAt-first at (word (shape_type f.child + length (payload f.child)))
          (entries f.others) now.items (stored_first f at now.items stored),
    ),
  )

  module _ {new : Vec ℕ} (put : AppendsBytes now new (payload f.child)) where
    abbrev pub payload_on : Going Are payloads start old new x.1
    payload_on = going_on w f (λ k s. payload s) (λ k s us. refl) new put

    pub words_on : HasWordsAt (at + 4) (entries f.others) new.items
    words_on = HasWordsAt-next at (shape_type f.child + length (payload f.child))
        (entries f.others) new.items
        (HasWordsAt-more at (word (shape_type f.child + length (payload f.child))
        ++ entries f.others) (stored_first f at now.items stored) put)

-- Appending twice appends the concatenation.
Appends-both : {a b c : Vec ℕ} {x y : List ℕ} → AppendsBytes a b x → AppendsBytes b c y
    → AppendsBytes a c (x ++ y)
Appends-both {a} {b} {c} {x} {y} h k = record {
  items = k.items ∙ rw (h.items, append_assoc);
  capacity = le_trans h.capacity k.capacity;
}

room_after : {a b : Vec ℕ} {x : List ℕ} (y : List ℕ) → AppendsBytes a b x → HasRoom a (x ++ y)
    → HasRoom b y
room_after {x = x} y h room =
    omega (arith, room, length-append x y, length-Appended h, h.capacity)

room_first : (v : Vec ℕ) (x y : List ℕ) → HasRoom v (x ++ y) → HasRoom v x
room_first v x y room = omega (arith, room, length-append x y)

-- The parts of an array, appended one after another.
pub array_entries_room : (a b : Vec ℕ) (ss : Shapes) → HasRoom a (payload (array ss))
    → AppendsBytes a b (word (ARRAY_CONTAINER_TAG + shape_count ss)) → HasRoom b (entries ss)
array_entries_room a b ss room header =
    room_first b (entries ss) (payloads ss) (room_after (entries ss ++ payloads ss) header room)

-- The parts of an object.
module _ (a b c : Vec ℕ) (ss : Shapes) (room : HasRoom a (payload (object ss)))
    (header : AppendsBytes a b (word (OBJECT_CONTAINER_TAG + shape_count ss)))
    (key_words : AppendsBytes b c (key_entries ss)) where
  bodies : List ℕ
  bodies = key_payloads ss ++ payloads ss

  entries_room : HasRoom c (entries ss ++ bodies)
  unfolding bodies
  entries_room = room_after (entries ss ++ bodies) key_words
      (room_after (key_entries ss ++ (entries ss ++ bodies)) header room)

  pub object_entries_room : HasRoom c (entries ss)
  object_entries_room = room_first c (entries ss) bodies entries_room

  module _ (d e : Vec ℕ) (words : AppendsBytes c d (entries ss))
      (keys : AppendsBytes d e (key_payloads ss)) where
    pub object_payloads_room : HasRoom e (payloads ss)
    unfolding bodies
    object_payloads_room = room_after (payloads ss) keys (room_after bodies words entries_room)

    pub object_words : HasWordsAt (length c.items) (entries ss) e.items
    object_words = HasWordsAt-more (length c.items) (entries ss) (HasWordsAt-Appended words) keys

pub object_written : (a b c d e f : Vec ℕ) (ss : Shapes)
    → AppendsBytes a b (word (OBJECT_CONTAINER_TAG + shape_count ss))
    → AppendsBytes b c (key_entries ss)
    → AppendsBytes c d (entries ss) → AppendsBytes d e (key_payloads ss)
    → AppendsBytes e f (payloads ss) → AppendsBytes a f (payload (object ss))
object_written a b c d e f ss header key_words words keys put =
    Appends-both header (Appends-both key_words (Appends-both words (Appends-both keys put)))
