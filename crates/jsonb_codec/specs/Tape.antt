-- What the tape of a text holds.
use Rattle.std.specs.Prelude.{◌≡◌, ◌≤◌, ◌+◌, ◌-◌, ℕ, Bool, true, false, List, [], ◌∷◌}
use Rattle.std.specs.Prelude.{◌++◌, length, take, drop, get_or, map, Option, Some, None, IfSome}
use Rattle.std.specs.Prelude.{IsUtf8, ⊤}
use Rattle.std.specs.Ordering.{nat_cmp}
use Rattle.std.specs.declared.cmp.Ordering.TheVariants.{Less}
use Rattle.std.specs.Cmp.Lexicographic.{slice_cmp}
use Rattle.byteorder.specs.Endian.{big_number}
use Rattle.jsonb_value.specs.Tree.{Tree, Ascend}
use Rattle.jsonb_value.specs.Value.{trees_of}
use Rattle.jsonb_value.specs.WellFormed.{IsTree, AreTrees}
use Rattle.jsonb_value.specs.Json.Syntax.{Entries, pairs, insert_all}
use Rattle.jsonb_value.specs.Reader.Resume.{Content, State, items, members, at_key, going, whole}
use Rattle.jsonb_value.specs.Reader.Resume.{lost}
use Rattle.jsonb_codec.specs.Shape.{Shapes, AllFit, FitsEntry, FitsInside, entries, payloads}
use Rattle.jsonb_codec.specs.Shape.{shape_type, body, key_entries}
use Rattle.jsonb_codec.specs.Canon.{shape_of, items_shapes, payload_of}
use Rattle.jsonb_codec.specs.declared.constants.TheConstants.{CONTAINER_TAG}
use Rattle.jsonb_codec.specs.Keys.{IsKey, key_bytes}
use Rattle.jsonb_codec.specs.declared.tape.entry.Entry.{Entry}
use Rattle.jsonb_codec.specs.declared.tape.key.Key.{Key}
use Rattle.jsonb_codec.specs.declared.tape.place.Frame.{Frame}
use Rattle.jsonb_codec.specs.declared.tape.place.Head.{Head}
use Rattle.jsonb_codec.specs.declared.tape.place.Part.{Part}
use Rattle.jsonb_codec.specs.declared.tape.place.Place.{Place}
use Rattle.jsonb_codec.specs.declared.tape.place.Place.TheVariants as place
use Rattle.jsonb_codec.specs.declared.tape.place.Kind.TheVariants as kind
use Rattle.jsonb_codec.specs.declared.tape.member.Member.{Member}
use Rattle.jsonb_codec.specs.declared.tape.storage.Storage.{Storage}
use Rattle.jsonb_codec.specs.declared.tape.Tape.{Tape}

-- ---- payloads

-- The part of a list from an index up to another.
abbrev pub cut : {A : Type 0} → ℕ → ℕ → List A → List A
cut from to xs = take (to - from) (drop from xs)

-- There is no place, or the first is that of a head.
abbrev pub IsHeadFirst : List Place → Type 0
IsHeadFirst [] = ⊤
IsHeadFirst (place.Head h ∷ ps) = ⊤
IsHeadFirst _ = ⊥

-- The payloads from an index up to another, with the heads and parts put in at these places, are
-- these bytes.
pub data Joined (s : Storage) : ℕ → List Place → ℕ → List ℕ → Type 0 where
  no_place : (a b : ℕ) (all : List ℕ) → a ≤ b → b ≤ length s.payload.items
      → all ≡ cut a b s.payload.items → Joined s a [] b all
  head_place : (a b : ℕ) (h : Head) (ps : List Place) (r all : List ℕ) → a ≤ h.at
      → h.at ≤ length s.payload.items → h.start + 2 ≤ h.end → h.end ≤ length s.heads.items
      → Joined s h.until ps b r
      → all ≡ cut a h.at s.payload.items ++ (cut h.start h.end s.heads.items ++ r)
      → Joined s a (place.Head h ∷ ps) b all
  part_place : (a b : ℕ) (p : Part) (ps : List Place) (q r all : List ℕ) → p.first ≤ p.last
      → p.last ≤ length s.moved.items → IsHeadFirst (cut p.first p.last s.moved.items)
      → 1 ≤ p.size → p.size ≡ length q
      → Joined s p.start (cut p.first p.last s.moved.items) p.end q → Joined s a ps b r
      → all ≡ q ++ r → Joined s a (place.Part p ∷ ps) b all

-- ---- values

-- The entry is that of the tree, which fits with all that is inside it.
pub record EntryIs (e : Entry) (t : Tree) : Type 0 where
  pub tree : IsTree t
  pub fits : FitsInside (shape_of t)
  pub type : e.type_code ≡ shape_type (shape_of t)
  pub size : e.size ≡ length (payload_of t)

-- The tree has this entry, and its payload is between these indexes, with these places; or it has
-- no entry, since something inside it does not fit.
abbrev pub IsMade : Storage → Option Entry → ℕ → List Place → ℕ → Tree → Type 0
IsMade s (Some e) a ps b t = EntryIs e t × (IsHeadFirst ps × Joined s a ps b (payload_of t))
IsMade s None a ps b t = FitsInside (shape_of t) → ⊥

-- The tree is a scalar of this type and payload.
pub record IsScalar (type : ℕ) (p : List ℕ) (t : Tree) : Type 0 where
  pub tree : IsTree t
  pub fits : FitsInside (shape_of t)
  pub type_is : type ≡ shape_type (shape_of t)
  pub payload_is : p ≡ payload_of t

-- The shapes of an array's items.
abbrev pub shapes_of : List Tree → Shapes
shapes_of ts = items_shapes (trees_of ts)

-- The values, all of which fit, have the payloads between these indexes, with these places.
pub record ValuesAre (s : Storage) (a : ℕ) (ps : List Place) (b : ℕ) (ts : List Tree) : Type 0 where
  pub trees : AreTrees (trees_of ts)
  pub fit : AllFit (shapes_of ts)
  pub joined : Joined s a ps b (payloads (shapes_of ts))

-- The same, or one of the values does not fit.
abbrev pub HasValuesIfFit : Bool → Storage → ℕ → List Place → ℕ → List Tree → Type 0
HasValuesIfFit true s a ps b ts = ValuesAre s a ps b ts
HasValuesIfFit false s a ps b ts = AllFit (shapes_of ts) → ⊥

-- ---- members

-- The part is the payload of the tree, which fits, with this entry word. `base`: the first place
-- inside the object.
pub record PartIs (s : Storage) (base : ℕ) (ps : List Place) (p : Part) (word : ℕ) (t : Tree)
    : Type 0 where
  pub tree : IsTree t
  pub fits : FitsEntry (shape_of t)
  pub word_is : word ≡ shape_type (shape_of t) + length (payload_of t)
  pub size : p.size ≡ length (payload_of t)
  pub inside : base ≤ p.first
  pub low : p.first ≤ p.last
  pub high : p.last ≤ length ps
  pub front : IsHeadFirst (cut p.first p.last ps)
  pub joined : Joined s p.start (cut p.first p.last ps) p.end (payload_of t)

-- The same, or there is no word since the value does not fit.
abbrev pub IsPartIfFit : Storage → ℕ → List Place → Part → Option ℕ → Tree → Type 0
IsPartIfFit s base ps p (Some word) t = PartIs s base ps p word t
IsPartIfFit s base ps p None t = FitsEntry (shape_of t) → ⊥

-- The key has these bytes, and the number of the first eight.
pub record KeyIs (s : Storage) (k : Key) (prefix : ℕ) (bytes : List ℕ) : Type 0 where
  pub is_key : IsKey s.spelled.items k
  pub same : key_bytes s.spelled.items k ≡ bytes
  pub number : prefix ≡ big_number 8 bytes
  pub utf8 : IsUtf8 bytes

-- The members have these keys and values, in this order.
abbrev pub MembersAre : Storage → ℕ → List Place → List Member → Entries → Type 0
MembersAre s base ps [] [] = ⊤
MembersAre s base ps (m ∷ ms) (e ∷ es) =
    (KeyIs s m.key m.prefix e.0 × IsPartIfFit s base ps m.part m.word e.1)
    × MembersAre s base ps ms es
MembersAre s base ps _ _ = ⊥

-- These are the members with these numbers, counted from the one at `first`.
abbrev pub ArePicked : List Member → ℕ → List ℕ → List Member → Type 0
ArePicked ms first [] [] = ⊤
ArePicked ms first (i ∷ is) (m ∷ picked) =
    (m ≡ get_or ms (first + i) m) × ArePicked ms first is picked
ArePicked ms first _ _ = ⊥

-- The values of members.
abbrev pub values_of : Entries → List Tree
values_of es = map (λ e. e.1) es

-- The key is above the last of these keys, or above that before them.
abbrev pub LastBelow : Option (List ℕ) → Entries → List ℕ → Type 0
LastBelow before [] k = IfSome before (λ b. slice_cmp nat_cmp b k ≡ Less)
LastBelow before (e ∷ es) k = LastBelow (Some e.0) es k

-- ---- containers

-- The frame is that of an array with these items so far, up to these places, words and members.
pub record ArrayIs (s : Storage) (f : Frame) (ps : List Place) (ws : List ℕ) (ms : List Member)
    (b : ℕ) (ts : List Tree) : Type 0 where
  pub kind_is : f.kind ≡ kind.Array
  pub start_from : f.start ≤ b
  pub words_from : f.words ≤ length ws
  pub members_from : f.members ≤ length ms
  pub values : HasValuesIfFit f.fits s f.start (drop (f.place + 1) ps) b ts
  pub words : f.fits ≡ true → drop f.words ws ≡ entries (shapes_of ts)

-- The frame is that of an object with these members so far; `ascends`: whether the keys ascend in
-- the order read.
pub record ObjectIs (s : Storage) (f : Frame) (ps : List Place) (ws : List ℕ) (ms : List Member)
    (b : ℕ) (front : Entries) : Type 0 where
  pub kind_is : f.kind ≡ kind.Object
  pub start_from : f.start ≤ b
  pub words_from : f.words ≤ length ws
  pub members_from : f.members ≤ length ms
  pub read : Entries
  pub members : MembersAre s (f.place + 1) ps (drop f.members ms) read
  pub is : front ≡ insert_all [] read
  pub ascend : f.ascends ≡ true → Ascend (pairs read)
  pub values : HasValuesIfFit f.fits s f.start (drop (f.place + 1) ps) b (values_of read)

-- The same after a key, whose value comes next.
pub record ObjectAt (s : Storage) (f : Frame) (ps : List Place) (ws : List ℕ) (ms : List Member)
    (b : ℕ) (front : Entries) (key : List ℕ) : Type 0 where
  pub kind_is : f.kind ≡ kind.Object
  pub start_from : f.start ≤ b
  pub words_from : f.words ≤ length ws
  pub before : List Member
  pub last : Member
  pub all : ms ≡ before ++ last ∷ []
  pub members_from : f.members ≤ length before
  pub read : Entries
  pub members : MembersAre s (f.place + 1) ps (drop f.members before) read
  pub is : front ≡ insert_all [] read
  pub has_key : KeyIs s last.key last.prefix key
  pub start : last.part.start ≡ b
  pub first : last.part.first ≡ length ps
  pub ascend : f.ascends ≡ true → (t : Tree) → Ascend (pairs (read ++ (key, t) ∷ []))
  pub values : HasValuesIfFit f.fits s f.start (drop (f.place + 1) ps) b (values_of read)

-- The frame is that of a container with this content.
abbrev pub ContainerIs : Storage → Frame → List Place → List ℕ → List Member → ℕ → Content → Type 0
ContainerIs s f ps ws ms b (items front) = ArrayIs s f ps ws ms b front
ContainerIs s f ps ws ms b (members front) = ObjectIs s f ps ws ms b front
ContainerIs s f ps ws ms b (at_key front key) = ObjectAt s f ps ws ms b front key

-- The innermost container has this frame, and all have these contents. The place of each keeps the
-- frame around it, whose places, words and members come before its own.
abbrev pub AreOpen : Storage → Frame → List Place → List ℕ → List Member → ℕ → List Content → Type 0
AreOpen s f ps ws ms b [] = (f.kind ≡ kind.Whole) × ((ps ≡ []) × (b ≡ 0))
AreOpen s f ps ws ms b (c ∷ cs) = ContainerIs s f ps ws ms b c × ((g : Frame)
    × ((drop f.place ps ≡ place.Open g ∷ drop (f.place + 1) ps)
    × AreOpen s g (take f.place ps) (take f.words ws) (take f.members ms) f.start cs))

-- The tape is in the state.
abbrev pub tape_is : Tape → State → Type 0
tape_is t (going cs) = AreOpen t.storage t.inner t.places.items t.words.items t.members.items
    (length t.storage.payload.items) cs
tape_is t (whole v) =
    IsMade t.storage t.whole 0 t.places.items (length t.storage.payload.items) v
tape_is t lost = ⊤

-- ---- growth

-- The storage has all that it had, and perhaps more after it.
pub record Grows (old new : Storage) : Type 0 where
  pub more_payload : List ℕ
  pub more_heads : List ℕ
  pub more_spelled : List ℕ
  pub more_moved : List Place
  pub payload : new.payload.items ≡ old.payload.items ++ more_payload
  pub heads : new.heads.items ≡ old.heads.items ++ more_heads
  pub spelled : new.spelled.items ≡ old.spelled.items ++ more_spelled
  pub moved : new.moved.items ≡ old.moved.items ++ more_moved

-- These bytes of a head were stored, and nothing else.
pub record StoresHead (old new : Storage) (head : List ℕ) : Type 0 where
  pub heads : new.heads.items ≡ old.heads.items ++ head
  pub payload : new.payload ≡ old.payload
  pub spelled : new.spelled ≡ old.spelled
  pub moved : new.moved ≡ old.moved

-- The head of the tree, a container that fits, was stored. Its payload, of this size, is the head
-- and then the payloads of its children.
pub record IsHead (old new : Storage) (size : ℕ) (p : List ℕ) (t : Tree) : Type 0 where
  pub head : List ℕ
  pub stored : StoresHead old new head
  pub long : 2 ≤ length head
  pub same : payload_of t ≡ head ++ p
  pub tree : IsTree t
  pub fits : FitsInside (shape_of t)
  pub size_is : size ≡ length (payload_of t)

-- The same, or there is no size since something in the tree does not fit.
abbrev pub IsHeadIfFit : Storage → Storage → Option ℕ → List ℕ → Tree → Type 0
IsHeadIfFit old new (Some size) p t = IsHead old new size p t
IsHeadIfFit old new None p t = FitsInside (shape_of t) → ⊥

-- The tree is a container that fits: its head was stored since `start`, and the payloads of its
-- children begin at `until`, with these places.
pub record IsEnded (s : Storage) (start until : ℕ) (ps : List Place) (size : ℕ) (t : Tree) : Type 0
  where
    pub children : List ℕ
    pub type_is : shape_type (shape_of t) ≡ CONTAINER_TAG
    pub tree : IsTree t
    pub fits : FitsInside (shape_of t)
    pub size_is : size ≡ length (payload_of t)
    pub long : start + 2 ≤ length s.heads.items
    pub same : payload_of t ≡ drop start s.heads.items ++ children
    pub joined : Joined s until ps (length s.payload.items) children

-- The same, or there is no size since something in the tree does not fit.
abbrev pub IsEndedIfFit : Storage → ℕ → ℕ → List Place → Option ℕ → Tree → Type 0
IsEndedIfFit s start until ps (Some size) t = IsEnded s start until ps size t
IsEndedIfFit s start until ps None t = FitsInside (shape_of t) → ⊥

-- The frame around the innermost container, and those around it, with these contents.
pub record IsAround (t : Tape) (g : Frame) (cs : List Content) : Type 0 where
  pub start_from : t.inner.start ≤ length t.storage.payload.items
  pub place_is : drop t.inner.place t.places.items
      ≡ place.Open g ∷ drop (t.inner.place + 1) t.places.items
  pub around : AreOpen t.storage g (take t.inner.place t.places.items)
      (take t.inner.words t.words.items) (take t.inner.members t.members.items) t.inner.start cs

-- The entry words of the keys of these children, all of which fit, were stored, and nothing else;
-- the size is that of their keys and payloads. Or there is no size since one does not fit.
abbrev pub AreKeyWordsIfFit : Storage → Storage → Option ℕ → Shapes → Type 0
AreKeyWordsIfFit old new (Some n) ss =
    StoresHead old new (key_entries ss) × (AllFit ss × (n ≡ body ss))
AreKeyWordsIfFit old new None ss = AllFit ss → ⊥
