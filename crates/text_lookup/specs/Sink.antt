-- What the sink holds.
use Rattle.std.specs.Prelude.{◌≡◌, ◌==◌, ◌&&◌, ℕ, suc, Bool, false, List, [], ◌∷◌, length, ⊤}
use Rattle.std.specs.Prelude.{if◌then◌else◌, IsUtf8, nat_eq}
use Rattle.std.specs.Cmp.Lexicographic.{pointwise}
use Rattle.jsonb_value.specs.Json.Syntax.{pairs}
use Rattle.jsonb_value.specs.Reader.Resume.{Content, State, items, members, at_key, going, whole}
use Rattle.jsonb_value.specs.Reader.Resume.{lost}
use Rattle.jsonb_value.specs.Tree.{object}
use Rattle.jsonb_value.specs.Value.{trees_of}
use Rattle.jsonb_value.specs.WellFormed.{IsTree, AreTrees}
use Rattle.jsonb.specs.Node.{value_of_key}
use Rattle.text_lookup.specs.Lookup.{IsLookedUp, IsMember}
use Rattle.text_lookup.specs.declared.member.TextMember.{TextMember}
use Rattle.text_lookup.specs.declared.member.TextMember.TheVariants.{Missing, Unread}
use Rattle.text_lookup.specs.declared.sink.MemberSink.{MemberSink}

-- The next value is the one at the key.
abbrev pub is_wanted : MemberSink → Bool
is_wanted s = s.is_at_key && (s.depth == 1)

-- The sink after it was given what was found of a value.
pub record IsTaken (old : MemberSink) (given : TextMember) (new : MemberSink) : Type 0 where
  pub key : new.key ≡ old.key
  pub depth : new.depth ≡ old.depth
  pub is_at_key : new.is_at_key ≡ old.is_at_key
  pub member : new.member ≡ (if is_wanted old then given else old.member)

-- The sink after a key: whether it is the one whose value is kept, if it is of the outermost
-- container.
pub record IsMet (old : MemberSink) (name : List ℕ) (new : MemberSink) : Type 0 where
  pub key : new.key ≡ old.key
  pub depth : new.depth ≡ old.depth
  pub is_at_key : new.is_at_key
      ≡ (if old.depth == 1 then pointwise nat_eq old.key.now name else old.is_at_key)
  pub member : new.member ≡ old.member

-- The sink where an object begins: in the outermost one nothing is found yet.
pub record IsOpened (old new : MemberSink) : Type 0 where
  pub key : new.key ≡ old.key
  pub depth : new.depth ≡ old.depth
  pub is_at_key : new.is_at_key ≡ old.is_at_key
  pub member : new.member ≡ (if old.depth == 0 then Missing else old.member)

-- The second sink has one more container open than the first.
pub record IsDeeper (s t : MemberSink) : Type 0 where
  pub key : t.key ≡ s.key
  pub depth : t.depth ≡ suc s.depth
  pub is_at_key : t.is_at_key ≡ s.is_at_key
  pub member : t.member ≡ s.member

-- What was read of the open containers are values.
abbrev pub AreRead : List Content → Type 0
AreRead [] = ⊤
AreRead (items front ∷ cs) = AreTrees (trees_of front) × AreRead cs
AreRead (members front ∷ cs) = IsTree (object (pairs front)) × AreRead cs
AreRead (at_key front k ∷ cs) = (IsTree (object (pairs front)) × IsUtf8 k) × AreRead cs

-- What was found at the key so far, in the outermost of the open containers.
abbrev pub IsFoundIn : List ℕ → Bool → TextMember → List Content → Type 0
IsFoundIn key is_at member [] = (is_at ≡ false) × (member ≡ Unread)
IsFoundIn key is_at member (items front ∷ []) = (is_at ≡ false) × (member ≡ Unread)
IsFoundIn key is_at member (members front ∷ []) =
    IsMember member (value_of_key key (object (pairs front)))
IsFoundIn key is_at member (at_key front k ∷ []) =
    (is_at ≡ pointwise nat_eq key k) × IsMember member (value_of_key key (object (pairs front)))
IsFoundIn key is_at member (c ∷ d ∷ cs) = IsFoundIn key is_at member (d ∷ cs)

-- A sink of these parts is in the state.
abbrev pub IsIn : List ℕ → ℕ → Bool → TextMember → State → Type 0
IsIn key depth is_at member (going cs) =
    (depth ≡ length cs) × (AreRead cs × IsFoundIn key is_at member cs)
IsIn key depth is_at member (whole t) = IsTree t × IsLookedUp key member t
IsIn key depth is_at member lost = ⊤

-- The sink is in the state.
abbrev pub sink_is : MemberSink → State → Type 0
sink_is s = IsIn s.key.now s.depth s.is_at_key s.member
