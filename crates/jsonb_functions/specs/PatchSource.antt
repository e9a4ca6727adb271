-- What a document is written as when another one patches it.
use Rattle.std.specs.Prelude.{◌≡◌, ◌≢◌, ◌+◌, ℕ, List, length, Option, Some, None}
use Rattle.std.proofs.Common.{sym, ◌∙◌}
use Rattle.jsonb_value.specs.Tree.{Tree, null, Pairs, pair}
use Rattle.jsonb_codec.specs.declared.parts.Children.{Children}
use Rattle.jsonb_codec.specs.declared.parts.Member.{Member}
use Rattle.jsonb_codec.specs.declared.parts.Part.{Part}
use Rattle.jsonb_codec.specs.Contents.{PartMeans, AreChildren, FirstMember}
use Rattle.jsonb_codec.specs.PartSource as parts
use Rattle.jsonb_codec.proofs.Unique.{Children-unique}
use Rattle.jsonb_functions.specs.declared.patch.Patched.{Patched}
use Rattle.jsonb_functions.specs.declared.patch.BothMembers.{BothMembers}
use Rattle.jsonb_functions.specs.declared.patch.NextPatched.{NextPatched}
use Rattle.jsonb_functions.specs.declared.patch.Next.{Next}
use Rattle.jsonb_functions.specs.declared.patch.Next.TheVariants as nexts
use Rattle.jsonb_functions.specs.JoinSource.{MaybeMembers, maybe_members_size, maybe_keys_size}
use Rattle.jsonb_functions.specs.JoinSource.{maybe_unique}
use Rattle.jsonb_functions.specs.Overlay.{OverlayMeaning, OverlayLaws, Becomes, ValueMeans}
use Rattle.jsonb_functions.specs.Overlay.{laid_size, one_becomes, one_pair, part_unique}
use Rattle.jsonb_functions.specs.Patched.{patched, pairs_patched}

-- The tree of a part; null if there is none.
abbrev pub MaybeMeans : Option Part → Tree → Type 0
MaybeMeans None t = t ≡ null
MaybeMeans (Some part) t = PartMeans part t

-- The tree of a target that a part patches.
abbrev pub PatchedMeans : Patched → Tree → Type 0
PatchedMeans x = Becomes {A = Tree × Tree}
    (λ p. MaybeMeans x.target p.0 × PartMeans x.patch p.1) (λ p. patched p.0 p.1)

-- The pairs that are left of both.
abbrev pub AreBoth : BothMembers → Pairs → Pairs → Type 0
AreBoth x ps qs = MaybeMembers x.target ps × MaybeMembers x.patch qs

abbrev pub maybe_size : Option Part → ℕ
maybe_size None = 0
maybe_size (Some part) = length part.payload.now

abbrev pub both_size : BothMembers → ℕ
both_size x = maybe_members_size x.target + maybe_members_size x.patch

abbrev pub patch_meaning : OverlayMeaning Patched Children BothMembers
patch_meaning = record {
  value = PatchedMeans;
  items = λ x ts. AreChildren ts x;
  members = λ x. Becomes {A = Pairs × Pairs} (λ p. AreBoth x p.0 p.1)
      (λ p. pairs_patched p.0 p.1);
  value_size = λ x. maybe_size x.target + length x.patch.payload.now;
  items_size = parts.items_size;
  members_size = both_size;
}

some_unique : (part : Option Part) (t u : Tree) → MaybeMeans part t → MaybeMeans part u → t ≡ u
some_unique None t u h k = h ∙ sym k
some_unique (Some part) t u h k = part_unique part t u h k

pub patch_laws : OverlayLaws patch_meaning
patch_laws = record {
  one_value = λ x. one_becomes {A = Tree × Tree}
      (λ p. MaybeMeans x.target p.0 × PartMeans x.patch p.1) (λ p. patched p.0 p.1)
      (one_pair (MaybeMeans x.target) (λ t. PartMeans x.patch t) (some_unique x.target)
      (part_unique x.patch));
  one_items = λ x ts us h k. Children-unique _ _ h k;
  one_members = λ x. one_becomes {A = Pairs × Pairs}
      (λ p. MaybeMembers x.target p.0 × MaybeMembers x.patch p.1) (λ p. pairs_patched p.0 p.1)
      (one_pair (MaybeMembers x.target) (MaybeMembers x.patch) (maybe_unique x.target)
      (maybe_unique x.patch));
}

-- The pairs begin with this member, and the others are those after it.
abbrev pub IsFirstOf : Pairs → Member → Type 0
IsFirstOf ps m = FirstMember ps m.key.now m.value.type_code m.value.payload.now m.later

-- The pairs begin with this member, and the others are what is left of both, patched.
pub record FirstPatched (rs : Pairs) (m : NextPatched) : Type 0 where
  pub first : Tree
  pub target : Pairs
  pub patch : Pairs
  pub are : rs ≡ pair m.key.now first (pairs_patched target patch)
  pub is : ValueMeans patch_meaning m.value first
  pub left : AreBoth m.later target patch

-- The pairs are what is left of both, patched.
abbrev pub AreLeft : Pairs → BothMembers → Type 0
AreLeft rs x = (ps : Pairs) × ((qs : Pairs) × (AreBoth x ps qs × (rs ≡ pairs_patched ps qs)))

-- The pairs begin with a member, if there is one, and the others are what is left of both, patched.
abbrev pub IsNextOf : Pairs → Next → Type 0
IsNextOf rs (nexts.Member m) = FirstPatched rs m
IsNextOf rs (nexts.Removed later) = AreLeft rs later

-- The pairs are what a change of the key's value makes, and then what is left of both, patched.
abbrev pub AreChanged : Pairs → List ℕ → Tree → Tree → Pairs → Pairs → Type 0
AreChanged rs k t u ps qs = (u ≡ null → rs ≡ pairs_patched ps qs)
    × (u ≢ null → rs ≡ pair k (patched t u) (pairs_patched ps qs))

abbrev pub next_size : Next → ℕ
next_size (nexts.Member m) = laid_size patch_meaning m.value + both_size m.later
next_size (nexts.Removed later) = both_size later

abbrev pub both_keys_size : BothMembers → ℕ
both_keys_size x = maybe_keys_size x.target + maybe_keys_size x.patch

abbrev pub next_keys_size : Next → ℕ
next_keys_size (nexts.Member m) = both_keys_size m.later
next_keys_size (nexts.Removed later) = both_keys_size later
