-- A document means only one tree, and none is a proper prefix of another.
use Rattle.std.proofs.Common.{◌≡◌, ℕ, ◌+◌, List, [], ◌++◌, true, false, length, inl, inr, refl, sym}
use Rattle.std.proofs.Common.{ap}
use Rattle.std.proofs.Common.{ap₂, subst, ◌∙◌, arith, append-nil}
use Rattle.jsonb_value.specs.Tree.{Tree, null, boolean, number, text, extension, array, object}
use Rattle.jsonb_value.specs.Tree.{Trees, no_trees, tree, Pairs, no_pairs, pair, pair_count}
use Rattle.jsonb_value.proofs.Codes.{NumCode-unique}
use Rattle.jsonb_value.proofs.ExtCodes.{ExtCode-unique}
use Rattle.jsonb_codec.specs.WordBytes.{word}
use Rattle.jsonb_codec.specs.Doc.{type_of, Children, Keys, Values, PairsBody, Payload, Scalar, Doc}
use Rattle.jsonb_codec.specs.Parts.{IsObject, ArePairsOf}
use Rattle.jsonb_codec.proofs.Words.{same_parts, same_beginning, words_begin}
use Rattle.jsonb_codec.proofs.Entries.{same_entry, IsType-type_of, same_front, length-One-payloads}
use Rattle.jsonb_codec.proofs.Entries.{length-Children, length-Keys, not_ended, keys_and, values_of}
use Rattle.jsonb_codec.proofs.Entries.{Keys-children, Values-children}
use Rattle.jsonb_codec.proofs.Containers.{count-members, members, kind_of, count_of, two_kinds}
use Rattle.jsonb_codec.proofs.Containers.{container, header_small}

-- Children with the same entry words and payloads are the same, and no bytes are left over.
abbrev SameTrees : Trees → Trees → Type 0
SameTrees ts us =
    (e p q c : List ℕ) → Children ts e p → Children us e q → q ≡ p ++ c → (ts ≡ us) × (c ≡ [])

abbrev SameTree : Tree → Tree → Type 0
SameTree t u = type_of t ≡ type_of u → (p : List ℕ) → Payload t p → Payload u p → t ≡ u

same_none : SameTrees no_trees no_trees
same_none e p q c h k same = (refl, cc)

same_more : (t u : Tree) (ts us : Trees) → SameTree t u → SameTrees ts us
    → SameTrees (tree t ts) (tree u us)
same_more t u ts us first others e p q c h k same =
    let front = same_front (IsType-type_of t) (IsType-type_of u) h k in
    let here =
    same_beginning h.other_payloads c front.len h.payloads_are k.payloads_are same in
    let more = others _ _ _ c h.others
    (subst (λ x. Children us x k.other_payloads) (sym front.other_entries) k.others) here.1 in
    let is : t ≡ u =
    first front.type h.payload h.means (subst (Payload u) (sym here.0) k.means) in
    (ap₂ tree is more.0, more.1)

same_members : (ps qs : Pairs) (us vs : Trees) → pair_count ps ≡ pair_count qs → SameTrees us vs
    → SameTrees (keys_and ps us) (keys_and qs vs)
same_members no_pairs no_pairs us vs n others = others
same_members (pair k t ps) (pair l u qs) us vs n others =
    same_more (text k) (text l) _ _ (λ _ p h g. ap text (sym h.0 ∙ g.0))
    (same_members ps qs us vs (omega arith) others)
same_members ps qs us vs n others = absurd (omega arith)

-- Keys and values form the pairs of an object.
same_keys : (ps qs : Pairs) (us vs : Trees) → pair_count ps ≡ pair_count qs
    → keys_and ps us ≡ keys_and qs vs → (us ≡ vs) × (values_of ps ≡ values_of qs → ps ≡ qs)
same_keys no_pairs no_pairs us vs n e = (e, λ same. refl)
same_keys (pair k t ps) (pair l u qs) us vs n e =
    let more = same_keys ps qs us vs (omega arith) (cc) in
    (more.0, λ same. let others = more.1 (cc) in cc)
same_keys ps qs us vs n e = absurd (omega arith)

-- A container's header determines the number of its children.
same_container : (t u : Tree) → type_of t ≡ 1342177280 → type_of u ≡ 1342177280
    → (kind_of t ≡ kind_of u → count_of t ≡ count_of u → SameTrees (members t) (members u))
    → (b d c : List ℕ) → Payload t b → Payload u d → d ≡ b ++ c → (t ≡ u) × (c ≡ [])
same_container t u is iu same b d c h k e =
    let f = container t b is h in
    let g = container u d iu k in
    let header = words_begin f.rest c (header_small f) (header_small g) f.parts g.parts e in
    let kind : kind_of t ≡ kind_of u =
    omega (arith, header.0, f.few, g.few, two_kinds t, two_kinds u) in
    let many : count_of t ≡ count_of u = omega (arith, header.0) in
    let long : length f.entries ≡ length g.entries = omega (
      arith,
      length-Children _ _ _ f.items,
      length-Children _ _ _ g.items,
      count-members t is,
      count-members u iu,
    ) in
    let split = same_beginning f.payloads c long f.body g.body header.1 in
    let found = same kind many f.entries f.payloads g.payloads c f.items
    (subst (λ x. Children (members u) x g.payloads) (sym split.0) g.items) split.1 in
    (whole t u is iu kind many found.0, found.1)
  where
    whole : (t u : Tree) → type_of t ≡ 1342177280 → type_of u ≡ 1342177280
        → kind_of t ≡ kind_of u → count_of t ≡ count_of u → members t ≡ members u → t ≡ u
    whole (array ts) (array us) is iu k n e = ap array e
    whole (object ps) (object qs) is iu k n e =
        let both = same_keys ps qs _ _ n e in ap object (both.1 both.0)
    whole t u is iu k n e = absurd (grind arith)

mutual
  pub same_tree : (t u : Tree) → SameTree t u
  same_tree null null e p h k = refl
  same_tree (boolean true) (boolean true) e p h k = refl
  same_tree (boolean false) (boolean false) e p h k = refl
  same_tree (number x) (number y) e p h k = ap number (NumCode-unique p x y h k)
  same_tree (text s) (text r) e p h k = ap text (sym h.0 ∙ k.0)
  same_tree (extension x) (extension y) e p h k = ap extension (ExtCode-unique p x y h k)
  same_tree (array ts) (array us) e p h k = (same_container (array ts) (array us) refl refl
      (λ _ _. same_trees ts us) p p [] h k (sym (append-nil p))).0
  same_tree (object ps) (object qs) e p h k = (same_container (object ps) (object qs) refl refl
      (λ _ n. same_members ps qs _ _ n (same_values ps qs)) p p [] h k (sym (append-nil p))).0
  same_tree (array ts) (object qs) e p h k = (same_container (array ts) (object qs) refl refl
      (λ never. absurd (omega arith)) p p [] h k (sym (append-nil p))).0
  same_tree (object ps) (array us) e p h k = (same_container (object ps) (array us) refl refl
      (λ never. absurd (omega arith)) p p [] h k (sym (append-nil p))).0
  same_tree t u e p h k = absurd (grind arith)

  pub same_trees : (ts us : Trees) → SameTrees ts us
  same_trees no_trees no_trees = same_none
  same_trees (tree t ts) (tree u us) = same_more t u ts us (same_tree t u) (same_trees ts us)
  same_trees no_trees (tree u us) = λ e p q c h k. absurd (not_ended h k)
  same_trees (tree t ts) no_trees = λ e p q c h k. absurd (not_ended k h)

  same_values : (ps qs : Pairs) → SameTrees (values_of ps) (values_of qs)
  same_values no_pairs no_pairs = same_none
  same_values (pair k t ps) (pair l u qs) =
      same_more t u (values_of ps) (values_of qs) (same_tree t u) (same_values ps qs)
  same_values no_pairs (pair l u qs) = λ e p q c h k. absurd (not_ended h k)
  same_values (pair k t ps) no_pairs = λ e p q c h k. absurd (not_ended k h)

-- The same bytes mean the same children.
pub Children-unique : {ts us : Trees} (e p : List ℕ) → Children ts e p → Children us e p → ts ≡ us
Children-unique {ts} {us} e p h k = (same_trees ts us e p p [] h k (sym (append-nil p))).0

-- The same bytes mean the same pairs.
pub pairs_unique : (ps qs : Pairs) (ke kp ve vp : List ℕ) → ArePairsOf ps ke kp ve vp
    → ArePairsOf qs ke kp ve vp → ps ≡ qs
pairs_unique ps qs ke kp ve vp h k =
    let many : pair_count ps ≡ pair_count qs =
    omega (arith, length-Keys ps ke kp h.1.0, length-Keys qs ke kp k.1.0) in
    let keys = Children-unique ke kp (subst (λ R. R ke kp) (Keys-children ps) h.1.0)
    (subst (λ R. R ke kp) (Keys-children qs) k.1.0) in
    let values = Children-unique ve vp (subst (λ R. R ve vp) (Values-children ps) h.1.1)
    (subst (λ R. R ve vp) (Values-children qs) k.1.1) in
    (same_keys ps qs no_trees no_trees many keys).1 values

-- The same count and bytes are the same object: they are one payload after its header.
pub object_unique : (n : ℕ) (body : List ℕ) (ps qs : Pairs) → IsObject n body ps
    → IsObject n body qs → ps ≡ qs
object_unique n body ps qs h k =
    let same = same_tree (object ps) (object qs) refl (word (1073741824 + n) ++ body)
    (whole ps h) (whole qs k) in cc
  where
    whole : (rs : Pairs) → IsObject n body rs → Payload (object rs) (word (1073741824 + n) ++ body)
    whole rs (c, (a, b)) = (
      a,
      record {
        rest = body;
        parts = rw c refl;
        later = subst (λ m. PairsBody m (Keys rs) (Values rs) body) (sym c) b;
      },
    )

-- the entry words of children determine the total length of their payloads
pub length_payloads : (ts us : Trees) (e p q : List ℕ) → Children ts e p → Children us e q
    → length p ≡ length q
length_payloads no_trees no_trees e p q h k = cc
length_payloads (tree t ts) (tree u us) e p q h k =
    let front = same_front (IsType-type_of t) (IsType-type_of u) h k in
    let more = length_payloads ts us _ _ _ h.others
    (subst (λ x. Children us x k.other_payloads) (sym front.other_entries) k.others) in
    omega (arith, front.len, length-One-payloads h, length-One-payloads k)
length_payloads no_trees (tree u us) e p q h k = absurd (not_ended h k)
length_payloads (tree t ts) no_trees e p q h k = absurd (not_ended k h)

same_scalar : (t u : Tree) (b d c : List ℕ) → Scalar t b → Scalar u d → d ≡ b ++ c → (t ≡ u)
    × (c ≡ [])
same_scalar t u b d c h k e =
    let ht = IsType-type_of t in
    let hu = IsType-type_of u in
    let outer = words_begin _ c (omega arith) (omega arith) h.parts k.parts e in
    let inner = words_begin h.payload c (omega (arith, h.short, ht.room))
    (omega (arith, k.short, hu.room)) refl refl outer.1 in
    let entry = same_entry ht hu h.short k.short inner.0 in
    let split = same_parts h.payload k.payload c [] entry.1 (sym inner.1 ∙ sym (append-nil _)) in
    (same_tree t u entry.0 h.payload h.means (subst (Payload u) (sym split.0) k.means), split.1)

same_members_of : (t u : Tree) → type_of t ≡ 1342177280 → type_of u ≡ 1342177280
    → kind_of t ≡ kind_of u → count_of t ≡ count_of u → SameTrees (members t) (members u)
same_members_of (array ts) (array us) is iu k n = same_trees ts us
same_members_of (object ps) (object qs) is iu k n =
    same_members ps qs _ _ n (same_trees (values_of ps) (values_of qs))
same_members_of t u is iu k n = absurd (grind arith)

-- If one document is a prefix of another, they mean one tree, and nothing follows. No scalar begins
-- with the header of a container.
pub Doc-agree : (t u : Tree) (b d c : List ℕ) → Doc b t → Doc d u → d ≡ b ++ c → (t ≡ u) × (c ≡ [])
Doc-agree t u b d c (inl h) (inl k) e = same_scalar t u b d c h.1 k.1 e
Doc-agree t u b d c (inr h) (inr k) e = grind (arith, same_container, same_members_of)
Doc-agree t u b d c (inl h) (inr k) e =
    let g = container u d k.0 k.1 in
    let header = words_begin _ c (omega arith) (header_small g) h.1.parts g.parts e in
    absurd (omega (arith, header.0, two_kinds u))
Doc-agree t u b d c (inr h) (inl k) e =
    let f = container t b h.0 h.1 in
    let header = words_begin f.rest c (header_small f) (omega arith) f.parts k.1.parts e in
    absurd (omega (arith, header.0, two_kinds t))

pub Doc-unique : (b : List ℕ) (t u : Tree) → Doc b t → Doc b u → t ≡ u
Doc-unique b t u h k = (Doc-agree t u b b [] h k (sym (append-nil b))).0

pub Doc-prefix_free : (a c : List ℕ) (t u : Tree) → Doc a t → Doc (a ++ c) u → c ≡ []
Doc-prefix_free a c t u h k = (Doc-agree t u a (a ++ c) c h k refl).1
