-- The children of a container, array or object, and how the container is written from them.
use Rattle.std.proofs.Common.{◌≡◌, ◌↔◌, ◌<◌, ◌≤◌, ◌+◌, ◌*◌, ◌^◌, ℕ, List, ◌++◌, length, take, drop}
use Rattle.std.proofs.Common.{refl, sym, ap, subst, ◌∙◌, arith, lit<, length-append, append_assoc}
use Rattle.jsonb_value.specs.Tree.{Tree, array, object, Trees, Pairs, no_pairs}
use Rattle.jsonb_value.specs.Tree.{pair}
use Rattle.std.specs.declared.cmp.Ordering.TheVariants.{Equal}
use Rattle.jsonb_value.specs.Norm.{norm}
use Rattle.jsonb_value.specs.TreeOrder.{tree_cmp}
use Rattle.jsonb_value.specs.WellFormed.{IsTree}
use Rattle.jsonb_value.proofs.KindLaws.{norm_tied}
use Rattle.jsonb_value.proofs.ExtCodes.{front_of, back_of}
use Rattle.jsonb_codec.specs.WordBytes.{word}
use Rattle.jsonb_codec.specs.Doc.{type_of, Doc}
use Rattle.jsonb_codec.specs.Parts.{IsPayloadOf}
use Rattle.jsonb_codec.specs.Canon.{canon, payload_of, Fits}
use Rattle.jsonb_codec.specs.Canonical.{IsCanonical}
use Rattle.jsonb_codec.specs.Rewriting.{ContainerParts}
use Rattle.jsonb_codec.proofs.Words.{same_words}
use Rattle.jsonb_codec.proofs.Unique.{Doc-unique}
use Rattle.jsonb_codec.proofs.CanonLaws.{shape_of-norm, canon-norm, Doc-canon}
use Rattle.jsonb_codec.proofs.TreeShapes.{entries_of, payloads_of, key_entries, key_payloads}
use Rattle.jsonb_codec.proofs.TreeShapes.{value_entries, value_payloads, FitsInside, AllFit}
use Rattle.jsonb_codec.proofs.TreeShapes.{PairsFit, count-items_shapes, count-pairs_shapes}
use Rattle.jsonb_codec.proofs.Entries.{keys_and, values_of, length-Children}
use Rattle.jsonb_codec.proofs.Containers.{members, kind_of, count_of, count-members, container}
use Rattle.jsonb_codec.proofs.Containers.{header_small}
use Rattle.jsonb_codec.proofs.Steps.{Read, kind_is}

-- An object's keys and values as children are written as in the object.
entries_of-values_of : (ps : Pairs) → entries_of (values_of ps) ≡ value_entries ps
entries_of-values_of no_pairs = refl
entries_of-values_of (pair k t ps) = rw (entries_of-values_of ps)

payloads_of-values_of : (ps : Pairs) → payloads_of (values_of ps) ≡ value_payloads ps
payloads_of-values_of no_pairs = refl
payloads_of-values_of (pair k t ps) = rw (payloads_of-values_of ps)

entries_of-keys_and : (ps : Pairs) (us : Trees)
    → entries_of (keys_and ps us) ≡ key_entries ps ++ entries_of us
entries_of-keys_and no_pairs us = refl
entries_of-keys_and (pair k t ps) us = rw (entries_of-keys_and ps us, append_assoc)

payloads_of-keys_and : (ps : Pairs) (us : Trees)
    → payloads_of (keys_and ps us) ≡ key_payloads ps ++ payloads_of us
payloads_of-keys_and no_pairs us = refl
payloads_of-keys_and (pair k t ps) us = rw (payloads_of-keys_and ps us, append_assoc)

members_written : (t : Tree) → type_of t ≡ 1342177280
    → payload_of t
    ≡ word (kind_of t + count_of t) ++ (entries_of (members t) ++ payloads_of (members t))
members_written (array ts) is = rw (count-items_shapes ts) refl
members_written (object ps) is = simp (
  entries_of-keys_and,
  payloads_of-keys_and,
  entries_of-values_of,
  payloads_of-values_of,
  append_assoc,
) (rw (count-pairs_shapes ps) refl)
members_written t is = absurd (grind arith)

-- an object's keys and values as children fit exactly if the object does
AllFit-keys_and : (ps : Pairs) (us : Trees) → PairsFit ps → AllFit us → AllFit (keys_and ps us)
AllFit-keys_and no_pairs us f h = h
AllFit-keys_and (pair k t ps) us f h = ((lit< tt, (tt, f.0.0)), AllFit-keys_and ps us f.1 h)

AllFit-values_of : (ps : Pairs) → PairsFit ps → AllFit (values_of ps)
AllFit-values_of no_pairs f = tt
AllFit-values_of (pair k t ps) f = ((lit< tt, f.0.1), AllFit-values_of ps f.1)

AllFit-later : (ps : Pairs) (us : Trees) → AllFit (keys_and ps us) → AllFit us
AllFit-later no_pairs us h = h
AllFit-later (pair k t ps) us h = AllFit-later ps us h.1

PairsFit-keys_and : (ps : Pairs) (us : Trees) → AllFit (keys_and ps us) → AllFit (values_of ps)
    → PairsFit ps
PairsFit-keys_and no_pairs us h v = tt
PairsFit-keys_and (pair k t ps) us h v =
    ((h.0.1.1, v.0.1), PairsFit-keys_and ps us h.1 v.1)

members_fit : (t : Tree) → type_of t ≡ 1342177280 → count_of t < 2 ^ 29
    → AllFit (members t) ↔ FitsInside t
members_fit (array ts) is few = (λ a. (rw (count-items_shapes ts) few, a), λ f. f.1)
members_fit (object ps) is few = (
  λ a. (rw (count-pairs_shapes ps) few, PairsFit-keys_and ps _ a (AllFit-later ps _ a)),
  λ f. AllFit-keys_and ps _ f.1 (AllFit-values_of ps f.1),
)
members_fit t is few = absurd (grind arith)

-- A container whose header was read, given the m entry words after it and their payloads.
module _ {tag n : ℕ} {rest b : List ℕ} (read : Read (2 ^ 29) tag n rest b) (m : ℕ)
    (one : tag ≡ 2147483648 → m ≡ n) (two : tag ≡ 1073741824 → m ≡ 2 * n) where
  record Cut (t : Tree) : Type 0 where
    entries : List ℕ
    payloads : List ℕ
    body : rest ≡ entries ++ payloads
    len : length entries ≡ 4 * m
    parts_are : ContainerParts t (tag + n) entries payloads

  cut_at : (t : Tree) → IsPayloadOf 1342177280 b t → Cut t
  cut_at t (q, h) =
      let f = container t b q h in
      let words = same_words read.small (header_small f) (sym read.found ∙ f.parts) in
      let kind = kind_is read t (q, h) in
      record {
        entries = f.entries;
        payloads = f.payloads;
        body = words.1 ∙ f.body;
        len = grind (
          arith,
          length-Children (members t) _ _ f.items,
          count-members t q,
          words.0,
          kind,
          one,
          two,
        );
        parts_are = record {
          children = members t;
          are = f.items;
          fit = members_fit t q f.few;
          written = rw words.0 (members_written t q);
        };
      }

  pub opened_room : (t : Tree) → IsPayloadOf 1342177280 b t → 4 * m ≤ length rest
  opened_room t is =
      let k = cut_at t is in
      omega (arith, ap length k.body ∙ length-append k.entries k.payloads, k.len)

  pub opened_as : {front back : List ℕ} → front ≡ take (4 * m) rest → back ≡ drop (4 * m) rest
      → (t : Tree) → IsPayloadOf 1342177280 b t → ContainerParts t (tag + n) front back
  opened_as is_front is_back t is =
      let k = cut_at t is in
      rw (
        is_front,
        front_of (4 * m) k.entries k.payloads rest k.body k.len,
        is_back,
        back_of (4 * m) k.entries k.payloads rest k.body k.len,
      ) k.parts_are

-- ---- the written document and its source

-- The normal form of a tree that fits also fits.
Fits-norm : (t : Tree) → Fits t → Fits (norm t)
Fits-norm t h = rw (shape_of-norm t) h

meant : (b : List ℕ) (t u : Tree) → b ≡ canon t → IsTree t → Fits t → Doc b u → norm t ≡ u
meant b t u e ok fit h =
    Doc-unique b (norm t) u (subst (λ x. Doc x (norm t)) (sym e) (Doc-canon t ok fit)) h

-- The canonical document equals the source exactly if the source is canonical.
pub canonical_same : (b : List ℕ) (t : Tree) → IsTree t → Doc b t → Fits t → (canon t ≡ b)
    ↔ IsCanonical b
canonical_same b t ok h fit = (
  λ e. (t, (ok, (fit, e))),
  λ (u, (good, (fits, e))).
      ap canon (sym (meant b u t (sym e) good fits h)) ∙ canon-norm u ∙ e,
)

-- The canonical document means a tree whose canonical document is the same.
pub canonical_twice : (b : List ℕ) (t : Tree) → b ≡ canon t → IsTree t → Fits t → (u : Tree)
    → Doc b u → Fits u × (canon u ≡ b)
canonical_twice b t e ok fit u h =
    let same = meant b t u e ok fit h in
    (subst Fits same (Fits-norm t fit), ap canon (sym same) ∙ canon-norm t ∙ sym e)

-- The canonical document compares Equal to its source.
pub canonical_equal : (b : List ℕ) (t : Tree) → b ≡ canon t → IsTree t → Fits t → (u : Tree)
    → Doc b u → tree_cmp u t ≡ Equal
canonical_equal b t e ok fit u h =
    ap (λ (x : Tree). tree_cmp x t) (sym (meant b t u e ok fit h)) ∙ norm_tied t
