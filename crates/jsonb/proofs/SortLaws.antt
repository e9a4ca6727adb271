-- Views and keys of the same bytes are in the same order.
use Rattle.std.proofs.Common.{◌≡◌, ℕ, ◌+◌, ◌<◌, List, [], ◌∷◌, ◌++◌, map, length, take, drop}
use Rattle.std.proofs.Common.{slice_index_or, sym, ap, ap₂, subst, ◌∙◌, arith}
use Rattle.std.proofs.Math.ListN.{drop_of_length-le}
use Rattle.std.proofs.Math.Seq.{take-length}
use Rattle.std.proofs.lemmas.List.{get_or-map, length-map, append-nil}
use Rattle.std.proofs.lemmas.List.Elements.{All-get_or}
use Rattle.std.proofs.lemmas.List.Sorted.{length_permutation, All-permutation}
use Rattle.std.specs.List.{All}
use Rattle.std.specs.List.Sorted.{IsPermutation, IsSorted, IsStable}
use Rattle.std.specs.Ordering.{is_lt, on}
use Rattle.std.specs.declared.cmp.Ordering.{Ordering}
use Rattle.jsonb_value.specs.Meaning.{Meaning, meaning_cmp}
use Rattle.jsonb_value.proofs.MeaningLaws.{meaning_cmp_total}
use Rattle.jsonb.specs.declared.raw.RawJsonb.{RawJsonb}
use Rattle.jsonb.specs.declared.sort_key.SortKey.{SortKey}
use Rattle.jsonb.specs.ItemMeaning.{meaning_of, raw_meaning}
use Rattle.jsonb.specs.KeyOrder.{key_cmp}
use Rattle.jsonb.specs.Raw.{raw_bytes}
use Rattle.jsonb.specs.SortKey.{sort_bytes, key_meaning}
use Rattle.jsonb.proofs.KeyOrderLaws.{one_order}
use Rattle.jsonb.proofs.StableLaws.{IsStable-by}

-- The key means what its bytes mean.
abbrev pub MeansItsBytes : SortKey → Type 0
MeansItsBytes key = key_meaning key ≡ meaning_of (sort_bytes key)

-- The meaning of the view at an index is that of the key there.
meaning_at : (ks : List SortKey) (vs : List RawJsonb) → map raw_bytes vs ≡ map sort_bytes ks
    → All MeansItsBytes ks → (i : ℕ) (v : RawJsonb) (k : SortKey) → i < length ks
    → raw_meaning (slice_index_or vs i v) ≡ key_meaning (slice_index_or ks i k)
meaning_at ks vs same mean i v k inside =
    let long : length vs ≡ length ks =
    sym (length-map vs raw_bytes) ∙ ap length same ∙ length-map ks sort_bytes in
    let view = get_or-map raw_bytes vs i v [] (omega arith) in
    let key = get_or-map sort_bytes ks i k [] inside in
    ap meaning_of (sym view ∙ ap (λ (bs : List (List ℕ)). slice_index_or bs i []) same ∙ key)
    ∙ sym (All-get_or MeansItsBytes ks i k inside mean)

by_meaning : (ks : List SortKey) (vs : List RawJsonb) → map raw_bytes vs ≡ map sort_bytes ks
    → All MeansItsBytes ks → IsSorted (on key_meaning meaning_cmp) ks
    → IsSorted (on raw_meaning meaning_cmp) vs
by_meaning [] vs same mean sorted i d low high =
    let long : length vs ≡ 0 = sym (length-map vs raw_bytes) ∙ ap length same in
    absurd (omega arith)
by_meaning (k ∷ ks) vs same mean sorted i d low high =
    let long : length vs ≡ length (k ∷ ks) =
    sym (length-map vs raw_bytes) ∙ ap length same ∙ length-map (k ∷ ks) sort_bytes in
    let inside : i + 1 < length (k ∷ ks) = omega arith in
    ap₂ (λ (m n : Meaning). is_lt (meaning_cmp m n))
    (meaning_at (k ∷ ks) vs same mean (i + 1) d k inside)
    (meaning_at (k ∷ ks) vs same mean i d k (omega arith))
    ∙ sorted i k low inside

-- Views are sorted and stay in their order as their keys do.
pub sorted_views : (ks : List SortKey) (vs : List RawJsonb) → map raw_bytes vs ≡ map sort_bytes ks
    → All MeansItsBytes ks → IsSorted key_cmp ks → IsSorted (on raw_meaning meaning_cmp) vs
sorted_views ks vs same mean sorted =
    by_meaning ks vs same mean
    (subst (λ (order : SortKey → SortKey → Ordering). IsSorted order ks) one_order sorted)

pub stable_bytes : (ks sorted : List SortKey) → All MeansItsBytes ks → IsPermutation ks sorted
    → IsStable key_cmp ks sorted
    → IsStable (on meaning_of meaning_cmp) (map sort_bytes ks) (map sort_bytes sorted)
stable_bytes ks sorted mean permuted stable =
    IsStable-by meaning_cmp meaning_cmp_total meaning_of key_meaning sort_bytes ks sorted mean
    (All-permutation MeansItsBytes ks sorted permuted mean)
    (subst (λ (order : SortKey → SortKey → Ordering). IsStable order ks sorted) one_order stable)

-- The keys of all views, once sorted, take the place of all views.
pub all_put : (ks sorted keys : List SortKey) (vs new : List RawJsonb) (n : ℕ) → n ≡ length vs
    → map sort_bytes ks ≡ map raw_bytes (take n vs) → IsPermutation ks sorted → keys ≡ sorted
    → map raw_bytes new ≡ map sort_bytes keys ++ drop (length keys) (map raw_bytes vs)
    → (map sort_bytes ks ≡ map raw_bytes vs) × (map raw_bytes new ≡ map sort_bytes sorted)
all_put ks sorted keys vs new n end so_far permuted same put =
    let all : map sort_bytes ks ≡ map raw_bytes vs =
    so_far ∙ ap (λ (k : ℕ). map raw_bytes (take k vs)) end ∙ ap (map raw_bytes) (take-length vs) in
    let long = length_permutation ks sorted permuted in
    let views = sym (length-map ks sort_bytes) ∙ ap length all in
    let none : drop (length keys) (map raw_bytes vs) ≡ [] =
    drop_of_length-le (map raw_bytes vs) (omega (arith, ap length same, long, views)) in (
      all,
      put ∙ ap (λ (bs : List (List ℕ)). map sort_bytes keys ++ bs) none
          ∙ append-nil (map sort_bytes keys) ∙ ap (map sort_bytes) same,
    )
