-- What is built from documents at keys is a document.
use Rattle.std.proofs.Common.{◌≡◌, ℕ, ◌+◌, ◌<◌, ◌^◌, List, [], ◌∷◌, ◌++◌, length, Some, Result}
use Rattle.std.proofs.Common.{arith, Ok, Err, IfOk, OnOk, refl, sym, ap, ◌∙◌, inr}
use Rattle.std.specs.Map.{keys_of, values_of}
use Rattle.std.proofs.lemmas.Map.Entries.{length-keys_of, length-values_of}
use Rattle.std.specs.List.Sorted.{IsStrictlySortedBy}
use Rattle.std.specs.List.{IsDistinct}
use Rattle.std.specs.Str.{bytes_eq}
use Rattle.std.specs.Ordering.{nat_cmp}
use Rattle.std.specs.Cmp.Lexicographic.{slice_cmp}
use Rattle.jsonb_value.specs.Tree.{text, Trees, no_trees, tree}
use Rattle.jsonb_value.specs.Tree.{Pairs, no_pairs, pair, object, pair_count, Ascends, Ascend}
use Rattle.jsonb_codec.specs.WordBytes.{word}
use Rattle.jsonb_codec.specs.Doc.{Doc, One, IsKey, Keys, Values, Children, Payload, type_of}
use Rattle.jsonb_codec.specs.Canon.{canon, Fits}
use Rattle.jsonb_codec.proofs.TreeShapes.{key_entries, key_payloads, value_entries, value_payloads}
use Rattle.jsonb_codec.proofs.TreeShapes.{PairsFit, Fits-parts, type_of-shape_of}
use Rattle.jsonb_codec.proofs.TreeShapes.{count-pairs_shapes}
use Rattle.jsonb.specs.ItemView.{ItemView}
use Rattle.jsonb.specs.Entry.{Code}
use Rattle.jsonb.specs.Storage.{codes_of}
use Rattle.jsonb.specs.Building.{AreKeys, AreTexts, AreShort, key_codes}
use Rattle.jsonb.proofs.LeafLaws.{code_entries, code_payloads, object_of-parts}
use Rattle.jsonb.specs.Building.{object_bytes, in_order, IsObjectOf}
use Rattle.jsonb.specs.Results.{ArePairDocuments, ArePairsCanonical, raw_pairs, IsObjectOfInputs}
use Rattle.jsonb.specs.StoredEntries.{AreCodesOf, AreMemberEntriesOf}
use Rattle.jsonb.proofs.StoredEntryLaws.{pair_keys, value_trees, both_are}
use Rattle.jsonb.proofs.StoredEntryLaws.{length-AreMemberEntriesOf}
use Rattle.jsonb.proofs.StoredEntryLaws.{length-pair_keys}
use Rattle.jsonb.proofs.StorageLaws.{codes_of-AreCodes, length-codes_of}
use Rattle.jsonb.proofs.ResultLaws.{Children-AreCodesOf, IsCodeOf-document_code}
use Rattle.jsonb.proofs.ResultLaws.{document_code-canon}

Ascends-keys : (b : List ℕ) (ps : Pairs)
    → IsStrictlySortedBy (slice_cmp nat_cmp) (b ∷ pair_keys ps) → Ascends (Some b) ps
unfolding IsStrictlySortedBy
Ascends-keys b no_pairs sorted = tt
Ascends-keys b (pair k t ps) sorted = (sorted.0.0, Ascends-keys k ps sorted.1)

Ascend-keys : (ps : Pairs) → IsStrictlySortedBy (slice_cmp nat_cmp) (pair_keys ps) → Ascend ps
Ascend-keys no_pairs sorted = tt
Ascend-keys (pair k t ps) sorted = (tt, Ascends-keys k ps sorted)

-- keys and values as the children of an array
abbrev key_trees : Pairs → Trees
key_trees no_pairs = no_trees
key_trees (pair k t ps) = tree (text k) (key_trees ps)

keys_are : (ps : Pairs) → Keys ps ≡ Children (key_trees ps)
keys_are no_pairs = refl
keys_are (pair k t ps) = ap (One 268435456 (IsKey k)) (keys_are ps)

values_are : (ps : Pairs) → Values ps ≡ Children (value_trees ps)
values_are no_pairs = refl
values_are (pair k t ps) = ap (One (type_of t) (Payload t)) (values_are ps)

AreCodesOf-keys : (ps : Pairs) → AreTexts (pair_keys ps)
    → AreCodesOf (key_codes (pair_keys ps)) (key_trees ps)
AreCodesOf-keys no_pairs texts = refl
AreCodesOf-keys (pair k t ps) texts = ((refl, (refl, texts.0)), AreCodesOf-keys ps texts.1)

-- an object with ascending keys and entries that mean trees
pub Doc-object_bytes : (ks : List (List ℕ)) (cs : List Code) (ps : Pairs)
    → AreMemberEntriesOf ks cs ps
    → AreKeys ks → AreShort (key_codes ks) → AreShort cs → length cs < 2 ^ 29
    → Doc (object_bytes ks cs) (object ps)
Doc-object_bytes ks cs ps h keys short_keys short few =
    let n = length-AreMemberEntriesOf ks cs ps h in
    let (are, mean) = both_are ks cs ps h in
    let words = AreCodesOf-keys ps (rw are at keys.texts) in
    let same : length ks ≡ length cs = ap length are ∙ length-pair_keys ps ∙ sym n in
    let body = code_entries (key_codes ks)
    ++ (code_entries cs ++ (code_payloads (key_codes ks) ++ code_payloads cs)) in
    inr (
      refl,
      (
        Ascend-keys ps (rw are at keys.ascend),
        record {
          rest = body;
          parts = object_of-parts ks cs same ∙ ap (λ m. word (1073741824 + m) ++ body) n;
          later = record {
            few = omega arith;
            key_entries = code_entries (key_codes (pair_keys ps));
            value_entries = code_entries cs;
            key_payloads = code_payloads (key_codes (pair_keys ps));
            value_payloads = code_payloads cs;
            parts = rw are;
            keys = rw (keys_are ps) (Children-AreCodesOf _ _ words (rw are at short_keys));
            values = rw (values_are ps) (Children-AreCodesOf cs _ mean short);
          };
        },
      ),
    )

pub Doc-IsObjectOf : (qs : List (List ℕ × ItemView)) (bytes : List ℕ) → IsObjectOf qs bytes
    → AreKeys (keys_of qs) → (ps : Pairs)
    → AreMemberEntriesOf (keys_of qs) (codes_of (values_of qs)) ps
    → Doc bytes (object ps)
Doc-IsObjectOf qs bytes h keys ps are =
    let (codes, storable) = codes_of-AreCodes (values_of qs) h.fit.codes h.fit.are h.fit.short in
    rw h.written (Doc-object_bytes (keys_of qs) h.fit.codes ps (rw codes are) keys h.fit.short_keys
    h.fit.short h.fit.few)

AreMemberEntriesOf-documents : (qs : List (List ℕ × List ℕ)) (ps : Pairs) → ArePairDocuments qs ps
    → AreMemberEntriesOf (keys_of (raw_pairs qs)) (codes_of (values_of (raw_pairs qs))) ps
AreMemberEntriesOf-documents [] ps h = h
AreMemberEntriesOf-documents (q ∷ qs) no_pairs h = absurd h
AreMemberEntriesOf-documents (q ∷ qs) (pair k t ps) h =
    (h.0, (IsCodeOf-document_code q.1 t h.1.0, AreMemberEntriesOf-documents qs ps h.1.1))

record AreWritten (ks : List (List ℕ)) (cs : List Code) (ps : Pairs) : Type 0 where
  key_words : code_entries (key_codes ks) ≡ key_entries ps
  keys : code_payloads (key_codes ks) ≡ key_payloads ps
  value_words : code_entries cs ≡ value_entries ps
  values : code_payloads cs ≡ value_payloads ps
  counted : length cs ≡ pair_count ps
  fit : PairsFit ps

AreWritten-canonical : (qs : List (List ℕ × List ℕ)) (ps : Pairs) → ArePairsCanonical qs ps
    → AreShort (key_codes (keys_of (raw_pairs qs))) → AreShort (codes_of (values_of (raw_pairs qs)))
    → AreWritten (keys_of (raw_pairs qs)) (codes_of (values_of (raw_pairs qs))) ps
AreWritten-canonical [] no_pairs h short_keys short =
    record {
      key_words = refl;
      keys = refl;
      value_words = refl;
      values = refl;
      counted = refl;
      fit = tt;
    }
AreWritten-canonical [] (pair k t ps) h short_keys short = cc
AreWritten-canonical (q ∷ qs) no_pairs h short_keys short = absurd h
AreWritten-canonical (q ∷ qs) (pair k t ps) h short_keys short =
    let more = AreWritten-canonical qs ps h.1.1 short_keys.1 short.1 in
    let code = document_code-canon q.1 t h.1.0.0 h.1.0.1.0 h.1.0.1.1 in
    let type = type_of-shape_of t in
    record {
      key_words = (cc);
      keys = (cc);
      value_words = (cc);
      values = (cc);
      counted = (cc);
      fit = (
        (rw h.0 at short_keys.0, (((Fits-parts t).0 h.1.0.1.0).inside, rw code at short.0)),
        more.fit,
      );
    }

-- What is built from canonical documents is canonical.
canon-pairs : (qs : List (List ℕ × List ℕ)) (bytes : List ℕ) → IsObjectOf (raw_pairs qs) bytes
    → (ps : Pairs) → ArePairsCanonical qs ps → Fits (object ps) × (bytes ≡ canon (object ps))
canon-pairs qs bytes h ps are =
    let (codes, storable) =
    codes_of-AreCodes (values_of (raw_pairs qs)) h.fit.codes h.fit.are h.fit.short in
    let w = AreWritten-canonical qs ps are h.fit.short_keys (rw codes at h.fit.short) in
    let counted = w.counted ∙ sym (count-pairs_shapes ps) in
    let few = rw (codes, counted) at h.fit.few in
    let pairs = raw_pairs qs in
    let parts = object_of-parts (keys_of pairs) (codes_of (values_of pairs))
    (length-keys_of pairs
    ∙ sym (length-codes_of (values_of pairs) ∙ length-values_of pairs)) in
    let written = h.written in ((few, w.fit), cc parts)

-- what is built from inputs
pub IsObjectOfInputs-IsObjectOf : (inputs : List (List ℕ × List ℕ))
    (pairs : List (List ℕ × ItemView)) (bytes : List ℕ) → pairs ≡ raw_pairs (in_order inputs)
    → IsDistinct bytes_eq (keys_of inputs)
    → IsObjectOf pairs bytes → AreKeys (keys_of pairs) → IsObjectOfInputs inputs bytes
IsObjectOfInputs-IsObjectOf inputs pairs bytes same distinct h keys =
    let object = rw same at h in
    record {
      distinct = distinct;
      object = object;
      document = λ ps are. Doc-IsObjectOf _ bytes object (rw same at keys) ps
          (AreMemberEntriesOf-documents (in_order inputs) ps are);
      canonical = canon-pairs (in_order inputs) bytes object;
    }

-- two facts about a result
pub both_ok : {A E : Type 0} (r : Result A E) (P : A → Type 0) (Q : Type 0) → IfOk r P → OnOk r Q
    → IfOk r (λ x. P x × Q)
both_ok (Ok x) P Q p q = (p, q)
both_ok (Err e) P Q p q = tt
