-- Arrays and objects that are built of checked documents.
use Rattle.std.proofs.Common.{◌≡◌, ◌<◌, ◌^◌, ℕ, List, [], ◌∷◌, map, length, Bor, refl, sym, subst}
use Rattle.std.proofs.Common.{ap, arith}
use Rattle.std.proofs.lemmas.List.{length-map}
use Rattle.std.specs.Prelude.{⊤}
use Rattle.std.specs.Cmp.Lexicographic.{slice_cmp}
use Rattle.std.specs.List.{AllByRecursion}
use Rattle.std.specs.Map.{keys_of, values_of}
use Rattle.std.specs.Ordering.{nat_cmp, match_ordering}
use Rattle.std.specs.declared.cmp.Ordering.{Ordering}
use Rattle.std.specs.declared.cmp.Ordering.TheVariants.{Less, Equal, Greater}
use Rattle.jsonb_codec.specs.Doc.{Doc, IsDocument}
use Rattle.jsonb.specs.declared.document.Document.{Document}
use Rattle.jsonb.specs.Document.{document_bytes, document_tree, tree_in}
use Rattle.jsonb.specs.ItemView.{ItemView, raw}
use Rattle.jsonb.specs.Storage.{document_code, pair_of, codes_of, AreStorable}
use Rattle.jsonb.specs.Children.{HasSameEntry}
use Rattle.jsonb.specs.Building.{FitArray, FitObject, AreShort, key_codes, with_pair, with_pairs}
use Rattle.jsonb.specs.Building.{in_order}
use Rattle.jsonb.specs.Results.{AreDocuments, ArePairDocuments, trees_in, trees_at_keys}
use Rattle.jsonb.specs.Results.{IsShortInput, AreWithinLimits, PairsAreWithinLimits, raw_pairs}
use Rattle.jsonb.specs.Results.{document_pair, IsArrayOfInputs, IsArrayOfDocuments}
use Rattle.jsonb.specs.Results.{IsObjectOfInputs, IsObjectOfDocuments}
use Rattle.jsonb.proofs.DocumentLaws.{tree_in-is, tree_of_bytes}
use Rattle.jsonb.proofs.StorageLaws.{AreCodes-codes_of, codes_of-AreCodes, length-codes_of}
use Rattle.jsonb.proofs.StorageLaws.{AreStorable-FitArray}

-- A checked document, as an item.
abbrev pub document_view : Document → ItemView
document_view d = raw (document_bytes d)

-- a document has an entry, which is its code
abbrev pub has_entry : Document → Type 0
has_entry d = ⊤

abbrev pub entry_of_document : Document → ℕ × List ℕ
entry_of_document d = pair_of (document_code (document_bytes d))

pub is_document : (d : Document) → IsDocument (document_bytes d)
is_document d = (document_tree d, tree_of_bytes (document_bytes d) d refl)

pub document_shown : (d : Document) → HasSameEntry has_entry entry_of_document d (document_view d)
document_shown d = ((λ has. is_document d, λ is. tt), λ has. refl)

pub all_documents : (ds : List Document) → AllByRecursion IsDocument (map document_bytes ds)
all_documents [] = tt
all_documents (d ∷ ds) = (is_document d, all_documents ds)

means_its_tree : (b : List ℕ) → IsDocument b → Doc b (tree_in b)
means_its_tree b (t, doc) = subst (λ u. Doc b u) (sym (tree_in-is b t doc)) doc

-- Documents are documents of their trees.
are_documents : (bs : List (List ℕ)) → AllByRecursion IsDocument bs → AreDocuments bs (trees_in bs)
are_documents [] known = refl
are_documents (b ∷ bs) known = (means_its_tree b known.0, are_documents bs known.1)

all_storable : (bs : List (List ℕ)) → AllByRecursion IsDocument bs → AllByRecursion IsShortInput bs
    → AreStorable (map raw bs)
all_storable [] known short = tt
all_storable (b ∷ bs) known short =
    ((known.0, short.0), all_storable bs known.1 short.1)

all_short : (bs : List (List ℕ)) → AreStorable (map raw bs) → AllByRecursion IsShortInput bs
all_short [] storable = tt
all_short (b ∷ bs) storable = (storable.0.1, all_short bs storable.1)

-- An array can be built of documents exactly if they are within the limits.
pub array_within : (bs : List (List ℕ)) → FitArray (map raw bs) → AreWithinLimits bs
array_within bs fit =
    let (storable, few) = AreStorable-FitArray (map raw bs) fit in
    (all_short bs storable, rw (length-map bs raw) at few)

pub within_array : (bs : List (List ℕ)) → AllByRecursion IsDocument bs → AreWithinLimits bs
    → FitArray (map raw bs)
within_array bs known within =
    let codes = AreCodes-codes_of (map raw bs) (all_storable bs known within.0) in
    record {
      codes = codes_of (map raw bs);
      are = codes.0;
      short = codes.1;
      few = rw (length-codes_of (map raw bs), length-map bs raw) within.1;
    }

pub IsArrayOfDocuments-inputs : (bs : List (List ℕ)) (bytes : List ℕ)
    → AllByRecursion IsDocument bs → IsArrayOfInputs bs bytes → IsArrayOfDocuments bs bytes
IsArrayOfDocuments-inputs bs bytes known inputs = record {
  within = array_within bs inputs.array.fit;
  means = inputs.document (trees_in bs) (are_documents bs known);
  inputs = inputs;
}

-- the values at keys
abbrev AllValues : (List ℕ → Type 0) → List (List ℕ × List ℕ) → Type 0
AllValues P xs = AllByRecursion (λ x. P x.1) xs

pub all_pair_documents : (xs : List (Bor (List ℕ) × Document))
    → AllValues IsDocument (map document_pair xs)
all_pair_documents [] = tt
all_pair_documents (x ∷ xs) = (is_document x.1, all_pair_documents xs)

values_step : (P : List ℕ → Type 0) (o : Ordering) (e : List ℕ × List ℕ)
    (es more : List (List ℕ × List ℕ)) (k v : List ℕ) → P v → P e.1 → AllValues P es
    → AllValues P more
    → AllValues P (match_ordering o ((k, v) ∷ e ∷ es) ((e.0, v) ∷ es) (e ∷ more))
values_step P Less e es more k v new here all rest = (new, (here, all))
values_step P Equal e es more k v new here all rest = (new, all)
values_step P Greater e es more k v new here all rest = (here, rest)

values-with_pair : (P : List ℕ → Type 0) (es : List (List ℕ × List ℕ)) (k v : List ℕ) → P v
    → AllValues P es → AllValues P (with_pair es k v)
values-with_pair P [] k v new all = (new, tt)
values-with_pair P (e ∷ es) k v new all =
    values_step P (slice_cmp nat_cmp k e.0) e es (with_pair es k v) k v new all.0 all.1
    (values-with_pair P es k v new all.1)

values-with_pairs : (P : List ℕ → Type 0) (ps xs : List (List ℕ × List ℕ)) → AllValues P ps
    → AllValues P xs → AllValues P (with_pairs ps xs)
values-with_pairs P ps [] all more = all
values-with_pairs P ps (x ∷ xs) all more =
    values-with_pairs P (with_pair ps x.0 x.1) xs (values-with_pair P ps x.0 x.1 more.0 all) more.1

pub values-in_order : (xs : List (List ℕ × List ℕ)) → AllValues IsDocument xs
    → AllValues IsDocument (in_order xs)
values-in_order xs all = values-with_pairs IsDocument [] xs tt all

are_pair_documents : (xs : List (List ℕ × List ℕ)) → AllValues IsDocument xs
    → ArePairDocuments xs (trees_at_keys xs)
are_pair_documents [] known = refl
are_pair_documents (x ∷ xs) known =
    (refl, (means_its_tree x.1 known.0, are_pair_documents xs known.1))

pairs_storable : (xs : List (List ℕ × List ℕ)) → AllValues IsDocument xs
    → AllByRecursion (λ x. (length x.0 < 2 ^ 28) × IsShortInput x.1) xs
    → AreStorable (values_of (raw_pairs xs)) × AreShort (key_codes (keys_of (raw_pairs xs)))
pairs_storable [] known short = (tt, tt)
pairs_storable (x ∷ xs) known short =
    let more = pairs_storable xs known.1 short.1 in
    (((known.0, short.0.1), more.0), (short.0.0, more.1))

pairs_short : (xs : List (List ℕ × List ℕ)) → AreStorable (values_of (raw_pairs xs))
    → AreShort (key_codes (keys_of (raw_pairs xs)))
    → AllByRecursion (λ x. (length x.0 < 2 ^ 28) × IsShortInput x.1) xs
pairs_short [] storable keys = tt
pairs_short (x ∷ xs) storable keys =
    ((keys.0, storable.0.1), pairs_short xs storable.1 keys.1)

length-values : (xs : List (List ℕ × List ℕ)) → length (values_of (raw_pairs xs)) ≡ length xs
length-values [] = refl
length-values (x ∷ xs) = omega (arith, length-values xs)

-- An object can be built of documents exactly if they and their keys are within the limits.
pub object_within : (xs : List (List ℕ × List ℕ)) → FitObject (raw_pairs xs)
    → PairsAreWithinLimits xs
object_within xs fit =
    let (same, storable) = codes_of-AreCodes (values_of (raw_pairs xs)) fit.codes fit.are fit.short
    in (
      pairs_short xs storable fit.short_keys,
      omega (
        arith,
        ap length same,
        length-codes_of (values_of (raw_pairs xs)),
        length-values xs,
        fit.few,
      ),
    )

pub within_object : (xs : List (List ℕ × List ℕ)) → AllValues IsDocument xs
    → PairsAreWithinLimits xs → FitObject (raw_pairs xs)
within_object xs known within =
    let (storable, keys) = pairs_storable xs known within.0 in
    let codes = AreCodes-codes_of (values_of (raw_pairs xs)) storable in
    record {
      codes = codes_of (values_of (raw_pairs xs));
      are = codes.0;
      short = codes.1;
      short_keys = keys;
      few = rw (length-codes_of (values_of (raw_pairs xs)), length-values xs) within.1;
    }

pub IsObjectOfDocuments-inputs : (xs : List (List ℕ × List ℕ)) (bytes : List ℕ)
    → AllValues IsDocument xs → IsObjectOfInputs xs bytes → IsObjectOfDocuments xs bytes
IsObjectOfDocuments-inputs xs bytes known inputs = record {
  within = object_within (in_order xs) inputs.object.fit;
  means = inputs.document (trees_at_keys (in_order xs))
      (are_pair_documents (in_order xs) (values-in_order xs known));
  inputs = inputs;
}
