-- The documents of parts.
use Rattle.std.proofs.Common.{◌≡◌, ◌≢◌, ℕ, zero, suc, ◌<◌, ◌^◌, Bool, true, false, not, ◌&&◌}
use Rattle.std.proofs.Common.{if◌then◌else◌, List, [], ◌∷◌, ◌++◌, length, map, slice_get}
use Rattle.std.proofs.Common.{Some, option_map, Ok, Err, refl, sym, ap, subst, ◌∙◌}
use Rattle.std.proofs.Common.{inl, inr, arith, ◌==◌}
use Rattle.std.specs.Map.{keys_of, values_of}
use Rattle.std.specs.Str.{IsUtf8}
use Rattle.std.proofs.lemmas.Bool.{leb-false, lt-leb}
use Rattle.jsonb_value.specs.declared.error.Error.TheVariants.{InvalidJsonb, InvalidJsonbJEntry}
use Rattle.jsonb_value.specs.Tree.{Tree, boolean, text, array, object}
use Rattle.jsonb_value.specs.Tree.{Trees, no_trees, tree, Pairs, no_pairs, pair}
use Rattle.jsonb_codec.specs.declared.constants.TheConstants.{CONTAINER_TAG}
use Rattle.jsonb_codec.specs.Doc.{Doc, Payload, type_of}
use Rattle.jsonb_codec.specs.Parts.{IsPayloadOf}
use Rattle.jsonb.specs.Building.{AreShort, AreTexts, key_codes}
use Rattle.jsonb.specs.Code.{scalar_bytes}
use Rattle.jsonb.specs.Entry.{entry_there, Code}
use Rattle.jsonb.specs.Node.{tree_list, pair_list}
use Rattle.jsonb.specs.StoredEntries.{AreCodesOf, AreMemberEntriesOf}
use Rattle.jsonb.proofs.KindLaws.{container_cases, header_at-Scalar}
use Rattle.jsonb.proofs.StoredEntryLaws.{both_are, object_holds}
use Rattle.jsonb.specs.declared.entries.Entry.{Entry}
use Rattle.kohiblad.specs.Parts.{is_entry_type, is_too_long, part_document, part_trees}
use Rattle.kohiblad.specs.Parts.{IsPartDocument}
use Rattle.kohiblad.specs.Places.{entry_document, part_in, IsPartPlace}
use Rattle.kohiblad.proofs.PlaceLaws.{part_in_stored, part_past}

-- the document of an entry that means a tree
is_type : (t : Tree) → is_entry_type (type_of t) ≡ true
is_type (boolean true) = refl
is_type t = refl

scalar_doc : (t : Tree) (p : List ℕ) → type_of t ≢ CONTAINER_TAG → Payload t p → length p < 2 ^ 28
    → Doc (scalar_bytes (type_of t) p) t
scalar_doc t p other means short =
    inl (other, record { payload = p; parts = refl; short = short; means = means })

doc_of : (t : Tree) (p : List ℕ) → Payload t p → is_too_long (type_of t) p ≡ false
    → Doc (entry_document (record { type = type_of t; payload = p })) t
doc_of (array ts) p h fits = inr (refl, h)
doc_of (object ps) p h fits = inr (refl, h)
doc_of (boolean true) p h fits =
    scalar_doc (boolean true) p (λ is. omega arith) h (leb-false (2 ^ 28) (length p) fits)
doc_of t p h fits = scalar_doc t p (λ is. omega arith) h (leb-false (2 ^ 28) (length p) fits)

pub entry_doc : (type : ℕ) (p : List ℕ) (t : Tree) → IsPayloadOf type p t
    → is_too_long type p ≡ false → Doc (entry_document (record { type = type; payload = p })) t
entry_doc type p t h fits =
    subst
    (λ (n : ℕ). is_too_long n p ≡ false
    → Doc (entry_document (record { type = n; payload = p })) t) h.0 (doc_of t p h.1) fits

-- the answer by the two tests
by_tests : (known long : Bool) (answer : List ℕ) → known ≡ true → long ≡ false
    → (if not known then Err InvalidJsonbJEntry else if long then Err InvalidJsonb else Ok answer)
    ≡ Ok answer
by_tests true false answer is fits = refl
by_tests true true answer is fits = absurd cc
by_tests false long answer is fits = absurd cc

pub part_made : (type : ℕ) (p : List ℕ) (t : Tree) → IsPayloadOf type p t
    → is_too_long type p ≡ false
    → part_document type p ≡ Ok (entry_document (record { type = type; payload = p }))
part_made type p t h fits =
    by_tests (is_entry_type type) (is_too_long type p) _
    (subst (λ (n : ℕ). is_entry_type n ≡ true) h.0 (is_type t)) fits

-- entries with the trees that they mean
pub record EntryMeans (c : Code) (t : Tree) : Type 0 where
  pub means : IsPayloadOf c.type c.payload t
  pub short : length c.payload < 2 ^ 28

abbrev pub EntriesMean : List Code → List Tree → Type 0
EntriesMean [] [] = Unit {0}
EntriesMean [] (t ∷ ts) = ⊥
EntriesMean (c ∷ cs) [] = ⊥
EntriesMean (c ∷ cs) (t ∷ ts) = EntryMeans c t × EntriesMean cs ts

-- an entry of some of these trees
pub record IsAmong (ts : List Tree) (nth : ℕ) (c : Code) : Type 0 where
  pub tree : Tree
  pub there : slice_get ts nth ≡ Some tree
  pub entry : EntryMeans c tree

pub entry_among : (cs : List Code) (ts : List Tree) (nth : ℕ) (c : Code) → EntriesMean cs ts
    → slice_get cs nth ≡ Some c → IsAmong ts nth c
entry_among [] ts zero c h there = absurd cc
entry_among [] ts (suc nth) c h there = absurd cc
entry_among (x ∷ cs) [] nth c h there = absurd h
entry_among (x ∷ cs) (t ∷ ts) zero c h there =
    let same : x ≡ c = cc in
    record { tree = t; there = refl; entry = subst (λ (y : Code). EntryMeans y t) same h.0 }
entry_among (x ∷ cs) (t ∷ ts) (suc nth) c h there =
    let more = entry_among cs ts nth c h.1 there in
    record { tree = more.tree; there = more.there; entry = more.entry }

EntriesMean-append : (cs ds : List Code) (ts us : List Tree) → EntriesMean cs ts
    → EntriesMean ds us → EntriesMean (cs ++ ds) (ts ++ us)
EntriesMean-append [] ds [] us h k = k
EntriesMean-append [] ds (t ∷ ts) us h k = absurd h
EntriesMean-append (c ∷ cs) ds [] us h k = absurd h
EntriesMean-append (c ∷ cs) ds (t ∷ ts) us h k =
    (h.0, EntriesMean-append cs ds ts us h.1 k)

pub EntriesMean-items : (cs : List Code) (ts : Trees) → AreCodesOf cs ts → AreShort cs
    → EntriesMean cs (tree_list ts)
EntriesMean-items [] no_trees h short = tt
EntriesMean-items [] (tree t ts) h short = absurd cc
EntriesMean-items (c ∷ cs) no_trees h short = absurd h
EntriesMean-items (c ∷ cs) (tree t ts) h short =
    (record { means = h.0; short = short.0 }, EntriesMean-items cs ts h.1 short.1)

EntriesMean-values : (ks : List (List ℕ)) (cs : List Code) (ps : Pairs)
    → AreMemberEntriesOf ks cs ps
    → AreShort cs → EntriesMean cs (values_of (pair_list ps))
EntriesMean-values [] [] no_pairs h short = tt
EntriesMean-values [] [] (pair k t ps) h short = absurd cc
EntriesMean-values [] (c ∷ cs) ps h short = absurd h
EntriesMean-values (k ∷ ks) [] ps h short = absurd h
EntriesMean-values (k ∷ ks) (c ∷ cs) no_pairs h short = absurd h
EntriesMean-values (k ∷ ks) (c ∷ cs) (pair l t ps) h short =
    (record { means = h.1.0; short = short.0 }, EntriesMean-values ks cs ps h.1.1 short.1)

EntriesMean-keys : (ks : List (List ℕ)) (cs : List Code) (ps : Pairs) → AreMemberEntriesOf ks cs ps
    → AreTexts ks → AreShort (key_codes ks)
    → EntriesMean (key_codes ks) (map text (keys_of (pair_list ps)))
EntriesMean-keys [] [] no_pairs h texts short = tt
EntriesMean-keys [] [] (pair k t ps) h texts short = absurd cc
EntriesMean-keys [] (c ∷ cs) ps h texts short = absurd h
EntriesMean-keys (k ∷ ks) [] ps h texts short = absurd h
EntriesMean-keys (k ∷ ks) (c ∷ cs) no_pairs h texts short = absurd h
EntriesMean-keys (k ∷ ks) (c ∷ cs) (pair l t ps) h texts short = (
  record { means = (refl, (h.0, subst IsUtf8 h.0 texts.0)); short = short.0 },
  EntriesMean-keys ks cs ps h.1.1 texts.1 short.1,
)

-- the entry at the position of a part
module _ (b : List ℕ) (nth : ℕ) (place : Entry)
    (found : part_in b nth ≡ Ok (Some place)) where
  among_items : (ts : Trees) → IsPartPlace b (array ts) nth (part_in b nth)
      → IsAmong (part_trees (array ts)) nth (entry_there b place)
  among_items ts (entries, (stored, (o, (is, there)))) =
      let same : o ≡ Some place = cc in
      entry_among entries (tree_list ts) nth (entry_there b place)
      (EntriesMean-items entries ts stored.mean stored.short)
      (sym there ∙ ap (option_map (entry_there b)) same)

  among_members : (ps : Pairs) → Payload (object ps) b
      → IsPartPlace b (object ps) nth (part_in b nth)
      → IsAmong (part_trees (object ps)) nth (entry_there b place)
  among_members ps h (members, (stored, (o, (is, there)))) =
      let same : o ≡ Some place = cc in
      let holds = object_holds b ps h in
      let keys = (both_are (keys_of members) (values_of members) ps stored.mean).0 in
      let others =
      (both_are (keys_of holds.members) (values_of holds.members) ps holds.stored.mean).0 in
      let texts = subst AreTexts (others ∙ sym keys) holds.texts in
      entry_among _ (part_trees (object ps)) nth (entry_there b place)
      (EntriesMean-append (key_codes (keys_of members)) (values_of members)
      (map text (keys_of (pair_list ps))) (values_of (pair_list ps))
      (EntriesMean-keys (keys_of members) (values_of members) ps stored.mean texts
      stored.short_keys)
      (EntriesMean-values (keys_of members) (values_of members) ps stored.mean stored.short))
      (sym there ∙ ap (option_map (entry_there b)) same)

  among_parts : (t : Tree) → Doc b t → IsAmong (part_trees t) nth (entry_there b place)
  among_parts t (inr (is, h)) =
      container_cases
      (λ (u : Tree). Payload u b → IsAmong (part_trees u) nth (entry_there b place)) t is
      (λ ts h. among_items ts (part_in_stored b (array ts) nth (inr (refl, h))))
      (λ ps h. among_members ps h (part_in_stored b (object ps) nth (inr (refl, h)))) h
  among_parts t (inl (other, h)) =
      let none = part_past b _ (header_at-Scalar b t h) nth (omega arith) in absurd cc

and_false : (b : Bool) → (b && false) ≡ false
and_false true = refl
and_false false = refl

short_enough : (type : ℕ) (p : List ℕ) → length p < 2 ^ 28 → is_too_long type p ≡ false
short_enough type p short =
    let test = lt-leb (2 ^ 28) (length p) short in
    ap (λ (x : Bool). not (type == CONTAINER_TAG) && x) test
    ∙ and_false (not (type == CONTAINER_TAG))

-- what is made of the part at a position
pub place_document : (b : List ℕ) (t : Tree) (nth : ℕ) (place : Entry) (type : ℕ) (p : List ℕ)
    → Doc b t → part_in b nth ≡ Ok (Some place)
    → entry_there b place ≡ record { type = type; payload = p }
    → (part_document type p ≡ Ok (entry_document (entry_there b place)))
    × IsPartDocument t nth (entry_document (entry_there b place))
place_document b t nth place type p document found is =
    let among = among_parts b nth place found t document in
    let means = among.entry.means in
    let entry = entry_there b place in
    let fits = short_enough entry.type entry.payload among.entry.short in
    let made = part_made entry.type entry.payload among.tree means fits in
    let doc = entry_doc entry.type entry.payload among.tree means fits in (
      ap (λ (c : Code). part_document c.type c.payload) (sym is)
          ∙ made,
      (among.tree, (among.there, doc)),
    )

-- what the entry at a position means
pub place_value : (b : List ℕ) (t : Tree) (nth : ℕ) (place : Entry) (type : ℕ) (p : List ℕ)
    → Doc b t → part_in b nth ≡ Ok (Some place)
    → entry_there b place ≡ record { type = type; payload = p }
    → (u : Tree) × ((slice_get (part_trees t) nth ≡ Some u) × IsPayloadOf type p u)
place_value b t nth place type p document found is =
    let among = among_parts b nth place found t document in (
      among.tree,
      (
        among.there,
        subst (λ (c : Code). IsPayloadOf c.type c.payload among.tree) is among.entry.means,
      ),
    )
