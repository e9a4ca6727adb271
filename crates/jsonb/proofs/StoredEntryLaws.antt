-- The entries in the document of an array or object: they exist, the bytes determine them, and they
-- are what is read.
use Rattle.std.proofs.Common.{◌≡◌, ℕ, suc, ◌+◌, ◌*◌, ◌<◌, ◌^◌, Bool, List, [], ◌∷◌, ◌++◌, length}
use Rattle.std.proofs.Common.{map, Some, option_map, Result, Ok, refl, sym, ap, ap₂, subst}
use Rattle.std.proofs.Common.{◌∙◌, arith, length-append}
use Rattle.std.specs.Map.{keys_of, values_of}
use Rattle.std.proofs.lemmas.Map.Entries.{length-keys_of, length-values_of}
use Rattle.jsonb_value.specs.declared.error.Error.{Error}
use Rattle.jsonb_value.specs.Tree.{Tree, text, array, object, Trees, no_trees, tree, Pairs}
use Rattle.jsonb_value.specs.Tree.{no_pairs, pair, count, pair_count}
use Rattle.jsonb_codec.specs.WordBytes.{word, header_at}
use Rattle.jsonb_codec.specs.JEntry.{jentry_at}
use Rattle.jsonb_codec.specs.Doc.{Keys, Values, Children, Payload, type_of}
use Rattle.jsonb_codec.specs.Parts.{IsPayloadOf}
use Rattle.jsonb.specs.Steps.{◌>>=◌}
use Rattle.jsonb.specs.ItemView.{ItemView}
use Rattle.jsonb.specs.Entry.{Code, entry_at}
use Rattle.jsonb.specs.Building.{AreShort, AreTexts, key_codes}
use Rattle.jsonb.proofs.LeafLaws.{code_entries, code_payloads, array_of-parts, object_of-parts}
use Rattle.jsonb.specs.Building.{array_bytes, object_bytes}
use Rattle.jsonb.specs.StoredEntries.{AreCodesOf, AreMemberEntriesOf, IsArrayOfEntries}
use Rattle.jsonb.specs.StoredEntries.{IsObjectOfEntries, entry_item}
use Rattle.jsonb.specs.StoredEntries.{member_item, find_entry, IsFoundIn}
use Rattle.jsonb.specs.Lookup.{count_or_zero}
use Rattle.jsonb.specs.Entries.{entries_of, item_run, key_run, payloads_end, run_from, value_run}
use Rattle.jsonb.specs.Walk.{items_read, pair_items}
use Rattle.jsonb.specs.DocumentWalk.{IsItemOf, ShowsTrees, key_views, ShowsPairs}
use Rattle.jsonb.proofs.Utf8.{is_text_yes}
use Rattle.jsonb.proofs.Places.{At, At-whole, At-all, At-left, At-right, At-after_word, IsTag}
use Rattle.jsonb.proofs.Places.{jentry_at-At, header_at-At, header_of-array, header_of-object}
use Rattle.jsonb.proofs.KindLaws.{IsTag-type_of}
use Rattle.jsonb.proofs.ItemLaws.{item_of-text, IsItemOf-Payload, entry_at-entry}
use Rattle.jsonb.proofs.EntryLaws.{entries_of-next}
use Rattle.jsonb.proofs.StorageLaws.{length-code_entries}

-- the keys of pairs, and their values
abbrev pub pair_keys : Pairs → List (List ℕ)
pair_keys no_pairs = []
pair_keys (pair k t ps) = k ∷ pair_keys ps

abbrev pub value_trees : Pairs → Trees
value_trees no_pairs = no_trees
value_trees (pair k t ps) = tree t (value_trees ps)

count-value_trees : (ps : Pairs) → count (value_trees ps) ≡ pair_count ps
count-value_trees no_pairs = refl
count-value_trees (pair k t ps) = ap suc (count-value_trees ps)

pub length-pair_keys : (ps : Pairs) → length (pair_keys ps) ≡ pair_count ps
length-pair_keys no_pairs = refl
length-pair_keys (pair k t ps) = ap suc (length-pair_keys ps)

pub both_are : (ks : List (List ℕ)) (cs : List Code) (ps : Pairs) → AreMemberEntriesOf ks cs ps
    → (ks ≡ pair_keys ps) × AreCodesOf cs (value_trees ps)
both_are [] [] ps h = (cc h, cc h)
both_are (k ∷ ks) (c ∷ cs) (pair l t ps) h =
    let more = both_are ks cs ps h.1.1 in
    (cc (h.0, more.0), (h.1.0, more.1))
both_are ks cs ps h = absurd h

pub length-AreCodesOf : (cs : List Code) (ts : Trees) → AreCodesOf cs ts → length cs ≡ count ts
length-AreCodesOf [] ts h = cc h
length-AreCodesOf (c ∷ cs) no_trees h = absurd h
length-AreCodesOf (c ∷ cs) (tree t ts) h = ap suc (length-AreCodesOf cs ts h.1)

pub length-AreMemberEntriesOf : (ks : List (List ℕ)) (cs : List Code) (ps : Pairs)
    → AreMemberEntriesOf ks cs ps
    → length cs ≡ pair_count ps
length-AreMemberEntriesOf ks cs ps h =
    length-AreCodesOf cs (value_trees ps) (both_are ks cs ps h).1 ∙ count-value_trees ps

-- an entry that is determined by its word
pub record IsEntry (c : Code) : Type 0 where
  pub tag : IsTag c.type
  pub short : length c.payload < 2 ^ 28

abbrev pub AreEntries : List Code → Type 0
AreEntries [] = Unit {0}
AreEntries (c ∷ cs) = IsEntry c × AreEntries cs

pub AreEntries-trees : (cs : List Code) (ts : Trees) → AreCodesOf cs ts → AreShort cs
    → AreEntries cs
AreEntries-trees [] ts h short = tt
AreEntries-trees (c ∷ cs) no_trees h short = absurd h
AreEntries-trees (c ∷ cs) (tree t ts) h short = (
  record { tag = rw h.0.0 at (IsTag-type_of t); short = short.0 },
  AreEntries-trees cs ts h.1 short.1,
)

pub AreEntries-pairs : (ks : List (List ℕ)) (cs : List Code) (ps : Pairs)
    → AreMemberEntriesOf ks cs ps
    → AreShort cs → AreEntries cs
AreEntries-pairs ks cs ps h = AreEntries-trees cs (value_trees ps) (both_are ks cs ps h).1

pub AreEntries-keys : (ks : List (List ℕ)) → AreShort (key_codes ks) → AreEntries (key_codes ks)
AreEntries-keys [] short = tt
AreEntries-keys (k ∷ ks) short =
    (record { tag = IsTag-type_of (text k); short = short.0 }, AreEntries-keys ks short.1)

-- the first of the entries at an offset, and the position of the others
pub record FirstEntry (bytes : List ℕ) (i j : ℕ) (c : Code) (cs : List Code) : Type 0 where
  pub jentry : jentry_at bytes i ≡ Ok record { type_code = c.type; length = length c.payload }
  pub entry : entry_at bytes i j ≡ Ok c
  pub other_entries : At bytes (i + 4) (code_entries cs)
  pub other_payloads : At bytes (j + length c.payload) (code_payloads cs)

pub first_entry : (bytes : List ℕ) (i j : ℕ) (c : Code) (cs : List Code) → IsEntry c
    → At bytes i (code_entries (c ∷ cs)) → At bytes j (code_payloads (c ∷ cs))
    → FirstEntry bytes i j c cs
first_entry bytes i j c cs is a b =
    let here = At-left bytes i _ (code_entries cs) a in
    record {
      jentry = jentry_at-At bytes i c.type (length c.payload) is.tag is.short here;
      entry = entry_at-entry bytes i j c is.tag is.short here
          (At-left bytes j c.payload (code_payloads cs) b);
      other_entries = At-after_word bytes i (i + 4) _ (code_entries cs) refl a;
      other_payloads = At-right bytes j (j + length c.payload) c.payload (code_payloads cs) refl b;
    }

-- what is read at the position of entries
entries_of-entries : (bytes : List ℕ) (i j : ℕ) (cs : List Code) → AreEntries cs
    → At bytes i (code_entries cs) → At bytes j (code_payloads cs)
    → entries_of (run_from bytes (length cs) i j) ≡ map Ok cs
entries_of-entries bytes i j [] is a b = refl
entries_of-entries bytes i j (c ∷ cs) is a b =
    let f = first_entry bytes i j c cs is.0 a b in
    entries_of-next bytes i j (length cs) _ c f.jentry f.entry
    ∙ ap (λ rs. Ok c ∷ rs)
    (entries_of-entries bytes (i + 4) _ cs is.1 f.other_entries f.other_payloads)

payloads_end-entries : (bytes : List ℕ) (i j : ℕ) (cs : List Code) → AreEntries cs
    → At bytes i (code_entries cs) → At bytes j (code_payloads cs)
    → payloads_end bytes (length cs) i j ≡ Ok (j + length (code_payloads cs))
payloads_end-entries bytes i j [] is a b = ap Ok (omega arith)
payloads_end-entries bytes i j (c ∷ cs) is a b =
    let f = first_entry bytes i j c cs is.0 a b in
    let long = length-append c.payload (code_payloads cs) in
    rw f.jentry
    (payloads_end-entries bytes (i + 4) _ cs is.1 f.other_entries f.other_payloads
    ∙ ap Ok (omega arith))

-- the item of an entry that means a tree
pub entry_item-tree : (c : Code) (t : Tree) → IsPayloadOf c.type c.payload t
    → length c.payload < 2 ^ 28 → (x : ItemView) × ((entry_item c ≡ Ok x) × IsItemOf t x)
entry_item-tree c t h short =
    let (x, (item, is)) = IsItemOf-Payload t c.payload short h.1 in
    (x, (rw h.0 at item, is))

-- the items of entries that mean trees
pub shown_items : (cs : List Code) (ts : Trees) → AreCodesOf cs ts → AreShort cs
    → (items_read (map Ok cs) ≡ map entry_item cs) × ShowsTrees ts (map entry_item cs)
shown_items [] ts h short = (refl, rw h)
shown_items (c ∷ cs) no_trees h short = absurd h
shown_items (c ∷ cs) (tree t ts) h short =
    let (x, (item, is)) = entry_item-tree c t h.0 short.0 in
    let more = shown_items cs ts h.1 short.1 in
    rw item (cc more.0, (is, more.1))

-- the items of keys
pub shown_keys : (ps : Pairs) → AreTexts (pair_keys ps)
    → items_read (map Ok (key_codes (pair_keys ps))) ≡ key_views ps
shown_keys no_pairs texts = refl
shown_keys (pair k t ps) texts =
    rw (item_of-text k texts.0) (cc (shown_keys ps texts.1))

-- the items of members
pub shown_members : (ms : List (List ℕ × Code)) (ps : Pairs)
    → AreMemberEntriesOf (keys_of ms) (values_of ms) ps → AreTexts (keys_of ms)
    → AreShort (values_of ms)
    → (pair_items (map Ok (key_codes (keys_of ms))) (map Ok (values_of ms)) ≡ map member_item ms)
    × ShowsPairs ps (map member_item ms)
shown_members [] ps h texts short = (refl, rw h)
shown_members (m ∷ ms) no_pairs h texts short = absurd h
shown_members (m ∷ ms) (pair k t ps) h texts short =
    let (x, (item, is)) = entry_item-tree m.1 t h.1.0 short.0 in
    let more = shown_members ms ps h.1.1 texts.1 short.1 in
    rw (is_text_yes m.0 texts.0, item) (cc more.0, (h.0, (is, more.1)))

-- the entries of an array's children
record FromChildren (ts : Trees) (e p : List ℕ) : Type 0 where
  entries : List Code
  mean : AreCodesOf entries ts
  short : AreShort entries
  entries_are : e ≡ code_entries entries
  payloads_are : p ≡ code_payloads entries

from_children : (ts : Trees) (e p : List ℕ) → Children ts e p → FromChildren ts e p
from_children no_trees e p h = record {
  entries = [];
  mean = refl;
  short = tt;
  entries_are = h.no_entries;
  payloads_are = h.no_payloads;
}
from_children (tree t ts) e p h =
    let more = from_children ts h.other_entries h.other_payloads h.others in
    record {
      entries = record { type = type_of t; payload = h.payload } ∷ more.entries;
      mean = ((refl, h.means), more.mean);
      short = (h.short, more.short);
      entries_are = (cc);
      payloads_are = (cc);
    }

pub IsArrayOfEntries-Payload : (b : List ℕ) (ts : Trees) → Payload (array ts) b → (cs : List Code)
    × IsArrayOfEntries b ts cs
IsArrayOfEntries-Payload b ts h =
    let body = h.later in
    let f = from_children ts body.entries body.payloads body.items in
    let n = length-AreCodesOf f.entries ts f.mean in (
      f.entries,
      record {
        mean = f.mean;
        short = f.short;
        few = omega (arith, body.few);
        written = cc (array_of-parts f.entries);
      },
    )

-- the members of an object's pairs
record FromPairs (ps : Pairs) (ke kp ve vp : List ℕ) : Type 0 where
  members : List (List ℕ × Code)
  mean : AreMemberEntriesOf (keys_of members) (values_of members) ps
  texts : AreTexts (keys_of members)
  short_keys : AreShort (key_codes (keys_of members))
  short : AreShort (values_of members)
  key_entries_are : ke ≡ code_entries (key_codes (keys_of members))
  key_payloads_are : kp ≡ code_payloads (key_codes (keys_of members))
  entries_are : ve ≡ code_entries (values_of members)
  payloads_are : vp ≡ code_payloads (values_of members)

from_pairs : (ps : Pairs) (ke kp ve vp : List ℕ) → Keys ps ke kp → Values ps ve vp
    → FromPairs ps ke kp ve vp
from_pairs no_pairs ke kp ve vp h v = record {
  members = [];
  mean = refl;
  texts = tt;
  short_keys = tt;
  short = tt;
  key_entries_are = h.no_entries;
  key_payloads_are = h.no_payloads;
  entries_are = v.no_entries;
  payloads_are = v.no_payloads;
}
from_pairs (pair k t ps) ke kp ve vp h v =
    let more = from_pairs ps _ _ _ _ h.others v.others in
    record {
      members = (h.payload, record { type = type_of t; payload = v.payload }) ∷ more.members;
      mean = (h.means.0, ((refl, v.means), more.mean));
      texts = (rw h.means.0 h.means.1, more.texts);
      short_keys = (h.short, more.short_keys);
      short = (v.short, more.short);
      key_entries_are = (cc);
      key_payloads_are = (cc);
      entries_are = (cc);
      payloads_are = (cc);
    }

-- the members of an object, whose keys are UTF-8
object_members : (b : List ℕ) (ps : Pairs) → Payload (object ps) b
    → (ms : List (List ℕ × Code)) × (IsObjectOfEntries b ps ms × AreTexts (keys_of ms))
object_members b ps h =
    let body = h.1.later in
    let f = from_pairs ps _ _ _ _ body.keys body.values in
    let values = length-AreMemberEntriesOf (keys_of f.members) (values_of f.members) ps f.mean in
    let members = length-values_of f.members in
    let laid = object_of-parts (keys_of f.members) (values_of f.members)
    (length-keys_of f.members ∙ sym members) in (
      f.members,
      (
        record {
          mean = f.mean;
          short_keys = f.short_keys;
          short = f.short;
          few = omega (arith, body.few);
          written = cc laid;
        },
        f.texts,
      ),
    )

pub IsObjectOfEntries-Payload : (b : List ℕ) (ps : Pairs) → Payload (object ps) b
    → (ms : List (List ℕ × Code)) × IsObjectOfEntries b ps ms
IsObjectOfEntries-Payload b ps h = let (ms, (stored, texts)) = object_members b ps h in (ms, stored)

-- the positions of an array's entries
pub record ItemsAt (b : List ℕ) (cs : List Code) : Type 0 where
  pub header : header_at b 0 ≡ Ok (2147483648, length cs)
  pub entries_at : At b 4 (code_entries cs)
  pub payloads_at : At b (4 + 4 * length cs) (code_payloads cs)

pub items_at : (b : List ℕ) (cs : List Code) → length cs < 2 ^ 29 → b ≡ array_bytes cs
    → ItemsAt b cs
items_at b cs few laid =
    let written = laid ∙ array_of-parts cs in
    let whole = At-after_word b 0 4 (2147483648 + length cs)
    (code_entries cs ++ code_payloads cs) refl (At-all b _ written) in
    let n = length-code_entries cs in
    record {
      header = header_at-At b (2147483648 + length cs) (omega arith)
          (At-whole b _ (code_entries cs ++ code_payloads cs) written)
          ∙ header_of-array (length cs) few;
      entries_at = At-left b 4 (code_entries cs) (code_payloads cs) whole;
      payloads_at =
          At-right b 4 (4 + 4 * length cs) (code_entries cs) (code_payloads cs) (omega arith) whole;
    }

-- the positions of an object's members
pub record MembersAt (b : List ℕ) (ms : List (List ℕ × Code)) : Type 0 where
  pub header : header_at b 0 ≡ Ok (1073741824, length ms)
  pub key_entries_at : At b 4 (code_entries (key_codes (keys_of ms)))
  pub entries_at : At b (4 + 4 * length ms) (code_entries (values_of ms))
  pub key_payloads_at : At b (4 + 8 * length ms) (code_payloads (key_codes (keys_of ms)))
  pub payloads_at : At b (4 + 8 * length ms + length (code_payloads (key_codes (keys_of ms))))
      (code_payloads (values_of ms))

pub length-key_codes : (ks : List (List ℕ)) → length (key_codes ks) ≡ length ks
length-key_codes [] = refl
length-key_codes (k ∷ ks) = ap suc (length-key_codes ks)

pub members_at : (b : List ℕ) (ms : List (List ℕ × Code)) → length ms < 2 ^ 29
    → b ≡ object_bytes (keys_of ms) (values_of ms) → MembersAt b ms
members_at b ms few written =
    let ke = code_entries (key_codes (keys_of ms)) in
    let ve = code_entries (values_of ms) in
    let kp = code_payloads (key_codes (keys_of ms)) in
    let vp = code_payloads (values_of ms) in
    let count = length-values_of ms in
    let laid =
    object_of-parts (keys_of ms) (values_of ms) (length-keys_of ms ∙ sym (length-values_of ms)) in
    let same : b ≡ word (1073741824 + length ms) ++ (ke ++ (ve ++ (kp ++ vp))) =
    written ∙ laid ∙ ap (λ k. word (1073741824 + k) ++ (ke ++ (ve ++ (kp ++ vp)))) count in
    let whole = At-after_word b 0 4 (1073741824 + length ms) (ke ++ (ve ++ (kp ++ vp))) refl
    (At-all b _ same) in
    let m : length ke ≡ 4 * length ms = cc (
      length-code_entries (key_codes (keys_of ms)),
      length-key_codes (keys_of ms),
      length-keys_of ms,
    ) in
    let n : length ve ≡ 4 * length ms =
    length-code_entries (values_of ms) ∙ ap (λ k. 4 * k) count in
    let second = At-right b 4 (4 + 4 * length ms) ke (ve ++ (kp ++ vp)) (omega arith) whole in
    let third =
    At-right b (4 + 4 * length ms) (4 + 8 * length ms) ve (kp ++ vp) (omega arith) second in
    record {
      header = header_at-At b (1073741824 + length ms) (omega arith)
          (At-whole b _ (ke ++ (ve ++ (kp ++ vp))) same) ∙ header_of-object (length ms) few;
      key_entries_at = At-left b 4 ke (ve ++ (kp ++ vp)) whole;
      entries_at = At-left b (4 + 4 * length ms) ve (kp ++ vp) second;
      key_payloads_at = At-left b (4 + 8 * length ms) kp vp third;
      payloads_at = At-right b (4 + 8 * length ms) (4 + 8 * length ms + length kp) kp vp refl third;
    }

-- what is read at the positions of an object's members
record MembersRead (b : List ℕ) (ms : List (List ℕ × Code)) : Type 0 where
  keys : entries_of (key_run b (length ms)) ≡ map Ok (key_codes (keys_of ms))
  end : ℕ
  ends : payloads_end b (length ms) 4 (4 + 8 * length ms) ≡ Ok end
  values : entries_of (run_from b (length ms) (4 + 4 * length ms) end) ≡ map Ok (values_of ms)

members_read : (b : List ℕ) (ps : Pairs) (ms : List (List ℕ × Code)) → IsObjectOfEntries b ps ms
    → MembersRead b ms
members_read b ps ms h =
    let at = members_at b ms h.few h.written in
    let ks = key_codes (keys_of ms) in
    let n = length ms in
    let start = 4 + 8 * n + length (code_payloads ks) in
    let key_count = length-key_codes (keys_of ms) ∙ length-keys_of ms in
    let keys = AreEntries-keys (keys_of ms) h.short_keys in
    let values = AreEntries-pairs (keys_of ms) (values_of ms) ps h.mean h.short in
    record {
      keys = rw key_count at (entries_of-entries b 4 _ ks keys at.key_entries_at
          at.key_payloads_at);
      end = start;
      ends = rw key_count at (payloads_end-entries b 4 _ ks keys at.key_entries_at
          at.key_payloads_at);
      values = rw (length-values_of ms) at (entries_of-entries b _ _ (values_of ms) values
          at.entries_at at.payloads_at);
    }

-- the values that are read
abbrev values_read : List ℕ → ℕ → Result (List (Result Code Error)) Error
values_read b n = value_run b n >>= λ run. Ok (entries_of run)

values_are : (b : List ℕ) (ms : List (List ℕ × Code)) → MembersRead b ms
    → values_read b (length ms) ≡ Ok (map Ok (values_of ms))
values_are b ms read = rw read.ends (ap Ok read.values)

-- what is read from an array, and from an object
pub record ArrayHolds (b : List ℕ) (ts : Trees) : Type 0 where
  pub entries : List Code
  pub stored : IsArrayOfEntries b ts entries
  pub read : entries_of (item_run b (count ts)) ≡ map Ok entries

pub array_holds : (b : List ℕ) (ts : Trees) → Payload (array ts) b → ArrayHolds b ts
array_holds b ts h =
    let (cs, stored) = IsArrayOfEntries-Payload b ts h in
    let at = items_at b cs stored.few stored.written in
    record {
      entries = cs;
      stored = stored;
      read = rw (length-AreCodesOf cs ts stored.mean) at (entries_of-entries b 4 _ cs
          (AreEntries-trees cs ts stored.mean stored.short)
          at.entries_at at.payloads_at);
    }

pub record ObjectHolds (b : List ℕ) (ps : Pairs) : Type 0 where
  pub members : List (List ℕ × Code)
  pub stored : IsObjectOfEntries b ps members
  pub texts : AreTexts (keys_of members)
  pub counted : length members ≡ pair_count ps
  pub keys : entries_of (key_run b (pair_count ps)) ≡ map Ok (key_codes (keys_of members))
  pub end : ℕ
  pub ends : payloads_end b (pair_count ps) 4 (4 + 8 * pair_count ps) ≡ Ok end
  pub values : entries_of (run_from b (pair_count ps) (4 + 4 * pair_count ps) end)
      ≡ map Ok (values_of members)

pub object_holds : (b : List ℕ) (ps : Pairs) → Payload (object ps) b → ObjectHolds b ps
object_holds b ps h =
    let (ms, (stored, texts)) = object_members b ps h in
    let read = members_read b ps ms stored in
    let counted =
    sym (length-values_of ms)
    ∙ length-AreMemberEntriesOf (keys_of ms) (values_of ms) ps stored.mean in
    record {
      members = ms;
      stored = stored;
      texts = texts;
      counted = counted;
      keys = rw counted at read.keys;
      end = read.end;
      ends = rw counted at read.ends;
      values = rw counted at read.values;
    }

-- The bytes determine the members of an object.
read_one : (xs : List (Result Code Error)) (cs ds : List Code) → xs ≡ map Ok cs → xs ≡ map Ok ds
    → cs ≡ ds
read_one xs [] [] h k = refl
read_one xs (c ∷ cs) (d ∷ ds) h k =
    let here : c ≡ d = cc in
    ap₂ (λ x xs. x ∷ xs) here (read_one (map Ok cs) cs ds refl (cc))
read_one xs cs ds h k = cc

payloads-key_codes : (ks : List (List ℕ)) → map (λ c. c.payload) (key_codes ks) ≡ ks
payloads-key_codes [] = refl
payloads-key_codes (k ∷ ks) = cc (payloads-key_codes ks)

same_members : (ms ns : List (List ℕ × Code)) → keys_of ms ≡ keys_of ns
    → values_of ms ≡ values_of ns → ms ≡ ns
same_members [] [] h k = refl
same_members (m ∷ ms) (n ∷ ns) h k =
    let key : m.0 ≡ n.0 = cc in
    let value : m.1 ≡ n.1 = cc in
    let keys : keys_of ms ≡ keys_of ns = cc in
    let values : values_of ms ≡ values_of ns = cc in
    ap₂ (λ x xs. x ∷ xs) (ap₂ (λ x c. (x, c)) key value) (same_members ms ns keys values)
same_members ms ns h k = cc

pub IsObjectOfEntries-one : (b : List ℕ) (ps qs : Pairs) (ms ns : List (List ℕ × Code))
    → IsObjectOfEntries b ps ms → IsObjectOfEntries b qs ns → ms ≡ ns
IsObjectOfEntries-one b ps qs ms ns h k =
    let left = members_read b ps ms h in
    let right = members_read b qs ns k in
    let n : length ms ≡ length ns = ap count_or_zero
    (sym (members_at b ms h.few h.written).header ∙ (members_at b ns k.few k.written).header) in
    let codes : key_codes (keys_of ms) ≡ key_codes (keys_of ns) =
    read_one _ _ _ left.keys (cc (n, right.keys)) in
    let left_values = values_are b ms left in
    let right_values = ap (values_read b) n ∙ values_are b ns right in
    let entries : List Code → List (Result Code Error) = map Ok in
    let values : entries (values_of ms) ≡ entries (values_of ns) = cc in
    same_members ms ns
    (cc (payloads-key_codes (keys_of ms), codes, payloads-key_codes (keys_of ns)))
    (read_one _ _ _ refl values)

-- What is found in a document is a single item.
pub IsFoundIn-one : (accepts : List ℕ → Bool) (size : ℕ) (b : List ℕ) (t u : Tree) (x y : ItemView)
    → IsFoundIn accepts size b t (Some x) → IsFoundIn accepts size b u (Some y) → x ≡ y
IsFoundIn-one accepts size b (object ps) (object qs) x y (ms, (h, found)) (ns, (k, also)) =
    let same = IsObjectOfEntries-one b ps qs ms ns h k in
    let also = subst (λ ms. option_map entry_item (find_entry accepts size ms) ≡ Some (Ok y))
    (sym same) also in
    cc
IsFoundIn-one accepts size b (object ps) u x y h k = cc
IsFoundIn-one accepts size b t u x y h k = cc
