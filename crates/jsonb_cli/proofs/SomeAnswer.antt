-- Each line has an answer, and no answer reports lack of memory.
use Rattle.std.proofs.Common.{◌≡◌, ◌⊎◌, ◌<◌, ◌^◌, inl, inr, ℕ, List, [], ◌∷◌, ◌++◌, length, map}
use Rattle.std.proofs.Common.{Bool, true, false, Option, Some, None, Result, Ok, Err, option_map}
use Rattle.std.proofs.Common.{refl, ap, subst, ◌==◌, chars, take, arith}
use Rattle.std.proofs.lemmas.Bool.{cases_lt}
use Rattle.std.proofs.lemmas.Str.{IsUtf8-from_is_utf8, is_utf8-from_IsUtf8}
use Rattle.std.specs.Prelude.{nat_eq, nat_le, codes, drop, ◌+◌, ◌&&◌, ◌||◌, if◌then◌else◌}
use Rattle.std.specs.Int.{w32, from_be_bytes}
use Rattle.std.specs.Cmp.Lexicographic.{pointwise}
use Rattle.std.specs.Map.{keys_of, values_of}
use Rattle.std.specs.Str.{IsUtf8, is_utf8}
use Rattle.hex.specs.Hex.{decode_of, encode_lower}
use Rattle.hex.specs.declared.error.FromHexError.{FromHexError}
use Rattle.jsonb_value.specs.ErrorName.{name_of}
use Rattle.jsonb_value.specs.declared.error.Error.{Error}
use Rattle.jsonb_value.specs.declared.error.Error.TheVariants.{InvalidEOF, InvalidJsonb}
use Rattle.jsonb_value.specs.declared.error.Error.TheVariants.{OutOfMemory}
use Rattle.jsonb_value.specs.declared.parser.number.Exponents.TheVariants.{Forbidden}
use Rattle.jsonb_value.specs.Json.Syntax.{Json}
use Rattle.jsonb_value.specs.Meaning.{meaning_cmp}
use Rattle.jsonb_value.specs.Reader.Reading.{read_document}
use Rattle.jsonb_value.specs.Text.{compact, pretty as pretty_text}
use Rattle.jsonb_value.specs.Tree.{Tree, Pairs, no_pairs, pair}
use Rattle.jsonb_value.specs.Tree as trees
use Rattle.jsonb_value.proofs.Json.Documents.{nothing_read}
use Rattle.jsonb_value.proofs.Json.SpelledLaws.{one_meaning}
use Rattle.jsonb_value.proofs.Json.ValueLaws.{document-found}
use Rattle.jsonb_value.proofs.PayloadDecision.{Decided, decided_by}
use Rattle.jsonb_codec.specs.Canon.{canon as canonical, Fits, shape_of}
use Rattle.jsonb_codec.specs.Doc.{Doc}
use Rattle.jsonb_codec.specs.JEntry.{jentry_at, jentry_in}
use Rattle.jsonb_codec.specs.Parts.{IsPayloadOf}
use Rattle.jsonb_codec.specs.Shape.{Shape, Shapes, leaf, no_shapes, shape, shape_count, payload}
use Rattle.jsonb_codec.specs.Shape.{FitsInside, AllFit, ShapeFits}
use Rattle.jsonb_codec.specs.Shape as shapes
use Rattle.jsonb_codec.specs.WordBytes.{header_at, header_count, header_in, header_type, word_at}
use Rattle.jsonb_codec.specs.declared.constants.TheConstants.{ARRAY_CONTAINER_TAG, EXTENSION_TAG}
use Rattle.jsonb_codec.specs.declared.constants.TheConstants.{OBJECT_CONTAINER_TAG, FALSE_TAG}
use Rattle.jsonb_codec.specs.declared.constants.TheConstants.{SCALAR_CONTAINER_TAG, NULL_TAG}
use Rattle.jsonb_codec.specs.declared.constants.TheConstants.{NUMBER_TAG, STRING_TAG, TRUE_TAG}
use Rattle.jsonb_codec.proofs.Decision.{decide}
use Rattle.jsonb_codec.proofs.Unique.{Doc-unique}
use Rattle.jsonb.specs.Building.{AreShort, FitArray, array_bytes}
use Rattle.jsonb.specs.Code.{item_document}
use Rattle.jsonb.specs.DocumentWalk.{IsItemOf}
use Rattle.jsonb.specs.Entry.{Code}
use Rattle.jsonb.specs.ItemMeaning.{meaning_of}
use Rattle.jsonb.specs.ItemView.{ItemView, owned}
use Rattle.jsonb.specs.Kind.{kind, kind_of_type, kind_under}
use Rattle.jsonb.specs.Lookup.{find, find_pair}
use Rattle.jsonb.specs.Node.{value_of_key}
use Rattle.jsonb.specs.Steps.{◌>>=◌}
use Rattle.jsonb.specs.Storage.{AreStorable, codes_of, entry_of_item}
use Rattle.jsonb.specs.StoredEntries.{AreMemberEntriesOf, IsFoundIn, entry_item, find_entry}
use Rattle.jsonb.specs.declared.item_type.JsonbItemType.{JsonbItemType}
use Rattle.jsonb.specs.declared.item_type.JsonbItemType.TheVariants as kinds
use Rattle.jsonb.proofs.StorageLaws.{AreCodes-codes_of, AreStorable-FitArray, length-codes_of}
use Rattle.jsonb.proofs.StoredEntryLaws.{IsObjectOfEntries-Payload, entry_item-tree}
use Rattle.answer_lines.specs.Session.{IsNoMemoryReply}
use Rattle.jsonb_cli.specs.AnswerLine.{ok_line, error_line}
use Rattle.jsonb_cli.specs.Answers as answers
use Rattle.jsonb_cli.specs.Answers.{IsHexOf, IsName, IsEncAnswer, IsDecAnswer, IsPrettyAnswer}
use Rattle.jsonb_cli.specs.Answers.{IsTypeAnswer, IsGetAnswer, IsCmpAnswer, IsArrAnswer}
use Rattle.jsonb_cli.specs.Answers.{IsCanonAnswer, IsFormAnswer, IsAnswer}
use Rattle.jsonb_cli.specs.Answers.{OneAnswer, kind_line, order_words}
use Rattle.jsonb_cli.specs.Answers.{not_text, no_tree, too_large, encoded, bad_hex, no_document}
use Rattle.jsonb_cli.specs.Answers.{printed, answered, no_name, found, bad_left, bad_right}
use Rattle.jsonb_cli.specs.Answers.{no_array, built, written, of_form, of_none}
use Rattle.jsonb_cli.specs.Commands.{Form, enc, dec, pretty, item_type, get, cmp, arr, canon}
use Rattle.jsonb_cli.specs.Each as each
use Rattle.jsonb_cli.specs.Each.{Each}
use Rattle.jsonb_cli.proofs.FormDecision.{decide_form}
use Rattle.jsonb_cli.proofs.Forms.{names_apart}
use Rattle.jsonb_cli.proofs.OneAnswer.{one_answer}

-- ---- answers that do not report lack of memory

record SomeAnswer (Answers : List ℕ → Type 0) : Type 0 where
  answer : List ℕ
  is : Answers answer
  no_refusal : IsNoMemoryReply answer → ⊥

-- a line of a command that succeeds
ok_words : (Answers : List ℕ → Type 0) (said : List ℕ) → Answers (ok_line said)
    → SomeAnswer Answers
ok_words Answers said is = record {
  answer = ok_line said;
  is = is;
  no_refusal = λ same. names_apart (codes "ok ") (take 3 (codes "error OutOfMemory")) refl
      (ap (λ bytes. take 3 bytes) same);
}

-- a line of a command that fails, with another word
error : (Answers : List ℕ → Type 0) (name : List ℕ)
    → pointwise nat_eq (error_line name) (codes "error OutOfMemory") ≡ false
    → Answers (error_line name) → SomeAnswer Answers
error Answers name other is = record {
  answer = error_line name;
  is = is;
  no_refusal = names_apart (error_line name) (codes "error OutOfMemory") other;
}

-- ---- decisions

both : {P Q : Type 0} → Decided P → Decided Q → Decided (P × Q)
both (inl p) (inl q) = inl (p, q)
both (inl p) (inr none) = inr (λ h. none h.1)
both (inr none) q = inr (λ h. none h.0)

decide_below : (a b : ℕ) → Decided (a < b)
decide_below a b = elim (cases_lt a b) [ inl below ↦ inl below | inr not ↦ inr (λ h. omega arith) ]

decide_text : (bytes : List ℕ) → Decided (IsUtf8 bytes)
decide_text bytes = by (is_utf8 bytes) refl
  where
    by : (b : Bool) → is_utf8 bytes ≡ b → Decided (IsUtf8 bytes)
    by true e = inl (IsUtf8-from_is_utf8 bytes e)
    by false e = inr (λ h. cc (is_utf8-from_IsUtf8 bytes h))

mutual
  decide_inside : (s : Shape) → Decided (FitsInside s)
  decide_inside (leaf type p) = inl tt
  decide_inside (shapes.array ss) = both (decide_below (shape_count ss) (2 ^ 29)) (decide_all ss)
  decide_inside (shapes.object ss) = both (decide_below (shape_count ss) (2 ^ 29)) (decide_all ss)

  decide_all : (ss : Shapes) → Decided (AllFit ss)
  decide_all no_shapes = inl tt
  decide_all (shape k s ss) =
      both (both (decide_below (length k) (2 ^ 28))
      (both (decide_inside s) (decide_below (length (payload s)) (2 ^ 28)))) (decide_all ss)

decide_shape : (s : Shape) → Decided (ShapeFits s)
decide_shape (leaf type p) = decide_below (length p) (2 ^ 28)
decide_shape (shapes.array ss) = decide_inside (shapes.array ss)
decide_shape (shapes.object ss) = decide_inside (shapes.object ss)

decide_fits : (t : Tree) → Decided (Fits t)
decide_fits t = decide_shape (shape_of t)

decide_storable : (inputs : List (List ℕ)) → Decided (AreStorable (map owned inputs))
decide_storable [] = inl tt
decide_storable (bytes ∷ inputs) = both
    (both (decide bytes) (decide_below (length (entry_of_item (owned bytes)).payload) (2 ^ 28)))
    (decide_storable inputs)

fit_array : (xs : List ItemView) → AreStorable xs × (length xs < 2 ^ 29) → FitArray xs
fit_array xs (storable, few) =
    let codes = AreCodes-codes_of xs storable in
    record {
      codes = codes_of xs;
      are = codes.0;
      short = codes.1;
      few = rw (length-codes_of xs) few;
    }

decide_array : (inputs : List (List ℕ)) → Decided (FitArray (map owned inputs))
decide_array inputs = decided_by (fit_array (map owned inputs))
    (AreStorable-FitArray (map owned inputs))
    (both (decide_storable inputs) (decide_below (length (map owned inputs)) (2 ^ 29)))

-- ---- words in hexadecimal

of_word : (Answers : List ℕ → Type 0) (word : List ℕ) (read : Result (List ℕ) FromHexError)
    → decode_of word ≡ read
    → (((bytes : List ℕ) → IsHexOf bytes word → ⊥) → SomeAnswer Answers)
    → ((bytes : List ℕ) → IsHexOf bytes word → SomeAnswer Answers) → SomeAnswer Answers
of_word Answers word (Ok bytes) is bad next = next bytes is
of_word Answers word (Err e) is bad next = bad (λ bytes hex. cc)

record BadWord (words : List (List ℕ)) : Type 0 where
  before : List (List ℕ)
  word : List ℕ
  after : List (List ℕ)
  parts : words ≡ before ++ word ∷ after
  cannot : (bytes : List ℕ) → IsHexOf bytes word → ⊥

abbrev Inputs : List (List ℕ) → Type 0
Inputs words = ((inputs : List (List ℕ)) × Each IsHexOf inputs words) ⊎ BadWord words

word_before : (word : List ℕ) (words : List (List ℕ)) (read : Result (List ℕ) FromHexError)
    → decode_of word ≡ read → Inputs words → Inputs (word ∷ words)
word_before word words (Err e) is later = inr record {
  before = [];
  word = word;
  after = words;
  parts = refl;
  cannot = λ bytes hex. cc;
}
word_before word words (Ok bytes) is (inl (inputs, all)) = inl (bytes ∷ inputs, each.more is all)
word_before word words (Ok bytes) is (inr bad) = inr record {
  before = word ∷ bad.before;
  word = bad.word;
  after = bad.after;
  parts = ap (λ ws. word ∷ ws) bad.parts;
  cannot = bad.cannot;
}

inputs_of : (words : List (List ℕ)) → Inputs words
inputs_of [] = inl ([], each.none)
inputs_of (word ∷ words) = word_before word words (decode_of word) refl (inputs_of words)

-- ---- the value of a key

-- what is found among the members is the item of the value that is found in the tree
abbrev Stored : (List ℕ → Bool) → ℕ → List (List ℕ × Code) → Tree → Type 0
Stored accepts size ms u = (x : ItemView)
    × ((option_map entry_item (find_entry accepts size ms) ≡ Some (Ok x)) × IsItemOf u x)

stored_first : (accepts : List ℕ → Bool) (size : ℕ) (m : List ℕ × Code) (ms : List (List ℕ × Code))
    (t u : Tree) (later : Option Tree) (b : Bool) → ((length m.0 == size) && accepts m.0) ≡ b
    → IsPayloadOf m.1.type m.1.payload t → length m.1.payload < 2 ^ 28
    → (if b then Some t else later) ≡ Some u
    → (later ≡ Some u → Stored accepts size ms u) → Stored accepts size (m ∷ ms) u
stored_first accepts size m ms t u later true test means short is others =
    let (x, (item, of)) = entry_item-tree m.1 t means short in
    let same : t ≡ u = cc in
    (x, (rw (test, item) refl, subst (λ t. IsItemOf t x) same of))
stored_first accepts size m ms t u later false test means short is others =
    let (x, (there, of)) = others is in
    (x, (rw test there, of))

stored_in : (accepts : List ℕ → Bool) (size : ℕ) (ms : List (List ℕ × Code)) (ps : Pairs) (u : Tree)
    → AreMemberEntriesOf (keys_of ms) (values_of ms) ps → AreShort (values_of ms)
    → find_pair accepts size ps ≡ Some u → Stored accepts size ms u
stored_in accepts size [] ps u mean short is = absurd (cc (ap (find_pair accepts size) mean))
stored_in accepts size (m ∷ ms) no_pairs u mean short is = absurd mean
stored_in accepts size (m ∷ ms) (pair k t ps) u mean short is =
    stored_first accepts size m ms t u (find_pair accepts size ps)
    ((length k == size) && accepts k) (ap (λ key. (length key == size) && accepts key) mean.0)
    mean.1.0 short.0 is (stored_in accepts size ms ps u mean.1.1 short.1)

found_in : (accepts : List ℕ → Bool) (size : ℕ) (b : List ℕ) (t u : Tree) → Doc b t
    → find accepts size t ≡ Some u
    → (x : ItemView) × (IsItemOf u x × IsFoundIn accepts size b t (Some x))
found_in accepts size b (trees.object ps) u (inl (scalar, h)) is = absurd (scalar refl)
found_in accepts size b (trees.object ps) u (inr (whole, h)) is =
    let (ms, stored) = IsObjectOfEntries-Payload b ps h in
    let (x, (there, of)) = stored_in accepts size ms ps u stored.mean stored.short is in
    (x, (of, (ms, (stored, there))))
found_in accepts size b t u doc is = absurd cc

-- ---- each command

enc_read : (text : List ℕ) → IsUtf8 text → (read : Option Tree)
    → read_document Forbidden (chars text) ≡ read → SomeAnswer (IsEncAnswer text)
enc_read text utf8 None none = error (IsEncAnswer text) (codes "InvalidJson") refl
    (no_tree utf8 (λ t. nothing_read Forbidden (chars text) t none) refl)
enc_read text utf8 (Some t) is =
    let means = document-found Forbidden (chars text) t is in
    elim (decide_fits t) [
      | inl fits ↦ ok_words (IsEncAnswer text) (encode_lower (canonical t))
          (encoded (canonical t) utf8 (t, (means, (fits, refl))) refl)
      | inr past ↦ error (IsEncAnswer text) (codes "InvalidJsonb") refl
          (too_large utf8 (t, (means, past)) refl)
    ]

some_enc : (text : List ℕ) → SomeAnswer (IsEncAnswer text)
some_enc text = elim (decide_text text) [
  | inl utf8 ↦ enc_read text utf8 (read_document Forbidden (chars text)) refl
  | inr other ↦ error (IsEncAnswer text) (codes "InvalidUtf8") refl (not_text other refl)
]

some_dec : (word : List ℕ) → SomeAnswer (IsDecAnswer word)
some_dec word = of_word (IsDecAnswer word) word (decode_of word) refl
    (λ cannot. error (IsDecAnswer word) (codes "BadHex") refl (bad_hex cannot refl))
    (λ bytes hex. elim (decide bytes) [
      | inl of ↦ ok_words (IsDecAnswer word) (compact of.0) (printed bytes of.0 hex of.1 refl)
      | inr none ↦ error (IsDecAnswer word) (codes "InvalidJsonb") refl
          (no_document bytes hex none refl)
    ])

some_pretty : (word : List ℕ) → SomeAnswer (IsPrettyAnswer word)
some_pretty word = of_word (IsPrettyAnswer word) word (decode_of word) refl
    (λ cannot. error (IsPrettyAnswer word) (codes "BadHex") refl (bad_hex cannot refl))
    (λ bytes hex. elim (decide bytes) [
      | inl of ↦ ok_words (IsPrettyAnswer word) (encode_lower (pretty_text of.0))
          (printed bytes of.0 hex of.1 refl)
      | inr none ↦ error (IsPrettyAnswer word) (codes "InvalidJsonb") refl
          (no_document bytes hex none refl)
    ])

some_canon : (word : List ℕ) → SomeAnswer (IsCanonAnswer word)
some_canon word = of_word (IsCanonAnswer word) word (decode_of word) refl
    (λ cannot. error (IsCanonAnswer word) (codes "BadHex") refl (bad_hex cannot refl))
    (λ bytes hex. elim (decide bytes) [
      | inl of ↦ elim (decide_fits of.0) [
        | inl fits ↦ ok_words (IsCanonAnswer word) (encode_lower (canonical of.0))
            (written bytes (canonical of.0) hex (of.0, (of.1, (fits, refl))) refl)
        | inr past ↦ error (IsCanonAnswer word) (codes "InvalidJsonb") refl
            (answers.no_tree bytes hex
            (λ t means fits. past (subst Fits (Doc-unique bytes t of.0 means of.1) fits)) refl)
      ]
      | inr none ↦ error (IsCanonAnswer word) (codes "InvalidJsonb") refl
          (answers.no_tree bytes hex (λ t means fits. none (t, means)) refl)
    ])

-- reading a kind needs no memory
abbrev NeedsNoMemory : {A : Type 0} → Result A Error → Type 0
NeedsNoMemory r = r ≡ Err OutOfMemory → ⊥

either : {A : Type 0} (b : Bool) (r s : Result A Error) → NeedsNoMemory r → NeedsNoMemory s
    → NeedsNoMemory (if b then r else s)
either true r s first second = first
either false r s first second = second

kind_or : (b : Bool) (k : JsonbItemType) (r : Result JsonbItemType Error) → NeedsNoMemory r
    → NeedsNoMemory (if b then Ok k else r)
kind_or true k r later = λ same. cc
kind_or false k r later = later

one_after : {A B : Type 0} (r : Result A Error) (f : A → Result B Error) → NeedsNoMemory r
    → ((x : A) → NeedsNoMemory (f x)) → NeedsNoMemory (r >>= f)
one_after (Ok x) f first second = second x
one_after (Err e) f first second = λ same. let is : e ≡ OutOfMemory = cc in first (ap Err is)

word_read : (bytes : List ℕ) (index : ℕ) → NeedsNoMemory (word_at bytes index)
word_read bytes index = either (nat_le (index + 4) (length bytes))
    (Ok (from_be_bytes w32 (take 4 (drop index bytes)))) (Err InvalidEOF) (λ e. cc) (λ e. cc)

header_read : (word : Result ℕ Error) → NeedsNoMemory word → NeedsNoMemory (header_in word)
header_read (Ok k) first = either
    ((header_type k == ARRAY_CONTAINER_TAG) || (header_type k == OBJECT_CONTAINER_TAG)
    || (header_type k == SCALAR_CONTAINER_TAG))
    (Ok (header_type k, header_count k)) (Err InvalidJsonb) (λ e. cc) (λ e. cc)
header_read (Err e) first = λ same. let is : e ≡ OutOfMemory = cc in first (ap Err is)

entry_read : (word : Result ℕ Error) → NeedsNoMemory word → NeedsNoMemory (jentry_in word)
entry_read (Ok k) first = λ e. cc
entry_read (Err e) first = λ same. let is : e ≡ OutOfMemory = cc in first (ap Err is)

type_read : (type : ℕ) → NeedsNoMemory (kind_of_type type)
type_read type = kind_or (type == NULL_TAG) kinds.Null _
    (kind_or (type == FALSE_TAG) kinds.Boolean _
    (kind_or (type == TRUE_TAG) kinds.Boolean _ (kind_or (type == NUMBER_TAG) kinds.Number _
    (kind_or (type == STRING_TAG) kinds.String _ (kind_or (type == EXTENSION_TAG) kinds.Extension
    (Err InvalidJsonb) (λ same. cc))))))

under_header : (header : ℕ × ℕ) (bytes : List ℕ) → NeedsNoMemory (kind_under header bytes)
under_header header bytes =
    kind_or (header.0 == ARRAY_CONTAINER_TAG) (kinds.Array header.1) _
    (kind_or (header.0 == OBJECT_CONTAINER_TAG) (kinds.Object header.1)
    (jentry_at bytes 4 >>= λ entry. kind_of_type entry.type_code)
    (one_after (jentry_at bytes 4) (λ entry. kind_of_type entry.type_code)
    (entry_read (word_at bytes 4) (word_read bytes 4)) (λ entry. type_read entry.type_code)))

kind_read : (bytes : List ℕ) → NeedsNoMemory (kind bytes)
unfolding kind
kind_read bytes = one_after (header_at bytes 0) (λ header. kind_under header bytes)
    (header_read (word_at bytes 0) (word_read bytes 0)) (λ header. under_header header bytes)

kind_answer : (r : Result JsonbItemType Error) → NeedsNoMemory r → IsNoMemoryReply (kind_line r)
    → ⊥
kind_answer (Ok k) first same = names_apart (codes "ok ") (take 3 (codes "error OutOfMemory")) refl
    (ap (λ bytes. take 3 bytes) same)
kind_answer (Err OutOfMemory) first same = first refl
kind_answer (Err e) first same =
    names_apart (error_line (name_of e)) (codes "error OutOfMemory") refl same

some_type : (word : List ℕ) → SomeAnswer (IsTypeAnswer word)
some_type word = of_word (IsTypeAnswer word) word (decode_of word) refl
    (λ cannot. error (IsTypeAnswer word) (codes "BadHex") refl (bad_hex cannot refl))
    (λ bytes hex. record {
      answer = kind_line (kind bytes);
      is = answered bytes hex refl;
      no_refusal = kind_answer (kind bytes) (kind_read bytes);
    })

-- the name that a text means, if it means one
name_in : (t : Tree) → ((name : List ℕ) × (t ≡ trees.text name))
    ⊎ ((name : List ℕ) → t ≡ trees.text name → ⊥)
name_in (trees.text name) = inl (name, refl)
name_in t = inr (λ name same. cc)

name_read : (key : List ℕ) → IsUtf8 key → (read : Option Tree)
    → read_document Forbidden (chars key) ≡ read
    → Decided ((name : List ℕ) × IsName name key)
name_read key utf8 None none =
    inr (λ h. nothing_read Forbidden (chars key) (trees.text h.0) none h.1.1)
name_read key utf8 (Some t) is =
    let means = document-found Forbidden (chars key) t is in
    elim (name_in t) [
      | inl named ↦ inl (named.0, (utf8, subst (λ t. Json (chars key) t) named.1 means))
      | inr nameless ↦ inr (λ h.
          nameless h.0 (one_meaning (chars key) t (trees.text h.0) means h.1.1))
    ]

value_answer : (word key bytes name : List ℕ) (t : Tree) → IsHexOf bytes word → IsName name key
    → Doc bytes t → (value : Option Tree) → value_of_key name t ≡ value
    → SomeAnswer (IsGetAnswer word key)
value_answer word key bytes name t hex named means None missing =
    ok_words (IsGetAnswer word key) (codes "none")
    (answers.none bytes name t hex named means missing refl)
value_answer word key bytes name t hex named means (Some u) there =
    let (x, (item, stored)) =
    found_in (pointwise nat_eq name) (length name) bytes t u means there in
    ok_words (IsGetAnswer word key) (encode_lower (item_document x))
    (found bytes name t u x hex named means there item stored refl)

name_answer : (word key bytes : List ℕ) → IsHexOf bytes word → IsUtf8 key
    → SomeAnswer (IsGetAnswer word key)
name_answer word key bytes hex utf8 =
    elim (name_read key utf8 (read_document Forbidden (chars key)) refl) [
      | inl named ↦ elim (decide bytes) [
        | inl of ↦ value_answer word key bytes named.0 of.0 hex named.1 of.1
            (value_of_key named.0 of.0) refl
        | inr none ↦ error (IsGetAnswer word key) (codes "InvalidJsonb") refl
            (no_document bytes named.0 hex named.1 none refl)
      ]
      | inr nameless ↦ error (IsGetAnswer word key) (codes "InvalidJson") refl
          (no_name bytes hex utf8 (λ name is. nameless (name, is)) refl)
    ]

some_get : (word key : List ℕ) → SomeAnswer (IsGetAnswer word key)
some_get word key = of_word (IsGetAnswer word key) word (decode_of word) refl
    (λ cannot. error (IsGetAnswer word key) (codes "BadHex") refl (bad_hex cannot refl))
    (λ bytes hex. elim (decide_text key) [
      | inl utf8 ↦ name_answer word key bytes hex utf8
      | inr other ↦ error (IsGetAnswer word key) (codes "InvalidUtf8") refl
          (not_text bytes hex other refl)
    ])

some_cmp : (left right : List ℕ) → SomeAnswer (IsCmpAnswer left right)
some_cmp left right = of_word (IsCmpAnswer left right) left (decode_of left) refl
    (λ cannot. error (IsCmpAnswer left right) (codes "BadHex") refl (bad_left cannot refl))
    (λ x hex. of_word (IsCmpAnswer left right) right (decode_of right) refl
    (λ cannot. error (IsCmpAnswer left right) (codes "BadHex") refl (bad_right cannot refl))
    (λ y again. ok_words (IsCmpAnswer left right)
    (order_words (meaning_cmp (meaning_of x) (meaning_of y)))
    (answered x y hex again refl)))

arr_answer : (ws : List (List ℕ)) → Inputs ws → SomeAnswer (IsArrAnswer ws)
arr_answer ws (inr bad) = error (IsArrAnswer ws) (codes "BadHex") refl
    (bad_hex bad.before bad.after bad.word bad.parts bad.cannot refl)
arr_answer ws (inl (inputs, all)) = elim (decide_array inputs) [
  | inl fit ↦ ok_words (IsArrAnswer ws) (encode_lower (array_bytes fit.codes))
      (built inputs (array_bytes fit.codes) all (record { fit = fit; written = refl }) refl)
  | inr unfit ↦ error (IsArrAnswer ws) (codes "InvalidJsonb") refl (no_array inputs all unfit refl)
]

-- ---- a line

some_form_answer : (form : Form) → SomeAnswer (IsFormAnswer form)
some_form_answer (enc text) = some_enc text
some_form_answer (dec word) = some_dec word
some_form_answer (pretty word) = some_pretty word
some_form_answer (item_type word) = some_type word
some_form_answer (get word key) = some_get word key
some_form_answer (cmp left right) = some_cmp left right
some_form_answer (arr ws) = arr_answer ws (inputs_of ws)
some_form_answer (canon word) = some_canon word

some_answer : (line : List ℕ) → SomeAnswer (IsAnswer line)
some_answer line = elim (decide_form line) [
  | inl has ↦
      let some = some_form_answer has.0 in
      record {
        answer = some.answer;
        is = of_form has.0 has.1 some.is;
        no_refusal = some.no_refusal;
      }
  | inr none ↦ error (IsAnswer line) (codes "BadCommand") refl
      (of_none (λ form of. none (form, of)) refl)
]

pub exactly_one : (line : List ℕ) → OneAnswer line
exactly_one line =
    let some = some_answer line in
    record {
      answer = some.answer;
      is = some.is;
      no_refusal = some.no_refusal;
      only = λ other also. one_answer line other some.answer also some.is;
    }
