-- The document of a short text exceeds no limit.
use Rattle.std.proofs.Common.{◌≡◌, ℕ, zero, suc, pos, negsuc, ℤ, ◌+◌, ◌*◌, ◌<◌, ◌≤◌, ◌^◌, List, []}
use Rattle.std.proofs.Common.{◌∷◌, ◌++◌, length, arith, length-append, refl, ap, true}
use Rattle.std.proofs.Common.{false, Option, Some, None}
use Rattle.std.specs.Prelude.{◌&&◌, encode_utf8, option_map}
use Rattle.std.proofs.lemmas.Bool.{false≢true}
use Rattle.std.specs.Int.{Width, byte_len}
use Rattle.std.specs.Ordering.{nat_cmp}
use Rattle.std.specs.declared.cmp.Ordering.{Ordering}
use Rattle.std.specs.declared.cmp.Ordering.TheVariants.{Less, Equal, Greater}
use Rattle.std.specs.Cmp.Lexicographic.{slice_cmp}
use Rattle.std.specs.BTreeMap.{insert_entry}
use Rattle.std.proofs.lemmas.Str.{length-encode, len_utf8_bounds}
use Rattle.jsonb_value.specs.declared.number.Number.{Number}
use Rattle.jsonb_value.specs.declared.number.Number.TheVariants.{Int64, UInt64, Decimal64}
use Rattle.jsonb_value.specs.declared.number.Number.TheVariants.{Decimal128}
use Rattle.jsonb_value.specs.declared.parser.number.Exponents.{Exponents}
use Rattle.jsonb_value.specs.NumCode.{number_payload, shortest_signed, shortest_unsigned}
use Rattle.jsonb_value.specs.NumCode.{decimal_payload}
use Rattle.jsonb_value.specs.ExtCode.{extension_payload}
use Rattle.jsonb_value.specs.Tree as trees
use Rattle.jsonb_value.specs.Tree.{Tree, null, boolean, number, text, extension, array, object}
use Rattle.jsonb_value.specs.Tree.{Trees, no_trees, tree, Pairs, no_pairs, pair, pair_count}
use Rattle.jsonb_value.specs.Value.{trees_of}
use Rattle.jsonb_value.specs.Json.Characters.{all_blank, close_brace, close_bracket, colon, quote}
use Rattle.jsonb_value.specs.Json.Numeral.{Numeral, exponent_text, fraction_text, is_numeral}
use Rattle.jsonb_value.specs.Json.Numeral.{is_whole, numeral_meaning, numeral_text, sign_text}
use Rattle.jsonb_value.specs.Json.Piece.{Piece, piece_meaning, pieces_meaning, piece_text}
use Rattle.jsonb_value.specs.Json.Piece.{pieces_text}
use Rattle.jsonb_value.specs.Json.Syntax.{Syntax, nothing, truth, numeral, string, empty_array}
use Rattle.jsonb_value.specs.Json.Syntax.{items, empty_object, members, Element, element, Items}
use Rattle.jsonb_value.specs.Json.Syntax.{no_item, next_item, Member, member, Members, no_member}
use Rattle.jsonb_value.specs.Json.Syntax.{next_member, Entries, pairs, insert_all, JsonText}
use Rattle.jsonb_value.specs.Json.Syntax.{between, meaning, element_meaning, items_meaning}
use Rattle.jsonb_value.specs.Json.Syntax.{member_meaning, members_meaning, syntax_text}
use Rattle.jsonb_value.specs.Json.Syntax.{string_characters}
use Rattle.jsonb_value.specs.Json.Syntax.{element_text, items_text, member_text, members_text}
use Rattle.jsonb_value.proofs.BigEndian.{length-to_be_bytes}
use Rattle.jsonb_value.proofs.PayloadLaws.{by_test}
use Rattle.jsonb_value.proofs.Json.Tests.{and_true, bind_then, cond_some, some_same}
use Rattle.jsonb_value.proofs.Json.TextLaws.{piece_length}
use Rattle.jsonb_codec.specs.Canon.{Fits, payload_of}
use Rattle.jsonb_codec.proofs.TreeShapes.{AllFit, FitParts, FitsInside, Fits-parts, PairsFit}
use Rattle.jsonb_codec.proofs.TreeShapes.{count-items_shapes, count-pairs_shapes, key_payloads}
use Rattle.jsonb_codec.proofs.TreeShapes.{payloads_of, value_payloads}
use Rattle.jsonb_codec.proofs.Lengths.{length-payload_of-array, length-payload_of-object}

-- ---- numbers

shortest_unsigned-8 : (n : ℕ) → length (shortest_unsigned n) ≤ 8
shortest_unsigned-8 n = grind (arith, by_test, length-to_be_bytes)

shortest_signed-8 : (v : ℤ) → length (shortest_signed v) ≤ 8
shortest_signed-8 v = grind (arith, by_test, length-to_be_bytes)

length-decimal : (w : Width) (v : ℤ) (s : ℕ) → length (decimal_payload w v s) ≡ byte_len w + 2
length-decimal w v s = grind (arith, length-to_be_bytes, length-append)

number_room : (x : Number) → length (number_payload x) ≤ 19
number_room (Int64 (pos zero)) = omega arith
number_room (Int64 (pos (suc n))) = let most = shortest_signed-8 (pos (suc n)) in omega arith
number_room (Int64 (negsuc n)) = let most = shortest_signed-8 (negsuc n) in omega arith
number_room (UInt64 zero) = omega arith
number_room (UInt64 (suc n)) = let most = shortest_unsigned-8 (suc n) in omega arith
number_room (Decimal64 d) = grind (arith, length-decimal)
number_room (Decimal128 d) = grind (arith, length-decimal)

-- ---- what a payload takes at most

abbrev mutual
  room : Tree → ℕ
  room null = 0
  room (boolean b) = 0
  room (number x) = 19
  room (text s) = length s
  room (extension e) = length (extension_payload e)
  room (array ts) = 4 + rooms ts
  room (object ps) = 4 + pair_rooms ps

  rooms : Trees → ℕ
  rooms no_trees = 0
  rooms (tree t ts) = 4 + room t + rooms ts

  pair_rooms : Pairs → ℕ
  pair_rooms no_pairs = 0
  pair_rooms (pair k t ps) = 8 + length k + room t + pair_rooms ps

mutual
  payload_room : (t : Tree) → length (payload_of t) ≤ room t
  payload_room null = omega arith
  payload_room (boolean b) = omega arith
  payload_room (number x) = number_room x
  payload_room (text s) = omega arith
  payload_room (extension e) = omega arith
  payload_room (array ts) =
      let long = length-payload_of-array ts in let most = payloads_room ts in omega arith
  payload_room (object ps) =
      let long = length-payload_of-object ps in let most = pairs_room ps in omega arith

  payloads_room : (ts : Trees) → 4 * trees.count ts + length (payloads_of ts) ≤ rooms ts
  payloads_room no_trees = omega arith
  payloads_room (tree t ts) =
      let first = payload_room t in
      let others = payloads_room ts in
      let joined = length-append (payload_of t) (payloads_of ts) in
      omega arith

  pairs_room : (ps : Pairs)
      → 8 * pair_count ps + (length (key_payloads ps) + length (value_payloads ps)) ≤ pair_rooms ps
  pairs_room no_pairs = omega arith
  pairs_room (pair k t ps) =
      let first = payload_room t in
      let others = pairs_room ps in
      let keys = length-append k (key_payloads ps) in
      let values = length-append (payload_of t) (value_payloads ps) in
      omega arith

-- ---- what takes little room fits

mutual
  inside : (t : Tree) → room t < 2 ^ 28 → FitsInside t
  inside null low = tt
  inside (boolean b) low = tt
  inside (number x) low = tt
  inside (text s) low = tt
  inside (extension e) low = tt
  inside (array ts) low =
      let most = payloads_room ts in
      let count = count-items_shapes ts in
      (omega arith, all_inside ts (omega arith))
  inside (object ps) low =
      let most = pairs_room ps in
      let count = count-pairs_shapes ps in
      (omega arith, pairs_inside ps (omega arith))

  all_inside : (ts : Trees) → rooms ts < 2 ^ 28 → AllFit ts
  all_inside no_trees low = tt
  all_inside (tree t ts) low =
      let most = payload_room t in
      ((omega arith, (inside t (omega arith), omega arith)), all_inside ts (omega arith))

  pairs_inside : (ps : Pairs) → pair_rooms ps < 2 ^ 28 → PairsFit ps
  pairs_inside no_pairs low = tt
  pairs_inside (pair k t ps) low =
      let most = payload_room t in
      ((omega arith, (inside t (omega arith), omega arith)), pairs_inside ps (omega arith))

low_fits : (t : Tree) → room t < 2 ^ 28 → Fits t
low_fits t low =
    let most = payload_room t in
    let parts : FitParts t = record { inside = inside t low; short = λ scalar. omega arith } in
    (Fits-parts t).1 parts

-- ---- what a text means takes at most 32 times its room

-- an entry that is put in is new, or in the place of one with an equal key
insert_room : (es : Entries) (k : List ℕ) (t : Tree)
    → pair_rooms (pairs (insert_entry (slice_cmp nat_cmp) es k t))
    ≤ pair_rooms (pairs es) + (8 + length k + room t)
insert_room [] k t = omega arith
insert_room (e ∷ es) k t = by (slice_cmp nat_cmp k e.0) refl (insert_room es k t)
  where
    by : (o : Ordering) → slice_cmp nat_cmp k e.0 ≡ o
        → pair_rooms (pairs (insert_entry (slice_cmp nat_cmp) es k t))
        ≤ pair_rooms (pairs es) + (8 + length k + room t)
        → pair_rooms (pairs (insert_entry (slice_cmp nat_cmp) (e ∷ es) k t))
        ≤ pair_rooms (pairs (e ∷ es)) + (8 + length k + room t)
    by Less is more = rw is (omega arith)
    by Equal is more = rw is (omega arith)
    by Greater is more = rw is (omega arith)

inserted_room : (front es : Entries) → pair_rooms (pairs (insert_all front es))
    ≤ pair_rooms (pairs front) + pair_rooms (pairs es)
inserted_room front [] = omega arith
inserted_room front (e ∷ es) =
    let one = insert_room front e.0 e.1 in
    let more = inserted_room (insert_entry (slice_cmp nat_cmp) front e.0 e.1) es in
    omega arith

piece_room : (p : Piece) (c : ℕ) → length (encode_utf8 c) ≤ 4 * length (piece_text p)
piece_room p c =
    let long = length-encode c in
    let most = len_utf8_bounds c in
    let some = piece_length p in
    omega arith

pieces_room : (ps : List Piece) (bytes : List ℕ) → pieces_meaning ps ≡ Some bytes
    → length bytes ≤ 4 * length (pieces_text ps)
pieces_room [] bytes e = let same : [] ≡ bytes = cc in rw (← same) (omega arith)
pieces_room (p ∷ ps) bytes e =
    bind_then (piece_meaning p) _ _ e (λ c is more.
    bind_then (pieces_meaning ps) _ _ more (λ others are end.
    let same : encode_utf8 c ++ others ≡ bytes = cc in
    let first = piece_room p c in
    let later = pieces_room ps others are in
    let joined = length-append (encode_utf8 c) others in
    let texts = length-append (piece_text p) (pieces_text ps) in
    rw (← same) (omega arith)))

-- ---- numerals

whole_some : (ds : List ℕ) → is_whole ds ≡ true → 1 ≤ length ds
whole_some [] e = absurd (false≢true e)
whole_some (d ∷ ds) e = omega arith

numeral_some : (rule : Exponents) (n : Numeral) (x : Number) → numeral_meaning rule n ≡ Some x
    → 1 ≤ length (numeral_text n)
numeral_some rule n x e =
    let well : is_numeral rule n ≡ true = (cond_some (is_numeral rule n) _ x e).0 in
    let whole = whole_some n.whole (and_true _ _ (and_true _ _ well).0).0 in
    let later = fraction_text n.fraction ++ exponent_text n.exponent in
    let signed = length-append (sign_text n.is_negative) (n.whole ++ later) in
    let joined = length-append n.whole later in
    omega arith

-- the parts of a successful step, passed on by name
mapped : {A B C : Type 0} (o : Option A) (f : A → B) (y : B) → option_map f o ≡ Some y
    → ((x : A) → o ≡ Some x → f x ≡ y → C) → C
mapped None f y e go = absurd (let never : ⊥ = cc in never)
mapped (Some x) f y e go = go x refl (some_same (f x) y e)

same_room : (t u : Tree) → Some t ≡ Some u → room t ≡ room u
same_room t u e = let same : t ≡ u = cc in ap room same

mutual
  syntax_room : (rule : Exponents) (x : Syntax) (t : Tree) → meaning rule x ≡ Some t
      → room t + 8 ≤ 32 * length (syntax_text x)
  syntax_room rule nothing t e = let same = same_room null t e in omega arith
  syntax_room rule (truth true) t e = let same = same_room (boolean true) t e in omega arith
  syntax_room rule (truth false) t e = let same = same_room (boolean false) t e in omega arith
  syntax_room rule (numeral n) t e =
      mapped (numeral_meaning rule n) number t e (λ x is same.
      let some = numeral_some rule n x is in
      let rooms_same = ap room same in
      omega arith)
  syntax_room rule (string pieces) t e =
      mapped (pieces_meaning pieces) text t e (λ bytes is same.
      let most = pieces_room pieces bytes is in
      let rooms_same = ap room same in
      let texts = length-append (pieces_text pieces) (quote ∷ []) in
      omega arith)
  syntax_room rule (empty_array blank) t e =
      let same = same_room (array no_trees) t (cond_some _ _ t e).1 in
      let texts = length-append blank (close_bracket ∷ []) in
      omega arith
  syntax_room rule (empty_object blank) t e =
      let same = same_room (object no_pairs) t (cond_some _ _ t e).1 in
      let texts = length-append blank (close_brace ∷ []) in
      omega arith
  syntax_room rule (items x xs) t e =
      bind_then (element_meaning rule x) _ _ e (λ y is more.
      bind_then (items_meaning rule xs) _ _ more (λ ys are end.
      let same = same_room (array (tree y (trees_of ys))) t end in
      let first = element_room rule x y is in
      let others = items_room rule xs ys are in
      let texts = length-append (element_text x) (items_text xs) in
      omega arith))
  syntax_room rule (members x xs) t e =
      bind_then (member_meaning rule x) _ _ e (λ y is more.
      bind_then (members_meaning rule xs) _ _ more (λ ys are end.
      let same = same_room (object (pairs (insert_all [] (y ∷ ys)))) t end in
      let first = member_room rule x y is in
      let others = members_room rule xs ys are in
      let put = inserted_room [] (y ∷ ys) in
      let texts = length-append (member_text x) (members_text xs) in
      omega arith))

  element_room : (rule : Exponents) (x : Element) (t : Tree) → element_meaning rule x ≡ Some t
      → room t + 8 ≤ 32 * length (element_text x)
  element_room rule (element before x after) t e =
      let inner = syntax_room rule x t
      (cond_some (all_blank before && all_blank after) (meaning rule x) t e).1 in
      let texts = length-append before (syntax_text x ++ after) in
      let more = length-append (syntax_text x) after in
      omega arith

  items_room : (rule : Exponents) (xs : Items) (ts : List Tree) → items_meaning rule xs ≡ Some ts
      → rooms (trees_of ts) ≤ 32 * length (items_text xs)
  items_room rule no_item ts e = let same : [] ≡ ts = cc in rw (← same) (omega arith)
  items_room rule (next_item x xs) ts e =
      bind_then (element_meaning rule x) _ _ e (λ y is more.
      bind_then (items_meaning rule xs) _ _ more (λ ys are end.
      let same : y ∷ ys ≡ ts = cc in
      let first = element_room rule x y is in
      let others = items_room rule xs ys are in
      let texts = length-append (element_text x) (items_text xs) in
      rw (← same) (omega arith)))

  member_room : (rule : Exponents) (m : Member) (e : List ℕ × Tree) → member_meaning rule m ≡ Some e
      → 8 + length e.0 + room e.1 ≤ 32 * length (member_text m)
  member_room rule (member before key after x) y e =
      bind_then (between before after (pieces_meaning key)) _ _ e (λ k is_key more.
      bind_then (element_meaning rule x) _ _ more (λ t is_value end.
      let same : (k, t) ≡ y = some_same (k, t) y end in
      let most = pieces_room key k
      (cond_some (all_blank before && all_blank after) (pieces_meaning key) k is_key).1 in
      let value = element_room rule x t is_value in
      let first =
      length-append before (string_characters key ++ (after ++ colon ∷ element_text x)) in
      let second = length-append (string_characters key) (after ++ colon ∷ element_text x) in
      let third = length-append after (colon ∷ element_text x) in
      let quoted = length-append (pieces_text key) (quote ∷ []) in
      let keys : length k ≡ length y.0 = ap (λ (z : List ℕ × Tree). length z.0) same in
      let values : room t ≡ room y.1 = ap (λ (z : List ℕ × Tree). room z.1) same in
      omega arith))

  members_room : (rule : Exponents) (ms : Members) (es : Entries)
      → members_meaning rule ms ≡ Some es
      → pair_rooms (pairs es) ≤ 32 * length (members_text ms)
  members_room rule no_member es e = let same : [] ≡ es = cc in rw (← same) (omega arith)
  members_room rule (next_member x xs) es e =
      bind_then (member_meaning rule x) _ _ e (λ y is more.
      bind_then (members_meaning rule xs) _ _ more (λ ys are end.
      let same : y ∷ ys ≡ es = cc in
      let first = member_room rule x y is in
      let others = members_room rule xs ys are in
      let texts = length-append (member_text x) (members_text xs) in
      rw (← same) (omega arith)))

pub short_fits : (rule : Exponents) (s : List ℕ) (t : Tree) → JsonText rule s t
    → length s < 2 ^ 22 → Fits t
short_fits rule s t json short =
    let most = element_room rule json.syntax t json.is_meant in
    let long = ap length json.is_spelled in
    low_fits t (omega arith)
