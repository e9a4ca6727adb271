-- A text of JSON is as deep as what it spells, and its tree is no deeper.
use Rattle.std.proofs.Common.{◌≡◌, ℕ, suc, ◌≤◌, ◌<◌, true, refl, sym, ap, ◌∙◌}
use Rattle.std.proofs.Common.{List, [], ◌∷◌, ◌++◌, Some, arith, append-nil, inl, inr}
use Rattle.std.proofs.Common.{chars, length, get_or, subst}
use Rattle.std.specs.Prelude.{Result, Err, max, ◌&&◌, encode_utf8, encode_utf8_all}
use Rattle.std.specs.Prelude.{nat_lt}
use Rattle.std.specs.Str.{IsUtf8}
use Rattle.std.specs.Ordering.{nat_cmp}
use Rattle.std.specs.declared.cmp.Ordering.TheVariants.{Less, Equal, Greater}
use Rattle.std.specs.Cmp.Lexicographic.{slice_cmp}
use Rattle.std.specs.BTreeMap.{insert_entry}
use Rattle.std.proofs.Math.Utf8.{scalars}
use Rattle.std.proofs.lemmas.Bool.{ltb-true, ltb-false}
use Rattle.std.proofs.lemmas.Bool.Decides.{nat_tests}
use Rattle.std.proofs.lemmas.Str.{encode_ascii, encodes-chars, scalars-chars, inside_one}
use Rattle.std.proofs.lemmas.Str.{length-encode}
use Rattle.jsonb_value.specs.declared.text_depth.ScanState.{ScanState}
use Rattle.jsonb_value.specs.declared.text_depth.ScanState.TheVariants.{Outside, Inside, Escaped}
use Rattle.jsonb_value.specs.declared.error.Error.{Error}
use Rattle.jsonb_value.specs.declared.within.ParseError.{ParseError}
use Rattle.jsonb_value.specs.declared.within.ParseError.TheVariants.{Refused, TooDeep}
use Rattle.jsonb_value.specs.Depth.{depth, depths, pair_depths}
use Rattle.jsonb_value.specs.Tree.{Tree}
use Rattle.jsonb_value.specs.Value.{trees_of}
use Rattle.jsonb_value.specs.declared.parser.number.Exponents.{Exponents}
use Rattle.jsonb_value.specs.TextDepth.{state_after, level_after, greatest_level, text_depth}
use Rattle.jsonb_value.specs.TextDepth.{syntax_depth, element_depth, items_depth, member_depth}
use Rattle.jsonb_value.specs.TextDepth.{members_depth, HasDepthOfSpelled}
use Rattle.jsonb_value.specs.Json.Characters.{all_blank}
use Rattle.jsonb_value.specs.Json.Piece.{pieces_meaning}
use Rattle.jsonb_value.specs.Json.Syntax.{Syntax, nothing, truth, numeral, string, empty_array}
use Rattle.jsonb_value.specs.Json.Syntax.{items, empty_object, members, Element, element, Items}
use Rattle.jsonb_value.specs.Json.Syntax.{no_item, next_item, Member, member, Members, no_member}
use Rattle.jsonb_value.specs.Json.Syntax.{next_member, Entries, pairs, insert_all}
use Rattle.jsonb_value.specs.Json.Syntax.{between, meaning, element_meaning, items_meaning}
use Rattle.jsonb_value.specs.Json.Syntax.{member_meaning, members_meaning, JsonText}
use Rattle.jsonb_value.proofs.ScanLaws.{level_within}
use Rattle.jsonb_value.proofs.Json.Scanned.{scanned}
use Rattle.jsonb_value.proofs.Json.Tests.{bind_then, cond_some, and_true, bool_cases}

-- ---- a tree is no deeper than what spells it

-- an entry that is put in is new, or in the place of one with an equal key
insert_depth : (es : Entries) (k : List ℕ) (t : Tree)
    → pair_depths (pairs (insert_entry (slice_cmp nat_cmp) es k t))
    ≤ max (pair_depths (pairs es)) (depth t)
insert_depth [] k t = omega arith
insert_depth (e ∷ es) k t = by (slice_cmp nat_cmp k e.0) refl (insert_depth es k t)
  where
    by : (o : _) → slice_cmp nat_cmp k e.0 ≡ o
        → pair_depths (pairs (insert_entry (slice_cmp nat_cmp) es k t))
        ≤ max (pair_depths (pairs es)) (depth t)
        → pair_depths (pairs (insert_entry (slice_cmp nat_cmp) (e ∷ es) k t))
        ≤ max (pair_depths (pairs (e ∷ es))) (depth t)
    by Less is more = rw is (omega arith)
    by Equal is more = rw is (omega arith)
    by Greater is more = rw is (omega arith)

inserted_depth : (front es : Entries) → pair_depths (pairs (insert_all front es))
    ≤ max (pair_depths (pairs front)) (pair_depths (pairs es))
inserted_depth front [] = omega arith
inserted_depth front (e ∷ es) =
    let one = insert_depth front e.0 e.1 in
    let more = inserted_depth (insert_entry (slice_cmp nat_cmp) front e.0 e.1) es in
    omega arith

pub some_depth : (a b : Tree) → Some a ≡ Some b → depth a ≡ depth b
some_depth a b e = let same : a ≡ b = cc in ap depth same

mutual
  syntax_deep : (rule : Exponents) (x : Syntax) (t : Tree) → meaning rule x ≡ Some t
      → depth t ≤ syntax_depth x
  syntax_deep rule nothing t e = grind arith
  syntax_deep rule (truth b) t e = grind arith
  syntax_deep rule (numeral n) t e = grind arith
  syntax_deep rule (string pieces) t e = grind arith
  syntax_deep rule (empty_array blank) t e = grind arith
  syntax_deep rule (empty_object blank) t e = grind arith
  syntax_deep rule (items x xs) t e =
      bind_then (element_meaning rule x) _ _ e (λ y is more.
      bind_then (items_meaning rule xs) _ _ more (λ ys are end.
      let same = some_depth _ t end in
      let first = element_deep rule x y is in
      let others = items_deep rule xs ys are in
      omega arith))
  syntax_deep rule (members x xs) t e =
      bind_then (member_meaning rule x) _ _ e (λ y is more.
      bind_then (members_meaning rule xs) _ _ more (λ ys are end.
      let same = some_depth _ t end in
      let first = member_deep rule x y is in
      let others = members_deep rule xs ys are in
      let put = inserted_depth [] (y ∷ ys) in
      omega arith))

  element_deep : (rule : Exponents) (x : Element) (t : Tree) → element_meaning rule x ≡ Some t
      → depth t ≤ element_depth x
  element_deep rule (element before x after) t e =
      syntax_deep rule x t (cond_some (all_blank before && all_blank after) (meaning rule x) t e).1

  items_deep : (rule : Exponents) (xs : Items) (ts : List Tree) → items_meaning rule xs ≡ Some ts
      → depths (trees_of ts) ≤ items_depth xs
  items_deep rule no_item ts e = grind arith
  items_deep rule (next_item x xs) ts e =
      bind_then (element_meaning rule x) _ _ e (λ y is more.
      bind_then (items_meaning rule xs) _ _ more (λ ys are end.
      let same : y ∷ ys ≡ ts = cc in
      let first = element_deep rule x y is in
      let others = items_deep rule xs ys are in
      rw (← same) (omega arith)))

  member_deep : (rule : Exponents) (m : Member) (e : List ℕ × Tree) → member_meaning rule m ≡ Some e
      → depth e.1 ≤ member_depth m
  member_deep rule (member before key after x) y e =
      bind_then (between before after (pieces_meaning key)) _ _ e (λ k is_key more.
      bind_then (element_meaning rule x) _ _ more (λ t is_value end.
      let value = element_deep rule x t is_value in
      let same : y.1 ≡ t = grind arith in
      rw same value))

  members_deep : (rule : Exponents) (ms : Members) (es : Entries)
      → members_meaning rule ms ≡ Some es
      → pair_depths (pairs es) ≤ members_depth ms
  members_deep rule no_member es e = grind arith
  members_deep rule (next_member x xs) es e =
      bind_then (member_meaning rule x) _ _ e (λ y is more.
      bind_then (members_meaning rule xs) _ _ more (λ ys are end.
      let same : y ∷ ys ≡ es = cc in
      let first = member_deep rule x y is in
      let others = members_deep rule xs ys are in
      rw (← same) (omega arith)))

-- ---- bytes are scanned as their characters

abbrev Wide : List ℕ → Type 0
Wide s = (k : ℕ) → k < length s → 128 ≤ get_or s k 0

wide_tail : (c : ℕ) (s : List ℕ) → Wide (c ∷ s) → Wide s
wide_tail c s h = λ k low. h (suc k) (omega arith)

-- a character past ASCII, as a code and by its bytes
abbrev after_wide : ScanState → ScanState
after_wide Outside = Outside
after_wide Inside = Inside
after_wide Escaped = Inside

wide_step : (state : ScanState) (level c : ℕ) (rest : List ℕ) → 128 ≤ c
    → greatest_level state level (c ∷ rest) ≡ greatest_level (after_wide state) level rest
wide_step Outside level c rest h = let low = level_within Outside level rest in
    grind (arith, nat_tests)
wide_step Inside level c rest h = let low = level_within Inside level rest in
    grind (arith, nat_tests)
wide_step Escaped level c rest h = let low = level_within Inside level rest in
    grind (arith, nat_tests)

wide_more : (state : ScanState) (level : ℕ) (s rest : List ℕ) → Wide s
    → greatest_level (after_wide state) level (s ++ rest)
    ≡ greatest_level (after_wide state) level rest
wide_more state level [] rest h = refl
wide_more Outside level (c ∷ s) rest h =
    wide_step Outside level c (s ++ rest) (h 0 (omega arith))
    ∙ wide_more Outside level s rest (wide_tail c s h)
wide_more Inside level (c ∷ s) rest h =
    wide_step Inside level c (s ++ rest) (h 0 (omega arith))
    ∙ wide_more Inside level s rest (wide_tail c s h)
wide_more Escaped level (c ∷ s) rest h =
    wide_step Inside level c (s ++ rest) (h 0 (omega arith))
    ∙ wide_more Inside level s rest (wide_tail c s h)

wide_all : (state : ScanState) (level : ℕ) (s rest : List ℕ) → 0 < length s → Wide s
    → greatest_level state level (s ++ rest) ≡ greatest_level (after_wide state) level rest
wide_all state level [] rest some h = absurd (omega arith)
wide_all state level (c ∷ s) rest some h =
    wide_step state level c (s ++ rest) (h 0 (omega arith))
    ∙ wide_more state level s rest (wide_tail c s h)

encoded_wide : (c : ℕ) → 128 ≤ c → Wide (encode_utf8 c)
encoded_wide c wide = λ k below.
    elim (bool_cases (nat_lt (get_or (encode_utf8 c) k 0) 128)) [
      | inl e ↦
          let ascii = ltb-true (get_or (encode_utf8 c) k 0) 128 e in
          let same =
          inside_one c [] (encode_utf8 c) k (sym (append-nil (encode_utf8 c))) below ascii in
          absurd (omega arith)
      | inr e ↦ ltb-false _ 128 e
    ]

encoded_some : (c : ℕ) → 0 < length (encode_utf8 c)
encoded_some c = grind (arith, nat_tests, length-encode)

characters_scanned : (cs : List ℕ) (state : ScanState) (level : ℕ) → scalars cs ≡ true
    → greatest_level state level (encode_utf8_all cs) ≡ greatest_level state level cs
characters_scanned [] state level e = refl
characters_scanned (c ∷ cs) state level e =
    let parts = and_true _ _ e in
    elim (bool_cases (nat_lt c 128)) [
      | inl small ↦
          ap (λ (s : List ℕ). greatest_level state level (s ++ encode_utf8_all cs))
          (encode_ascii c (ltb-true c 128 small))
          ∙ ap (λ (n : ℕ). max level n)
          (characters_scanned cs (state_after state c) (level_after state level c) parts.1)
      | inr e ↦
          let wide = ltb-false c 128 e in
          wide_all state level (encode_utf8 c) (encode_utf8_all cs) (encoded_some c)
          (encoded_wide c wide)
          ∙ characters_scanned cs (after_wide state) level parts.1
          ∙ sym (wide_step state level c cs wide)
    ]

pub bytes_scanned : (text : List ℕ) → IsUtf8 text → text_depth text ≡ text_depth (chars text)
bytes_scanned text utf8 =
    ap text_depth (sym (encodes-chars text utf8))
    ∙ characters_scanned (chars text) Outside 0 (scalars-chars text utf8)

pub depth_of_spelled : (rule : Exponents) (text : List ℕ) → IsUtf8 text
    → HasDepthOfSpelled rule text
depth_of_spelled rule text utf8 = λ syntax t spelled meant. (
  bytes_scanned text utf8 ∙ ap text_depth spelled ∙ scanned rule syntax t meant,
  element_deep rule syntax t meant,
)

pub spelled_within : (rule : Exponents) (text : List ℕ) (t : Tree) (limit : ℕ)
    → HasDepthOfSpelled rule text → JsonText rule (chars text) t → text_depth text ≤ limit
    → depth t ≤ limit
spelled_within rule text t limit nests json within =
    let is = nests json.syntax t json.is_spelled json.is_meant in
    let exact = is.0 in
    let most = is.1 in
    omega arith

abbrev pub failed : (A : Type 0) → ParseError → Result A ParseError
failed A r = Err r

-- a refusal at any depth has the reader's own error, and the text is not too deep
pub its_error : {A : Type 0} (read text : List ℕ) (r : ParseError) (e f : Error) (limit : ℕ)
    → read ≡ text → (limit < text_depth read → r ≡ TooDeep)
    → (text_depth read ≤ limit → r ≡ Refused e) → failed A r ≡ failed A (Refused f)
    → (text_depth text ≤ limit) × (e ≡ f)
its_error read text r e f limit is deep other same =
    elim (bool_cases (nat_lt limit (text_depth read))) [
      | inl h ↦ absurd (let far = deep (ltb-true limit (text_depth read) h) in let n : ⊥ = cc in n)
      | inr h ↦
          let near = ltb-false limit (text_depth read) h in
          let own = other near in
          (subst (λ (s : List ℕ). text_depth s ≤ limit) is near, cc)
    ]
