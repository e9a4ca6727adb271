-- What completes a text after a character completes it before, with the character in front.
use Rattle.std.proofs.Common.{◌≡◌, ℕ, inl, inr, Bool, true, false, cond, refl, sym, ap, ◌∙◌, subst}
use Rattle.std.proofs.Common.{List, [], ◌∷◌, ◌++◌, append_assoc, Option, Some, None, eqb-true}
use Rattle.std.specs.Prelude.{◌&&◌, ◌||◌, ◌==◌, nat_lt, nat_le, option_map}
use Rattle.jsonb_value.specs.Tree.{Tree, null, array, object, text, boolean, no_trees, tree}
use Rattle.jsonb_value.specs.Tree.{no_pairs}
use Rattle.jsonb_value.specs.Value.{trees_of}
use Rattle.jsonb_value.specs.declared.parser.number.Exponents.{Exponents}
use Rattle.jsonb_value.specs.declared.parser.number.Exponents.TheVariants.{Forbidden, Allowed}
use Rattle.jsonb_value.specs.Json.Characters.{quote, comma, colon, open_bracket, close_bracket}
use Rattle.jsonb_value.specs.Json.Characters.{open_brace, close_brace, is_blank, all_blank, minus}
use Rattle.jsonb_value.specs.Json.Characters.{is_exponent_mark}
use Rattle.jsonb_value.specs.Json.Piece.{pieces_text}
use Rattle.jsonb_value.specs.Json.Syntax.{Syntax, nothing, truth, string, empty_array, items}
use Rattle.jsonb_value.specs.Json.Syntax.{empty_object, members, element, no_item, next_item}
use Rattle.jsonb_value.specs.Json.Syntax.{member, no_member, next_member, element_text, items_text}
use Rattle.jsonb_value.specs.Json.Syntax.{member_text, members_text, meaning, element_meaning}
use Rattle.jsonb_value.specs.Json.Syntax.{items_meaning, member_meaning, members_meaning}
use Rattle.jsonb_value.specs.Json.Syntax.{syntax_text, pairs, insert_all, JsonText}
use Rattle.jsonb_value.proofs.Json.Tests.{and_true, and_both, by_true, bound, cond_some}
use Rattle.jsonb_value.proofs.Json.Tests.{chosen, some_same, no_error, bind_then}
use Rattle.json_fault.specs.declared.number.Part.{Part}
use Rattle.json_fault.specs.declared.number.Part.TheVariants.{Sign, Zero, Whole, Point, Fraction}
use Rattle.json_fault.specs.declared.number.Numeral.{Numeral}
use Rattle.json_fault.specs.declared.string.Place.{Place}
use Rattle.json_fault.specs.declared.string.Place.TheVariants.{Inside}
use Rattle.json_fault.specs.declared.expected.Bracket.{Bracket}
use Rattle.json_fault.specs.declared.expected.Bracket.TheVariants.{Array, Object}
use Rattle.json_fault.specs.declared.expected.Word.{Word}
use Rattle.json_fault.specs.declared.expected.Word.TheVariants.{Rue, Ue, E, Alse, Lse, Se, Ull, Ll}
use Rattle.json_fault.specs.declared.expected.Word.TheVariants.{L}
use Rattle.json_fault.specs.declared.expected.Expected.{Expected}
use Rattle.json_fault.specs.declared.expected.Expected.TheVariants.{Value, FirstItem, FirstKey}
use Rattle.json_fault.specs.declared.expected.Expected.TheVariants.{Key, Colon, Rest, Letters}
use Rattle.json_fault.specs.declared.expected.Expected.TheVariants.{Digits, ExponentSign}
use Rattle.json_fault.specs.declared.expected.Expected.TheVariants.{ExponentDigits, Content, Name}
use Rattle.json_fault.specs.declared.expected.Change.TheVariants.{Keep, Close}
use Rattle.json_fault.specs.Scan.{Move, keep, changed, innermost_bracket, followed, value_begun}
use Rattle.json_fault.specs.Scan.{number_first, number_begun, rest_begun, rest_followed, mark_begun}
use Rattle.json_fault.specs.Scan.{word_continued, is_viable, is_closed, number_continued}
use Rattle.json_fault.specs.Scan.{string_continued, limit, reaches, has_room_after, takes_exponent}
use Rattle.json_fault.specs.Scan.{mark_after, number_ended, is_complete, is_end, exponent_begun}
use Rattle.json_fault.specs.Scan.{exponent_continued}
use Rattle.json_fault.proofs.Conditions.{either_found}
use Rattle.json_fault.proofs.Endings.{SyntaxEnd, After, ValueEnd, StringEnd, ColonEnd, KeyEnd}
use Rattle.json_fault.proofs.Endings.{ItemsEnd, MembersEnd, Ends, Literal, letters, PlaceEnd}
use Rattle.json_fault.proofs.Endings.{NumberEnd, RestEnd, Completes}
use Rattle.json_fault.proofs.StringBack.{place_back, quote_back}
use Rattle.json_fault.proofs.ExponentBack.{sign_before, exponent_more, exponent_ends}
use Rattle.json_fault.proofs.NumberBack.{value_of_sign, sign_back, number_back, number_ends}

-- ---- white space

after_blank : (k : ℕ) (P : List ℕ → Type 0) (c : ℕ) (w : List ℕ) → is_blank c ≡ true → After k P w
    → After k P (c ∷ w)
after_blank k P c w is end = record {
  blank = c ∷ end.blank;
  is_blank = and_both _ _ is end.is_blank;
  rest = end.rest;
  is_spelled = ap (λ r. c ∷ r) end.is_spelled;
  ends = end.ends;
}

syntax_blank : {S M : Type 0} (spelling : S → List ℕ) (meaning_of : S → Option M)
    (P : List ℕ → Type 0) (c : ℕ) (w : List ℕ) → is_blank c ≡ true
    → SyntaxEnd spelling meaning_of P w → SyntaxEnd spelling meaning_of P (c ∷ w)
syntax_blank spelling meaning_of P c w is end = record {
  blank = c ∷ end.blank;
  is_blank = and_both _ _ is end.is_blank;
  syntax = end.syntax;
  value = end.value;
  is_meant = end.is_meant;
  rest = end.rest;
  is_spelled = ap (λ r. c ∷ r) end.is_spelled;
  ends = end.ends;
}

-- ---- items and members

-- an item or a member, and the rest of its container
record Front {A B S M : Type 0} (first_spelling : A → List ℕ) (first_meaning : A → Option B)
    (spelling : S → List ℕ) (meaning_of : S → Option M) (P : List ℕ → Type 0) (w : List ℕ)
    : Type 0 where
  first : A
  first_value : B
  others : S
  values : M
  first_meant : first_meaning first ≡ Some first_value
  others_meant : meaning_of others ≡ Some values
  rest : List ℕ
  is_spelled : w ≡ (first_spelling first ++ spelling others) ++ rest
  ends : P rest

regroup : (a s b t r : List ℕ) → a ++ (s ++ (b ++ (t ++ r))) ≡ ((a ++ (s ++ b)) ++ t) ++ r
regroup a s b t r = simp append_assoc

regroup_member : (a p b x s t ms r : List ℕ) (q k : ℕ)
    → a ++ q ∷ (p ++ q ∷ (b ++ k ∷ (x ++ (s ++ (t ++ (ms ++ r))))))
    ≡ ((a ++ ((q ∷ (p ++ q ∷ [])) ++ (b ++ k ∷ (x ++ (s ++ t))))) ++ ms) ++ r
regroup_member a p b x s t ms r q k = simp append_assoc

-- ---- at the front

-- syntax at the front
pub syntax_front : {S M : Type 0} (spelling : S → List ℕ) (meaning_of : S → Option M)
    (P : List ℕ → Type 0) (x : S) (y : M) (w rest : List ℕ) → meaning_of x ≡ Some y
    → w ≡ spelling x ++ rest → P rest → SyntaxEnd spelling meaning_of P w
syntax_front spelling meaning_of P x y w rest is spelled end = record {
  blank = [];
  is_blank = refl;
  syntax = x;
  value = y;
  is_meant = is;
  rest = rest;
  is_spelled = spelled;
  ends = end;
}

-- the same with its first character
syntax_from : {S M : Type 0} (spelling : S → List ℕ) (meaning_of : S → Option M)
    (P : List ℕ → Type 0) (x : S) (y : M) (k c : ℕ) (s w rest : List ℕ) → (c == k) ≡ true
    → spelling x ≡ k ∷ s → meaning_of x ≡ Some y → w ≡ s ++ rest → P rest
    → SyntaxEnd spelling meaning_of P (c ∷ w)
syntax_from spelling meaning_of P x y k c s w rest first spelled is split end =
    syntax_front spelling meaning_of P x y (c ∷ w) rest is
    (ap (λ d. d ∷ w) (eqb-true c k first) ∙ ap (λ r. k ∷ r) split
    ∙ ap (λ r. r ++ rest) (sym spelled))
    end

pub mark_back : (k : ℕ) (P : List ℕ → Type 0) (c : ℕ) (w : List ℕ) → c ≡ k → P w → After k P (c ∷ w)
mark_back k P c w is end = record {
  blank = [];
  is_blank = refl;
  rest = w;
  is_spelled = ap (λ x. x ∷ w) is;
  ends = end;
}

letter_back : (P : List ℕ → Type 0) (k c : ℕ) (ks w : List ℕ) → c ≡ k → Literal ks P w
    → Literal (k ∷ ks) P (c ∷ w)
letter_back P k c ks w is l = record {
  rest = l.rest;
  is_spelled = ap (λ x. x ∷ w) is ∙ ap (λ r. k ∷ r) l.is_spelled;
  ends = l.ends;
}

-- a quote closes a string only inside
closing : (P : List ℕ → Type 0) (place : Place) (c : ℕ) (w : List ℕ) → is_closed place c ≡ true
    → P w → PlaceEnd place P (c ∷ w)
closing P Inside c w e end = rw (eqb-true c quote e) (quote_back P w end)
closing P _ c w e end = absurd (let h : ⊥ = cc in h)

-- ---- numbers that the format may still hold

-- The exponent may still come into its range, which is not empty.
abbrev pub can_end : ℕ → ℕ → Option ℕ → Bool
can_end value least None = true
can_end value least (Some greatest) = nat_le least greatest && reaches value least greatest

-- The number may still be one that the format holds.
abbrev pub is_live : Exponents → Expected → Bool
is_live rule (Digits n) = is_viable rule n
is_live rule (ExponentSign n) = nat_lt n.magnitude (limit n.is_negative)
is_live rule (ExponentDigits x) =
    (x.has_digits || (x.value == 0)) && can_end x.value x.least x.greatest
is_live rule _ = true

pub exponent_taken : (rule : Exponents) (n : Numeral) → takes_exponent rule n ≡ true
    → (rule ≡ Allowed) × (is_end n.part ≡ true)
exponent_taken Forbidden n e = absurd (let h : ⊥ = cc in h)
exponent_taken Allowed n e = (refl, e)

-- the magnitude of a number whose digits may end
pub viable_magnitude : (rule : Exponents) (p : Part) (b : Bool) (m k : ℕ) → is_end p ≡ true
    → has_room_after rule p b m k ≡ true → nat_lt m (limit b) ≡ true
viable_magnitude rule Sign b m k end e = absurd (let h : ⊥ = cc in h)
viable_magnitude rule Point b m k end e = absurd (let h : ⊥ = cc in h)
viable_magnitude rule Zero b m k end e = (and_true _ _ e).0
viable_magnitude rule Whole b m k end e = (and_true _ _ e).0
viable_magnitude rule Fraction b m k end e = (and_true _ _ e).0

-- ---- a step

module _ (rule : Exponents) where
  ends_blank : (bs : List Bracket) (c : ℕ) (w : List ℕ) → is_blank c ≡ true → Ends rule bs w
      → Ends rule bs (c ∷ w)
  unfolding Ends
  ends_blank [] c w is end = and_both _ _ is end
  ends_blank (Array ∷ bs) c w is end =
      syntax_blank items_text (items_meaning rule) (Ends rule bs) c w is end
  ends_blank (Object ∷ bs) c w is end =
      syntax_blank members_text (members_meaning rule) (Ends rule bs) c w is end

  element_is : (before after : List ℕ) (x : Syntax) (t : Tree) → all_blank before ≡ true
      → all_blank after ≡ true → meaning rule x ≡ Some t
      → element_meaning rule (element before x after) ≡ Some t
  element_is before after x t front back is = by_true _ _ _ _ (and_both _ _ front back) is

  items_front : (P : List ℕ → Type 0) (w : List ℕ) → ValueEnd rule (ItemsEnd rule P) w
      → Front element_text (element_meaning rule) items_text (items_meaning rule) P w
  items_front P w v =
      let i = v.ends in
      record {
        first = element v.blank v.syntax i.blank;
        first_value = v.value;
        others = i.syntax;
        values = i.value;
        first_meant = element_is v.blank i.blank v.syntax v.value v.is_blank i.is_blank v.is_meant;
        others_meant = i.is_meant;
        rest = i.rest;
        is_spelled = v.is_spelled ∙ ap (λ r. v.blank ++ (syntax_text v.syntax ++ r)) i.is_spelled
            ∙ regroup v.blank (syntax_text v.syntax) i.blank (items_text i.syntax) i.rest;
        ends = i.ends;
      }

  members_front : (P : List ℕ → Type 0) (w : List ℕ) → KeyEnd rule (MembersEnd rule P) w
      → Front member_text (member_meaning rule) members_text (members_meaning rule) P w
  members_front P w k =
      let s = k.ends in
      let a = s.ends in
      let v = a.ends in
      let i = v.ends in
      record {
        first = member k.blank s.pieces a.blank (element v.blank v.syntax i.blank);
        first_value = (s.bytes, v.value);
        others = i.syntax;
        values = i.value;
        first_meant = bound _ _ _ s.bytes
            (by_true _ _ _ _ (and_both _ _ k.is_blank a.is_blank) s.is_meant)
            (bound _ _ _ v.value
            (element_is v.blank i.blank v.syntax v.value v.is_blank i.is_blank v.is_meant) refl);
        others_meant = i.is_meant;
        rest = i.rest;
        is_spelled = k.is_spelled
            ∙ ap (λ r. k.blank ++ quote ∷ r) (s.is_spelled
            ∙ ap (λ r. pieces_text s.pieces ++ quote ∷ r) (a.is_spelled
            ∙ ap (λ r. a.blank ++ colon ∷ r) (v.is_spelled
            ∙ ap (λ r. v.blank ++ (syntax_text v.syntax ++ r)) i.is_spelled)))
            ∙ regroup_member k.blank (pieces_text s.pieces) a.blank v.blank (syntax_text v.syntax)
            i.blank (members_text i.syntax) i.rest quote colon;
        ends = i.ends;
      }

  -- ---- values

  value_from : (P : List ℕ → Type 0) (x : Syntax) (t : Tree) (k c : ℕ) (s w rest : List ℕ)
      → (c == k) ≡ true → syntax_text x ≡ k ∷ s → meaning rule x ≡ Some t → w ≡ s ++ rest
      → P rest
      → ValueEnd rule P (c ∷ w)
  value_from P x t k c s w rest first spelled is split end =
      syntax_from syntax_text (meaning rule) P x t k c s w rest first spelled is split end

  string_value : (P : List ℕ → Type 0) (c : ℕ) (w : List ℕ) → (c == quote) ≡ true
      → StringEnd P w → ValueEnd rule P (c ∷ w)
  string_value P c w first s =
      value_from P (string s.pieces) (text s.bytes) quote c _ w s.rest first refl
      (ap (option_map text) s.is_meant)
      (s.is_spelled ∙ sym (append_assoc (pieces_text s.pieces) (quote ∷ []) s.rest)) s.ends

  array_value : (bs : List Bracket) (c : ℕ) (w : List ℕ) → (c == open_bracket) ≡ true
      → Completes rule FirstItem (Array ∷ bs) w → ValueEnd rule (Ends rule bs) (c ∷ w)
  unfolding Ends
  array_value bs c w first end = elim end [
    | inl a ↦
        value_from (Ends rule bs) (empty_array a.blank) (array no_trees) open_bracket c _ w a.rest
        first refl (by_true _ _ _ _ (and_both _ _ a.is_blank refl) refl)
        (a.is_spelled ∙ sym (append_assoc a.blank (close_bracket ∷ []) a.rest)) a.ends
    | inr v ↦
        let f = items_front (Ends rule bs) w v in
        value_from (Ends rule bs) (items f.first f.others)
        (array (tree f.first_value (trees_of f.values))) open_bracket c _ w f.rest first refl
        (bound _ _ _ _ f.first_meant (bound _ _ _ _ f.others_meant refl)) f.is_spelled f.ends
  ]

  object_value : (bs : List Bracket) (c : ℕ) (w : List ℕ) → (c == open_brace) ≡ true
      → Completes rule FirstKey (Object ∷ bs) w → ValueEnd rule (Ends rule bs) (c ∷ w)
  unfolding Ends
  object_value bs c w first end = elim end [
    | inl a ↦
        value_from (Ends rule bs) (empty_object a.blank) (object no_pairs) open_brace c _ w a.rest
        first refl (by_true _ _ _ _ (and_both _ _ a.is_blank refl) refl)
        (a.is_spelled ∙ sym (append_assoc a.blank (close_brace ∷ []) a.rest)) a.ends
    | inr v ↦
        let f = members_front (Ends rule bs) w v in
        value_from (Ends rule bs) (members f.first f.others)
        (object (pairs (insert_all [] (f.first_value ∷ f.values)))) open_brace c _ w f.rest first
        refl
        (bound _ _ _ _ f.first_meant (bound _ _ _ _ f.others_meant refl)) f.is_spelled f.ends
  ]

  -- what completes a text after a step
  abbrev pub Goes : Move → List Bracket → List ℕ → Type 0
  Goes m bs w = Completes rule m.0 (changed m.1 bs) w

  -- the step is known
  known : (m n : Move) (bs : List Bracket) (w : List ℕ) → Some m ≡ Some n → Goes n bs w
      → Goes m bs w
  known m n bs w e end = subst (λ (x : Move). Goes x bs w) (sym (some_same m n e)) end

  number_value : (bs : List Bracket) (m : Move) (c : ℕ) (w : List ℕ) → number_first c ≡ Some m
      → Goes m bs w → ValueEnd rule (Ends rule bs) (c ∷ w)
  number_value bs m c w e end = elim (chosen (c == minus) _ _ _ e) [
    | inl is ↦
        rw (eqb-true c minus is.0)
        (value_of_sign rule (Ends rule bs) true w (known _ m bs w is.1 end))
    | inr other ↦ bind_then (number_begun false c) _ _ other.1 (λ n first more.
        value_of_sign rule (Ends rule bs) false (c ∷ w)
        (sign_back (λ b. RestEnd rule b (Ends rule bs)) false n c w first
        (known (Digits n, Keep) m bs w more end)))
  ]

  word_begun : (bs : List Bracket) (m : Move) (c : ℕ) (w : List ℕ)
      → cond (c == 116) (keep (Letters Rue)) (cond (c == 102) (keep (Letters Alse))
      (cond (c == 110) (keep (Letters Ull)) (number_first c))) ≡ Some m
      → Goes m bs w → ValueEnd rule (Ends rule bs) (c ∷ w)
  word_begun bs m c w e end = elim (chosen (c == 116) _ _ _ e) [
    | inl is ↦
        let l = known _ m bs w is.1 end in
        value_from (Ends rule bs) (truth true) (boolean true) 116 c _ w l.rest is.0 refl refl
        l.is_spelled
        l.ends
    | inr other ↦ elim (chosen (c == 102) _ _ _ other.1) [
      | inl is ↦
          let l = known _ m bs w is.1 end in
          value_from (Ends rule bs) (truth false) (boolean false) 102 c _ w l.rest is.0 refl refl
          l.is_spelled l.ends
      | inr other ↦ elim (chosen (c == 110) _ _ _ other.1) [
        | inl is ↦
            let l = known _ m bs w is.1 end in
            value_from (Ends rule bs) nothing null 110 c _ w l.rest is.0 refl refl l.is_spelled
            l.ends
        | inr other ↦ number_value bs m c w other.1 end
      ]
    ]
  ]

  value_back : (bs : List Bracket) (m : Move) (c : ℕ) (w : List ℕ) → value_begun c ≡ Some m
      → Goes m bs w → ValueEnd rule (Ends rule bs) (c ∷ w)
  value_back bs m c w e end = elim (chosen (c == quote) _ _ _ e) [
    | inl is ↦ string_value (Ends rule bs) c w is.0 (known _ m bs w is.1 end)
    | inr other ↦ elim (chosen (c == open_bracket) _ _ _ other.1) [
      | inl is ↦ array_value bs c w is.0 (known _ m bs w is.1 end)
      | inr other ↦ elim (chosen (c == open_brace) _ _ _ other.1) [
        | inl is ↦ object_value bs c w is.0 (known _ m bs w is.1 end)
        | inr other ↦ word_begun bs m c w other.1 end
      ]
    ]
  ]

  array_back : (bs : List Bracket) (m : Move) (c : ℕ) (w : List ℕ)
      → rest_begun (Some Array) c ≡ Some m → Goes m (Array ∷ bs) w
      → ItemsEnd rule (Ends rule bs) (c ∷ w)
  unfolding Ends
  array_back bs m c w e end = elim (chosen (c == close_bracket) _ _ _ e) [
    | inl is ↦
        syntax_from items_text (items_meaning rule)
        (Ends rule bs) no_item [] close_bracket c _ w w is.0 refl refl
        refl (known _ m (Array ∷ bs) w is.1 end)
    | inr other ↦
        let both = cond_some _ _ _ other.1 in
        let f = items_front (Ends rule bs) w (known _ m (Array ∷ bs) w both.1 end) in
        syntax_from items_text (items_meaning rule) (Ends rule bs) (next_item f.first f.others)
        (f.first_value ∷ f.values) comma c _ w f.rest both.0 refl
        (bound _ _ _ _ f.first_meant (bound _ _ _ _ f.others_meant refl)) f.is_spelled f.ends
  ]

  object_back : (bs : List Bracket) (m : Move) (c : ℕ) (w : List ℕ)
      → rest_begun (Some Object) c ≡ Some m → Goes m (Object ∷ bs) w
      → MembersEnd rule (Ends rule bs) (c ∷ w)
  unfolding Ends
  object_back bs m c w e end = elim (chosen (c == close_brace) _ _ _ e) [
    | inl is ↦
        syntax_from members_text (members_meaning rule)
        (Ends rule bs) no_member [] close_brace c _ w w is.0 refl
        refl refl (known _ m (Object ∷ bs) w is.1 end)
    | inr other ↦
        let both = cond_some _ _ _ other.1 in
        let f = members_front (Ends rule bs) w (known _ m (Object ∷ bs) w both.1 end) in
        syntax_from members_text (members_meaning rule) (Ends rule bs)
        (next_member f.first f.others)
        (f.first_value ∷ f.values) comma c _ w f.rest both.0 refl
        (bound _ _ _ _ f.first_meant (bound _ _ _ _ f.others_meant refl)) f.is_spelled f.ends
  ]

  rest_back : (bs : List Bracket) (m : Move) (c : ℕ) (w : List ℕ)
      → rest_begun (innermost_bracket bs) c ≡ Some m → Goes m bs w → Ends rule bs (c ∷ w)
  unfolding Ends
  rest_back [] m c w e end = no_error e
  rest_back (Array ∷ bs) m c w e end = array_back bs m c w e end
  rest_back (Object ∷ bs) m c w e end = object_back bs m c w e end

  after_value : (bs : List Bracket) (m : Move) (c : ℕ) (w : List ℕ)
      → rest_followed (innermost_bracket bs) c ≡ Some m → Goes m bs w → Ends rule bs (c ∷ w)
  after_value bs m c w e end = elim (chosen (is_blank c) _ _ _ e) [
    | inl is ↦ ends_blank bs c w is.0 (known _ m bs w is.1 end)
    | inr other ↦ rest_back bs m c w other.1 end
  ]

  more_letters : (bs : List Bracket) (m : Move) (word : Word) (k c : ℕ) (w : List ℕ)
      → mark_begun c k (Letters word) ≡ Some m → Goes m bs w
      → Literal (k ∷ letters word) (Ends rule bs) (c ∷ w)
  more_letters bs m word k c w e end =
      let both = cond_some _ _ _ e in
      letter_back (Ends rule bs) k c (letters word) w (eqb-true c k both.0)
      (known _ m bs w both.1 end)

  no_letters : (bs : List Bracket) (m : Move) (k c : ℕ) (w : List ℕ) → mark_begun c k Rest ≡ Some m
      → Goes m bs w → Literal (k ∷ []) (Ends rule bs) (c ∷ w)
  no_letters bs m k c w e end =
      let both = cond_some _ _ _ e in
      letter_back (Ends rule bs) k c [] w (eqb-true c k both.0)
      (record { rest = w; is_spelled = refl; ends = known _ m bs w both.1 end })

  word_back : (bs : List Bracket) (m : Move) (word : Word) (c : ℕ) (w : List ℕ)
      → word_continued word c ≡ Some m → Goes m bs w → Literal (letters word) (Ends rule bs) (c ∷ w)
  word_back bs m Rue c w e end = more_letters bs m Ue 114 c w e end
  word_back bs m Ue c w e end = more_letters bs m E 117 c w e end
  word_back bs m E c w e end = no_letters bs m 101 c w e end
  word_back bs m Alse c w e end = more_letters bs m Lse 97 c w e end
  word_back bs m Lse c w e end = more_letters bs m Se 108 c w e end
  word_back bs m Se c w e end = more_letters bs m E 115 c w e end
  word_back bs m Ull c w e end = more_letters bs m Ll 117 c w e end
  word_back bs m Ll c w e end = more_letters bs m L 108 c w e end
  word_back bs m L c w e end = no_letters bs m 108 c w e end

  -- the mark of an exponent
  marked : (bs : List Bracket) (n : Numeral) (m : Move) (c : ℕ) (w : List ℕ)
      → mark_after rule n c ≡ Some m → Goes m bs w
      → NumberEnd n.part n.magnitude n.scale (RestEnd rule n.is_negative (Ends rule bs)) (c ∷ w)
  marked bs n m c w e end =
      let both = cond_some _ _ _ e in
      let tests = and_true (takes_exponent rule n) (is_exponent_mark c) both.0 in
      let takes = exponent_taken rule n tests.0 in
      number_ends (RestEnd rule n.is_negative (Ends rule bs)) n.part n.magnitude n.scale (c ∷ w)
      takes.1
      (inr (record {
        is_allowed = takes.0;
        mark = c;
        is_mark = tests.1;
        rest = w;
        is_spelled = refl;
        ends = known (ExponentSign n, Keep) m bs w both.1 end;
      }))

  -- the end of a number without an exponent
  ended : (bs : List Bracket) (n : Numeral) (m : Move) (c : ℕ) (w : List ℕ)
      → number_ended (is_complete n) (innermost_bracket bs) c ≡ Some m → is_viable rule n ≡ true
      → Goes m bs w
      → NumberEnd n.part n.magnitude n.scale (RestEnd rule n.is_negative (Ends rule bs)) (c ∷ w)
  ended bs n m c w e live end =
      let both = cond_some (is_complete n) _ _ e in
      let complete = and_true (is_end n.part) (nat_lt n.scale 256) both.0 in
      let room = viable_magnitude rule n.part n.is_negative n.magnitude n.scale complete.0 live in
      number_ends (RestEnd rule n.is_negative (Ends rule bs)) n.part n.magnitude n.scale (c ∷ w)
      complete.0
      (inl (and_both _ _ room complete.1, after_value bs m c w both.1 end))

  pub step_back : (e : Expected) (bs : List Bracket) (m : Move) (c : ℕ) (w : List ℕ)
      → followed rule e (innermost_bracket bs) c ≡ Some m → is_live rule e ≡ true → Goes m bs w
      → Completes rule e bs (c ∷ w)
  step_back Value bs m c w e live end = elim (chosen (is_blank c) _ _ _ e) [
    | inl is ↦ syntax_blank syntax_text (meaning rule) (Ends rule bs) c w is.0
        (known _ m bs w is.1 end)
    | inr other ↦ value_back bs m c w other.1 end
  ]
  step_back FirstItem bs m c w e live end = elim (chosen (is_blank c) _ _ _ e) [
    | inl is ↦ elim (known (FirstItem, Keep) m bs w is.1 end) [
      | inl a ↦ inl (after_blank close_bracket _ c w is.0 a)
      | inr v ↦ inr (syntax_blank syntax_text (meaning rule) (Ends rule bs) c w is.0 v)
    ]
    | inr other ↦ elim (chosen (c == close_bracket) _ _ _ other.1) [
      | inl is ↦ inl (mark_back close_bracket _ c w (eqb-true c close_bracket is.0)
          (known (Rest, Close) m bs w is.1 end))
      | inr other ↦ inr (value_back bs m c w other.1 end)
    ]
  ]
  step_back FirstKey bs m c w e live end = elim (chosen (is_blank c) _ _ _ e) [
    | inl is ↦ elim (known (FirstKey, Keep) m bs w is.1 end) [
      | inl a ↦ inl (after_blank close_brace _ c w is.0 a)
      | inr k ↦ inr (after_blank quote _ c w is.0 k)
    ]
    | inr other ↦ elim (chosen (c == close_brace) _ _ _ other.1) [
      | inl is ↦ inl (mark_back close_brace _ c w (eqb-true c close_brace is.0)
          (known (Rest, Close) m bs w is.1 end))
      | inr other ↦
          let both = cond_some _ _ _ other.1 in
          inr (mark_back quote _ c w (eqb-true c quote both.0)
          (known (Name Inside, Keep) m bs w both.1 end))
    ]
  ]
  step_back Key bs m c w e live end = elim (chosen (is_blank c) _ _ _ e) [
    | inl is ↦ after_blank quote _ c w is.0 (known (Key, Keep) m bs w is.1 end)
    | inr other ↦
        let both = cond_some _ _ _ other.1 in
        mark_back quote _ c w (eqb-true c quote both.0)
        (known (Name Inside, Keep) m bs w both.1 end)
  ]
  step_back Colon bs m c w e live end = elim (chosen (is_blank c) _ _ _ e) [
    | inl is ↦ after_blank colon _ c w is.0 (known (Colon, Keep) m bs w is.1 end)
    | inr other ↦
        let both = cond_some _ _ _ other.1 in
        mark_back colon _ c w (eqb-true c colon both.0) (known (Value, Keep) m bs w both.1 end)
  ]
  step_back Rest bs m c w e live end = after_value bs m c w e end
  step_back (Letters word) bs m c w e live end = word_back bs m word c w e end
  step_back (Digits n) bs m c w e live end = elim (either_found _ _ _ e) [
    | inl is ↦ bind_then (number_continued rule n c) _ _ is (λ k more last.
        number_back (λ b. RestEnd rule b (Ends rule bs)) rule n.is_negative n.part n.magnitude
        n.scale k c w more (known (Digits k, Keep) m bs w last end))
    | inr other ↦ elim (either_found _ _ _ other.1) [
      | inl is ↦ marked bs n m c w is end
      | inr last ↦ ended bs n m c w last.1 live end
    ]
  ]
  step_back (ExponentSign n) bs m c w e live end =
      bind_then (exponent_begun n c) _ _ e (λ x is last.
      sign_before (Ends rule bs) n live x c w is (known (ExponentDigits x, Keep) m bs w last end))
  step_back (ExponentDigits x) bs m c w e live end = elim (either_found _ _ _ e) [
    | inl is ↦ bind_then (exponent_continued x c) _ _ is (λ y more last.
        exponent_more (Ends rule bs) x.has_digits x.value x.least x.greatest y c w more
        (known (ExponentDigits y, Keep) m bs w last end))
    | inr other ↦
        let both = cond_some _ _ _ other.1 in
        exponent_ends (Ends rule bs) x (c ∷ w) both.0 (after_value bs m c w both.1 end)
  ]
  step_back (Content place) bs m c w e live end = elim (chosen (is_closed place c) _ _ _ e) [
    | inl is ↦ closing (Ends rule bs) place c w is.0 (known (Rest, Keep) m bs w is.1 end)
    | inr other ↦ bind_then (string_continued place c) _ _ other.1 (λ q more last.
        place_back (Ends rule bs) place q c w more (known (Content q, Keep) m bs w last end))
  ]
  step_back (Name place) bs m c w e live end = elim (chosen (is_closed place c) _ _ _ e) [
    | inl is ↦
        closing (ColonEnd rule (Ends rule bs)) place c w is.0 (known (Colon, Keep) m bs w is.1 end)
    | inr other ↦ bind_then (string_continued place c) _ _ other.1 (λ q more last.
        place_back (ColonEnd rule (Ends rule bs)) place q c w more
        (known (Name q, Keep) m bs w last end))
  ]

  -- what is expected at first completes to a whole text
  pub whole_text : (s : List ℕ) → Completes rule Value [] s → (t : Tree) × JsonText rule s t
  unfolding Ends
  whole_text s v = (
    v.value,
    record {
      syntax = element v.blank v.syntax v.rest;
      is_spelled = v.is_spelled;
      is_meant = element_is v.blank v.rest v.syntax v.value v.is_blank v.ends v.is_meant;
    },
  )
