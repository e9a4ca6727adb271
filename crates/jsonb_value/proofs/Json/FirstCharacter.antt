-- The first character of a value tells its kind.
use Rattle.std.proofs.Common.{◌≡◌, ℕ, true, false, refl, sym, ap, ◌∙◌, arith, List, [], ◌∷◌}
use Rattle.std.proofs.Common.{◌++◌, Option, Some, None, append_assoc}
use Rattle.std.specs.Prelude.{◌&&◌, option_map, is_some}
use Rattle.std.proofs.lemmas.Bool.{true≢false}
use Rattle.jsonb_value.specs.declared.parser.number.Exponents.{Exponents}
use Rattle.jsonb_value.specs.Depth.{depth}
use Rattle.jsonb_value.specs.Tree.{Tree, null, boolean, number, text, extension, array, object}
use Rattle.jsonb_value.specs.Json.Characters.{all_blank, quote, open_bracket, open_brace}
use Rattle.jsonb_value.specs.Json.Numeral.{numeral_text, fraction_text, exponent_text, sign_text}
use Rattle.jsonb_value.specs.Json.Syntax.{Syntax, nothing, truth, numeral, string, empty_array}
use Rattle.jsonb_value.specs.Json.Syntax.{items, empty_object, members, Element, element}
use Rattle.jsonb_value.specs.Json.Syntax.{syntax_text, element_text, meaning, element_meaning}
use Rattle.jsonb_value.specs.Json.Syntax.{JsonText}
use Rattle.jsonb_value.specs.Reader.Reading.{skip_blank, expect, Kind, kind_begun, null_kind}
use Rattle.jsonb_value.specs.Reader.Reading.{true_kind, false_kind, string_kind, number_kind}
use Rattle.jsonb_value.specs.Reader.Reading.{array_kind, object_kind}
use Rattle.jsonb_value.proofs.Json.Tests.{cond_some, and_true}
use Rattle.jsonb_value.proofs.Json.ValueLaws.{expect-found}
use Rattle.jsonb_value.proofs.Json.SpelledLaws.{BeginsNumber, numeral_begins, option_some}
use Rattle.jsonb_value.proofs.Json.SpelledLaws.{value_begins, skip-begins, skip-append}

-- The kind of a tree. An extension value has none, since no text spells one.
abbrev tree_kind : Tree → Option Kind
tree_kind null = Some null_kind
tree_kind (boolean true) = Some true_kind
tree_kind (boolean false) = Some false_kind
tree_kind (number x) = Some number_kind
tree_kind (text s) = Some string_kind
tree_kind (extension e) = None
tree_kind (array ts) = Some array_kind
tree_kind (object ps) = Some object_kind

-- The kind that the first character tells.
abbrev first_kind : List ℕ → Option Kind
first_kind [] = None
first_kind (c ∷ s) = Some (kind_begun c)

number_first : (s : List ℕ) → BeginsNumber s → first_kind s ≡ Some number_kind
number_first [] begins = absurd begins
number_first (c ∷ s) begins = ap (λ k. Some k) begins

syntax_kind : (rule : Exponents) (x : Syntax) (t : Tree) (rest : List ℕ) → meaning rule x ≡ Some t
    → first_kind (syntax_text x ++ rest) ≡ tree_kind t
syntax_kind rule nothing t rest e = grind arith
syntax_kind rule (truth true) t rest e = grind arith
syntax_kind rule (truth false) t rest e = grind arith
syntax_kind rule (numeral n) t rest e =
    let more = fraction_text n.fraction ++ (exponent_text n.exponent ++ rest) in
    let split : numeral_text n ++ rest ≡ sign_text n.is_negative ++ (n.whole ++ more) =
    simp append_assoc in
    let begins = numeral_begins n.is_negative n.whole more (grind arith) in
    let value = option_some number _ t e in
    ap first_kind split ∙ number_first _ begins.1 ∙ ap tree_kind value.2
syntax_kind rule (string pieces) t rest e =
    let value = option_some text _ t e in
    ap tree_kind value.2
syntax_kind rule (empty_array blank) t rest e = grind arith
syntax_kind rule (items x xs) t rest e = grind arith
syntax_kind rule (empty_object blank) t rest e = grind arith
syntax_kind rule (members m ms) t rest e = grind arith

element_kind : (rule : Exponents) (x : Element) (t : Tree) → element_meaning rule x ≡ Some t
    → first_kind (skip_blank (element_text x)) ≡ tree_kind t
element_kind rule (element before x after) t e =
    let is = cond_some (all_blank before && all_blank after) (meaning rule x) t e in
    let blank = and_true _ _ is.0 in
    ap first_kind (skip-append before (syntax_text x ++ after) blank.0
    ∙ (skip-begins (syntax_text x) after (value_begins rule x t is.1)).0)
    ∙ syntax_kind rule x t after is.1

kind_told : (rule : Exponents) (s : List ℕ) (t : Tree) → JsonText rule s t
    → first_kind (skip_blank s) ≡ tree_kind t
kind_told rule s t json =
    ap (λ q. first_kind (skip_blank q)) json.is_spelled
    ∙ element_kind rule json.syntax t json.is_meant

-- A scalar is neither an array nor an object.
module _ (e : Option Kind) where
  scalar_kind : (t : Tree) → depth t ≡ 0 → e ≡ tree_kind t → ((e ≡ Some array_kind) → ⊥)
      × ((e ≡ Some object_kind) → ⊥)
  scalar_kind (array ts) shallow is = absurd (omega (arith, shallow))
  scalar_kind (object ps) shallow is = absurd (omega (arith, shallow))
  scalar_kind (boolean true) shallow is = (λ a. cc, λ o. cc)
  scalar_kind (boolean false) shallow is = (λ a. cc, λ o. cc)
  scalar_kind t shallow is = (λ a. cc, λ o. cc)

scalar_told : (s : List ℕ) (t : Tree) → expect open_bracket s ≡ None → expect open_brace s ≡ None
    → first_kind s ≡ tree_kind t → depth t ≡ 0
scalar_told [] (array ts) no_bracket no_brace told = absurd (cc)
scalar_told [] (object ps) no_bracket no_brace told = absurd (cc)
scalar_told (c ∷ s) (array ts) no_bracket no_brace told = absurd (grind arith)
scalar_told (c ∷ s) (object ps) no_bracket no_brace told = absurd (grind arith)
scalar_told s t no_bracket no_brace told = refl

no_quote : (s : List ℕ) → expect quote s ≡ None → first_kind s ≡ Some string_kind → ⊥
no_quote [] other told = cc
no_quote (c ∷ s) other told = grind arith

none_mapped : {A B : Type 0} (f : A → B) (o : Option A) (e : Option B) → option_map f o ≡ e
    → is_some o ≡ false → e ≡ None
none_mapped f None e same none = sym same
none_mapped f (Some x) e same none = absurd (true≢false none)

some_mapped : {A B : Type 0} (f : A → B) (o : Option A) (e : Option B) → option_map f o ≡ e
    → is_some o ≡ true → (y : B) × (e ≡ Some y)
some_mapped f None e same some = absurd (true≢false (sym some))
some_mapped f (Some x) e same some = (f x, sym same)

-- The rest of the text s after its white space and an expected character, if there is a rest.
module _ (rule : Exponents) {A : Type 0} (f : A → List ℕ) (s begun : List ℕ)
    (skipped : begun ≡ skip_blank s) where
  begins : (k : ℕ) (o : Option A) → option_map f o ≡ expect k begun → is_some o ≡ true
      → (t : Tree) → JsonText rule s t → Some (kind_begun k) ≡ tree_kind t
  begins k o same some t json =
      let rest = some_mapped f o _ same some in
      sym (ap first_kind (expect-found k begun rest.0 rest.1)) ∙ ap first_kind skipped
      ∙ kind_told rule s t json

  pub no_array : (o : Option A) → option_map f o ≡ expect open_bracket begun → is_some o ≡ true
      → (t : Tree) → JsonText rule s t → depth t ≡ 0 → ⊥
  no_array o same some t json shallow =
      (scalar_kind _ t shallow (begins open_bracket o same some t json)).0 refl

  pub no_object : (o : Option A) → option_map f o ≡ expect open_brace begun → is_some o ≡ true
      → (t : Tree) → JsonText rule s t → depth t ≡ 0 → ⊥
  no_object o same some t json shallow =
      (scalar_kind _ t shallow (begins open_brace o same some t json)).1 refl

  pub scalar : (o p : Option A) → option_map f o ≡ expect open_bracket begun → is_some o ≡ false
      → option_map f p ≡ expect open_brace begun → is_some p ≡ false → (t : Tree)
      → JsonText rule s t → depth t ≡ 0
  scalar o p bracket no_bracket brace no_brace t json =
      scalar_told begun t (none_mapped f o _ bracket no_bracket) (none_mapped f p _ brace no_brace)
      (ap first_kind skipped ∙ kind_told rule s t json)

  pub no_string : (o : Option A) → option_map f o ≡ expect quote begun → is_some o ≡ false
      → (own : List ℕ) → JsonText rule s (text own) → ⊥
  no_string o same none own json = no_quote begun (none_mapped f o _ same none)
      (ap first_kind skipped ∙ kind_told rule s (text own) json)
