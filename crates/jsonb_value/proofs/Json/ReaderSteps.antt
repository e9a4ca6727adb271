-- What each step of the reader does to where it stands.
use Rattle.std.proofs.Common.{◌≡◌, ℕ, zero, suc, ◌<◌, ◌≤◌, refl, sym, ap, ◌∙◌, List, [], ◌∷◌, ◌++◌}
use Rattle.std.proofs.Common.{length, arith, Option, Some, None, Bool, true, false, Bor}
use Rattle.std.specs.Prelude.{◌≢◌, ⊤}
use Rattle.std.specs.Ordering.{nat_cmp}
use Rattle.std.specs.Cmp.Lexicographic.{slice_cmp}
use Rattle.std.specs.BTreeMap.{insert_entry}
use Rattle.jsonb_value.specs.declared.parser.number.Exponents.{Exponents}
use Rattle.jsonb_value.specs.Tree.{Tree, array, object, no_trees, no_pairs, text, number}
use Rattle.jsonb_value.specs.Value.{trees_of}
use Rattle.jsonb_value.specs.Json.Characters.{comma, close_bracket, close_brace, open_bracket}
use Rattle.jsonb_value.specs.Json.Characters.{open_brace, quote, colon}
use Rattle.jsonb_value.specs.Json.Syntax.{Entries, pairs}
use Rattle.jsonb_value.specs.Reader.Reading.{skip_blank}
use Rattle.jsonb_value.specs.Reader.Resume.{Part, in_array, in_object, resume, State, whole, going}
use Rattle.jsonb_value.specs.Reader.Resume.{Content, items, members, put, contents, kinds_of}
use Rattle.jsonb_value.specs.Reader.Resume.{innermost, IsAtValue, IsAtKey, IsAfterValue}
use Rattle.jsonb_value.specs.Reader.Resume.{Enough, value_then}
use Rattle.jsonb_value.specs.Reader.Resume.{steps as steps_of}
use Rattle.jsonb_value.specs.Reader.Reading.{expect, read_document, read_text, read_value}
use Rattle.jsonb_value.specs.Reader.Reading.{read_number}
use Rattle.jsonb_value.specs.Json.Bind.{◌>>=◌}
use Rattle.jsonb_value.specs.declared.number.Number.{Number}
use Rattle.jsonb_value.specs.Json.Syntax.{JsonText}
use Rattle.jsonb_value.proofs.Json.ValueLaws.{document-found, value-found}
use Rattle.jsonb_value.proofs.Json.Shorter.{expect_shorter}
use Rattle.jsonb_value.proofs.Json.ValueSteps.{value_past_ascii, opened_shorter, after_shorter, opens}
use Rattle.jsonb_value.proofs.Json.ValueSteps.{fails_on}
use Rattle.jsonb_value.specs.declared.error.Error.{Error}
use Rattle.jsonb_value.specs.Reader.Gives.{Fails}
use Rattle.jsonb_value.proofs.Json.SpelledLaws.{value_positive}
use Rattle.jsonb_value.specs.Reader.Resume.{Adds, AddsKey}
use Rattle.jsonb_value.specs.declared.parser.reader.Step.{Step}
use Rattle.jsonb_value.specs.declared.parser.reader.Step.TheVariants as step
use Rattle.jsonb_value.proofs.Json.Shorter.{skip_shorter}
use Rattle.jsonb_value.proofs.Json.Resume as steps
use Rattle.jsonb_value.proofs.Json.Tests.{no_error, some_same}

abbrev Relation : Type 0 → Type 1
Relation S = S → State → Type 0

-- Nothing, or a value, comes next.
abbrev pub IsNotAfter : Step → Type 0
IsNotAfter (step.After rest) = ⊥
IsNotAfter other = ⊤

pub is_end : (s : Step) → IsNotAfter s → ((rest : Bor (List ℕ)) → s ≡ step.Value rest → ⊥)
    → s ≡ step.End
is_end (step.Value rest) ended other = absurd (other rest refl)
is_end (step.After rest) ended other = absurd ended
is_end step.End ended other = refl

true_false : true ≡ false → ⊥
true_false e = cc

false_true : false ≡ true → ⊥
false_true e = cc

no_inner : {B : Type 0} (kinds : List Bool) (b : Bool) → kinds ≡ [] → innermost kinds ≡ Some b → B
no_inner kinds b k some = no_error (sym (ap innermost k) ∙ some)

inner_none : {B : Type 0} (kinds : List Bool) (b : Bool) (bs : List Bool) → kinds ≡ b ∷ bs
    → innermost kinds ≡ None → B
inner_none kinds b bs k none = no_error (sym none ∙ ap innermost k)

inner_other : {B : Type 0} (kinds : List Bool) (b c : Bool) (bs : List Bool) → kinds ≡ b ∷ bs
    → innermost kinds ≡ Some c → b ≢ c → B
inner_other kinds b c bs k some other =
    absurd (other (some_same b c (sym (ap innermost k) ∙ some)))

-- the whole text ended
pub after_end : {S : Type 0} (rule : Exponents) (is : Relation S) (target : Option Tree) (sink : S)
    (kinds : List Bool) (s rest : List ℕ) → IsAfterValue rule is target sink kinds s
    → innermost kinds ≡ None → rest ≡ skip_blank s → rest ≡ []
    → (t : Tree) × ((target ≡ Some t) × is sink (whole t))
after_end rule is target sink kinds s rest h none e end = by h.parts h.kinds_are h.held h.same
  where
    by : (ps : List Part) → kinds ≡ kinds_of ps → is sink (put h.value (contents ps))
        → target ≡ resume rule ps h.value (skip_blank s)
        → (t : Tree) × ((target ≡ Some t) × is sink (whole t))
    by [] k held same =
        (h.value, (same ∙ steps.ends rule h.value (skip_blank s) (sym e ∙ end), held))
    by (in_array n turns front ∷ ps) k held same = inner_none kinds _ _ k none
    by (in_object n turns front key ∷ ps) k held same = inner_none kinds _ _ k none

-- something follows the whole value
pub after_more : {S : Type 0} (rule : Exponents) (is : Relation S) (target : Option Tree) (sink : S)
    (kinds : List Bool) (s rest : List ℕ) (c : ℕ) (more : List ℕ)
    → IsAfterValue rule is target sink kinds s
    → innermost kinds ≡ None → rest ≡ skip_blank s → rest ≡ c ∷ more → target ≡ None
after_more rule is target sink kinds s rest c more h none e follows =
    by h.parts h.kinds_are h.same
  where
    by : (ps : List Part) → kinds ≡ kinds_of ps → target ≡ resume rule ps h.value (skip_blank s)
        → target ≡ None
    by [] k same = same ∙ steps.goes_on rule h.value (skip_blank s) c more (sym e ∙ follows)
    by (in_array n turns front ∷ ps) k same = inner_none kinds _ _ k none
    by (in_object n turns front key ∷ ps) k same = inner_none kinds _ _ k none

-- the text ends in a container
pub after_cut : {S : Type 0} (rule : Exponents) (is : Relation S) (target : Option Tree) (sink : S)
    (kinds : List Bool) (s rest : List ℕ) (b : Bool) → IsAfterValue rule is target sink kinds s
    → innermost kinds ≡ Some b → rest ≡ skip_blank s → rest ≡ [] → target ≡ None
after_cut rule is target sink kinds s rest b h some e end = by h.parts h.kinds_are h.same
  where
    by : (ps : List Part) → kinds ≡ kinds_of ps → target ≡ resume rule ps h.value (skip_blank s)
        → target ≡ None
    by [] k same = no_inner kinds b k some
    by (in_array n turns front ∷ ps) k same =
        same ∙ steps.item_ends rule n turns front ps h.value (skip_blank s) (sym e ∙ end)
    by (in_object n turns front key ∷ ps) k same =
        same ∙ steps.member_ends rule n turns front key ps h.value (skip_blank s) (sym e ∙ end)

-- a comma after an item
pub after_item_comma : {S : Type 0} (rule : Exponents) (is : Relation S) (target : Option Tree)
    (sink : S) (kinds : List Bool) (s rest : List ℕ) (c : ℕ) (more next : List ℕ)
    → IsAfterValue rule is target sink kinds s
    → innermost kinds ≡ Some false → rest ≡ skip_blank s → rest ≡ c ∷ more → c ≡ comma
    → next ≡ skip_blank more → IsAtValue rule is target sink kinds next
after_item_comma rule is target sink kinds s rest c more next h some e follows mark skipped =
    by h.parts h.enough h.kinds_are h.held h.same
  where
    shorter : length next < length s
    shorter = omega (
      arith,
      skip_shorter s,
      skip_shorter more,
      ap length e,
      ap length follows,
      ap length skipped,
    )

    by : (ps : List Part) → Enough h.bound ps (length s) → kinds ≡ kinds_of ps
        → is sink (put h.value (contents ps)) → target ≡ resume rule ps h.value (skip_blank s)
        → IsAtValue rule is target sink kinds next
    by [] enough k held same = no_inner kinds false k some
    by (in_array n zero front ∷ ps) enough k held same = absurd (omega (arith, enough.1.0, shorter))
    by (in_array n (suc turns) front ∷ ps) enough k held same = record {
      bound = h.bound;
      parts = in_array n turns (front ++ h.value ∷ []) ∷ ps;
      enough = (
        omega (arith, enough.0, shorter),
        (
          omega (arith, enough.1.0, shorter),
          steps.fewer h.bound ps _ _ enough.1.1 (omega (arith, shorter)),
        ),
      );
      kinds_are = k;
      held = held;
      same = same ∙ steps.item_goes_on rule h.bound n turns front ps h.value (skip_blank s) c more
          (sym e ∙ follows) mark
          ∙ ap (value_then rule h.bound (in_array n turns (front ++ h.value ∷ []) ∷ ps))
          (sym skipped);
    }
    by (in_object n turns front key ∷ ps) enough k held same =
        inner_other kinds true false _ k some (λ e. true_false e)

-- a comma after a member
pub after_member_comma : {S : Type 0} (rule : Exponents) (is : Relation S) (target : Option Tree)
    (sink : S) (kinds : List Bool) (s rest : List ℕ) (c : ℕ) (more : List ℕ)
    → IsAfterValue rule is target sink kinds s
    → innermost kinds ≡ Some true → rest ≡ skip_blank s → rest ≡ c ∷ more → c ≡ comma
    → IsAtKey rule is target sink kinds more
after_member_comma rule is target sink kinds s rest c more h some e follows mark =
    by h.parts h.enough h.kinds_are h.held h.same
  where
    shorter : length more < length s
    shorter = omega (arith, skip_shorter s, ap length e, ap length follows)

    by : (ps : List Part) → Enough h.bound ps (length s) → kinds ≡ kinds_of ps
        → is sink (put h.value (contents ps)) → target ≡ resume rule ps h.value (skip_blank s)
        → IsAtKey rule is target sink kinds more
    by [] enough k held same = no_inner kinds true k some
    by (in_object n zero front key ∷ ps) enough k held same =
        absurd (omega (arith, enough.1.0, shorter))
    by (in_object n (suc turns) front key ∷ ps) enough k held same = record {
      bound = h.bound;
      parts = ps;
      steps = n;
      turns = turns;
      front = insert_entry (slice_cmp nat_cmp) front key h.value;
      enough = steps.fewer h.bound ps _ _ enough.1.1 (omega (arith, shorter));
      enough_steps = omega (arith, enough.0, shorter);
      enough_turns = omega (arith, enough.1.0, shorter);
      kinds_are = k;
      held = held;
      same = same ∙ steps.member_goes_on rule n turns front key ps h.value (skip_blank s) c more
          (sym e ∙ follows) mark;
    }
    by (in_array n turns front ∷ ps) enough k held same =
        inner_other kinds false true _ k some (λ e. false_true e)

-- an array closes
pub after_array : {S : Type 0} (rule : Exponents) (is : Relation S) (target : Option Tree)
    (sink new : S) (kinds left : List Bool) (s rest : List ℕ) (c : ℕ) (more : List ℕ)
    → IsAfterValue rule is target sink kinds s
    → innermost kinds ≡ Some false → rest ≡ skip_blank s → rest ≡ c ∷ more → c ≡ close_bracket
    → ((front : List Tree) (cs : List Content) → is sink (going (items front ∷ cs))
    → is new (put (array (trees_of front)) cs))
    → ((b : Bool) (bs : List Bool) → kinds ≡ b ∷ bs → left ≡ bs)
    → IsAfterValue rule is target new left more
after_array rule is target sink new kinds left s rest c more h some e follows mark ends pops =
    by h.parts h.enough h.kinds_are h.held h.same
  where
    shorter : length more < length s
    shorter = omega (arith, skip_shorter s, ap length e, ap length follows)

    by : (ps : List Part) → Enough h.bound ps (length s) → kinds ≡ kinds_of ps
        → is sink (put h.value (contents ps)) → target ≡ resume rule ps h.value (skip_blank s)
        → IsAfterValue rule is target new left more
    by [] enough k held same = no_inner kinds false k some
    by (in_object n turns front key ∷ ps) enough k held same =
        inner_other kinds true false _ k some (λ e. true_false e)
    by (in_array n turns front ∷ ps) enough k held same = record {
      bound = h.bound;
      parts = ps;
      value = array (trees_of (front ++ h.value ∷ []));
      enough = steps.fewer h.bound ps _ _ enough.1.1 (omega (arith, shorter));
      kinds_are = pops false (kinds_of ps) k;
      held = ends (front ++ h.value ∷ []) (contents ps) held;
      same = same ∙ steps.item_closes rule n turns front ps h.value (skip_blank s) c more
          (sym e ∙ follows) mark;
    }

-- an object closes
pub after_object : {S : Type 0} (rule : Exponents) (is : Relation S) (target : Option Tree)
    (sink new : S) (kinds left : List Bool) (s rest : List ℕ) (c : ℕ) (more : List ℕ)
    → IsAfterValue rule is target sink kinds s
    → innermost kinds ≡ Some true → rest ≡ skip_blank s → rest ≡ c ∷ more → c ≡ close_brace
    → ((front : Entries) (cs : List Content) → is sink (going (members front ∷ cs))
    → is new (put (object (pairs front)) cs))
    → ((b : Bool) (bs : List Bool) → kinds ≡ b ∷ bs → left ≡ bs)
    → IsAfterValue rule is target new left more
after_object rule is target sink new kinds left s rest c more h some e follows mark ends pops =
    by h.parts h.enough h.kinds_are h.held h.same
  where
    shorter : length more < length s
    shorter = omega (arith, skip_shorter s, ap length e, ap length follows)

    by : (ps : List Part) → Enough h.bound ps (length s) → kinds ≡ kinds_of ps
        → is sink (put h.value (contents ps)) → target ≡ resume rule ps h.value (skip_blank s)
        → IsAfterValue rule is target new left more
    by [] enough k held same = no_inner kinds true k some
    by (in_array n turns front ∷ ps) enough k held same =
        inner_other kinds false true _ k some (λ e. false_true e)
    by (in_object n turns front key ∷ ps) enough k held same = record {
      bound = h.bound;
      parts = ps;
      value = object (pairs (insert_entry (slice_cmp nat_cmp) front key h.value));
      enough = steps.fewer h.bound ps _ _ enough.1.1 (omega (arith, shorter));
      kinds_are = pops true (kinds_of ps) k;
      held = ends (insert_entry (slice_cmp nat_cmp) front key h.value) (contents ps) held;
      same = same ∙ steps.member_closes rule n turns front key ps h.value (skip_blank s) c more
          (sym e ∙ follows) mark;
    }

-- another mark in a container
pub after_other : {S : Type 0} (rule : Exponents) (is : Relation S) (target : Option Tree)
    (sink : S) (kinds : List Bool) (s rest : List ℕ) (c : ℕ) (more : List ℕ) (b : Bool)
    → IsAfterValue rule is target sink kinds s
    → innermost kinds ≡ Some b → rest ≡ skip_blank s → rest ≡ c ∷ more → c ≢ comma
    → (b ≡ false → c ≢ close_bracket) → (b ≡ true → c ≢ close_brace) → target ≡ None
after_other rule is target sink kinds s rest c more b h some e follows no_comma square curly =
    by h.parts h.kinds_are h.same
  where
    by : (ps : List Part) → kinds ≡ kinds_of ps → target ≡ resume rule ps h.value (skip_blank s)
        → target ≡ None
    by [] k same = no_inner kinds b k some
    by (in_array n turns front ∷ ps) k same =
        same ∙ steps.item_stops rule n turns front ps h.value (skip_blank s) c more
        (sym e ∙ follows)
        no_comma (square (sym (some_same false b (sym (ap innermost k) ∙ some))))
    by (in_object n turns front key ∷ ps) k same =
        same ∙ steps.member_stops rule n turns front key ps h.value (skip_blank s) c more
        (sym e ∙ follows) no_comma (curly (sym (some_same true b (sym (ap innermost k) ∙ some))))

pub after_no_array : {S : Type 0} (rule : Exponents) (is : Relation S) (target : Option Tree)
    (sink : S) (kinds : List Bool) (s rest : List ℕ) (c : ℕ) (more : List ℕ)
    → IsAfterValue rule is target sink kinds s
    → innermost kinds ≡ Some false → rest ≡ skip_blank s → rest ≡ c ∷ more → c ≢ comma
    → c ≢ close_bracket → target ≡ None
after_no_array rule is target sink kinds s rest c more h some e follows no_comma no_close =
    after_other rule is target sink kinds s rest c more false h some e follows no_comma
    (λ _. no_close) (λ e. absurd (false_true e))

pub after_no_object : {S : Type 0} (rule : Exponents) (is : Relation S) (target : Option Tree)
    (sink : S) (kinds : List Bool) (s rest : List ℕ) (c : ℕ) (more : List ℕ)
    → IsAfterValue rule is target sink kinds s
    → innermost kinds ≡ Some true → rest ≡ skip_blank s → rest ≡ c ∷ more → c ≢ comma
    → c ≢ close_brace → target ≡ None
after_no_object rule is target sink kinds s rest c more h some e follows no_comma no_close =
    after_other rule is target sink kinds s rest c more true h some e follows no_comma
    (λ e. absurd (true_false e)) (λ _. no_close)

-- neither the end of the text nor a mark follows
pub after_no_ascii : {S : Type 0} (rule : Exponents) (is : Relation S) (target : Option Tree)
    (sink : S) (kinds : List Bool) (s rest : List ℕ) → IsAfterValue rule is target sink kinds s
    → rest ≡ skip_blank s → ((c : ℕ) (more : List ℕ) → rest ≡ c ∷ more → 128 ≤ c)
    → (rest ≡ [] → innermost kinds ≡ None → ⊥) → target ≡ None
after_no_ascii rule is target sink kinds s rest h e great other = by rest (innermost kinds) refl refl
  where
    past : (c : ℕ) (more : List ℕ) → rest ≡ c ∷ more → (k : ℕ) → k < 128 → c ≢ k
    past c more r k small same = omega (arith, great c more r, small, same)

    by : (r : List ℕ) (o : Option Bool) → rest ≡ r → innermost kinds ≡ o → target ≡ None
    by [] None r o = absurd (other r o)
    by [] (Some b) r o = after_cut rule is target sink kinds s rest b h o e r
    by (c ∷ more) None r o = after_more rule is target sink kinds s rest c more h o e r
    by (c ∷ more) (Some b) r o = after_other rule is target sink kinds s rest c more b h o e r
        (past c more r comma (omega arith)) (λ _. past c more r close_bracket (omega arith))
        (λ _. past c more r close_brace (omega arith))

-- ---- how much is left

pub past_mark : (s rest : List ℕ) (c : ℕ) (more : List ℕ) → rest ≡ skip_blank s → rest ≡ c ∷ more
    → suc (length more) ≤ length s
past_mark s rest c more e follows = omega (arith, skip_shorter s, ap length e, ap length follows)

pub past_comma : (s rest : List ℕ) (c : ℕ) (more next : List ℕ) → rest ≡ skip_blank s
    → rest ≡ c ∷ more → next ≡ skip_blank more → suc (length next) ≤ length s
past_comma s rest c more next e follows skipped = omega (
  arith,
  past_mark s rest c more e follows,
  skip_shorter more,
  ap length skipped,
)

pub past_first : (s : List ℕ) (c : ℕ) (rest inside : List ℕ) → s ≡ c ∷ rest
    → inside ≡ skip_blank rest → suc (length inside) ≤ length s
past_first s c rest inside e skipped =
    omega (arith, skip_shorter rest, ap length e, ap length skipped)

pub past_empty : (s : List ℕ) (c : ℕ) (rest inside : List ℕ) (k : ℕ) (after : List ℕ)
    → s ≡ c ∷ rest → inside ≡ skip_blank rest → Some after ≡ expect k inside
    → suc (length after) ≤ length s
past_empty s c rest inside k after e skipped is = omega (
  arith,
  past_first s c rest inside e skipped,
  expect_shorter k inside after (sym is),
)

pub past_scalar : (rule : Exponents) (s : List ℕ) (t : Tree) (after : List ℕ)
    → ((n : ℕ) → length s < n → read_value rule n s ≡ Some (t, after))
    → suc (length after) ≤ length s
past_scalar rule s t after reads =
    let found = value-found rule (suc (length s)) s t after
    (reads (suc (length s)) (omega arith)) in
    let some = value_positive rule found.syntax t after found.is_meant in
    omega (arith, ap length found.is_spelled, some)

-- ---- at a value

pub at_no_ascii : {S : Type 0} (rule : Exponents) (is : Relation S) (target : Option Tree)
    (sink : S) (kinds : List Bool) (s : List ℕ) → IsAtValue rule is target sink kinds s
    → ((c : ℕ) (more : List ℕ) → s ≡ c ∷ more → 128 ≤ c) → target ≡ None
at_no_ascii rule is target sink kinds s h great =
    h.same ∙ steps.value_fails rule h.bound h.parts s
    (value_past_ascii rule (steps_of h.bound h.parts) s great)

-- the bounds on the steps of an array or object that begins
record Bounds (whole_bound : ℕ) (ps : List Part) (rest : List ℕ) : Type 0 where
  n : ℕ
  turns : ℕ
  is_steps : steps_of whole_bound ps ≡ suc n
  is_n : n ≡ suc turns
  enough : length rest ≤ turns

bounds : (bound : ℕ) (ps : List Part) (s : List ℕ) (c : ℕ) (rest : List ℕ)
    → Enough bound ps (length s) → s ≡ c ∷ rest → Bounds bound ps rest
bounds bound ps s c rest enough e =
    by (steps_of bound ps) refl (steps.enough_steps bound ps (length s) enough)
  where
    by : (k : ℕ) → steps_of bound ps ≡ k → length s < k → Bounds bound ps rest
    by zero is h = absurd (omega (arith, h))
    by (suc zero) is h = absurd (omega (arith, h, ap length e))
    by (suc (suc turns)) is h = record {
      n = suc turns;
      turns = turns;
      is_steps = is;
      is_n = refl;
      enough = omega (arith, h, ap length e);
    }

pub array_begins : {S : Type 0} (rule : Exponents) (is : Relation S) (target : Option Tree)
    (sink new : S) (kinds more : List Bool) (s : List ℕ) (c : ℕ) (rest inside : List ℕ)
    → IsAtValue rule is target sink kinds s → s ≡ c ∷ rest → c ≡ open_bracket
    → inside ≡ skip_blank rest → None ≡ expect close_bracket inside
    → ((cs : List Content) → is sink (going cs) → is new (going (items [] ∷ cs)))
    → more ≡ false ∷ kinds → IsAtValue rule is target new more inside
array_begins rule is target sink new kinds more s c rest inside h e first skipped none begins push =
    let b = bounds h.bound h.parts s c rest h.enough e in
    let shorter = past_first s c rest inside e skipped in
    let opened = steps.array_opens rule h.bound h.parts b.n b.turns s rest b.is_steps b.is_n
    (e ∙ ap (λ k. k ∷ rest) first) (none ∙ ap (expect close_bracket) skipped) in
    record {
      bound = h.bound;
      parts = in_array b.n b.turns [] ∷ h.parts;
      enough = (
        omega (arith, b.is_n, b.enough, shorter, ap length e),
        (
          omega (arith, b.enough, shorter, ap length e),
          steps.fewer h.bound h.parts _ _ h.enough (omega (arith, shorter)),
        ),
      );
      kinds_are = push ∙ ap (λ ks. false ∷ ks) h.kinds_are;
      held = begins (contents h.parts) h.held;
      same = h.same ∙ opened ∙ ap (value_then rule h.bound (in_array b.n b.turns [] ∷ h.parts))
          (sym skipped);
    }

pub array_is_empty : {S : Type 0} (rule : Exponents) (is : Relation S) (target : Option Tree)
    (sink mid new : S) (kinds : List Bool) (s : List ℕ) (c : ℕ) (rest inside after : List ℕ)
    → IsAtValue rule is target sink kinds s → s ≡ c ∷ rest → c ≡ open_bracket
    → inside ≡ skip_blank rest → Some after ≡ expect close_bracket inside
    → ((cs : List Content) → is sink (going cs) → is mid (going (items [] ∷ cs)))
    → ((front : List Tree) (cs : List Content) → is mid (going (items front ∷ cs))
    → is new (put (array (trees_of front)) cs))
    → IsAfterValue rule is target new kinds after
array_is_empty rule is target sink mid new kinds s c rest inside after h e first skipped some begins
    ends =
    let b = bounds h.bound h.parts s c rest h.enough e in
    let shorter = past_empty s c rest inside close_bracket after e skipped some in
    record {
      bound = h.bound;
      parts = h.parts;
      value = array no_trees;
      enough = steps.fewer h.bound h.parts _ _ h.enough (omega (arith, shorter));
      kinds_are = h.kinds_are;
      held = ends [] (contents h.parts) (begins (contents h.parts) h.held);
      same = h.same ∙ steps.value_read rule h.bound h.parts s (array no_trees) after
          (steps.array_empty rule b.n s rest after (e ∙ ap (λ k. k ∷ rest) first)
          (some ∙ ap (expect close_bracket) skipped) _ b.is_steps);
    }

-- ---- the whole text

pub text_begins : {S : Type 0} (rule : Exponents) (is : Relation S) (sink : S) (kinds : List Bool)
    (s inside : List ℕ) → inside ≡ skip_blank s → kinds ≡ [] → is sink (going [])
    → IsAtValue rule is (read_document rule s) sink kinds inside
text_begins rule is sink kinds s inside skipped none held = record {
  bound = suc (length s);
  parts = [];
  enough = omega (arith, skip_shorter s, ap length skipped);
  kinds_are = none;
  held = held;
  same = steps.begins rule s ∙ ap (value_then rule (suc (length s)) []) (sym skipped);
}

pub text_ends : {S : Type 0} (rule : Exponents) (is : Relation S) (s : List ℕ) (sink : S)
    → (t : Tree) × ((read_document rule s ≡ Some t) × is sink (whole t))
    → (t : Tree) × (JsonText rule s t × is sink (whole t))
text_ends rule is s sink h = (h.0, (document-found rule s h.0 h.1.0, h.1.1))

pub first_is : (s : List ℕ) (c : ℕ) (rest : List ℕ) (k : ℕ) → s ≡ c ∷ rest
    → (t : List ℕ) × (s ≡ k ∷ t) → c ≡ k
first_is s c rest k e h = by (sym e ∙ h.1)
  where
    by : c ∷ rest ≡ k ∷ h.0 → c ≡ k
    by same = cc

-- ---- objects and keys

pub object_begins : {S : Type 0} (rule : Exponents) (is : Relation S) (target : Option Tree)
    (sink new : S) (kinds more : List Bool) (s : List ℕ) (c : ℕ) (rest : List ℕ)
    → IsAtValue rule is target sink kinds s → s ≡ c ∷ rest → c ≡ open_brace
    → None ≡ expect close_brace (skip_blank rest)
    → ((cs : List Content) → is sink (going cs) → is new (going (members [] ∷ cs)))
    → more ≡ true ∷ kinds → IsAtKey rule is target new more rest
object_begins rule is target sink new kinds more s c rest h e first none begins push =
    let b = bounds h.bound h.parts s c rest h.enough e in
    record {
      bound = h.bound;
      parts = h.parts;
      steps = b.n;
      turns = b.turns;
      front = [];
      enough = steps.fewer h.bound h.parts _ _ h.enough (omega (arith, ap length e));
      enough_steps = omega (arith, b.is_n, b.enough);
      enough_turns = b.enough;
      kinds_are = push ∙ ap (λ ks. true ∷ ks) h.kinds_are;
      held = begins (contents h.parts) h.held;
      same = h.same ∙ steps.object_opens rule h.bound h.parts b.n b.turns s rest b.is_steps b.is_n
          (e ∙ ap (λ k. k ∷ rest) first) none;
    }

pub object_is_empty : {S : Type 0} (rule : Exponents) (is : Relation S) (target : Option Tree)
    (sink mid new : S) (kinds : List Bool) (s : List ℕ) (c : ℕ) (rest inside after : List ℕ)
    → IsAtValue rule is target sink kinds s → s ≡ c ∷ rest → c ≡ open_brace
    → inside ≡ skip_blank rest → Some after ≡ expect close_brace inside
    → ((cs : List Content) → is sink (going cs) → is mid (going (members [] ∷ cs)))
    → ((front : Entries) (cs : List Content) → is mid (going (members front ∷ cs))
    → is new (put (object (pairs front)) cs))
    → IsAfterValue rule is target new kinds after
object_is_empty rule is target sink mid new kinds s c rest inside after h e first skipped some
    begins
    ends =
    let b = bounds h.bound h.parts s c rest h.enough e in
    let shorter = past_empty s c rest inside close_brace after e skipped some in
    record {
      bound = h.bound;
      parts = h.parts;
      value = object no_pairs;
      enough = steps.fewer h.bound h.parts _ _ h.enough (omega (arith, shorter));
      kinds_are = h.kinds_are;
      held = ends [] (contents h.parts) (begins (contents h.parts) h.held);
      same = h.same ∙ steps.value_read rule h.bound h.parts s (object no_pairs) after
          (steps.object_empty rule b.n s rest after (e ∙ ap (λ k. k ∷ rest) first)
          (some ∙ ap (expect close_brace) skipped) _ b.is_steps);
    }

pub key_is_read : {S : Type 0} (rule : Exponents) (is : Relation S) (target : Option Tree)
    (sink new : S) (kinds : List Bool) (s inside opened key after within later next : List ℕ)
    → IsAtKey rule is target sink kinds s → inside ≡ skip_blank s
    → Some opened ≡ expect quote inside
    → ((n : ℕ) → length opened < n → read_text n [] opened ≡ Some (key, after))
    → within ≡ skip_blank after → Some later ≡ expect colon within → next ≡ skip_blank later
    → AddsKey is sink new key → IsAtValue rule is target new kinds next
key_is_read rule is target sink new kinds s inside opened key after within later next h skipped
    quoted
    reads skipped_after coloned skipped_later adds =
    let first = opened_shorter s inside opened skipped quoted in
    let second = after_shorter opened key after within later reads skipped_after coloned in
    let third = skip_shorter later in
    record {
      bound = h.bound;
      parts = in_object h.steps h.turns h.front key ∷ h.parts;
      enough = (
        omega (arith, h.enough_steps, first, second, third, ap length skipped_later),
        (
          omega (arith, h.enough_turns, first, second, third, ap length skipped_later),
          steps.fewer h.bound h.parts _ _ h.enough
              (omega (arith, first, second, third, ap length skipped_later)),
        ),
      );
      kinds_are = h.kinds_are;
      held = adds h.front (contents h.parts) h.held;
      same = h.same
          ∙ steps.key_read rule h.bound h.steps h.turns h.front h.parts s opened key after later
          (opens s inside opened skipped quoted)
          (reads h.turns (omega (arith, h.enough_turns, first)))
          (ap (expect colon) (sym skipped_after) ∙ sym coloned)
          ∙ ap (value_then rule h.bound (in_object h.steps h.turns h.front key ∷ h.parts))
          (sym skipped_later);
    }

pub past_key : (s inside opened key after within later next : List ℕ) → inside ≡ skip_blank s
    → Some opened ≡ expect quote inside
    → ((n : ℕ) → length opened < n → read_text n [] opened ≡ Some (key, after))
    → within ≡ skip_blank after → Some later ≡ expect colon within → next ≡ skip_blank later
    → suc (length next) ≤ length s
past_key s inside opened key after within later next skipped quoted reads skipped_after coloned
    skipped_later = omega (
      arith,
      opened_shorter s inside opened skipped quoted,
      after_shorter opened key after within later reads skipped_after coloned,
      skip_shorter later,
      ap length skipped_later,
    )

pub key_unquoted : {S : Type 0} (rule : Exponents) (is : Relation S) (target : Option Tree)
    (sink : S) (kinds : List Bool) (s inside : List ℕ) → IsAtKey rule is target sink kinds s
    → inside ≡ skip_blank s → None ≡ expect quote inside → target ≡ None
key_unquoted rule is target sink kinds s inside h skipped none =
    h.same ∙ steps.key_unquoted rule h.steps h.turns h.front h.parts s
    (ap (expect quote) (sym skipped) ∙ sym none)

pub key_unread : {S : Type 0} (rule : Exponents) (is : Relation S) (target : Option Tree) (sink : S)
    (kinds : List Bool) (s inside opened : List ℕ) (e : Error) → IsAtKey rule is target sink kinds s
    → inside ≡ skip_blank s → Some opened ≡ expect quote inside
    → ((n : ℕ) → length opened < n → Fails e (read_text n [] opened)) → Fails e target
key_unread rule is target sink kinds s inside opened e h skipped quoted fails =
    let first = opened_shorter s inside opened skipped quoted in
    fails_on e _ target
    (λ none. h.same ∙ steps.key_unread rule h.steps h.turns h.front h.parts s opened
    (opens s inside opened skipped quoted) none)
    (fails h.turns (omega (arith, h.enough_turns, first)))

pub key_uncoloned : {S : Type 0} (rule : Exponents) (is : Relation S) (target : Option Tree)
    (sink : S) (kinds : List Bool) (s inside opened key after within : List ℕ)
    → IsAtKey rule is target sink kinds s
    → inside ≡ skip_blank s → Some opened ≡ expect quote inside
    → ((n : ℕ) → length opened < n → read_text n [] opened ≡ Some (key, after))
    → within ≡ skip_blank after → None ≡ expect colon within → target ≡ None
key_uncoloned rule is target sink kinds s inside opened key after within h skipped quoted reads
    skipped_after none =
    let first = opened_shorter s inside opened skipped quoted in
    h.same ∙ steps.key_uncoloned rule h.steps h.turns h.front h.parts s opened key after
    (opens s inside opened skipped quoted) (reads h.turns (omega (arith, h.enough_turns, first)))
    (ap (expect colon) (sym skipped_after) ∙ sym none)

-- ---- scalars

pub scalar_is_read : {S : Type 0} (rule : Exponents) (is : Relation S) (target : Option Tree)
    (sink new : S) (kinds : List Bool) (s : List ℕ) (t : Tree) (after : List ℕ)
    → IsAtValue rule is target sink kinds s
    → ((n : ℕ) → length s < n → read_value rule n s ≡ Some (t, after))
    → Adds is sink new t → IsAfterValue rule is target new kinds after
scalar_is_read rule is target sink new kinds s t after h reads adds = record {
  bound = h.bound;
  parts = h.parts;
  value = t;
  enough = steps.fewer h.bound h.parts _ _ h.enough
      (omega (arith, past_scalar rule s t after reads));
  kinds_are = h.kinds_are;
  held = adds (contents h.parts) h.held;
  same = h.same ∙ steps.value_read rule h.bound h.parts s t after
      (reads (steps_of h.bound h.parts) (steps.enough_steps h.bound h.parts (length s) h.enough));
}

pub scalar_fails : {S : Type 0} (rule : Exponents) (is : Relation S) (target : Option Tree)
    (sink : S) (kinds : List Bool) (s : List ℕ) (e : Error) → IsAtValue rule is target sink kinds s
    → ((n : ℕ) → length s < n → Fails e (read_value rule n s)) → Fails e target
scalar_fails rule is target sink kinds s e h fails =
    fails_on e _ target (λ none. h.same ∙ steps.value_fails rule h.bound h.parts s none)
    (fails (steps_of h.bound h.parts) (steps.enough_steps h.bound h.parts (length s) h.enough))

abbrev pub as_text : List ℕ × List ℕ → Option (Tree × List ℕ)
as_text x = Some (text x.0, x.1)

abbrev pub as_number : Number × List ℕ → Option (Tree × List ℕ)
as_number x = Some (number x.0, x.1)

pub string_reads : (n : ℕ) (s bytes after : List ℕ) → read_text n [] s ≡ Some (bytes, after)
    → (read_text n [] s >>= as_text) ≡ Some (text bytes, after)
string_reads n s bytes after e = rw e refl

pub string_fails : (n : ℕ) (s : List ℕ) (e : Error) → Fails e (read_text n [] s)
    → Fails e (read_text n [] s >>= as_text)
string_fails n s e fails = fails_on e (read_text n [] s) _ (λ none. rw none refl) fails

pub number_reads : (rule : Exponents) (s : List ℕ) (c : ℕ) (rest : List ℕ) (x : Number)
    (after : List ℕ) → s ≡ c ∷ rest → read_number rule s ≡ Some (x, after)
    → (read_number rule (c ∷ rest) >>= as_number) ≡ Some (number x, after)
number_reads rule s c rest x after e reads =
    ap (λ q. q >>= as_number) (ap (read_number rule) (sym e) ∙ reads)

pub number_fails : (rule : Exponents) (s : List ℕ) (c : ℕ) (rest : List ℕ) → s ≡ c ∷ rest
    → read_number rule s ≡ None
    → (read_number rule (c ∷ rest) >>= as_number) ≡ None
number_fails rule s c rest e none = ap (λ q. q >>= as_number) (ap (read_number rule) (sym e) ∙ none)

-- ---- what a container's end may rely on

pub holds_items : {S : Type 0} (rule : Exponents) (is : Relation S) (sink : S) (kinds : List Bool)
    (s : List ℕ) → (target : Option Tree) × IsAfterValue rule is target sink kinds s
    → innermost kinds ≡ Some false
    → (front : List Tree) × ((cs : List Content) × is sink (going (items front ∷ cs)))
holds_items rule is sink kinds s h some = by h.1.parts h.1.kinds_are h.1.held
  where
    by : (ps : List Part) → kinds ≡ kinds_of ps → is sink (put h.1.value (contents ps))
        → (front : List Tree) × ((cs : List Content) × is sink (going (items front ∷ cs)))
    by [] k held = no_inner kinds false k some
    by (in_array n turns front ∷ ps) k held = (front ++ h.1.value ∷ [], (contents ps, held))
    by (in_object n turns front key ∷ ps) k held =
        inner_other kinds true false _ k some (λ e. true_false e)

pub holds_members : {S : Type 0} (rule : Exponents) (is : Relation S) (sink : S) (kinds : List Bool)
    (s : List ℕ) → (target : Option Tree) × IsAfterValue rule is target sink kinds s
    → innermost kinds ≡ Some true
    → (front : Entries) × ((cs : List Content) × is sink (going (members front ∷ cs)))
holds_members rule is sink kinds s h some = by h.1.parts h.1.kinds_are h.1.held
  where
    by : (ps : List Part) → kinds ≡ kinds_of ps → is sink (put h.1.value (contents ps))
        → (front : Entries) × ((cs : List Content) × is sink (going (members front ∷ cs)))
    by [] k held = no_inner kinds true k some
    by (in_object n turns front key ∷ ps) k held =
        (insert_entry (slice_cmp nat_cmp) front key h.1.value, (contents ps, held))
    by (in_array n turns front ∷ ps) k held =
        inner_other kinds false true _ k some (λ e. false_true e)

pub holds_key : {S : Type 0} (rule : Exponents) (is : Relation S) (sink : S) (kinds : List Bool)
    (s : List ℕ) → (target : Option Tree) × IsAtKey rule is target sink kinds s
    → (front : Entries) × ((cs : List Content) × is sink (going (members front ∷ cs)))
holds_key rule is sink kinds s h = (h.1.front, (contents h.1.parts, h.1.held))
