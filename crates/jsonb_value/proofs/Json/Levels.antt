-- What each step of the reader does to the count of the brackets that are open.
use Rattle.std.proofs.Common.{◌≡◌, ℕ, suc, ◌<◌, refl, sym, ap, ◌∙◌, List, [], ◌∷◌}
use Rattle.std.proofs.Common.{◌++◌, length, arith, Some, append_assoc, ◌⊎◌}
use Rattle.std.specs.Prelude.{max}
use Rattle.jsonb_value.specs.declared.text_depth.ScanState.TheVariants.{Outside}
use Rattle.jsonb_value.specs.declared.parser.number.Exponents.{Exponents}
use Rattle.jsonb_value.specs.Depth.{depth}
use Rattle.jsonb_value.specs.Tree.{Tree}
use Rattle.jsonb_value.specs.TextDepth.{greatest_level, syntax_depth}
use Rattle.jsonb_value.specs.Json.Characters.{quote, colon, comma}
use Rattle.jsonb_value.specs.Json.Piece.{pieces_text}
use Rattle.jsonb_value.specs.Json.Syntax.{Syntax, nothing, truth, numeral, string, empty_array}
use Rattle.jsonb_value.specs.Json.Syntax.{items, empty_object, members, string_characters}
use Rattle.jsonb_value.specs.Json.Syntax.{meaning, element_meaning, items_meaning}
use Rattle.jsonb_value.specs.Json.Syntax.{member_meaning, members_meaning}
use Rattle.jsonb_value.specs.Reader.Reading.{skip_blank, expect, read_text, read_value}
use Rattle.jsonb_value.proofs.ScanLaws.{level_within}
use Rattle.jsonb_value.proofs.DepthLaws.{some_depth}
use Rattle.jsonb_value.proofs.Json.Scanned.{Passes, Passes-neutral, blank_neutral, string_passes}
use Rattle.jsonb_value.proofs.Json.Scanned.{syntax_passes}
use Rattle.jsonb_value.proofs.Json.Tests.{bind_then}
use Rattle.jsonb_value.proofs.Json.TextLaws.{text-found}
use Rattle.jsonb_value.proofs.Json.ValueLaws.{skip-split, expect-found, value-found}

abbrev pub Levels : ℕ → List ℕ → ℕ
Levels = greatest_level Outside

-- characters that leave no bracket open
passed : (front : List ℕ) (level : ℕ) (rest : List ℕ) → Passes front 0
    → Levels level (front ++ rest) ≡ Levels level rest
passed front level rest passes =
    let all = passes level rest in
    let low = level_within Outside level rest in
    omega arith

pub skip_level : (level : ℕ) (s : List ℕ) → Levels level s ≡ Levels level (skip_blank s)
skip_level level s =
    let found = skip-split s in
    ap (Levels level) found.is_spelled
    ∙ passed found.blank level (skip_blank s)
    (Passes-neutral found.blank (blank_neutral found.blank found.is_blank))

-- what spells a scalar has no brackets
flat : (rule : Exponents) (x : Syntax) (t : Tree) → meaning rule x ≡ Some t → depth t ≡ 0
    → syntax_depth x ≡ 0
flat rule nothing t e shallow = refl
flat rule (truth b) t e shallow = refl
flat rule (numeral n) t e shallow = refl
flat rule (string pieces) t e shallow = refl
flat rule (empty_array blank) t e shallow = grind arith
flat rule (empty_object blank) t e shallow = grind arith
flat rule (items x xs) t e shallow =
    bind_then (element_meaning rule x) _ _ e (λ y is more.
    bind_then (items_meaning rule xs) _ _ more (λ ys are end.
    let same = some_depth _ t end in absurd (omega arith)))
flat rule (members x xs) t e shallow =
    bind_then (member_meaning rule x) _ _ e (λ y is more.
    bind_then (members_meaning rule xs) _ _ more (λ ys are end.
    let same = some_depth _ t end in absurd (omega arith)))

pub scalar_level : (rule : Exponents) (s : List ℕ) (t : Tree) (after : List ℕ) (level : ℕ)
    → ((n : ℕ) → length s < n → read_value rule n s ≡ Some (t, after)) → depth t ≡ 0
    → Levels level s ≡ Levels level after
scalar_level rule s t after level reads shallow =
    let found = value-found rule (suc (length s)) s t after
    (reads (suc (length s)) (omega arith)) in
    let none = flat rule found.syntax t found.is_meant shallow in
    let passes = syntax_passes rule found.syntax t found.is_meant level after in
    let low = level_within Outside level after in
    ap (Levels level) found.is_spelled ∙ (omega arith)

-- a string, after its opening quote
string_level : (opened bytes after : List ℕ) (level : ℕ)
    → ((n : ℕ) → length opened < n → read_text n [] opened ≡ Some (bytes, after))
    → Levels level (quote ∷ opened) ≡ Levels level after
string_level opened bytes after level reads =
    let found = text-found (suc (length opened)) [] opened bytes after
    (reads (suc (length opened)) (omega arith)) in
    let split = append_assoc (pieces_text found.pieces) (quote ∷ []) after in
    ap (λ (s : List ℕ). Levels level (quote ∷ s)) (found.is_spelled ∙ sym split)
    ∙ passed (string_characters found.pieces) level after
    (string_passes found.pieces found.own found.is_meant)

pub key_level : (s inside opened key after within later next : List ℕ) (level : ℕ)
    → inside ≡ skip_blank s → Some opened ≡ expect quote inside
    → ((n : ℕ) → length opened < n → read_text n [] opened ≡ Some (key, after))
    → within ≡ skip_blank after → Some later ≡ expect colon within → next ≡ skip_blank later
    → Levels level s ≡ Levels level next
key_level s inside opened key after within later next level skipped quoted reads skipped_after
    coloned skipped_later =
    skip_level level s
    ∙ ap (Levels level) (sym skipped ∙ expect-found quote inside opened (sym quoted))
    ∙ string_level opened key after level reads
    ∙ skip_level level after
    ∙ ap (Levels level) (sym skipped_after ∙ expect-found colon within later (sym coloned))
    ∙ passed (colon ∷ []) level later (Passes-neutral (colon ∷ []) refl)
    ∙ skip_level level later
    ∙ ap (Levels level) (sym skipped_later)

pub comma_level : (s rest : List ℕ) (c : ℕ) (more : List ℕ) (level : ℕ) → rest ≡ skip_blank s
    → rest ≡ c ∷ more → c ≡ comma → Levels level s ≡ Levels level more
comma_level s rest c more level skipped e mark =
    skip_level level s
    ∙ ap (Levels level) (sym skipped ∙ e ∙ ap (λ (k : ℕ). k ∷ more) mark)
    ∙ passed (comma ∷ []) level more (Passes-neutral (comma ∷ []) refl)

pub end_level : (s rest : List ℕ) (level : ℕ) → rest ≡ skip_blank s → rest ≡ []
    → Levels level s ≡ level
end_level s rest level skipped e =
    skip_level level s ∙ ap (Levels level) (sym skipped ∙ e)

-- an opening bracket
opens : (c level : ℕ) (rest : List ℕ) → (c ≡ 91) ⊎ (c ≡ 123)
    → Levels level (c ∷ rest) ≡ Levels (suc level) rest
opens c level rest is =
    let low = level_within Outside (suc level) rest in
    grind arith

-- a closing bracket
closes : (c level : ℕ) (rest : List ℕ) → (c ≡ 93) ⊎ (c ≡ 125)
    → Levels (suc level) (c ∷ rest) ≡ max (suc level) (Levels level rest)
closes c level rest is = grind arith

pub begun_level : (s : List ℕ) (c : ℕ) (rest inside : List ℕ) (level : ℕ) → s ≡ c ∷ rest
    → (c ≡ 91) ⊎ (c ≡ 123) → inside ≡ skip_blank rest
    → Levels level s ≡ Levels (suc level) inside
begun_level s c rest inside level e is skipped =
    ap (Levels level) e ∙ opens c level rest is ∙ skip_level (suc level) rest
    ∙ ap (Levels (suc level)) (sym skipped)

pub closed_level : (s rest : List ℕ) (c : ℕ) (more : List ℕ) (level : ℕ) → rest ≡ skip_blank s
    → rest ≡ c ∷ more → (c ≡ 93) ⊎ (c ≡ 125)
    → Levels (suc level) s ≡ max (suc level) (Levels level more)
closed_level s rest c more level skipped e is =
    skip_level (suc level) s ∙ ap (Levels (suc level)) (sym skipped ∙ e) ∙ closes c level more is

pub empty_level : (s : List ℕ) (c : ℕ) (rest inside : List ℕ) (k : ℕ) (after : List ℕ) (level : ℕ)
    → s ≡ c ∷ rest → (c ≡ 91) ⊎ (c ≡ 123) → inside ≡ skip_blank rest
    → Some after ≡ expect k inside → (k ≡ 93) ⊎ (k ≡ 125)
    → Levels level s ≡ max (suc level) (Levels level after)
empty_level s c rest inside k after level e is skipped some closing =
    begun_level s c rest inside level e is skipped
    ∙ ap (Levels (suc level)) (expect-found k inside after (sym some))
    ∙ closes k level after closing
