-- What is written for a line of which the value at the key that a path names alone is known.
use Rattle.std.proofs.Common.{◌≡◌, ℕ, pos, List, [], ◌∷◌, ◌++◌, refl, ap, sym, ◌∙◌, inl, inr, true}
use Rattle.std.proofs.Common.{Option, Some, None, Result, Ok, Err, IfOk, Vec, Global, append-nil}
use Rattle.std.specs.Option.{ForSome}
use Rattle.std.specs.Prelude.{IsUtf8, if◌then◌else◌, option_map, string_bytes}
use Rattle.jsonb_value.specs.Norm.{norm, norm_pairs}
use Rattle.jsonb_value.specs.Text.{in_one_line}
use Rattle.jsonb_value.specs.Tree as trees
use Rattle.jsonb_value.specs.Tree.{Tree, Pairs, object}
use Rattle.jsonb_value.specs.Value.{tree_of}
use Rattle.jsonb_value.specs.declared.value.Value.{Value}
use Rattle.jsonb_value.proofs.NormTexts.{laid_out-norm}
use Rattle.jsonb_codec.specs.Canon.{canon}
use Rattle.jsonb.specs.Document.{tree_in}
use Rattle.jsonb.specs.Node.{value_of_key}
use Rattle.jsonb_path.specs.declared.path.Accessor.{Accessor}
use Rattle.jsonb_path.specs.declared.path.Accessor.TheVariants.{Member}
use Rattle.jsonb_path.specs.declared.path.Mode.{Mode}
use Rattle.jsonb_path.specs.declared.path.Mode.TheVariants.{Lax}
use Rattle.jsonb_path.specs.declared.path.Part.{Part}
use Rattle.jsonb_path.specs.declared.path.Part.TheVariants.{Chain}
use Rattle.jsonb_path.specs.declared.path.Source.TheVariants.{Root}
use Rattle.jsonb_path.specs.Meaning as meaning
use Rattle.jsonb_path.specs.Meaning.{Place, all_given, along, before_end, fails, gives}
use Rattle.jsonb_path.specs.Meaning.{names_along}
use Rattle.jsonb_path.specs.PathParts.{PathParts}
use Rattle.jsonb_path.specs.PathTree.{accessors_of}
use Rattle.jsonb_path.specs.declared.path.PathError.TheVariants as errors
use Rattle.jsonb_path.proofs.FoundLaws.{member_missing, member_there}
use Rattle.text_lookup.specs.declared.member.TextMember.TheVariants.{Scalar, Missing}
use Rattle.text_lookup.specs.Lookup.{IsMemberOf}
use Rattle.text_lookup.proofs.CanonLaws.{canon_tree, member_norm}
use Rattle.kohiblad_shell.specs.declared.input.Reading.{Reading}
use Rattle.kohiblad_shell.specs.declared.operation.Style.{Style}
use Rattle.kohiblad_shell.specs.declared.operation.Style.TheVariants.{Json, Raw}
use Rattle.kohiblad_shell.specs.declared.row.TheConstants.{MAX_ROW_DEPTH}
use Rattle.kohiblad_shell.specs.Asked.{asked}
use Rattle.kohiblad_shell.specs.Members.{IsMemberLine, key_of_parts, key_of_steps, lone_key}
use Rattle.kohiblad_shell.specs.Operations.{IsFirstGiven, raw_text, text_or_row, value_line}

-- ---- what the path gives

-- Where a path in lax begins, without variables.
abbrev beginning : Tree → Place
beginning t = record {
  mode = Lax;
  forgives = true;
  root = t;
  current = t;
  last = pos 0;
  variables = [];
}

-- What comes through of the one value that a step is taken from.
abbrev once : meaning.Outcome → meaning.Outcome
once o = before_end o.values o.error (gives [])

-- What the accessors of a path give of a value.
abbrev along_of : List Accessor → Tree → meaning.Outcome
along_of steps t = if all_given [] (names_along (accessors_of [] steps))
    then along (beginning t) (accessors_of [] steps) (gives (t ∷ []))
    else fails errors.UndefinedVariable

there_by : (steps : List Accessor) (key : List ℕ) (ps : Pairs) (v : Tree)
    → key_of_steps steps ≡ Some key → Some v ≡ value_of_key key (object ps)
    → along_of steps (object ps) ≡ gives (v ∷ [])
there_by (Member s ∷ []) key ps v is there =
    let same : string_bytes s ≡ key = cc in
    ap (λ o. once (once o)) (sym (member_there (beginning (object ps)) (string_bytes s) (object ps)
    v (rw same there)))
there_by steps key ps v is there = absurd (cc)

missing_by : (steps : List Accessor) (key : List ℕ) (ps : Pairs)
    → key_of_steps steps ≡ Some key → None ≡ value_of_key key (object ps)
    → along_of steps (object ps) ≡ gives []
missing_by (Member s ∷ []) key ps is missing =
    let same : string_bytes s ≡ key = cc in
    ap (λ o. once (once o)) (sym (member_missing (beginning (object ps)) (string_bytes s)
    (object ps) (rw same missing)))
missing_by steps key ps is missing = absurd (cc)

asked_there : (mode : Mode) (parts : List Part) (key : List ℕ) (ps : Pairs) (v : Tree)
    → key_of_parts mode parts ≡ Some key → Some v ≡ value_of_key key (object ps)
    → asked (record { mode = mode; parts = parts }) (object ps) ≡ gives (v ∷ [])
asked_there Lax (Chain Root steps ∷ []) key ps v is there = there_by steps.items key ps v is there
asked_there mode parts key ps v is there = absurd (cc)

asked_missing : (mode : Mode) (parts : List Part) (key : List ℕ) (ps : Pairs)
    → key_of_parts mode parts ≡ Some key → None ≡ value_of_key key (object ps)
    → asked (record { mode = mode; parts = parts }) (object ps) ≡ gives []
asked_missing Lax (Chain Root steps ∷ []) key ps is missing =
    missing_by steps.items key ps is missing
asked_missing mode parts key ps is missing = absurd (cc)

-- ---- what is written

raw_norm : (style : Style) (t : Tree) → raw_text style (norm t) ≡ raw_text style t
raw_norm Json t = refl
raw_norm Raw trees.null = refl
raw_norm Raw (trees.boolean b) = refl
raw_norm Raw (trees.number x) = refl
raw_norm Raw (trees.text s) = refl
raw_norm Raw (trees.extension e) = refl
raw_norm Raw (trees.array ts) = refl
raw_norm Raw (trees.object ps) = refl

line_of_norm : (raw : Option (List ℕ)) (t : Tree) → text_or_row raw (norm t) ≡ text_or_row raw t
line_of_norm None t = ap (λ text. text ++ 10 ∷ []) (laid_out-norm in_one_line t)
line_of_norm (Some s) t = refl

line_norm : (style : Style) (t : Tree) → value_line style (norm t) ≡ value_line style t
line_norm style t = ap (λ raw. text_or_row raw (norm t)) (raw_norm style t)
    ∙ line_of_norm (raw_text style t) t

first_written : (style : Style) (o : meaning.Outcome) (v : Tree) (lines : List ℕ)
    → o ≡ gives (norm v ∷ []) → lines ≡ value_line style v → IsFirstGiven style o (Ok lines)
first_written style o v lines is same =
    rw is (same ∙ sym (line_norm style v) ∙ sym (append-nil (value_line style (norm v))))

none_written : (style : Style) (o : meaning.Outcome) (lines : List ℕ) → o ≡ gives []
    → lines ≡ [] → IsFirstGiven style o (Ok lines)
none_written style o lines is none = rw is none

module _ (reading : Reading) (path : PathParts) (style : Style) (line key lines : List ℕ) where
  pub scalar_answers : (value : Value) → IsUtf8 line → lone_key path ≡ Some key
      → IsMemberOf reading.exponents MAX_ROW_DEPTH key (Scalar value) line
      → lines ≡ value_line style (tree_of value) → IsMemberLine reading path style line lines
  scalar_answers value utf8 lone (inl (long, is)) same = absurd (cc)
  scalar_answers value utf8 lone (inr (depth, (object ps, (json, (is, (fits, found)))))) same = (
    canon (object ps),
    (
      (utf8, (depth, (object ps, (json, (fits, refl))))),
      first_written style (asked path (tree_in (canon (object ps)))) (tree_of value) lines
          (ap (asked path) (canon_tree (object ps) is fits)
          ∙ asked_there path.mode path.parts key (norm_pairs ps) (norm (tree_of value)) lone
          (sym (member_norm key (object ps) ∙ ap (option_map norm) found.0)))
          same,
    ),
  )
  scalar_answers value utf8 lone (inr (depth, (t, (json, (is, (fits, found)))))) same =
      absurd (cc)

  pub missing_answers : IsUtf8 line → lone_key path ≡ Some key
      → IsMemberOf reading.exponents MAX_ROW_DEPTH key Missing line
      → lines ≡ [] → IsMemberLine reading path style line lines
  missing_answers utf8 lone (inl (long, is)) none = absurd (cc)
  missing_answers utf8 lone (inr (depth, (object ps, (json, (is, (fits, found)))))) none = (
    canon (object ps),
    (
      (utf8, (depth, (object ps, (json, (fits, refl))))),
      none_written style (asked path (tree_in (canon (object ps)))) lines
          (ap (asked path) (canon_tree (object ps) is fits)
          ∙ asked_missing path.mode path.parts key (norm_pairs ps) lone
          (sym (member_norm key (object ps) ∙ ap (option_map norm) found)))
          none,
    ),
  )
  missing_answers utf8 lone (inr (depth, (t, (json, (is, (fits, found)))))) none = absurd (cc)

-- ---- the same of what the text of the line gives

module _ (reading : Reading) (path : PathParts) (style : Style) (line key text : List ℕ)
    (same : text ≡ line) (utf8 : IsUtf8 line) (lone : Some key ≡ lone_key path) where
  pub scalar_given : {E : Type 0} (result : Result (Option (Vec ℕ Global)) E) (value : Value)
      → IsMemberOf reading.exponents MAX_ROW_DEPTH key (Scalar value) text
      → IfOk result (λ found. ForSome found
      (λ lines. lines.items ≡ value_line style (tree_of value)))
      → IfOk result (λ found. ForSome found
      (λ lines. IsMemberLine reading path style line lines.items))
  scalar_given (Ok found) value member given =
      λ lines is. scalar_answers reading path style line key lines.items value utf8 (sym lone)
      (rw (sym same) member) (given lines is)
  scalar_given (Err e) value member given = tt

  pub missing_given : (made lines : Vec ℕ Global) → Some made ≡ Some lines → made.items ≡ []
      → IsMemberOf reading.exponents MAX_ROW_DEPTH key Missing text
      → IsMemberLine reading path style line lines.items
  missing_given made lines is none member =
      let it : made ≡ lines = cc in
      missing_answers reading path style line key lines.items utf8 (sym lone)
      (rw (sym same) member) (ap (λ v. v.items) (sym it) ∙ none)
