-- What a compiled pattern finds.
use Rattle.std.proofs.Common.{◌≡◌, ◌≢◌, ◌<◌, ◌≤◌, ◌∙◌, ℕ, All, IsSomeAnd, List, None, Option}
use Rattle.std.proofs.Common.{Some, ap, arith, chars, inl, inr, is_some, length, refl, sym}
use Rattle.std.specs.Prelude.{IfSome, nat_le, option_and_then, true}
use Rattle.regex_syntax.proofs.CapturesLemmas.{find_str_alike, spans}
use Rattle.regex_syntax.proofs.Written.{is_some-option_map}
use Rattle.regex_syntax.specs.Brackets.{Nested}
use Rattle.regex_syntax.specs.Grammar.{Names, group_count, read}
use Rattle.regex_syntax.specs.declared.error.ErrorKind.{ErrorKind}
use Rattle.regex_syntax.specs.declared.error.ErrorKind.TheVariants.{OutOfMemory}
use Rattle.regex.specs.Patterns.{Config, Re, Reads, Refuses, SameCaptures, find_str}
use Rattle.regex.specs.Strings.{IsReadFromSource, regex_config, regex_pattern, regex_source}
use Rattle.regex.specs.declared.string.regex.Regex.{Regex}
use Rattle.jsonb_pattern.specs.Meaning.{SearchesFor, Written, denoted, expression_in, found_in}
use Rattle.jsonb_pattern.specs.Meaning.{pattern_of, within}
use Rattle.jsonb_pattern.specs.Translated.{config_of, translated}

-- what the crate `regex` reads in a text, within so many levels
IsOf : Option (Nested Re × Names) → ℕ → Re → Names → Type 0
IsOf o most a names = IsSomeAnd o (λ (re, found). (re.depth ≤ most) × SameCaptures a re.value
    × (names ≡ found) × (group_count a ≤ length names))

at_read : (o : Option (Nested Re × Names)) (most : ℕ) (a : Re) (names : Names)
    → IsOf o most a names → (hay : List ℕ) → All (λ b. b < 256) hay
    → is_some (find_str a hay 0) ≡ found_in hay (within most o)
unfolding IsOf
at_read None most a names h hay small = absurd h
at_read (Some x) most a names h hay small =
    let low : nat_le x.0.depth most ≡ true = grind arith in
    rw low (sym (is_some-option_map spans (find_str a hay 0))
    ∙ ap is_some (find_str_alike a x.0.value h.1 hay small 0)
    ∙ is_some-option_map spans (find_str x.0.value hay 0))

some_read : (o : Option (Nested Re × Names)) (most : ℕ) (a : Re) (names : Names)
    → IsOf o most a names → is_some (within most o) ≡ true
unfolding IsOf
some_read None most a names h = absurd h
some_read (Some x) most a names h =
    let low : nat_le x.0.depth most ≡ true = grind arith in rw low refl

too_deep : (o : Option (Nested Re × Names)) (most : ℕ)
    → IfSome o (λ (re, _). most < re.depth) → within most o ≡ None
too_deep None most h = refl
too_deep (Some x) most h = grind arith

is_of : (r : Regex) (config : Config) (text : List ℕ) → regex_source r ≡ text
    → regex_config r ≡ config → IsReadFromSource r → (names : Names)
    × IsOf (read config (chars text)) config.nest_limit (regex_pattern r) names
unfolding IsOf Reads
is_of r config text source same is = (_, rw (source, same) at is)

module _ (w : Written) (text : List ℕ) (is : translated w.flags (chars w.source) ≡ Some text)
  where
    denoted_is : denoted w ≡ expression_in (config_of w.flags) text
    denoted_is = ap (option_and_then (expression_in (config_of w.flags))) is

    pub pattern_finds : (r : Regex) → regex_source r ≡ text → regex_config r ≡ config_of w.flags
        → IsReadFromSource r → SearchesFor w.source w.flags (regex_pattern r)
    pattern_finds r source config read hay small =
        let found = is_of r (config_of w.flags) text source config read in
        at_read _ _ (regex_pattern r) found.0 found.1 hay small ∙ ap (found_in hay) (sym denoted_is)

    pub pattern_is : (r : Regex) → regex_source r ≡ text → regex_config r ≡ config_of w.flags
        → IsReadFromSource r → pattern_of w ≡ Some w
    pattern_is r source config read =
        let found = is_of r (config_of w.flags) text source config read in
        let some : is_some (denoted w) ≡ true =
        ap is_some denoted_is ∙ some_read _ _ (regex_pattern r) found.0 found.1 in
        rw some refl

    pub no_pattern : (kind : ErrorKind) → Refuses (config_of w.flags) text kind
        → kind ≢ OutOfMemory → pattern_of w ≡ None
    unfolding Refuses
    no_pattern kind (inl memory) other = absurd (other memory)
    no_pattern kind (inr (inl none)) other = rw (denoted_is, none) refl
    no_pattern kind (inr (inr (nest, deep))) other =
        rw (denoted_is, too_deep _ _ deep) refl

-- a text that is not translated is no pattern
pub untranslated : (w : Written) → translated w.flags (chars w.source) ≡ None
    → pattern_of w ≡ None
untranslated w none = rw none refl

pub ruleset patterns = (pattern_finds, pattern_is, no_pattern, untranslated)
