-- What the steps of reading a string make of all of it.
use Rattle.std.proofs.Common.{◌≡◌, ℕ, ◌<◌, true, sym, ◌∙◌, List, ◌++◌, length, Some}
use Rattle.std.specs.Prelude.{encode_utf8_all}
use Rattle.std.specs.List.{list_all}
use Rattle.jsonb_value.specs.declared.error.Error.{Error}
use Rattle.jsonb_value.specs.Json.Characters.{quote}
use Rattle.jsonb_value.specs.Json.Piece.{is_plain}
use Rattle.jsonb_value.specs.Reader.Gives.{Fails, FailsString, GivesString}
use Rattle.jsonb_value.specs.Reader.Reading.{expect, read_text}
use Rattle.jsonb_value.proofs.Json.TextSteps.{goes_on_from_start, text_closes}
use Rattle.jsonb_value.proofs.Json.ValueLaws.{expect-found}
use Rattle.jsonb_value.proofs.Json.ValueSteps.{fails_on}

-- the closing quote follows the leading unescaped characters
pub string_stands : (s last front bytes after : List ℕ) → s ≡ front ++ last
    → list_all is_plain front ≡ true → encode_utf8_all front ≡ bytes
    → Some after ≡ expect quote last → GivesString s bytes after
string_stands s last front bytes after whole plain same closes = λ n h.
    let g = goes_on_from_start n s last front bytes h whole plain same in
    g.same ∙ text_closes g.turns _ _ _ g.enough (expect-found quote _ _ (sym closes))

-- the rest has escapes, and is read after them
pub string_spelled : (s last front bytes string own after : List ℕ) → s ≡ front ++ last
    → list_all is_plain front ≡ true → encode_utf8_all front ≡ bytes
    → ((n : ℕ) → length last < n → read_text n bytes last ≡ Some (string, after))
    → own ≡ string → GivesString s own after
string_spelled s last front bytes string own after whole plain same reads is = λ n h.
    let g = goes_on_from_start n s last front bytes h whole plain same in
    rw is (g.same ∙ reads g.turns g.enough)

-- the rest is refused
pub string_refused : (s last front bytes : List ℕ) (e : Error) → s ≡ front ++ last
    → list_all is_plain front ≡ true → encode_utf8_all front ≡ bytes
    → ((n : ℕ) → length last < n → Fails e (read_text n bytes last)) → FailsString s e
string_refused s last front bytes e whole plain same fails = λ n h.
    let g = goes_on_from_start n s last front bytes h whole plain same in
    fails_on e _ _ (λ none. g.same ∙ none) (fails g.turns g.enough)
