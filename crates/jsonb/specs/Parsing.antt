-- What parsing a JSON text returns.
use Rattle.std.specs.Prelude.{◌≡◌, ◌⊎◌, ◌<◌, ◌≤◌, ℕ, List, chars, Result, Ok, Err, ⊤}
use Rattle.std.specs.declared.cmp.Ordering.TheVariants.{Equal}
use Rattle.jsonb_value.specs.declared.error.Error.{Error}
use Rattle.jsonb_value.specs.declared.error.Error.TheVariants.{InvalidJson, InvalidJsonb}
use Rattle.jsonb_value.specs.declared.error.Error.TheVariants.{OutOfMemory}
use Rattle.jsonb_value.specs.declared.within.ParseError.{ParseError}
use Rattle.jsonb_value.specs.declared.within.ParseError.TheVariants.{TooDeep, Refused}
use Rattle.jsonb_value.specs.declared.parser.number.Exponents.{Exponents}
use Rattle.jsonb_value.specs.declared.parser.number.Exponents.TheVariants.{Forbidden, Allowed}
use Rattle.jsonb_value.specs.Json.Syntax.{JsonText}
use Rattle.jsonb_value.specs.Norm.{norm}
use Rattle.jsonb_value.specs.Text.{compact, pretty}
use Rattle.jsonb_value.specs.TextDepth.{text_depth}
use Rattle.jsonb_value.specs.Tree.{Tree}
use Rattle.jsonb_value.specs.TreeOrder.{tree_cmp}
use Rattle.jsonb_codec.specs.Canon.{canon, Fits}
use Rattle.jsonb_codec.specs.Doc.{Doc}
use Rattle.jsonb_codec.specs.Reread.{MeansAgain}
use Rattle.jsonb.specs.Texts.{display_text, pretty_display_text}

-- The result of parsing a text under a rule for exponents: the canonical document of its tree, or
-- why there is none.
abbrev pub ParsesUnder : Exponents → List ℕ → Result (List ℕ) Error → Type 0
ParsesUnder rule text (Ok bytes) =
    (t : Tree) × (JsonText rule (chars text) t × (Fits t × (bytes ≡ canon t)))
ParsesUnder rule text (Err InvalidJson) = (t : Tree) → JsonText rule (chars text) t → ⊥
ParsesUnder rule text (Err InvalidJsonb) =
    (t : Tree) × (JsonText rule (chars text) t × (Fits t → ⊥))
ParsesUnder rule text (Err OutOfMemory) = ⊤
ParsesUnder rule text (Err e) = ⊥

-- The result of parsing a text without exponents.
abbrev pub ParsesTo : List ℕ → Result (List ℕ) Error → Type 0
ParsesTo = ParsesUnder Forbidden

-- The result of parsing a text with or without exponents.
abbrev pub ParsesWithExponentsTo : List ℕ → Result (List ℕ) Error → Type 0
ParsesWithExponentsTo = ParsesUnder Allowed

-- The same of a text that nests at most this deep; a deeper one is refused.
abbrev pub ParsesUnderWithin : Exponents → ℕ → List ℕ → Result (List ℕ) ParseError → Type 0
ParsesUnderWithin rule depth text (Ok bytes) =
    (text_depth text ≤ depth) × ParsesUnder rule text (Ok bytes)
ParsesUnderWithin rule depth text (Err TooDeep) = depth < text_depth text
ParsesUnderWithin rule depth text (Err (Refused e)) =
    (text_depth text ≤ depth) × ParsesUnder rule text (Err e)

-- The same without exponents.
abbrev pub ParsesWithin : ℕ → List ℕ → Result (List ℕ) ParseError → Type 0
ParsesWithin = ParsesUnderWithin Forbidden

-- The same with or without exponents.
abbrev pub ParsesWithExponentsWithin : ℕ → List ℕ → Result (List ℕ) ParseError → Type 0
ParsesWithExponentsWithin = ParsesUnderWithin Allowed

-- The bytes mean the tree of the text, under a rule for exponents, with signed zeros made unsigned,
-- and print as it.
pub record IsParsedUnder (rule : Exponents) (text bytes : List ℕ) : Type 0 where
  pub means : (t : Tree) → JsonText rule (chars text) t → Doc bytes (norm t)
  pub prints : (t : Tree) → JsonText rule (chars text) t → display_text bytes ≡ compact t
  pub prints_pretty : (t : Tree) → JsonText rule (chars text) t
      → pretty_display_text bytes ≡ pretty t

-- The same without exponents.
abbrev pub IsParsed : List ℕ → List ℕ → Type 0
IsParsed = IsParsedUnder Forbidden

-- The same with or without exponents.
abbrev pub IsParsedWithExponents : List ℕ → List ℕ → Type 0
IsParsedWithExponents = IsParsedUnder Allowed

-- The text is one of the two that the tree prints as.
abbrev pub IsTextOf : Tree → List ℕ → Type 0
IsTextOf t text = (text ≡ compact t) ⊎ (text ≡ pretty t)

-- The result is a document whose tree is Equal to t; memory alone may be wanting.
abbrev pub GivesEqual : Tree → Result (List ℕ) Error → Type 0
GivesEqual t (Ok bytes) = (u : Tree) × (Doc bytes u × (tree_cmp u t ≡ Equal))
GivesEqual t (Err e) = e ≡ OutOfMemory

-- The text means a fitting tree that is Equal to t, and is parsed to a document of such a tree.
pub record IsReadAgain (t : Tree) (text : List ℕ) (result : Result (List ℕ) Error) : Type 0 where
  pub means : MeansAgain (chars text) t
  pub gives : GivesEqual t result
