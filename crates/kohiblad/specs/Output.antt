-- The results of printing, parsing and bringing to canonical form, as C receives them.
use Rattle.std.specs.Prelude.{◌<◌, ◌≤◌, ◌⊎◌, ℕ, zero, suc, List, length, Result, Err}
use Rattle.std.specs.Str.{IsUtf8}
use Rattle.jsonb_value.specs.declared.error.Error.TheVariants as errors
use Rattle.jsonb_value.specs.TextDepth.{text_depth}
use Rattle.jsonb_codec.specs.Depth.{IsDocumentWithin}
use Rattle.jsonb.specs.Canonical.{RewritesTo}
use Rattle.jsonb_value.specs.declared.parser.number.Exponents.{Exponents}
use Rattle.jsonb_value.specs.declared.parser.number.Exponents.TheVariants.{Forbidden, Allowed}
use Rattle.jsonb.specs.Parsing.{ParsesUnder, ParsesUnderWithin}
use Rattle.jsonb_value.specs.declared.within.ParseError.{ParseError}
use Rattle.jsonb_value.specs.declared.within.ParseError.TheVariants.{TooDeep, Refused}
use Rattle.kohiblad.specs.Status.{code, too_deep, IsHandedOver, IsLongHandedOver, IsOneAnswered}
use Rattle.kohiblad.specs.Status.{IsRefused}

-- The text is handed over, or there is not enough memory.
abbrev pub IsWrittenOut : List ℕ → List ℕ → List ℕ → ℕ → ℕ → Type 0
IsWrittenOut text before after size status = IsHandedOver text before after size status
    ⊎ IsRefused (code errors.OutOfMemory) before after size status

-- The text is handed over, or there is not enough memory, which is asked for only if the text fits.
abbrev pub IsLongWrittenOut : List ℕ → List ℕ → List ℕ → ℕ → ℕ → Type 0
IsLongWrittenOut text before after size status = IsLongHandedOver text before after size status
    ⊎ ((length text ≤ length before)
    × IsRefused (code errors.OutOfMemory) before after size status)

-- Bytes that are no document of at most this depth are refused, and a document is brought to
-- canonical form, as the library does it.
abbrev pub IsRewrittenWithin : ℕ → List ℕ → List ℕ → List ℕ → ℕ → ℕ → Type 0
IsRewrittenWithin depth bytes before after size status =
    ((IsDocumentWithin depth bytes → ⊥)
    × IsRefused (code errors.InvalidJsonb) before after size status)
    ⊎ (IsDocumentWithin depth bytes
    × IsOneAnswered (RewritesTo bytes) before after size status)

-- The rule for exponents that a caller gives as a number: 0 forbids them.
abbrev pub rule_of : ℕ → Exponents
rule_of zero = Forbidden
rule_of (suc n) = Allowed

-- Bytes that are no UTF-8 are refused, by their depth first.
abbrev pub IsNoText : ℕ → List ℕ → Result (List ℕ) ParseError → Type 0
IsNoText depth text (Err TooDeep) = depth < text_depth text
IsNoText depth text (Err (Refused errors.InvalidUtf8)) = text_depth text ≤ depth
IsNoText depth text _ = ⊥

-- The result of reading bytes as a text within a depth.
abbrev pub ReadsAs : Exponents → ℕ → List ℕ → Result (List ℕ) ParseError → Type 0
ReadsAs rule depth text made = (IsUtf8 text × ParsesUnderWithin rule depth text made)
    ⊎ ((IsUtf8 text → ⊥) × IsNoText depth text made)

-- The text is refused if it nests deeper than `depth`, and then if it is not UTF-8, and otherwise
-- parsed under a rule for exponents, as the library does it.
abbrev pub IsReadWithin : Exponents → ℕ → List ℕ → List ℕ → List ℕ → ℕ → ℕ → Type 0
IsReadWithin rule depth text before after size status =
    ((depth < text_depth text) × IsRefused too_deep before after size status)
    ⊎ ((text_depth text ≤ depth)
    × (((IsUtf8 text → ⊥) × IsRefused (code errors.InvalidUtf8) before after size status)
    ⊎ (IsUtf8 text × IsOneAnswered (ParsesUnder rule text) before after size status)))
