-- Numbers that are read as JSON texts.
use Rattle.std.proofs.Common.{◌≡◌, ℕ, List, Option, Some, None, ap, refl, sym}
use Rattle.jsonb_value.specs.declared.parser.number.Exponents.TheVariants.{Allowed}
use Rattle.jsonb_value.specs.Depth.{depth}
use Rattle.jsonb_value.specs.Json.Syntax.{JsonText}
use Rattle.jsonb_value.specs.Reader.Reading.{read_document}
use Rattle.jsonb_value.specs.Tree.{Tree, null, boolean, number, text, extension, array, object}
use Rattle.jsonb_value.proofs.Json.SpelledLaws.{document-again}
use Rattle.jsonb_value.proofs.Json.ValueLaws.{document-found}
use Rattle.jsonb_path.specs.Literal.{number_in_tree}

-- the number of what a text means
pub number_read : (s : List ℕ) (t : Tree) → JsonText Allowed s t
    → number_in_tree (Some t) ≡ number_in_tree (read_document Allowed s)
number_read s t h = ap number_in_tree (sym (document-again Allowed s t h))

no_number_in : (s : List ℕ) (o : Option Tree) → read_document Allowed s ≡ o
    → ((t : Tree) → JsonText Allowed s t → depth t ≡ 0 → ⊥) → None ≡ number_in_tree o
no_number_in s None e h = refl
no_number_in s (Some null) e h = refl
no_number_in s (Some (boolean b)) e h = refl
no_number_in s (Some (text b)) e h = refl
no_number_in s (Some (extension x)) e h = refl
no_number_in s (Some (array ts)) e h = refl
no_number_in s (Some (object ps)) e h = refl
no_number_in s (Some (number x)) e h =
    absurd (h (number x) (document-found Allowed s (number x) e) refl)

-- a text that means no scalar is no number
pub no_number : (s : List ℕ) → ((t : Tree) → JsonText Allowed s t → depth t ≡ 0 → ⊥)
    → None ≡ number_in_tree (read_document Allowed s)
no_number s h = no_number_in s (read_document Allowed s) refl h

pub ruleset numerals = (number_read, no_number)
