-- What is read of a whole text, and what it means.
use Rattle.std.proofs.Common.{◌≡◌, ℕ, sym, subst, ◌∙◌, List, None, Result, Ok, Err}
use Rattle.std.specs.Prelude.{IsErrAnd}
use Rattle.jsonb_value.specs.declared.parser.number.Exponents.{Exponents}
use Rattle.jsonb_value.specs.Tree.{Tree}
use Rattle.jsonb_value.specs.Json.Syntax.{JsonText}
use Rattle.jsonb_value.specs.Reader.Reading.{read_document}
use Rattle.jsonb_value.proofs.Json.Tests.{no_error}
use Rattle.jsonb_value.proofs.Json.SpelledLaws.{document-again}
use Rattle.jsonb_value.specs.declared.error.Error.{Error}
use Rattle.jsonb_value.specs.declared.error.Error.TheVariants.{InvalidJson}
use Rattle.jsonb_value.specs.Reader.Gives.{Fails, FailsIf}
use Rattle.jsonb_value.proofs.Json.ValueSteps.{fails_sure}

pub nothing_read : (rule : Exponents) (s : List ℕ) (t : Tree) → read_document rule s ≡ None
    → JsonText rule s t → ⊥
nothing_read rule s t none json = no_error (sym none ∙ document-again rule s t json)

-- what `InvalidJson` means for the whole text
pub refused : (rule : Exponents) {X : Type 0} (s : List ℕ) (r : Result X Error) (e : Error)
    → IsErrAnd r (λ y. y ≡ e)
    → Fails e (read_document rule s) → r ≡ Err InvalidJson → (t : Tree) → JsonText rule s t → ⊥
refused rule s (Ok x) e is fails invalid t json = absurd is
refused rule s (Err y) e is fails invalid t json =
    let same : y ≡ InvalidJson = cc in
    nothing_read rule s t (subst (λ z. Fails z (read_document rule s)) (sym is ∙ same) fails) json

-- the same of a text that was read within a depth
pub refused_within : (rule : Exponents) {X : Type 0} (A : Type 0) (s : List ℕ) (r : Result X Error)
    (e : Error) → IsErrAnd r (λ y. y ≡ e) → FailsIf A e (read_document rule s)
    → r ≡ Err InvalidJson → A → (t : Tree) → JsonText rule s t → ⊥
refused_within rule A s r e is fails invalid a =
    refused rule s r e is (fails_sure A e (read_document rule s) a fails) invalid
