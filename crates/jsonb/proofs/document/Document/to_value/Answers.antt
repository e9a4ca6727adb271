use Rattle.std.proofs.Common.{◌≡◌, ℕ, List, Result, Ok, Err, IfOk, refl}
use Rattle.jsonb_value.specs.declared.error.Error.{Error}
use Rattle.jsonb_value.specs.declared.value.Value.{Value}
use Rattle.jsonb_value.specs.Tree.{Tree}
use Rattle.jsonb_value.specs.Value.{tree_of}
use Rattle.jsonb_codec.specs.Doc.{Doc}
use Rattle.jsonb.proofs.DocumentLaws.{tree_of_bytes}
use Rattle.jsonb.proofs.document.Document.to_value.Goals as goal

-- the one tree of the bytes is the value's
means : (r : Result Value Error) (b : List ℕ) (t : Tree) → Doc b t
    → IfOk r (λ v. (u : Tree) → Doc b u → tree_of v ≡ u) → IfOk r (λ v. tree_of v ≡ t)
means (Ok v) b t doc known = known t doc
means (Err e) b t doc known = tt

pub returns-clause-ok : goal.returns-clause-ok
returns-clause-ok c =
    let known = tree_of_bytes _ c.args.self.now refl in
    means c.value_of_document.result _ _ known c.value_of_document.ensures.ok
