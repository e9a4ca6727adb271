use Rattle.std.proofs.Common.{◌≡◌, [], ◌∷◌, ◌++◌, take, sym, ap, ◌∙◌, subst, arith}
use Rattle.std.specs.List.{AllZip}
use Rattle.std.proofs.lemmas.List.{take_all}
use Rattle.std.specs.Prelude.{None, Some}
use Rattle.jsonb.specs.Document.{document_tree}
use Rattle.kohiblad_shell.specs.Extracts.{IsFieldAt}
use Rattle.kohiblad_shell.proofs.ExtractLaws.{as_csv, line_more}
use Rattle.kohiblad_shell.proofs.extract.table_line.Goals as goal

pub loop-index-preserved : goal.loop-index-preserved
loop-index-preserved c =
    line_more c.args.layout (document_tree c.args.document) c.args.columns.now c.loop-index.index
    c.index-columns-index.result
    c.loop-index.line.items c.push_field.new.line.items c.in-Some.field.items
    c.loop-index-test.true c.index-columns-index.is
    (rw c.in-Some.is at c.in_ok-field.ensures.ok) c.loop-index.invariant
    (rw (c.deref.ensures.value, c.separator.ensures) at c.in_ok-push_field-in-Some.ensures)

pub returns-in-None-clause-ok : goal.returns-in-None-clause-ok
returns-in-None-clause-ok c = (
  c.loop-index.index,
  c.index-columns-index.result,
  c.loop-index-test.true,
  sym c.index-columns-index.is,
  rw c.in-None.is at c.in_ok-field.ensures.ok,
)

pub returns-in-None-clause-csv : goal.returns-in-None-clause-csv
returns-in-None-clause-csv c =
    as_csv c.args.layout c.args.columns.now (document_tree c.args.document) None
    (returns-in-None-clause-ok c)

pub returns-clause-csv : goal.returns-clause-csv
returns-clause-csv c =
    let whole : take c.loop-index.index c.args.columns.now ≡ c.args.columns.now =
    take_all c.loop-index.index c.args.columns.now (omega (arith, c.loop-index-test.false)) in
    as_csv c.args.layout c.args.columns.now (document_tree c.args.document)
    (Some c.push.new.self.items) (
      c.loop-index.invariant.0,
      (
        subst (λ cs. AllZip (λ column field. IsFieldAt c.args.layout
            (document_tree c.args.document) column (Some field)) cs c.loop-index.invariant.0)
            whole c.loop-index.invariant.1.0,
        c.in_ok-push.ensures.items ∙ ap (λ b. b ++ 10 ∷ []) c.loop-index.invariant.1.1,
      ),
    )
