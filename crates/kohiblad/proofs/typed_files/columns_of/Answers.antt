use Rattle.std.proofs.Common.{rules, ◌≡◌, map, refl, sym, ap, subst, ◌∙◌, arith}
use Rattle.std.specs.Prelude.{IsErrAnd}
use Rattle.std.specs.List.{AllZip}
use Rattle.jsonb_typed_file.specs.declared.error.FileError.TheVariants.{OutOfMemory, TooDeep}
use Rattle.jsonb_typed_file.specs.File.{row_count}
use Rattle.jsonb_typed_file.proofs.LayoutLaws.{told}
use Rattle.jsonb_typed_file.proofs.ToldLaws.{other_told}
use Rattle.kohiblad.specs.TypedFiles.{IsColumnPlaced, IsLayoutRefused, column_struct}
use Rattle.kohiblad.proofs.TypedFileLaws.{not_memory, structs_placed}
use Rattle.kohiblad.proofs.typed_files.columns_of.Goals as goal

pub returns-clause-ok : goal.returns-clause-ok
returns-clause-ok c =
    let (f, (layout, (fits, all))) = c.in_ok-places.ensures.places in
    let bytes = c.args.bytes.now in (
      f,
      (
        layout,
        (
          fits,
          subst (AllZip (IsColumnPlaced bytes (row_count f)) f.columns)
              (sym (c.in_ok-column_structs.ensures
              ∙ ap (map column_struct) c.deref.ensures.value))
              (structs_placed bytes (row_count f) f.columns c.in_ok-places.places.items all),
        ),
      ),
    )

pub returns-in_err-places-clause-err : goal.returns-in_err-places-clause-err
returns-in_err-places-clause-err c =
    told c.from_residual.result c.in_err-places.field-0.0 (IsLayoutRefused c.args.bytes.now)
    c.from_residual.ensures.1
    (record {
      memory = c.in_err-places.ensures.memory;
      layout = c.in_err-places.ensures.layout;
      shallow = c.in_err-places.ensures.deep;
    })

pub returns-in_err-column_structs-clause-err : goal.returns-in_err-column_structs-clause-err
returns-in_err-column_structs-clause-err c =
    let is : IsErrAnd c.from_residual-in_err-column_structs.result (λ e. e ≡ OutOfMemory) =
    search rules in
    told c.from_residual-in_err-column_structs.result OutOfMemory
    (IsLayoutRefused c.args.bytes.now) is
    (record {
      memory = λ f layout fits. refl;
      layout = other_told c.args.bytes.now OutOfMemory (omega arith) c.in_ok-places.ensures.layout;
      shallow = λ is. not_memory TooDeep is refl;
    })
