use Rattle.std.proofs.Common.{rules, ◌≡◌, ◌++◌, [], length, refl, Result, Ok, Err}
use Rattle.std.specs.Prelude.{OnErr}
use Rattle.std.proofs.lemmas.List.{append-nil}
use Rattle.std.specs.Int.{w64, to_be_bytes}
use Rattle.jsonb.specs.StoredRow.{row_bytes}
use Rattle.jsonb.proofs.stored_row.append_row.Goals as goal

on_err : {T E : Type 0} (r : Result T E) (P : Type 0) → P → OnErr r P
on_err (Ok x) P p = tt
on_err (Err e) P p = p

-- Not even the length was appended.
pub returns-in_err-extend_from_slice-clause-beginning :
    goal.returns-in_err-extend_from_slice-clause-beginning
returns-in_err-extend_from_slice-clause-beginning c =
    let same : c.extend_from_slice.new.self.items ≡ c.args.buf.now.items = search rules in
    on_err c.from_residual.result _
    ([], ((row_bytes c.args.row.now, refl), rw (append-nil c.args.buf.now.items) same))

-- The length was appended alone.
pub returns-in_err-extend_from_slice-2-clause-beginning :
    goal.returns-in_err-extend_from_slice-2-clause-beginning
returns-in_err-extend_from_slice-2-clause-beginning c =
    let size = to_be_bytes w64 (length c.args.row.now) in
    let same : c.extend_from_slice-2.new.self.items ≡ c.args.buf.now.items ++ size = search rules in
    on_err c.from_residual-in_err-extend_from_slice-2.result _
    (size, ((c.args.row.now, refl), same))
