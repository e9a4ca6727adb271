use Rattle.std.proofs.Common.{◌≡◌, [], List, ℕ, ap, arith, get_or, length, sym, ◌∙◌}
use Rattle.typed_vector.specs.Cells.{rows}
use Rattle.typed_vector.proofs.RestLaws.{found-at, none-at}
use Rattle.typed_vector.proofs.rest.Rest.at.Goals as goal

pub row_at-requires-clause-within : goal.row_at-requires-clause-within
row_at-requires-clause-within c =
    let s = c.self.inside in
    let found = found-at s.count s.indices.items s.bytes.items s.offsets.items c.self.invariant
    c.args.index c.in-Ok.place (rw c.deref.ensures.value at c.in-Ok.ensures.position) in
    omega (arith, found.0, ap length c.deref-in-Ok-2.ensures.value)

pub returns-in-Ok : goal.returns-in-Ok
returns-in-Ok c =
    let s = c.self.inside in
    let found = found-at s.count s.indices.items s.bytes.items s.offsets.items c.self.invariant
    c.args.index c.in-Ok.place (rw c.deref.ensures.value at c.in-Ok.ensures.position) in
    let row : c.row_at.result.now
    ≡ get_or (rows s.bytes.items s.offsets.items) c.in-Ok.place [] =
    rw (← c.deref-in-Ok.ensures.value, ← c.deref-in-Ok-2.ensures.value) c.row_at.ensures in
    row ∙ found.1
    ∙ ap (λ (rows : List (List ℕ)). get_or rows c.args.index []) c.self.view_is

pub returns-in-Err : goal.returns-in-Err
returns-in-Err c =
    let s = c.self.inside in
    sym (none-at s.count s.indices.items s.bytes.items s.offsets.items c.self.invariant
    c.args.index c.in-Err.field-0 (rw c.deref.ensures.value at c.in-Err.ensures.position))
    ∙ ap (λ (rows : List (List ℕ)). get_or rows c.args.index []) c.self.view_is
