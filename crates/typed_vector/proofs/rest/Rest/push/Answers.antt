use Rattle.std.proofs.Common.{◌≡◌, ◌∷◌, ◌++◌, [], List, ℕ, ap, arith, length, sym, rules, ◌∙◌}
use Rattle.std.proofs.lemmas.List.{nil_from_length}
use Rattle.typed_vector.specs.Cells.{rows}
use Rattle.typed_vector.proofs.RestLaws.{length-spread, spread-more}
use Rattle.typed_vector.proofs.rest.Rest.push.Goals as goal

pub overflow_add-self : goal.overflow_add-self
overflow_add-self c =
    let s = c.self.inside in
    omega (
      arith,
      c.requires,
      ap length c.self.view_is,
      length-spread s.count s.indices.items (rows s.bytes.items s.offsets.items),
    )

pub returns-then-is_empty-clause-pushed : goal.returns-then-is_empty-clause-pushed
returns-then-is_empty-clause-pushed c =
    let s = c.self.inside in
    let none : c.args.bytes.now ≡ [] = nil_from_length c.args.bytes.now (search rules) in
    spread-more s.count s.indices.items (rows s.bytes.items s.offsets.items)
    c.self.invariant.within
    ∙ ap (λ (front : List (List ℕ)). front ++ [] ∷ []) c.self.view_is
    ∙ ap (λ (bytes : List ℕ). c.args.self.now ++ bytes ∷ []) (sym none)
