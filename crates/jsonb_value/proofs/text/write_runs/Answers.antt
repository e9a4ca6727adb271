use Rattle.std.proofs.Common.{◌≡◌, ◌++◌, ℕ, List, get_or, take, flat_map, refl, sym, ap, ◌∙◌, arith}
use Rattle.std.proofs.Common.{rules, append_assoc}
use Rattle.std.proofs.lemmas.Grind.{common_steps}
use Rattle.std.proofs.lemmas.Str.{IsCharBoundary-after_ascii, IsCharBoundary-before_ascii}
use Rattle.jsonb_value.specs.Text.{byte_text, escape}
use Rattle.jsonb_value.proofs.Escapes.{IsRun-found, content-plain}
use Rattle.jsonb_value.proofs.Writing.{joins_two, joins_three}
use Rattle.jsonb_value.proofs.text.write_runs.Goals as goal

pub range-requires-clause-end_boundary : goal.range-requires-clause-end_boundary
range-requires-clause-end_boundary g c = grind (arith, IsRun-found, IsCharBoundary-before_ascii)

pub write_escape-requires : goal.write_escape-requires
write_escape-requires g c = grind (arith, IsRun-found)

pub range_from-rest-requires : goal.range_from-rest-requires
range_from-rest-requires g c some = grind (arith, IsRun-found, IsCharBoundary-after_ascii)

pub runs-preserved : goal.runs-preserved
runs-preserved g c =
    let rest = c.runs.rest.now in
    let at = c.in-Some.at in
    let run = IsRun-found rest at (search rules) in
    let (text, done, whole, writes) = c.runs.invariant in
    let front = c.range.result.now in
    let escaped = escape (get_or c.as_bytes.result.now at 0) in
    let left = c.range_from-rest.result.now in
    let before : front ≡ take at rest = c.range.ensures.value ∙ grind (arith, common_steps) in
    let parts : flat_map byte_text rest ≡ front ++ (escaped ++ flat_map byte_text left) =
    rw (before, c.as_bytes.ensures.value, c.range_from-rest.ensures.value) run.content in (
      c.range_from-rest.utf8,
      done ++ (front ++ escaped),
      append_assoc done (front ++ escaped) (flat_map byte_text left)
          ∙ ap (λ (l : List ℕ). done ++ l)
          (append_assoc front escaped (flat_map byte_text left) ∙ sym parts)
          ∙ whole,
      λ flush.
          let so_far = writes flush in
          let one = c.write_str.ensures.styled so_far.flush (search rules) in
          let two = c.write_escape.ensures one.flush (search rules) in
          joins_three _ _ _ _ _ _ _ _ _ so_far one two refl,
    )

pub returns : goal.returns
returns g c flush ok =
    grind (arith, content-plain, joins_two)
