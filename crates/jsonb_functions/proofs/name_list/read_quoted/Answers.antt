use Rattle.std.proofs.Common.{false, rules, sym, ap, ◌∙◌, ◌++◌, ◌∷◌, [], take}
use Rattle.std.proofs.Math.Nat.{sub-zero}
use Rattle.std.specs.Prelude.{string_bytes}
use Rattle.jsonb_functions.specs.NameList.{is_unquoted, quoted}
use Rattle.jsonb_functions.proofs.NameLaws.{byte_on, joined, name_ends, no_name, none_joined}
use Rattle.jsonb_functions.proofs.NameLaws.{run_boundary, run_on, stops_there}
use Rattle.jsonb_functions.proofs.NameListLaws.{backslash_then, ends_run, escaped_byte}
use Rattle.jsonb_functions.proofs.NameListLaws.{no_mark_none, no_mark_same, quote_ends}
use Rattle.jsonb_functions.proofs.NameListLaws.{takes_unquoted}
use Rattle.jsonb_functions.proofs.name_list.read_quoted.Goals as goal

pub runs-init : goal.runs-init
runs-init c = (
  search rules,
  none_joined (quoted false c.args.text.now)
      ∙ ap (λ x. joined x (quoted false c.args.text.now)) (sym c.new-name.ensures.bytes),
)

pub range-requires-clause-end_boundary : goal.range-requires-clause-end_boundary
range-requires-clause-end_boundary c =
    run_boundary is_unquoted ends_run c.runs.left.now c.run_len-end.result c.run_len-end.ensures

pub range_from-rest-requires : goal.range_from-rest-requires
range_from-rest-requires c = λ _.
    run_boundary is_unquoted ends_run c.runs.left.now c.run_len-end.result c.run_len-end.ensures

pub returns-in_default : goal.returns-in_default
returns-in_default c =
    let text = c.args.text.now in
    let left = c.runs.left.now in
    let rest = c.range_from-rest.result.now in
    let end = c.run_len-end.result in
    let now = string_bytes c.push_str.new.self in
    let here = run_on (quoted false) is_unquoted takes_unquoted (quoted false text)
    (string_bytes c.runs.name) c.range.result.now now left rest end c.runs.invariant.1
    c.run_len-end.ensures (c.range.ensures.value ∙ ap (λ k. take k left) (sub-zero end))
    c.range_from-rest.ensures.value c.in_ok-push_str.ensures.bytes in
    let stops = stops_there is_unquoted left rest end c.run_len-end.ensures
    c.range_from-rest.ensures.value in
    no_name (quoted false text) now (quoted false rest) here
    (no_mark_none rest stops c.in_default.ensures)

pub returns-then-mark-eq34 : goal.returns-then-mark-eq34
returns-then-mark-eq34 c =
    let text = c.args.text.now in
    let left = c.runs.left.now in
    let rest = c.range_from-rest.result.now in
    let end = c.run_len-end.result in
    let now = string_bytes c.push_str.new.self in
    let here = run_on (quoted false) is_unquoted takes_unquoted (quoted false text)
    (string_bytes c.runs.name) c.range.result.now now left rest end c.runs.invariant.1
    c.run_len-end.ensures (c.range.ensures.value ∙ ap (λ k. take k left) (sub-zero end))
    c.range_from-rest.ensures.value c.in_ok-push_str.ensures.bytes in
    name_ends (quoted false text) now c.in-Some.after.now (quoted false rest) here
    (quote_ends rest c.in-Some.after.now c.in-Some.mark c.in-Some.ensures.1 c.if-mark-eq34.true)

pub runs-preserved-in_default-split_mark : goal.runs-preserved-in_default-split_mark
runs-preserved-in_default-split_mark c =
    let text = c.args.text.now in
    let left = c.runs.left.now in
    let rest = c.range_from-rest.result.now in
    let end = c.run_len-end.result in
    let now = string_bytes c.push_str.new.self in
    let here = run_on (quoted false) is_unquoted takes_unquoted (quoted false text)
    (string_bytes c.runs.name) c.range.result.now now left rest end c.runs.invariant.1
    c.run_len-end.ensures (c.range.ensures.value ∙ ap (λ k. take k left) (sub-zero end))
    c.range_from-rest.ensures.value c.in_ok-push_str.ensures.bytes in
    let stops = stops_there is_unquoted left rest end c.run_len-end.ensures
    c.range_from-rest.ensures.value in
    let after = c.in-Some.after.now in (
      search rules,
      here ∙ ap (λ x. joined now x)
          (backslash_then rest after c.in-Some.mark stops c.in-Some.ensures.1 c.if-mark-eq34.false
          ∙ no_mark_same after c.in_default-split_mark.ensures),
    )

pub runs-preserved : goal.runs-preserved
runs-preserved c =
    let text = c.args.text.now in
    let left = c.runs.left.now in
    let rest = c.range_from-rest.result.now in
    let end = c.run_len-end.result in
    let now = string_bytes c.push_str.new.self in
    let here = run_on (quoted false) is_unquoted takes_unquoted (quoted false text)
    (string_bytes c.runs.name) c.range.result.now now left rest end c.runs.invariant.1
    c.run_len-end.ensures (c.range.ensures.value ∙ ap (λ k. take k left) (sub-zero end))
    c.range_from-rest.ensures.value c.in_ok-push_str.ensures.bytes in
    let stops = stops_there is_unquoted left rest end c.run_len-end.ensures
    c.range_from-rest.ensures.value in
    let step = c.in-Some-split_mark in (
      search rules,
      byte_on (quoted false) is_unquoted takes_unquoted (quoted false text) now
          (string_bytes c.push.new.self) rest step.next.now step.byte here
          (escaped_byte rest c.in-Some.after.now step.next.now c.in-Some.mark step.byte stops
          c.in-Some.ensures.1 c.if-mark-eq34.false step.ensures.1)
          (c.in_ok-push.ensures.bytes ∙ ap (λ x. now ++ x)
          (c.in_ok-push.ensures.ascii (rw c.from.ensures step.ensures.0)
          ∙ ap (λ x. x ∷ []) c.from.ensures)),
    )
