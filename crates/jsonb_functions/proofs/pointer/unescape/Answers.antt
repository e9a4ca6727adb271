use Rattle.std.proofs.Common.{false, rules, sym, ap, ◌∙◌, ◌++◌, take}
use Rattle.std.proofs.Math.Nat.{sub-zero}
use Rattle.std.specs.Prelude.{string_bytes}
use Rattle.jsonb_functions.specs.Pointer.{is_unescaped, unescaped}
use Rattle.jsonb_functions.proofs.NameLaws.{byte_on, joined, name_ends, no_name, none_joined}
use Rattle.jsonb_functions.proofs.NameLaws.{run_boundary, run_on, stops_there}
use Rattle.jsonb_functions.proofs.PointerLaws.{character_low, ends_run, no_mark_ends, slash_ends}
use Rattle.jsonb_functions.proofs.PointerLaws.{takes_plain, tilde_ends, tilde_none, tilde_some}
use Rattle.jsonb_functions.proofs.PointerLaws.{tilde_then}
use Rattle.jsonb_functions.proofs.pointer.unescape.Goals as goal

pub runs-init : goal.runs-init
runs-init c = (
  search rules,
  none_joined (unescaped false c.args.text.now)
      ∙ ap (λ x. joined x (unescaped false c.args.text.now)) (sym c.new-name.ensures.bytes),
)

pub range-requires-clause-end_boundary : goal.range-requires-clause-end_boundary
range-requires-clause-end_boundary c =
    run_boundary is_unescaped ends_run c.runs.left.now c.run_len-end.result c.run_len-end.ensures

pub range_from-rest-requires : goal.range_from-rest-requires
range_from-rest-requires c = λ _.
    run_boundary is_unescaped ends_run c.runs.left.now c.run_len-end.result c.run_len-end.ensures

pub returns-in_default : goal.returns-in_default
returns-in_default c =
    let text = c.args.text.now in
    let left = c.runs.left.now in
    let rest = c.range_from-rest.result.now in
    let end = c.run_len-end.result in
    let now = string_bytes c.push_str.new.self in
    let here = run_on (unescaped false) is_unescaped takes_plain (unescaped false text)
    (string_bytes c.runs.name) c.range.result.now now left rest end c.runs.invariant.1
    c.run_len-end.ensures (c.range.ensures.value ∙ ap (λ k. take k left) (sub-zero end))
    c.range_from-rest.ensures.value c.in_ok-push_str.ensures.bytes in
    let stops = stops_there is_unescaped left rest end c.run_len-end.ensures
    c.range_from-rest.ensures.value in
    name_ends (unescaped false text) now rest (unescaped false rest) here
    (no_mark_ends rest stops c.in_default.ensures)

pub returns-then-mark-ne126 : goal.returns-then-mark-ne126
returns-then-mark-ne126 c =
    let text = c.args.text.now in
    let left = c.runs.left.now in
    let rest = c.range_from-rest.result.now in
    let end = c.run_len-end.result in
    let now = string_bytes c.push_str.new.self in
    let here = run_on (unescaped false) is_unescaped takes_plain (unescaped false text)
    (string_bytes c.runs.name) c.range.result.now now left rest end c.runs.invariant.1
    c.run_len-end.ensures (c.range.ensures.value ∙ ap (λ k. take k left) (sub-zero end))
    c.range_from-rest.ensures.value c.in_ok-push_str.ensures.bytes in
    let stops = stops_there is_unescaped left rest end c.run_len-end.ensures
    c.range_from-rest.ensures.value in
    name_ends (unescaped false text) now rest (unescaped false rest) here
    (slash_ends rest c.in-Some.after.now c.in-Some.mark stops c.in-Some.ensures.1
    c.if-mark-ne126.true)

pub runs-preserved : goal.runs-preserved
runs-preserved c =
    let text = c.args.text.now in
    let left = c.runs.left.now in
    let rest = c.range_from-rest.result.now in
    let end = c.run_len-end.result in
    let now = string_bytes c.push_str.new.self in
    let here = run_on (unescaped false) is_unescaped takes_plain (unescaped false text)
    (string_bytes c.runs.name) c.range.result.now now left rest end c.runs.invariant.1
    c.run_len-end.ensures (c.range.ensures.value ∙ ap (λ k. take k left) (sub-zero end))
    c.range_from-rest.ensures.value c.in_ok-push_str.ensures.bytes in
    let stops = stops_there is_unescaped left rest end c.run_len-end.ensures
    c.range_from-rest.ensures.value in
    let step = c.in-Some-split_mark in
    let character = c.in-Some-character_of.character in (
      search rules,
      byte_on (unescaped false) is_unescaped takes_plain (unescaped false text) now
          (string_bytes c.push.new.self) rest step.next.now character here
          (tilde_some rest c.in-Some.after.now step.next.now c.in-Some.mark step.code character
          c.in-Some.ensures.1 c.if-mark-ne126.false step.ensures.1 c.in-Some-character_of.ensures)
          (c.in_ok-push.ensures.bytes ∙ ap (λ x. now ++ x)
          (c.in_ok-push.ensures.ascii
          (character_low step.code character c.in-Some-character_of.ensures))),
    )

pub returns-in_default-split_mark : goal.returns-in_default-split_mark
returns-in_default-split_mark c =
    let text = c.args.text.now in
    let left = c.runs.left.now in
    let rest = c.range_from-rest.result.now in
    let end = c.run_len-end.result in
    let now = string_bytes c.push_str.new.self in
    let here = run_on (unescaped false) is_unescaped takes_plain (unescaped false text)
    (string_bytes c.runs.name) c.range.result.now now left rest end c.runs.invariant.1
    c.run_len-end.ensures (c.range.ensures.value ∙ ap (λ k. take k left) (sub-zero end))
    c.range_from-rest.ensures.value c.in_ok-push_str.ensures.bytes in
    let after = c.in-Some.after.now in
    no_name (unescaped false text) now (unescaped false rest) here
    (tilde_then rest after c.in-Some.mark c.in-Some.ensures.1 c.if-mark-ne126.false
    ∙ tilde_ends after c.in_default-split_mark.ensures)

pub returns-in_default-character_of : goal.returns-in_default-character_of
returns-in_default-character_of c =
    let text = c.args.text.now in
    let left = c.runs.left.now in
    let rest = c.range_from-rest.result.now in
    let end = c.run_len-end.result in
    let now = string_bytes c.push_str.new.self in
    let here = run_on (unescaped false) is_unescaped takes_plain (unescaped false text)
    (string_bytes c.runs.name) c.range.result.now now left rest end c.runs.invariant.1
    c.run_len-end.ensures (c.range.ensures.value ∙ ap (λ k. take k left) (sub-zero end))
    c.range_from-rest.ensures.value c.in_ok-push_str.ensures.bytes in
    let step = c.in-Some-split_mark in
    no_name (unescaped false text) now (unescaped false rest) here
    (tilde_none rest c.in-Some.after.now step.next.now c.in-Some.mark step.code
    c.in-Some.ensures.1 c.if-mark-ne126.false step.ensures.1 c.in_default-character_of.ensures)
