use Rattle.std.proofs.Common.{◌≡◌, ◌∙◌, ◌++◌, ◌∷◌, [], Some, ap, map, refl, rules, subst, sym}
use Rattle.std.specs.Prelude.{codes, string_bytes, ◌↔◌}
use Rattle.jsonb_functions.specs.NameList.{NameList, name_after}
use Rattle.jsonb_functions.specs.Names.{names_of}
use Rattle.jsonb_functions.proofs.HashLaws.{map_joined}
use Rattle.jsonb_functions.proofs.NameLaws.{all_read, name_on, none_read}
use Rattle.jsonb_functions.proofs.NameListLaws.{after_shorter, first_read, no_first, none_listed}
use Rattle.jsonb_functions.proofs.NameListLaws.{other_by_test, other_bytes, same_by_test}
use Rattle.jsonb_functions.proofs.NameListLaws.{same_bytes}
use Rattle.jsonb_functions.proofs.name_list.read_name_list.Goals as goal

pub returns-then-eq-clause-ok : goal.returns-then-eq-clause-ok
returns-then-eq-clause-ok c = λ names.
    let text = c.args.text.now in
    subst (λ x. NameList text names ↔ (Some (map string_bytes x) ≡ Some names))
    (sym c.new-names.ensures.items)
    (none_listed text (same_bytes text (codes "{}") c.if-eq.ensures) names)

pub returns-in_default-clause-ok : goal.returns-in_default-clause-ok
returns-in_default-clause-ok c =
    let none = rw c.in_default.is at c.in_ok-name.ensures in
    let text = c.args.text.now in
    no_first text (other_bytes text (codes "{}") c.if-eq.ensures) (sym none)

pub loop-left-init : goal.loop-left-init
loop-left-init c =
    let reads = rw c.in-Some.is at c.in_ok-name.ensures in
    let text = c.args.text.now in (
      search rules,
      first_read text (string_bytes c.in-Some.name) c.in-Some.rest.now
          (names_of c.push.new.self) (other_bytes text (codes "{}") c.if-eq.ensures) (sym reads)
          (ap (map string_bytes) c.in_ok-push.ensures.items
          ∙ ap (λ x. map string_bytes (x ++ (c.in-Some.name ∷ []))) c.new-names.ensures.items),
    )

pub loop-left-smaller : goal.loop-left-smaller
loop-left-smaller c =
    let reads = rw c.in-Some-2.is at c.in_ok-name-2.ensures in
    after_shorter 44 c.loop-left.left.now (string_bytes c.in-Some-2.name) c.in-Some-2.rest.now
    (sym reads)

pub loop-left-preserved : goal.loop-left-preserved
loop-left-preserved c =
    let reads = rw c.in-Some-2.is at c.in_ok-name-2.ensures in
    let left = c.loop-left.left.now in (
      search rules,
      name_on (NameList c.args.text.now) (name_after 44) (codes "}") left
          c.in-Some-2.rest.now (string_bytes c.in-Some-2.name) (names_of c.loop-left.names)
          (names_of c.push-in-loop-left.new.self)
          (other_by_test left (codes "}") c.loop-left-test.ensures) (sym reads)
          (ap (map string_bytes) c.in_ok-push-2.ensures.items
          ∙ map_joined string_bytes c.loop-left.names.items (c.in-Some-2.name ∷ []))
          c.loop-left.invariant.1,
    )

pub returns-in_default-2-clause-ok : goal.returns-in_default-2-clause-ok
returns-in_default-2-clause-ok c =
    let none = rw c.in_default-2.is at c.in_ok-name-2.ensures in
    let left = c.loop-left.left.now in
    none_read (NameList c.args.text.now) (name_after 44) (codes "}") left
    (names_of c.loop-left.names) (other_by_test left (codes "}") c.loop-left-test.ensures)
    (sym none) c.loop-left.invariant.1

pub returns-clause-ok : goal.returns-clause-ok
returns-clause-ok c =
    let left = c.loop-left.left.now in
    all_read (NameList c.args.text.now) (name_after 44) (codes "}") refl left
    (names_of c.loop-left.names) (same_by_test left (codes "}") c.loop-left-test.ensures)
    c.loop-left.invariant.1
