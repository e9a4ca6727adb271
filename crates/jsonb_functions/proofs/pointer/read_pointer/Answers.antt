use Rattle.std.proofs.Common.{◌≡◌, ◌∙◌, ◌∷◌, [], ap, map, refl, rules, sym}
use Rattle.std.specs.Prelude.{string_bytes}
use Rattle.jsonb_functions.specs.Names.{names_of}
use Rattle.jsonb_functions.specs.Pointer.{pointer_name, pointer_of}
use Rattle.jsonb_functions.proofs.HashLaws.{map_joined}
use Rattle.jsonb_functions.proofs.NameLaws.{all_read, name_on, none_read}
use Rattle.jsonb_functions.proofs.PathStepLaws.{all_bytes, no_bytes}
use Rattle.jsonb_functions.proofs.PointerLaws.{first_shorter, none_read_yet}
use Rattle.jsonb_functions.proofs.pointer.read_pointer.Goals as goal

pub loop-left-init : goal.loop-left-init
loop-left-init c = (
  search rules,
  rw c.new-names.ensures.items (none_read_yet c.args.text.now),
)

pub loop-left-smaller : goal.loop-left-smaller
loop-left-smaller c =
    let reads = rw c.in-Some.is at c.in_ok-name.ensures in
    first_shorter c.loop-left.left.now (string_bytes c.in-Some.name) c.in-Some.rest.now (sym reads)

pub loop-left-preserved : goal.loop-left-preserved
loop-left-preserved c =
    let reads = rw c.in-Some.is at c.in_ok-name.ensures in
    let left = c.loop-left.left.now in (
      search rules,
      name_on (λ names. c.args.text.now ≡ pointer_of names) pointer_name [] left
          c.in-Some.rest.now (string_bytes c.in-Some.name) (names_of c.loop-left.names)
          (names_of c.push.new.self) (no_bytes left c.loop-left-test.ensures) (sym reads)
          (ap (map string_bytes) c.in_ok-push.ensures.items
          ∙ map_joined string_bytes c.loop-left.names.items (c.in-Some.name ∷ []))
          c.loop-left.invariant.1,
    )

pub returns-in_default-clause-ok : goal.returns-in_default-clause-ok
returns-in_default-clause-ok c =
    let none = rw c.in_default.is at c.in_ok-name.ensures in
    let left = c.loop-left.left.now in
    none_read (λ names. c.args.text.now ≡ pointer_of names) pointer_name [] left
    (names_of c.loop-left.names) (no_bytes left c.loop-left-test.ensures) (sym none)
    c.loop-left.invariant.1

pub returns-clause-ok : goal.returns-clause-ok
returns-clause-ok c =
    let left = c.loop-left.left.now in
    all_read (λ names. c.args.text.now ≡ pointer_of names) pointer_name [] refl left
    (names_of c.loop-left.names) (all_bytes left c.loop-left-test.ensures) c.loop-left.invariant.1
