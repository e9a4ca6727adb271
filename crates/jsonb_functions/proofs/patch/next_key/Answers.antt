use Rattle.std.proofs.Common.{sym, refl}
use Rattle.jsonb_value.specs.Tree.{null}
use Rattle.jsonb_functions.specs.Patched.{pairs_patched}
use Rattle.jsonb_functions.proofs.PatchLaws.{all_beyond, both_changed, first_alone, first_left}
use Rattle.jsonb_functions.proofs.PatchLaws.{none_beyond, right_changed}
use Rattle.jsonb_functions.proofs.PatchShapes.{maybe_ascend}
use Rattle.jsonb_functions.proofs.patch.next_key.Goals as goal

pub returns-in-Less-clause-first : goal.returns-in-Less-clause-first
returns-in-Less-clause-first c ps qs h =
    let f = c.in-Some-first_of.ensures.first ps h.0 in
    let g = c.in-Some.ensures.first qs h.1 in
    c.kept-in-Less.ensures.next (pairs_patched ps qs) f.others qs f.value f.is f.left h.1
    (first_left ps f.others qs g.others c.in-Some-first_of.first.key.now c.in-Some.change.key.now
    f.value g.value f.are g.are (sym c.in-Less.ensures) (maybe_ascend _ qs h.1))

pub returns-in-Equal-clause-first : goal.returns-in-Equal-clause-first
returns-in-Equal-clause-first c ps qs h =
    let f = c.in-Some-first_of.ensures.first ps h.0 in
    let g = c.in-Some.ensures.first qs h.1 in
    c.changed-in-Equal.ensures.next (pairs_patched ps qs) f.others g.others f.value g.value f.is
    g.is f.left g.left (both_changed ps f.others qs g.others c.in-Some-first_of.first.key.now
    c.in-Some.change.key.now f.value g.value f.are g.are (sym c.in-Equal.ensures)
    (maybe_ascend _ ps h.0) (maybe_ascend _ qs h.1))

pub returns-in-Greater-clause-first : goal.returns-in-Greater-clause-first
returns-in-Greater-clause-first c ps qs h =
    let f = c.in-Some-first_of.ensures.first ps h.0 in
    let g = c.in-Some.ensures.first qs h.1 in
    let all = all_beyond ps f.others c.in-Some-first_of.first.key.now c.in-Some.change.key.now
    f.value f.are (sym c.in-Greater.ensures) (maybe_ascend _ ps h.0) in
    c.changed-in-Greater.ensures.next (pairs_patched ps qs) ps g.others null g.value refl g.is
    h.0 g.left (right_changed ps qs g.others c.in-Some.change.key.now g.value all g.are
    (maybe_ascend _ qs h.1))

pub returns-in_default-first_of-clause-first : goal.returns-in_default-first_of-clause-first
returns-in_default-first_of-clause-first c ps qs h =
    let g = c.in-Some.ensures.first qs h.1 in
    let none = c.in_default-first_of.ensures.first ps h.0 in
    let all = none_beyond ps c.in-Some.change.key.now none in
    c.changed.ensures.next (pairs_patched ps qs) ps g.others null g.value refl g.is h.0 g.left
    (right_changed ps qs g.others c.in-Some.change.key.now g.value all g.are
    (maybe_ascend _ qs h.1))

pub returns-in_default-clause-first : goal.returns-in_default-clause-first
returns-in_default-clause-first c ps qs h =
    let f = c.in_ok-first.ensures.first ps h.0 in
    c.kept.ensures.next (pairs_patched ps qs) f.others qs f.value f.is f.left h.1
    (first_alone ps f.others qs c.in_ok-first.first.key.now f.value
    (c.in_default.ensures.first qs h.1) f.are)
