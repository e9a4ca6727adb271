use Rattle.std.proofs.Common.{◌≡◌, ◌∙◌, ℕ, List, ap, sym}
use Rattle.std.specs.declared.cmp.Ordering.TheVariants.{Less, Equal}
use Rattle.std.specs.Ordering.{nat_cmp}
use Rattle.std.specs.Cmp.Lexicographic.{slice_cmp}
use Rattle.jsonb.specs.Entry.{entry_there}
use Rattle.jsonb_functions.proofs.KeyOrder.{key_equal, not_before, not_itself}
use Rattle.kohiblad.specs.PlacedMembers.{place_among}
use Rattle.kohiblad.proofs.PlacedMemberLaws.{guess_law, if_found, if_some, later_law, met_law}
use Rattle.kohiblad.proofs.PlacedMemberLaws.{named_after, names_equal}
use Rattle.kohiblad.proofs.placed_members.PlacedMembers.place_after.Goals as goal

pub returns-then-eq-clause-found : goal.returns-then-eq-clause-found
returns-then-eq-clause-found c whole =
    let b = c.args.bytes.now in
    let name = c.args.name.now in
    let mid = c.pass.new.self in
    let key = c.in-Some.key in
    let passed = c.pass.ensures.passed b whole in
    let equal : slice_cmp nat_cmp (entry_there b key).payload name ≡ Equal =
    ap (λ (k : List ℕ). slice_cmp nat_cmp k name) (sym c.payload.ensures.bytes)
    ∙ names_equal c.payload.result.now name c.eq.result c.eq.ensures c.if-eq.true in
    let taken = c.take_value.ensures.taken b key c.in-Some.is passed.whole in
    if_found (place_among name b c.args.self.now) c.take_value.result
    (met_law b name key mid c.in-Some.is c.take_value.result equal taken.0
    ∙ sym (guess_law b name key c.args.passed c.args.self.now mid whole passed c.in-Some.is
    (sym (key_equal (entry_there b key).payload name equal)) name (not_itself name)))

pub returns-then-eq-clause-later : goal.returns-then-eq-clause-later
returns-then-eq-clause-later c whole =
    let b = c.args.bytes.now in
    let name = c.args.name.now in
    let mid = c.pass.new.self in
    let key = c.in-Some.key in
    let passed = c.pass.ensures.passed b whole in
    let equal : slice_cmp nat_cmp (entry_there b key).payload name ≡ Equal =
    ap (λ (k : List ℕ). slice_cmp nat_cmp k name) (sym c.payload.ensures.bytes)
    ∙ names_equal c.payload.result.now name c.eq.result c.eq.ensures c.if-eq.true in
    let taken = c.take_value.ensures.taken b key c.in-Some.is passed.whole in
    if_some c.take_value.result
    ((k : List ℕ) → slice_cmp nat_cmp name k ≡ Less
    → place_among k b c.args.self.now ≡ place_among k b c.take_value.new.self)
    (λ k above.
    guess_law b name key c.args.passed c.args.self.now mid whole passed c.in-Some.is
    (sym (key_equal (entry_there b key).payload name equal)) k (not_before name k above)
    ∙ later_law b name key mid c.in-Some.is c.take_value.new.self taken.1 equal k above)

pub returns-then-eq-clause-whole : goal.returns-then-eq-clause-whole
returns-then-eq-clause-whole c whole =
    (c.take_value.ensures.taken c.args.bytes.now c.in-Some.key c.in-Some.is
    (c.pass.ensures.passed c.args.bytes.now whole).whole).1.whole

pub returns-then-eq-clause-exact : goal.returns-then-eq-clause-exact
returns-then-eq-clause-exact c whole =
    let b = c.args.bytes.now in
    let key = c.in-Some.key in
    let passed = c.pass.ensures.passed b whole in
    (c.take_value.ensures.taken b key c.in-Some.is passed.whole).0
    ∙ sym (named_after b c.args.name.now c.args.passed c.args.self.now c.pass.new.self key
    c.eq.result c.payload.result.now passed c.in-Some.is c.eq.ensures c.payload.ensures.bytes
    c.if-eq.true)
