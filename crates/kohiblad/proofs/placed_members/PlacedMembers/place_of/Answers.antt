use Rattle.std.proofs.Common.{◌≡◌, ℕ, List, sym, ap, ◌∙◌, refl, subst}
use Rattle.std.specs.Prelude.{IfSome}
use Rattle.std.specs.declared.cmp.Ordering.TheVariants.{Less}
use Rattle.std.specs.Ordering.{nat_cmp}
use Rattle.std.specs.Cmp.Lexicographic.{slice_cmp}
use Rattle.jsonb.specs.Entry.{IsEntryIn, entry_there}
use Rattle.jsonb_functions.proofs.KeyOrder.{not_before, not_itself}
use Rattle.kohiblad.specs.declared.placed_members.PlacedMembers.{PlacedMembers}
use Rattle.kohiblad.proofs.PlacedMemberLaws.{above_law, later_law, met_law, next_passed, none_first}
use Rattle.kohiblad.proofs.PlacedMemberLaws.{one_passed}
use Rattle.kohiblad.proofs.placed_members.PlacedMembers.place_of.Goals as goal

pub loop-self-preserved : goal.loop-self-preserved
loop-self-preserved c =
    let b = c.args.bytes.now in
    let name = c.args.name.now in
    let left = c.loop-self.self in
    let inv = c.loop-self.invariant in
    let key = c.in-Some.key in
    let next = c.next_entry-self in
    let below : slice_cmp nat_cmp (entry_there b key).payload name ≡ Less =
    ap (λ (k : List ℕ). slice_cmp nat_cmp k name) (sym c.payload.ensures.bytes)
    ∙ sym c.in-Less.ensures in
    let after : PlacedMembers = record {
      bytes = left.bytes;
      first = next.result;
      keys = next.new.entries;
      values = left.values;
    } in
    record {
      there = record {
        bytes_are = inv.there.bytes_are;
        keys_in = next.ensures.bytes ∙ inv.there.keys_in;
        values_in = inv.there.values_in;
        first_in =
            subst (λ (bytes : List ℕ). IfSome next.result (IsEntryIn bytes)) inv.there.keys_in
            next.ensures.inside;
      };
      whole = λ before.
          (next_passed b left after (inv.whole before) next.ensures.rest next.ensures.steps refl).whole;
      keeps = λ before k late.
          inv.keeps before k late
          ∙ one_passed b name key left c.in-Some.is after
          (next_passed b left after (inv.whole before) next.ensures.rest next.ensures.steps refl) below
          k late;
    }

pub returns-in-Equal-clause-found : goal.returns-in-Equal-clause-found
returns-in-Equal-clause-found c before =
    let b = c.args.bytes.now in
    let name = c.args.name.now in
    let inv = c.loop-self.invariant in
    met_law b name c.in-Some.key c.loop-self.self c.in-Some.is c.take_value.result
    (sym
    (c.in-Equal.ensures ∙ ap (λ (k : List ℕ). slice_cmp nat_cmp k name) c.payload.ensures.bytes))
    (c.take_value.ensures.taken b c.in-Some.key c.in-Some.is (inv.whole before)).0
    ∙ sym (inv.keeps before name (not_itself name))

pub returns-in-Equal-clause-later : goal.returns-in-Equal-clause-later
returns-in-Equal-clause-later c before k above =
    let b = c.args.bytes.now in
    let name = c.args.name.now in
    let inv = c.loop-self.invariant in
    inv.keeps before k (not_before name k above)
    ∙ later_law b name c.in-Some.key c.loop-self.self c.in-Some.is c.take_value.new.self
    (c.take_value.ensures.taken b c.in-Some.key c.in-Some.is (inv.whole before)).1
    (sym
    (c.in-Equal.ensures ∙ ap (λ (k : List ℕ). slice_cmp nat_cmp k name) c.payload.ensures.bytes))
    k above

pub returns-in-Equal-clause-whole : goal.returns-in-Equal-clause-whole
returns-in-Equal-clause-whole c before =
    (c.take_value.ensures.taken c.args.bytes.now c.in-Some.key c.in-Some.is
    (c.loop-self.invariant.whole before)).1.whole

pub returns-in-Equal-clause-there : goal.returns-in-Equal-clause-there
returns-in-Equal-clause-there c =
    (c.take_value.ensures.there c.args.bytes.now c.loop-self.invariant.there).0

pub returns-in-Equal-clause-inside : goal.returns-in-Equal-clause-inside
returns-in-Equal-clause-inside c =
    (c.take_value.ensures.there c.args.bytes.now c.loop-self.invariant.there).1

pub returns-in-Greater-clause-found : goal.returns-in-Greater-clause-found
returns-in-Greater-clause-found c before =
    let b = c.args.bytes.now in
    let name = c.args.name.now in
    let inv = c.loop-self.invariant in
    sym (inv.keeps before name (not_itself name)
    ∙ above_law b name c.in-Some.key c.loop-self.self c.in-Some.is
    (sym
    (c.in-Greater.ensures ∙ ap (λ (k : List ℕ). slice_cmp nat_cmp k name) c.payload.ensures.bytes))
    (inv.whole before))

pub returns-in-Greater-clause-later : goal.returns-in-Greater-clause-later
returns-in-Greater-clause-later c before k late =
    c.loop-self.invariant.keeps before k (not_before c.args.name.now k late)

pub returns-clause-found : goal.returns-clause-found
returns-clause-found c before =
    let b = c.args.bytes.now in
    let name = c.args.name.now in
    sym (c.loop-self.invariant.keeps before name (not_itself name)
    ∙ none_first b name c.loop-self.self c.in_default.is)

pub returns-clause-later : goal.returns-clause-later
returns-clause-later c before k late =
    c.loop-self.invariant.keeps before k (not_before c.args.name.now k late)
