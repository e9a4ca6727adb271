use Rattle.std.proofs.Common.{ap, subst, sym, ◌∙◌, ◌≡◌, ◌++◌, ◌∷◌, ◌+◌, [], drop, None}
use Rattle.std.specs.Cmp.Lexicographic.{slice_cmp}
use Rattle.std.specs.Ordering.{nat_cmp}
use Rattle.byteorder.specs.Endian.{big_number}
use Rattle.jsonb_codec.specs.Keys.{IsKey, key_bytes}
use Rattle.jsonb_codec.specs.Tape.{MembersAre}
use Rattle.jsonb_codec.proofs.OnTape.Joined.{cut_rest}
use Rattle.jsonb_codec.proofs.OnTape.Keys.{is_less, last_below, last_key}
use Rattle.jsonb_codec.proofs.tape.Tape.still_ascends.Goals.{In-Some}
use Rattle.jsonb_codec.proofs.tape.Tape.still_ascends.Goals as goal

-- the members of the innermost container are the others and the last
split : (c : In-Some) → drop c.args.self.now.inner.members c.args.self.now.members.items
    ≡ c.in-Some._others.now ++ c.in-Some.last.now ∷ []
split c =
    let from = c.args.self.now.inner.members in
    ap (drop from) (sym c.deref.ensures.value) ∙ sym (cut_rest from c.deref.result.now)
    ∙ c.in-Some.ensures.cases.0

pub bytes_of-before-requires : goal.bytes_of-before-requires
bytes_of-before-requires c =
    let (front, (cs, h)) = c.requires.members in
    let s = c.args.self.now.storage in
    let f = c.args.self.now.inner in
    let last = c.in-Some.last.now in
    let others = c.in-Some._others.now in
    let key = last_key s (f.place + 1) c.args.self.now.places.items others last h.0.read
    (subst (λ ms. MembersAre s (f.place + 1) c.args.self.now.places.items ms h.0.read)
    (split (goal.at.bytes_of-before-requires c).In-Some)
    h.0.members) in
    subst (λ xs. IsKey xs last.key) (sym c.deref-2.ensures.value) key.1.is_key

pub returns-clause-last : goal.returns-clause-last
returns-clause-last c = λ on bytes base ps read key h.
    let s = c.args.self.now.storage in
    let f = c.args.self.now.inner in
    let last = c.in-Some.last.now in
    let others = c.in-Some._others.now in
    let less = is_less c.compare_keys.result c.eq.result c.eq.ensures on in
    let right : c.bytes_of.result.now ≡ bytes =
    c.bytes_of.ensures ∙ ap (λ xs. key_bytes xs c.args.key) c.deref-3.ensures.value ∙ key.same in
    last_below s base ps others last read None bytes (subst (λ ms. MembersAre s base ps ms read)
    (split (goal.at.returns-clause-last c).In-Some) h)
    (λ k is.
    let left : c.bytes_of-before.result.now ≡ k =
    c.bytes_of-before.ensures ∙ ap (λ xs. key_bytes xs last.key) c.deref-2.ensures.value
    ∙ is.same in
    sym (ap (λ x. slice_cmp nat_cmp x bytes) left)
    ∙ sym (ap (slice_cmp nat_cmp c.bytes_of-before.result.now) right)
    ∙ sym (c.compare_keys.ensures.bytes (is.number ∙ ap (big_number 8) (sym left))
    (key.number ∙ ap (big_number 8) (sym right))) ∙ less)
