use Rattle.std.proofs.Common.{rules, sym, subst, ◌≡◌, ◌∙◌, ◌∷◌, ◌+◌, List, ap, drop, length}
use Rattle.std.proofs.Common.{true}
use Rattle.std.proofs.lemmas.Result.{on_ok_weaker}
use Rattle.jsonb_value.specs.Json.Syntax.{Entries, pairs}
use Rattle.jsonb_value.specs.Reader.Resume.{Content, going, members, put}
use Rattle.jsonb_value.specs.Tree.{Ascend, Tree, object}
use Rattle.jsonb_codec.specs.Tape.{IsAround, IsEndedIfFit, MembersAre, cut, tape_is}
use Rattle.jsonb_codec.specs.declared.tape.place.Frame.{Frame}
use Rattle.jsonb_codec.specs.declared.tape.Tape.{Tape}
use Rattle.jsonb_codec.proofs.OnTape.Closing.{is_on}
use Rattle.jsonb_codec.proofs.OnTape.Joined.{cut_rest}
use Rattle.jsonb_codec.proofs.OnTape.Steps.{is_around, object_ended, read_in_order}
use Rattle.jsonb_codec.proofs.tape.TapeSink.end_object.Goals.{After-deref}
use Rattle.jsonb_codec.proofs.tape.TapeSink.end_object.Goals as goal

-- the members, as they are passed on, and that their keys ascend
ordered : (c : After-deref) → c.args.self.now.inner.ascends ≡ true → (front : Entries)
    (cs : List Content) → tape_is c.args.self.now (going (members front ∷ cs))
    → MembersAre c.args.self.now.storage (c.args.self.now.inner.place + 1)
    c.args.self.now.places.items (cut c.args.self.now.inner.members (length c.deref.result.now)
    c.deref.result.now) front × Ascend (pairs front)
ordered c on front cs h =
    let old = c.args.self.now in
    let f = old.inner in
    let (are, ascend) = read_in_order old.storage f old.places.items old.words.items
    old.members.items (length old.storage.payload.items) front h.0 on in (
      subst (λ ms. MembersAre old.storage (f.place + 1) old.places.items ms front)
          (sym (cut_rest f.members c.deref.result.now
          ∙ ap (drop f.members) c.deref.ensures.value)) are,
      ascend,
    )

pub push_object_head-requires : goal.push_object_head-requires
push_object_head-requires c =
    let (front, (cs, h)) = c.requires in
    let old = c.args.self.now in
    let on = is_on old.inner.ascends c.if-not-frame.false in
    let at = (goal.at.push_object_head-requires c).After-deref in
    (old.inner.place + 1, (old.places.items, (front, (ordered at on front cs h).0)))

pub close-requires : goal.close-requires
close-requires c =
    let (front, (cs, h)) = c.requires in
    let (g, around) = is_around c.args.self.now c.push_object_head.new.self (members front) cs h
    c.in_ok-size.ensures.grows in
    (g, (cs, around))

pub returns-clause-ok : goal.returns-clause-ok
returns-clause-ok c =
    let old = c.args.self.now in
    let f = old.inner in
    let on = is_on f.ascends c.if-not-frame.false in
    let s = c.push_object_head.new.self in
    let mid : Tape = record old { storage = s } in
    let new = c.close.new.self in
    let size = c.in_ok-size.size in
    let start : c.len-start.result ≡ length old.storage.heads.items = search rules in
    let by : ((g : Frame) (cs : List Content) (t : Tree) → IsAround mid g cs
    → IsEndedIfFit s c.len-start.result f.start (drop (f.place + 1) old.places.items) size t
    → tape_is new (put t cs))
    → (front : Entries) (cs : List Content) → tape_is old (going (members front ∷ cs))
    → tape_is new (put (object (pairs front)) cs) =
    λ ok front cs h.
    let (g, around) = is_around old s (members front) cs h c.in_ok-size.ensures.grows in
    let (are, ascend) = ordered (goal.at.returns-clause-ok c).After-deref on front cs h in
    let made = c.in_ok-size.ensures.ok (f.place + 1) old.places.items front are ascend in
    ok g cs (object (pairs front)) around
    (object_ended old.storage s f old.places.items old.words.items old.members.items front
    c.len-start.result size h.0 on c.in_ok-size.ensures.grows start made) in
    on_ok_weaker c.close.result by c.close.ensures.ok
