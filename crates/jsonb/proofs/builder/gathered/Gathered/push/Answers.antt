use Rattle.std.proofs.Common.{refl}
use Rattle.jsonb.specs.Children.{HasSameEntry}
use Rattle.jsonb.proofs.GatheringLaws.{fit_push, no_room, not_fit, not_stored, unfit_push}
use Rattle.jsonb.proofs.SameEntryLaws.{shown_push}
use Rattle.jsonb.proofs.builder.gathered.Gathered.push.Goals as goal
use Rattle.jsonb.proofs.builder.gathered.Gathered.push.Goals.{else-self-via-else-self}
use Rattle.jsonb.proofs.builder.gathered.Gathered.push.Goals.{else-self-via-then-self+else-has_room}
use Rattle.jsonb.proofs.builder.gathered.Gathered.push.Goals.{else-self-via-then-self+then-has_room+else-can_be_stored}

-- The value is kept if memory is there for it.
pub returns-then-self-2 : goal.returns-then-self-2
returns-then-self-2 g c = λ xs x same before.
    let s = g.T.Stored in
    fit_push s.stored s.code c.args.self.now _ xs x before c.if-self.true
    (c.has_room.ensures.0 c.if-has_room.true)
    ((c.can_be_stored.ensures x same).0 c.if-can_be_stored.true) refl refl
    (λ complete. rw (c.push.ensures.items, ← c.is_ok-self.ensures.value, complete)
    (shown_push (HasSameEntry s.stored s.code) c.args.self.now.values.items xs
    (before.kept c.if-self.true c.if-self-2.true) c.args.value x same))

-- It is only counted after memory was refused.
pub returns-else-self-2 : goal.returns-else-self-2
returns-else-self-2 g c = λ xs x same before.
    let s = g.T.Stored in
    let none = c.if-self-2.false in
    fit_push s.stored s.code c.args.self.now _ xs x before c.if-self.true
    (c.has_room.ensures.0 c.if-has_room.true)
    ((c.can_be_stored.ensures x same).0 c.if-can_be_stored.true) refl refl
    (λ complete. absurd (let no : ⊥ = cc in no))

-- The array cannot hold it.
pub returns-else-self : goal.returns-else-self
returns-else-self g c = λ xs x same before.
    let s = g.T.Stored in
    let old = c.args.self.now in
    unfit_push s.stored s.code old _ xs x before (elim c.else-self.branch [
      | else-self-via-then-self+then-has_room+else-can_be_stored w ↦
          let no = w.if-can_be_stored.false in
          not_stored s.stored s.code old old xs x before
          (λ is. let yes = (w.can_be_stored.ensures x same).1 is in let never : ⊥ = cc in never)
      | else-self-via-then-self+else-has_room w ↦
          let no = w.if-has_room.false in
          no_room s.stored s.code old old xs x before w.if-self.true
          (λ is. let yes = w.has_room.ensures.1 is in let never : ⊥ = cc in never)
      | else-self-via-else-self w ↦ not_fit s.stored s.code old old xs x before w.if-self.false
    ]) refl
