use Rattle.std.proofs.lemmas.Result.{IfOk-weaker}
use Rattle.jsonb_codec.proofs.MadeLaws.{made_if_fit}
use Rattle.jsonb.proofs.GatheringLaws.{no_memory, unfit}
use Rattle.jsonb.proofs.builder.gathered.Gathered.build.Goals as goal

pub returns-then-not-self-clause-limits : goal.returns-then-not-self-clause-limits
returns-then-not-self-clause-limits g c = λ xs is.
    unfit g.T.Stored.stored g.T.Stored.code c.args.self xs is c.if-not-self.true

pub returns-then-not-self-2-clause-limits : goal.returns-then-not-self-2-clause-limits
returns-then-not-self-2-clause-limits g c = λ xs is.
    no_memory g.T.Stored.stored g.T.Stored.code c.args.self xs is c.if-not-self.false

pub returns-clause-ok : goal.returns-clause-ok
returns-clause-ok g c =
    IfOk-weaker c.array_document.result _ _
    (λ owned h xs is. h xs
    (rw c.deref.ensures.value (is.kept c.if-not-self.false c.if-not-self-2.false)))
    c.array_document.ensures.ok

pub returns-clause-limits : goal.returns-clause-limits
returns-clause-limits g c = λ xs is.
    let made = c.array_document in
    let shown = is.kept c.if-not-self.false c.if-not-self-2.false in
    made_if_fit made.result
    (IfOk-weaker made.result _ _ (λ owned h. (h xs is).fit) (returns-clause-ok g c))
    (λ e. made.ensures.past e xs (rw c.deref.ensures.value shown))
    (λ e. made.ensures.memory e xs (rw c.deref.ensures.value shown))
    made.ensures.only
