use Rattle.std.proofs.Common.{List, ◌∷◌, subst}
use Rattle.std.specs.Prelude.{OnOk}
use Rattle.std.proofs.lemmas.Result.{on_ok_weaker}
use Rattle.jsonb_value.specs.Json.Syntax.{Entries, pairs}
use Rattle.jsonb_value.specs.Reader.Resume.{Adds, Content, going, members, put}
use Rattle.jsonb_value.specs.Reader.TreesHeld.{ContainerHolds, trees_are}
use Rattle.jsonb_value.specs.Tree.{object}
use Rattle.jsonb_value.specs.Value.{pairs_view}
use Rattle.jsonb_value.proofs.TreesLaws.{object_is, view-Object}
use Rattle.jsonb_value.proofs.parser.trees.TreesSink.end_object.Goals as goal

pub returns-clause-ok : goal.returns-clause-ok
returns-clause-ok c =
    let entries = c.in_ok-object.object.entries in
    let by : Adds trees_are c.end.new.self c.add.new.self (object (pairs_view entries))
    → (front : Entries) (cs : List Content) → trees_are c.args.self.now (going (members front ∷ cs))
    → trees_are c.add.new.self (put (object (pairs front)) cs) =
    λ adds front cs h.
    let ended = c.end.ensures (members front) cs h in
    let is = subst (λ container. ContainerHolds container (members front)) c.in-Object.is ended.0 in
    subst (λ t. trees_are c.add.new.self (put t cs))
    (object_is entries _ front c.in_ok-object.ensures.ok is) (adds cs ended.1) in
    on_ok_weaker c.add.result by
    (subst (λ t. OnOk c.add.result (Adds trees_are c.end.new.self c.add.new.self t))
    (view-Object c.in_ok-object.object) c.add.ensures.ok)
