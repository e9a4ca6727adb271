use Rattle.std.proofs.Common.{rules, refl, sym, subst, ◌∙◌, ◌≡◌, ◌++◌, ◌+◌, ◌≤◌, ℕ, List, [], take, drop, length, None}
use Rattle.std.proofs.lemmas.List.{append-nil}
use Rattle.std.specs.Vec.{with_item}
use Rattle.std.proofs.lemmas.Result.{on_ok_weaker}
use Rattle.jsonb_value.specs.Tree.{Tree}
use Rattle.jsonb_value.specs.Reader.Resume.{Content, put}
use Rattle.jsonb_codec.specs.Tape.{AreOpen, IsAround, IsEndedIfFit, IsMade, tape_is}
use Rattle.jsonb_codec.specs.declared.tape.place.Frame.{Frame}
use Rattle.jsonb_codec.specs.declared.tape.place.Head.{Head}
use Rattle.jsonb_codec.specs.declared.tape.place.Place.{Place}
use Rattle.jsonb_codec.specs.declared.tape.place.Place.TheVariants as place
use Rattle.jsonb_codec.proofs.OnTape.Closing.{close_adds, same_frame}
use Rattle.jsonb_codec.proofs.tape.Tape.close.Goals as goal

pub returns-in_default-size-clause-ok : goal.returns-in_default-size-clause-ok
returns-in_default-size-clause-ok c =
    let old = c.args.self.now in
    let f = old.inner in
    let ps = take f.place old.places.items in
    let ws = take f.words old.words.items in
    let ms = take f.members old.members.items in
    let by : ((xs qs : List Place) (a : ℕ) (cs : List Content) (t : Tree)
    → c.truncate-in_default-size.new.self.items ≡ xs ++ qs
    → AreOpen old.storage c.in-Open.outer xs c.truncate.new.self.items c.truncate-2.new.self.items a
    cs → a ≤ length old.storage.payload.items
    → IsMade old.storage None a qs (length old.storage.payload.items) t
    → tape_is c.add.new.self (put t cs))
    → (g : Frame) (cs : List Content) (t : Tree) → IsAround old g cs
    → IsEndedIfFit old.storage c.args.start c.args.until (drop (f.place + 1) old.places.items)
    c.args.size t → tape_is c.add.new.self (put t cs) =
    λ ok g cs t around ended.
    let same = same_frame f.place old.places.items (drop (f.place + 1) old.places.items)
    c.in-Open.outer g c.index.result.now around.place_is (search rules) (search rules) in
    ok ps [] f.start cs t (c.truncate-in_default-size.ensures.items ∙ sym (append-nil ps))
    (subst (λ x. AreOpen old.storage x ps c.truncate.new.self.items c.truncate-2.new.self.items
    f.start cs) same
    (subst (λ xs. AreOpen old.storage g ps xs c.truncate-2.new.self.items f.start cs)
    (sym c.truncate.ensures.items)
    (subst (λ xs. AreOpen old.storage g ps ws xs f.start cs) (sym c.truncate-2.ensures.items)
    around.around))) around.start_from
    (subst (λ x. IsEndedIfFit old.storage c.args.start c.args.until
    (drop (f.place + 1) old.places.items) x t) c.in_default-size.is ended) in
    on_ok_weaker c.add.result by c.add.ensures.ok

pub returns-clause-ok : goal.returns-clause-ok
returns-clause-ok c =
    let old = c.args.self.now in
    let f = old.inner in
    let head : Head = record {
      at = f.start;
      until = c.args.until;
      start = c.args.start;
      end = c.len.result;
    } in
    on_ok_weaker c.add-2.result
    (close_adds old c.add-2.new.self c.in-Open.outer
    (with_item old.places f.place (place.Head head)).items c.truncate.new.self.items
    c.truncate-2.new.self.items c.args.start c.args.until c.in-Some.size c.args.size _ head
    c.index.result.now (search rules) (search rules) refl refl refl (search rules) refl refl
    (search rules) (search rules) (search rules) (search rules)) c.add-2.ensures.ok
