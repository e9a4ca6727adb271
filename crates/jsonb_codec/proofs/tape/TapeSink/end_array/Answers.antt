use Rattle.std.proofs.Common.{rules, ◌≡◌, ◌∙◌, ◌∷◌, ◌+◌, List, ap, drop, length}
use Rattle.std.proofs.lemmas.Result.{on_ok_weaker}
use Rattle.jsonb_value.specs.Reader.Resume.{Content, going, items, put}
use Rattle.jsonb_value.specs.Tree.{Tree, array}
use Rattle.jsonb_value.specs.Value.{trees_of}
use Rattle.jsonb_codec.specs.Shape.{entries}
use Rattle.jsonb_codec.specs.Tape.{IsAround, IsEndedIfFit, cut, shapes_of, tape_is}
use Rattle.jsonb_codec.specs.declared.tape.place.Frame.{Frame}
use Rattle.jsonb_codec.specs.declared.tape.Tape.{Tape}
use Rattle.jsonb_codec.proofs.OnTape.Closing.{is_on}
use Rattle.jsonb_codec.proofs.OnTape.Joined.{cut_rest}
use Rattle.jsonb_codec.proofs.OnTape.Steps.{array_ended, is_around}
use Rattle.jsonb_codec.proofs.tape.TapeSink.end_array.Goals as goal

pub close-requires-2 : goal.close-requires-2
close-requires-2 c =
    let (front, (cs, h)) = c.requires in
    let (g, around) = is_around c.args.self.now c.push_array_head.new.self (items front) cs h
    c.in_ok-size.ensures.grows in
    (g, (cs, around))

pub returns-clause-ok : goal.returns-clause-ok
returns-clause-ok c =
    let old = c.args.self.now in
    let f = old.inner in
    let s = c.push_array_head.new.self in
    let mid : Tape = record old { storage = s } in
    let new = c.close-2.new.self in
    let size = c.in_ok-size.size in
    let start : c.len-start.result ≡ length old.storage.heads.items = search rules in
    let by : ((g : Frame) (cs : List Content) (t : Tree) → IsAround mid g cs
    → IsEndedIfFit s c.len-start.result f.start (drop (f.place + 1) old.places.items) size t
    → tape_is new (put t cs))
    → (front : List Tree) (cs : List Content) → tape_is old (going (items front ∷ cs))
    → tape_is new (put (array (trees_of front)) cs) =
    λ ok front cs h.
    let (g, around) = is_around old s (items front) cs h c.in_ok-size.ensures.grows in
    let d = c.deref.result.now in
    let words : cut f.words (length d) d ≡ entries (shapes_of front) =
    cut_rest f.words d ∙ ap (drop f.words) c.deref.ensures.value
    ∙ h.0.words (is_on c.args.self.now.inner.fits c.if-not-frame.false) in
    ok g cs (array (trees_of front)) around
    (array_ended old.storage s f old.places.items old.words.items old.members.items front cs
    c.len-start.result size h (is_on c.args.self.now.inner.fits c.if-not-frame.false)
    c.in_ok-size.ensures.grows start
    (λ trees fit. c.in_ok-size.ensures.ok front trees fit words)) in
    on_ok_weaker c.close-2.result by c.close-2.ensures.ok
