use Rattle.std.proofs.Common.{rules, refl, sym, subst, arith, length, true, ◌≡◌, ◌++◌, ◌∷◌, []}
use Rattle.jsonb_value.specs.Reader.Resume.{items, members}
use Rattle.jsonb_codec.specs.Tape.{AreOpen}
use Rattle.jsonb_codec.specs.declared.tape.place.Frame.{Frame}
use Rattle.jsonb_codec.specs.declared.tape.place.Place.TheVariants as place
use Rattle.jsonb_codec.proofs.OnTape.Steps.{Begins, array_begins, object_begins}
use Rattle.jsonb_codec.proofs.tape.Tape.begin.Goals.{In_ok-extend_from_slice}
use Rattle.jsonb_codec.proofs.tape.Tape.begin.Goals as goal

abbrev frame : In_ok-extend_from_slice → Frame
frame c = record c.make_room.new.self.inner {
  kind = c.args.kind;
  place = c.len.result;
  start = c.len-2.result;
  words = c.len-3.result;
  members = c.len-4.result;
  ascends = true;
  fits = true;
}

begins : (c : In_ok-extend_from_slice) → Begins (frame c) c.make_room.new.self.places.items
    c.make_room.new.self.words.items c.make_room.new.self.members.items
    (length c.make_room.new.self.storage.payload.items)
begins c = record {
  place_at = search rules;
  start_at = search rules;
  words_at = search rules;
  members_at = search rules;
  fits_all = refl;
}

grown : (c : In_ok-extend_from_slice) → c.extend_from_slice.new.self.items
    ≡ c.make_room.new.self.places.items ++ place.Open c.make_room.new.self.inner ∷ []
grown c = search rules

pub returns-clause-array : goal.returns-clause-array
returns-clause-array c = λ cs kind h.
    let at = (goal.at.returns-clause-array c).In_ok-extend_from_slice in
    let mid = c.make_room.new.self in
    subst (λ xs. AreOpen mid.storage (frame at) xs mid.words.items mid.members.items
    (length mid.storage.payload.items) (items [] ∷ cs)) (sym (grown at))
    (array_begins _ _ (frame at) _ _ _ _ cs (c.in_ok-make_room.ensures.ok cs h) (begins at) kind
    (omega arith))

pub returns-clause-object : goal.returns-clause-object
returns-clause-object c = λ cs kind h.
    let at = (goal.at.returns-clause-object c).In_ok-extend_from_slice in
    let mid = c.make_room.new.self in
    subst (λ xs. AreOpen mid.storage (frame at) xs mid.words.items mid.members.items
    (length mid.storage.payload.items) (members [] ∷ cs)) (sym (grown at))
    (object_begins _ _ (frame at) _ _ _ _ cs (c.in_ok-make_room.ensures.ok cs h) (begins at) kind
    (omega arith))
