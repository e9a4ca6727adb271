use Rattle.std.proofs.Common.{rules, refl}
use Rattle.jsonb_codec.specs.declared.tape.Tape.{Tape}
use Rattle.jsonb_codec.specs.declared.tape.storage.Storage.{Storage}
use Rattle.jsonb_codec.proofs.OnTape.Steps.{room_made}
use Rattle.jsonb_codec.proofs.tape.Tape.reserve.Goals as goal

pub returns-clause-ok : goal.returns-clause-ok
returns-clause-ok c = λ cs h.
    let old = c.args.self.now in
    let storage : Storage = record old.storage {
      payload = c.reserve.new.self;
      heads = c.reserve-2.new.self;
    } in
    let new : Tape = record old {
      storage = storage;
      words = c.reserve-3.new.self;
      members = c.reserve-4.new.self;
      places = c.reserve-5.new.self;
    } in
    room_made old new (search rules) (search rules) refl refl (search rules) (search rules)
    (search rules) refl cs h
