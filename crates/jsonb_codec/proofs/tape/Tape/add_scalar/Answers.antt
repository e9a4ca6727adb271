use Rattle.std.proofs.Common.{rules, refl, ◌≡◌, ◌++◌}
use Rattle.std.proofs.lemmas.Result.{on_ok_weaker}
use Rattle.jsonb_codec.specs.declared.tape.storage.Storage.{Storage}
use Rattle.jsonb_codec.proofs.OnTape.Steps.{payload_grows, scalar_adds}
use Rattle.jsonb_codec.proofs.tape.Tape.add_scalar.Goals as goal

pub returns-clause-ok : goal.returns-clause-ok
returns-clause-ok c =
    let old = c.args.self.now in
    let payload = c.args.payload.now in
    let mid : Storage = record old.storage { payload = c.extend_from_slice.new.self } in
    let grown : mid.payload.items ≡ old.storage.payload.items ++ payload = search rules in
    on_ok_weaker c.add.result
    (scalar_adds old c.add.new.self mid _ c.args.type_code payload grown
    (payload_grows old.storage mid payload grown refl refl refl) refl refl) c.add.ensures.ok
