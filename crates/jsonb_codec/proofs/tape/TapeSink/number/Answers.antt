use Rattle.std.proofs.Common.{rules, refl, ◌≡◌, ◌++◌}
use Rattle.std.proofs.lemmas.Result.{on_ok_weaker}
use Rattle.jsonb_value.specs.NumCode.{number_payload}
use Rattle.jsonb_value.specs.Tree.{number}
use Rattle.jsonb_codec.specs.Tape.{IsScalar}
use Rattle.jsonb_codec.specs.declared.constants.TheConstants.{NUMBER_TAG}
use Rattle.jsonb_codec.specs.declared.tape.storage.Storage.{Storage}
use Rattle.jsonb_codec.proofs.OnTape.Steps.{payload_grows, scalar_adds}
use Rattle.jsonb_codec.proofs.tape.TapeSink.number.Goals as goal

pub returns-clause-ok : goal.returns-clause-ok
returns-clause-ok c =
    let old = c.args.self.now in
    let payload = number_payload c.args.value in
    let mid : Storage = record old.storage { payload = c.compact_encode.new.buf } in
    let grown : mid.payload.items ≡ old.storage.payload.items ++ payload =
    c.in_ok-size.ensures.appended in
    let is : IsScalar NUMBER_TAG payload (number c.args.value) = record {
      tree = search rules;
      fits = tt;
      type_is = refl;
      payload_is = refl;
    } in
    on_ok_weaker c.add.result
    (λ ok. scalar_adds old c.add.new.self mid _ NUMBER_TAG payload grown
    (payload_grows old.storage mid payload grown refl refl refl) refl c.in_ok-size.ensures.len ok
    (number c.args.value) is) c.add.ensures.ok
