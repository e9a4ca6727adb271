use Rattle.std.proofs.Common.{rules, refl, ap, ◌∙◌, ◌≡◌}
use Rattle.std.proofs.lemmas.Result.{on_ok_weaker}
use Rattle.std.specs.Prelude.{IsUtf8}
use Rattle.byteorder.specs.Endian.{big_number}
use Rattle.jsonb_codec.proofs.OnTape.Keys.{text_key}
use Rattle.jsonb_codec.proofs.tape.TapeSink.key.Goals as goal

pub returns-clause-ok : goal.returns-clause-ok
returns-clause-ok c =
    let old = c.args.self.now in
    let bytes = c.args.content.now in
    let utf8 : IsUtf8 bytes = search rules in
    let number : c.prefix_of.result ≡ big_number 8 bytes =
    c.prefix_of.ensures ∙ ap (big_number 8) c.as_bytes.ensures.value in
    on_ok_weaker c.add_key.result
    (λ ok front cs h. ok front cs bytes h
    (text_key old.storage c.args.content c.prefix_of.result bytes refl number utf8))
    c.add_key.ensures.ok
