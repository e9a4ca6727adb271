use Rattle.std.proofs.Common.{rules, refl, ap, ◌∙◌, ◌≡◌, ◌++◌, ◌∷◌, length}
use Rattle.std.proofs.lemmas.Result.{on_ok_weaker}
use Rattle.std.specs.Prelude.{IsUtf8}
use Rattle.byteorder.specs.Endian.{big_number}
use Rattle.jsonb_value.specs.Reader.Resume.{members}
use Rattle.jsonb_codec.specs.declared.tape.storage.Storage.{Storage}
use Rattle.jsonb_codec.proofs.OnTape.Keys.{spelled_grows, spelled_key}
use Rattle.jsonb_codec.proofs.OnTape.Open.{open_grows}
use Rattle.jsonb_codec.proofs.tape.TapeSink.spelled_key.Goals as goal

pub add_key-requires : goal.add_key-requires
add_key-requires c =
    let (front, (cs, h)) = c.requires in
    let old = c.args.self.now in
    let bytes = c.args.content.now in
    let mid : Storage = record old.storage { spelled = c.extend_from_slice.new.self } in
    let utf8 : IsUtf8 bytes = search rules in
    let number : c.prefix_of-prefix.result ≡ big_number 8 bytes =
    c.prefix_of-prefix.ensures ∙ ap (big_number 8) c.as_bytes.ensures.value in
    let grown : mid.spelled.items ≡ old.storage.spelled.items ++ bytes = search rules in (
      bytes,
      (
        front,
        (
          cs,
          (
            spelled_key old.storage mid c.len-start.result c.len-end.result
                c.prefix_of-prefix.result bytes grown (search rules) (search rules) number utf8,
            open_grows old.storage mid old.inner old.places.items old.words.items old.members.items
                (length old.storage.payload.items) (members front ∷ cs)
                (spelled_grows old.storage mid bytes grown refl refl refl) h,
          ),
        ),
      ),
    )

pub returns-clause-ok : goal.returns-clause-ok
returns-clause-ok c =
    let old = c.args.self.now in
    let bytes = c.args.content.now in
    let mid : Storage = record old.storage { spelled = c.extend_from_slice.new.self } in
    let utf8 : IsUtf8 bytes = search rules in
    let number : c.prefix_of-prefix.result ≡ big_number 8 bytes =
    c.prefix_of-prefix.ensures ∙ ap (big_number 8) c.as_bytes.ensures.value in
    let grown : mid.spelled.items ≡ old.storage.spelled.items ++ bytes = search rules in
    on_ok_weaker c.add_key.result
    (λ ok front cs h. ok front cs bytes
    (open_grows old.storage mid old.inner old.places.items old.words.items old.members.items
    (length old.storage.payload.items) (members front ∷ cs)
    (spelled_grows old.storage mid bytes grown refl refl refl) h)
    (spelled_key old.storage mid c.len-start.result c.len-end.result c.prefix_of-prefix.result bytes
    grown (search rules) (search rules) number utf8)) c.add_key.ensures.ok
