-- Proof of the laws of a key that grows.
use Rattle.std.proofs.Common.{◌++◌, ap, ◌∙◌}
use Rattle.std.proofs.lemmas.List.{append_assoc}
use Rattle.std.specs.Prelude.{⊤}
use Rattle.jsonb_comparable.specs.Sink.{SinkLaws}
use Rattle.kohiblad_shell.specs.declared.key.GrowingKey.{GrowingKey}
use Rattle.kohiblad_shell.specs.Keys.{AppendsKey}

-- The laws of a key that grows.
pub key_laws : SinkLaws {S = GrowingKey} (λ key bytes. ⊤) AppendsKey
key_laws =
    record {
      room_first = λ s a b room. tt;
      room_rest = λ s t a b room done. tt;
      joins = λ s t u a b first second whole.
          let (mid, then) = second whole in
          let (old, items) = first mid in
          (old, then ∙ ap (λ xs. xs ++ b) items ∙ append_assoc s.bytes.items a b);
    }
