-- Proofs of the laws of both sinks.
use Rattle.std.proofs.Common.{ℕ, List, ◌++◌, Vec, Global}
use Rattle.std.proofs.Common.{ap, ◌∙◌, arith, le_trans, length-append}
use Rattle.std.proofs.lemmas.List.{append_assoc}
use Rattle.std.specs.Prelude.{⊤}
use Rattle.jsonb_codec.specs.Room.{HasRoom, AppendsBytes}
use Rattle.jsonb_codec.proofs.Appending.{length-Appended}
use Rattle.jsonb_comparable.specs.declared.sink.KeyLength.{KeyLength}
use Rattle.jsonb_comparable.specs.Sink.{SinkLaws, CountsBytes}

-- The laws of a buffer.
pub vec_laws : SinkLaws {S = Vec ℕ Global} HasRoom AppendsBytes
vec_laws =
    record {
      room_first = λ s a b room. omega (arith, room, length-append a b);
      room_rest = λ s t a b room done.
          omega (arith, room, length-append a b, length-Appended done, done.capacity);
      joins = λ s t u a b first second.
          record {
            items = second.items ∙ ap (λ xs. xs ++ b) first.items ∙ append_assoc s.items a b;
            capacity = le_trans first.capacity second.capacity;
          };
    }

-- A count of one part and then of the other is the count of both.
counts_on : (old mid new : KeyLength) (a b : List ℕ) → CountsBytes old mid a → CountsBytes mid new b
    → CountsBytes old new (a ++ b)
counts_on old mid new a b first second = omega (arith, first, second, length-append a b)

-- The laws of a count.
pub length_laws : SinkLaws {S = KeyLength} (λ length bytes. ⊤) CountsBytes
length_laws =
    record {
      room_first = λ s a b room. tt;
      room_rest = λ s t a b room done. tt;
      joins = counts_on;
    }
