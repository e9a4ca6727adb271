-- Keys that are written to a buffer as far as there is room.
use Rattle.std.specs.Prelude.{◌≡◌, ⊤, ℕ, List, ◌++◌, length, take, drop}
use Rattle.std.proofs.Common.{◌∙◌, append_assoc, subst}
use Rattle.jsonb_comparable.specs.Sink.{SinkLaws, length_64}
use Rattle.kohiblad.specs.declared.key_sink.KeyWriter.{KeyWriter}

-- The first bytes of a key at the start of a buffer, as many as there is room, and after a shorter
-- key the rest of the buffer as it was.
abbrev pub cut_into : List ℕ → List ℕ → List ℕ
cut_into key before = take (length before) key ++ drop (length key) before

-- Bytes at a place in a buffer, as many as there is room, with the rest of the buffer as it was.
abbrev pub copied_at : ℕ → List ℕ → List ℕ → List ℕ
copied_at start bytes before = take start before ++ cut_into bytes (drop start before)

-- The first bytes of this key were written to a buffer that held this before, and all are counted.
pub record HasWritten (key before : List ℕ) (writer : KeyWriter) : Type 0 where
  pub out : writer.out.now ≡ cut_into key before
  pub len : writer.len ≡ length_64 key

-- The writer has the same buffer, and these bytes come after those of each key that it has written.
pub record Continues (old new : KeyWriter) (bytes : List ℕ) : Type 0 where
  pub same_buffer : new.out.ghost_name ≡ old.out.ghost_name
  pub written : (key before : List ℕ) → HasWritten key before old
      → HasWritten (key ++ bytes) before new

-- The laws of a writer.
pub writer_laws : SinkLaws {S = KeyWriter} (λ writer bytes. ⊤) Continues
writer_laws =
    record {
      room_first = λ s a b room. tt;
      room_rest = λ s t a b room done. tt;
      joins = λ s t u a b first second.
          record {
            same_buffer = second.same_buffer ∙ first.same_buffer;
            written = λ key before holds.
                subst (λ (k : List ℕ). HasWritten k before u) (append_assoc key a b)
                (second.written (key ++ a) before (first.written key before holds));
          };
    }
