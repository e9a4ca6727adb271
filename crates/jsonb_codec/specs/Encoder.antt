-- The buffers of encoders.
use Rattle.std.specs.Prelude.{ℕ}
use Rattle.std.specs.Global.{Vec}
use Rattle.std.specs.Borrow.{MutBor}
use Rattle.jsonb_codec.specs.declared.ser.Encoder.{Encoder}
use Rattle.jsonb_codec.specs.declared.ser.JsonAstEncoder.{JsonAstEncoder}

-- The buffer of an encoder of values.
abbrev pub buffer : Encoder → MutBor (Vec ℕ)
buffer e = e.buf

-- The buffer of an encoder of values whose objects are lists of pairs.
abbrev pub ast_buffer : JsonAstEncoder → MutBor (Vec ℕ)
ast_buffer e = e.buf
