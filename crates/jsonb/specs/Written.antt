-- A text in the making.
use Rattle.std.specs.Prelude.{ℕ, List, take}
use Rattle.jsonb.specs.declared.written.Written.{Written}

-- the text so far: the bytes in use
abbrev pub written_text : Written → List ℕ
written_text w = take w.at w.bytes.items
