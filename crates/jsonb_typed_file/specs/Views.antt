-- What the structs of this crate are made of.
use Rattle.std.specs.Prelude.{map}
use Rattle.jsonb_typed_file.specs.declared.buffers.Buffers.{Buffers}
use Rattle.jsonb_typed_file.specs.declared.layout.Layout.{Layout}
use Rattle.jsonb_typed_file.specs.Layout.{Contents, Parts}

-- A column by its buffers.
abbrev pub buffers_view : Buffers → Parts
buffers_view b = record {
  name = b.name.now;
  type = b.column_type;
  flags = b.flags.now;
  numbers = b.numbers.now;
  texts = b.texts.now;
}

-- What a file is made of.
abbrev pub layout_view : Layout → Contents
layout_view l = record {
  offsets = l.rests.offsets.now;
  documents = l.rests.bytes.now;
  columns = map buffers_view l.columns.items;
}
