-- So many columns were read, and the rest of the bytes is left.
use Rattle.std.proofs.Common.{◌≡◌, ◌++◌, length, map}
use Rattle.std.specs.Prelude.{All}
use Rattle.jsonb_typed_file.specs.Layout.{IsColumn, columns_bytes}
use Rattle.jsonb_typed_file.specs.Views.{buffers_view}
use Rattle.jsonb_typed_file.proofs.layout.read_columns.Given as goal

abbrev pub invariant-loop-index : goal.invariant-loop-index
invariant-loop-index l = record {
  read : l.bytes ≡ columns_bytes (map buffers_view l.columns.items) ++ l.rest;
  count : length l.columns.items ≡ l._index;
  each : All IsColumn (map buffers_view l.columns.items);
}
