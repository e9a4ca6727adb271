-- Items that hold bytes.
use Rattle.std.specs.Prelude.{ℕ, List, []}
use Rattle.jsonb.specs.ItemView.{ItemView, null, boolean, number, text, extension, raw, owned}

-- The bytes of an item that holds bytes; none for any other item.
abbrev pub bytes_in : ItemView → List ℕ
bytes_in null = []
bytes_in (boolean b) = []
bytes_in (number given x) = []
bytes_in (text s) = []
bytes_in (extension given e) = []
bytes_in (raw b) = b
bytes_in (owned b) = b
