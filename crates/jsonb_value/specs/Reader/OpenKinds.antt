-- The kinds of the open containers.
use Rattle.std.specs.Prelude.{Bool, List, reverse}
use Rattle.jsonb_value.specs.declared.parser.open_kinds.OpenKinds.{OpenKinds}

-- Of each open container, the innermost first, whether it is an object.
abbrev pub kinds_held : OpenKinds → List Bool
kinds_held ks = reverse ks.kinds.items
