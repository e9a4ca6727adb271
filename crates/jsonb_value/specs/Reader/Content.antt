-- The members of an object while it is read.
use Rattle.std.specs.Prelude.{List, [], ◌∷◌, String, string_cmp}
use Rattle.std.specs.declared.alloc.Global.{Global}
use Rattle.std.specs.BTreeMap.{insert_entry}
use Rattle.jsonb_value.specs.declared.parser.members.Members.{Members}
use Rattle.jsonb_value.specs.declared.value.Value.{Value}

-- The members after inserting others one by one: each at its key's position in byte order,
-- replacing an equal key.
abbrev pub with_members : List (String Global × Value) → List (String Global × Value)
    → List (String Global × Value)
with_members es [] = es
with_members es (m ∷ ms) = with_members (insert_entry string_cmp es m.0 m.1) ms

-- The members read so far, in the order of their keys.
abbrev pub members_held : Members → List (String Global × Value)
members_held ms = with_members ms.few.entries ms.others.items
