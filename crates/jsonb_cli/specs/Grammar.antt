-- The commands of the code as those of the specification.
use Rattle.jsonb_cli.specs.declared.command.Command.{Command}
use Rattle.jsonb_cli.specs.declared.command.Command.TheVariants.{Enc, Dec, Pretty, ItemType, Get}
use Rattle.jsonb_cli.specs.declared.command.Command.TheVariants.{Cmp, Arr, Canon}
use Rattle.jsonb_cli.specs.Commands.{Form, enc, dec, pretty, item_type, get, cmp, arr, canon}

-- The commands of the code as those of the specification.
abbrev pub form_of : Command → Form
form_of (Enc text) = enc text.now
form_of (Dec word) = dec word.now
form_of (Pretty word) = pretty word.now
form_of (ItemType word) = item_type word.now
form_of (Get word key) = get word.now key.now
form_of (Cmp left right) = cmp left.now right.now
form_of (Arr words) = arr words
form_of (Canon word) = canon word.now
