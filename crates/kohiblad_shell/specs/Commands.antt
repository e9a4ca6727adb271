-- The commands: which operation each of them is.
use Rattle.std.specs.Prelude.{Bool, true, false, List, Option, None, Some}
use Rattle.std.specs.Borrow.{Bor}
use Rattle.jsonb.specs.declared.document.Document.{Document}
use Rattle.jsonb_path.specs.declared.path.Path.{Path}
use Rattle.kohiblad_shell.specs.declared.command.Command.{Command}
use Rattle.kohiblad_shell.specs.declared.command.Command.TheVariants as commands
use Rattle.kohiblad_shell.specs.declared.command.Operands.{Operands}
use Rattle.kohiblad_shell.specs.declared.command.Operands.TheVariants as given
use Rattle.kohiblad_shell.specs.declared.commands.End.{End}
use Rattle.kohiblad_shell.specs.declared.commands.End.TheVariants as ends
use Rattle.kohiblad_shell.specs.declared.operation.Change.TheVariants as changes
use Rattle.kohiblad_shell.specs.declared.operation.Operation.{Operation}
use Rattle.kohiblad_shell.specs.declared.operation.Operation.TheVariants as operations
use Rattle.kohiblad_shell.specs.declared.operation.Style.{Style}
use Rattle.kohiblad_shell.specs.declared.sort_path.SortPath.{SortPath}

-- The operation of a command that is given nothing, if it is one that is given nothing. `fault`
-- writes what `check` reports.
abbrev pub lone_operation : Command → Option Operation
lone_operation commands.Check = Some operations.Check
lone_operation commands.Fault = Some operations.Check
lone_operation commands.Canonical = Some operations.Canonical
lone_operation commands.StripNulls = Some (operations.Change changes.StripNulls)
lone_operation commands.Encode = Some operations.Encode
lone_operation command = None

-- The same of a path. `count` counts the rows that `filter` writes.
abbrev pub path_operation : Command → Bor Path → Style → Option Operation
path_operation commands.Get path style = Some (operations.Get path style)
path_operation commands.Select path style = Some (operations.Select path style)
path_operation commands.Filter path style = Some (operations.Filter path)
path_operation commands.Count path style = Some (operations.Filter path)
path_operation command path style = None

-- The same of a value.
abbrev pub value_operation : Command → Document → Option Operation
value_operation commands.Contains value = Some (operations.Contains value)
value_operation commands.Merge value = Some (operations.Change (changes.Merge value))
value_operation command value = None

-- The operation of a command that is given paths of keys: but for those that write keys all keep
-- each row with its key.
abbrev pub key_operation : Command → Bor (List SortPath) → Operation
key_operation commands.Keys paths = operations.Key paths
key_operation commands.ComparableKeys paths = operations.Key paths
key_operation command paths = operations.Sort paths

-- The operation of a command that is given these operands, if it is one that is given such.
abbrev pub operation_of : Command → Operands → Option Operation
operation_of command given.Nothing = lone_operation command
operation_of command (given.Path path style) = path_operation command path style
operation_of command (given.Value value) = value_operation command value
operation_of command (given.Keys paths) = Some (key_operation command paths)
operation_of command (given.Layout layout) = Some (operations.Decode layout)
operation_of command (given.Look look) = Some (operations.Show look)
operation_of command (given.Names names) = Some (operations.Change (changes.Pick names))
operation_of command (given.Steps path value) = Some (operations.Change (changes.Set path value))
operation_of command (given.Removed paths) = Some (operations.Remove paths)
operation_of command (given.Each path edit) = Some (operations.Change (changes.Each path edit))
operation_of command (given.Table table) = Some (operations.Extract table)
operation_of command (given.Template template) = Some (operations.Build template)
operation_of command (given.Range range) = Some (operations.Range range)
operation_of command (given.Search search) = Some (operations.Grep search)

-- Whether a command that ends so passes over empty lines.
abbrev pub passes_empty_lines : End → Bool
passes_empty_lines ends.Faults = false
passes_empty_lines ends.Reports = false
passes_empty_lines end = true
