-- Why bytes could not be read.
use Rattle.std.specs.declared.io.ErrorKind.{ErrorKind}
use Rattle.std.specs.declared.io.ErrorKind.TheVariants.{OutOfMemory}
use Rattle.array_items.specs.declared.held.ReadFault.{ReadFault}
use Rattle.array_items.specs.declared.held.ReadFault.TheVariants.{Reader, Memory}

-- What an error of a reader of this kind comes to.
abbrev pub read_fault : ErrorKind → ReadFault
read_fault OutOfMemory = Memory
read_fault kind = Reader
