-- What the program's arguments ask for.
use Rattle.std.specs.Prelude.{if◌then◌else◌, ◌||◌, ℕ, List, Option, Some, None, codes, bytes_eq}
use Rattle.answer_lines.specs.declared.arguments.Request.{Request}
use Rattle.answer_lines.specs.declared.arguments.Request.TheVariants.{Run, Help, Version}
use Rattle.answer_lines.specs.declared.arguments.Request.TheVariants.{Unknown}

-- The request in the first two arguments: to run if there is none, to print the usage for `--help`
-- or `-h` alone, the version for `--version` alone, and otherwise unknown.
abbrev pub request_in : (first second : Option (List ℕ)) → Request
request_in None second = Run
request_in (Some word) None =
    if bytes_eq word (codes "--help") || bytes_eq word (codes "-h") then Help
    else (if bytes_eq word (codes "--version") then Version else Unknown)
request_in (Some word) (Some other) = Unknown
