-- How the reasons why a text is not read within a depth are called.
use Rattle.std.specs.Prelude.{ℕ, List, codes}
use Rattle.jsonb_value.specs.declared.within.ParseError.{ParseError}
use Rattle.jsonb_value.specs.declared.within.ParseError.TheVariants.{TooDeep, Refused}
use Rattle.jsonb_value.specs.ErrorName.{name_of}

-- the bytes of a variant's name
abbrev pub parse_error_name : ParseError → List ℕ
parse_error_name TooDeep = codes "TooDeep"
parse_error_name (Refused e) = name_of e
