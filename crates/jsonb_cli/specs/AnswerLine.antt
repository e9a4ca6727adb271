-- The line with the outcome of a command.
use Rattle.std.specs.Prelude.{ℕ, List, ◌∷◌, ◌++◌, codes, Result, Ok, Err}
use Rattle.std.specs.String.{string_bytes}
use Rattle.std.specs.Fmt.{decimal}
use Rattle.hex.specs.Hex.{encode_lower}
use Rattle.jsonb_value.specs.ErrorName.{name_of}
use Rattle.jsonb_value.specs.declared.error.Error.TheVariants.{OutOfMemory}
use Rattle.jsonb_cli.specs.declared.answer.Answer.{Answer}
use Rattle.jsonb_cli.specs.declared.answer.Answer.TheVariants.{Hex, Text, Word, Counted}
use Rattle.jsonb_cli.specs.declared.answer.Refusal.{Refusal}
use Rattle.jsonb_cli.specs.declared.answer.Refusal.TheVariants.{BadCommand, BadHex, TooDeep, Call}

-- The line of a command that succeeds with these words.
abbrev pub ok_line : List ℕ → List ℕ
ok_line words = codes "ok " ++ words

-- The line of a command that fails with this word.
abbrev pub error_line : List ℕ → List ℕ
error_line name = codes "error " ++ name

-- The word that reports the reason of a refusal.
abbrev pub refusal_name : Refusal → List ℕ
refusal_name BadCommand = codes "BadCommand"
refusal_name BadHex = codes "BadHex"
refusal_name TooDeep = name_of OutOfMemory
refusal_name (Call error) = name_of error

-- The words of an answer.
abbrev pub answer_words : Answer → List ℕ
answer_words (Hex bytes) = encode_lower bytes.items
answer_words (Text text) = string_bytes text
answer_words (Word word) = word.now
answer_words (Counted word count) = word.now ++ 32 ∷ decimal count

-- The line of an outcome, without its line feed.
abbrev pub outcome_line : Result Answer Refusal → List ℕ
outcome_line (Ok answer) = ok_line (answer_words answer)
outcome_line (Err refusal) = error_line (refusal_name refusal)
