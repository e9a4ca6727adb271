-- The grammar of commands.
use Rattle.std.specs.Prelude.{◌≡◌, ℕ, List, ◌∷◌, ◌++◌, All, codes, ⊤}
use Rattle.jsonb_cli.specs.Words.{IsWord, words_after_spaces}

-- A command with its arguments: a text, or words.
pub data Form : Type 0 where
  enc : (text : List ℕ) → Form
  dec : (word : List ℕ) → Form
  pretty : (word : List ℕ) → Form
  item_type : (word : List ℕ) → Form
  get : (word key : List ℕ) → Form
  cmp : (left right : List ℕ) → Form
  arr : (words : List (List ℕ)) → Form
  canon : (word : List ℕ) → Form

-- The line of a command.
abbrev pub line_of : Form → List ℕ
line_of (enc text) = codes "enc " ++ text
line_of (dec word) = codes "dec " ++ word
line_of (pretty word) = codes "pretty " ++ word
line_of (item_type word) = codes "type " ++ word
line_of (get word key) = codes "get " ++ (word ++ 32 ∷ key)
line_of (cmp left right) = codes "cmp " ++ (left ++ 32 ∷ right)
line_of (arr words) = codes "arr" ++ words_after_spaces words
line_of (canon word) = codes "canon " ++ word

-- Words that are followed by another argument, and those of `arr`, have no space.
abbrev pub HasWords : Form → Type 0
HasWords (enc text) = ⊤
HasWords (dec word) = ⊤
HasWords (pretty word) = ⊤
HasWords (item_type word) = ⊤
HasWords (get word key) = IsWord word
HasWords (cmp left right) = IsWord left × IsWord right
HasWords (arr words) = All IsWord words
HasWords (canon word) = ⊤

-- The line has this form.
pub record IsOfForm (form : Form) (line : List ℕ) : Type 0 where
  pub is : line ≡ line_of form
  pub words : HasWords form
