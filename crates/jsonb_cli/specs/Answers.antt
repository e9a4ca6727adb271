-- The answers to lines.
use Rattle.std.specs.Prelude.{◌≡◌, ◌⊎◌, ◌++◌, ◌∷◌, ℕ, List, length, map, nat_eq, codes}
use Rattle.std.specs.Prelude.{chars, Some, None, Result, Ok, Err}
use Rattle.std.specs.Cmp.Lexicographic.{pointwise}
use Rattle.std.specs.Fmt.{decimal}
use Rattle.std.specs.declared.cmp.Ordering.{Ordering}
use Rattle.std.specs.declared.cmp.Ordering.TheVariants.{Less, Equal, Greater}
use Rattle.std.specs.Str.{IsUtf8}
use Rattle.hex.specs.Hex.{decode_of, encode_lower}
use Rattle.jsonb_value.specs.ErrorName.{name_of}
use Rattle.jsonb_value.specs.declared.error.Error.{Error}
use Rattle.jsonb_value.specs.declared.error.Error.TheVariants.{InvalidJson, InvalidJsonb}
use Rattle.jsonb_value.specs.declared.error.Error.TheVariants.{InvalidUtf8}
use Rattle.jsonb_value.specs.Json.Syntax.{Json}
use Rattle.jsonb_value.specs.Text.{compact, pretty as pretty_text}
use Rattle.jsonb_value.specs.Meaning.{meaning_cmp}
use Rattle.jsonb_value.specs.Tree.{Tree}
use Rattle.jsonb_value.specs.Tree as trees
use Rattle.jsonb_codec.specs.Doc.{Doc, IsDocument}
use Rattle.jsonb.specs.Building.{FitArray, IsArrayOf}
use Rattle.jsonb.specs.Canonical.{RewritesTo}
use Rattle.jsonb.specs.Code.{item_document}
use Rattle.jsonb.specs.Kind.{kind}
use Rattle.jsonb.specs.Node.{value_of_key}
use Rattle.jsonb.specs.ItemMeaning.{meaning_of}
use Rattle.jsonb.specs.Parsing.{ParsesTo}
use Rattle.jsonb.specs.ItemView.{ItemView, owned}
use Rattle.jsonb.specs.StoredEntries.{IsFoundIn}
use Rattle.jsonb.specs.DocumentWalk.{IsItemOf}
use Rattle.jsonb.specs.declared.item_type.JsonbItemType.{JsonbItemType}
use Rattle.jsonb.specs.declared.item_type.JsonbItemType.TheVariants.{Null, Boolean, Number, String}
use Rattle.jsonb.specs.declared.item_type.JsonbItemType.TheVariants.{Extension, Array, Object}
use Rattle.answer_lines.specs.Session.{IsNoMemoryReply}
use Rattle.jsonb_cli.specs.AnswerLine.{ok_line, error_line}
use Rattle.jsonb_cli.specs.Each.{Each}
use Rattle.jsonb_cli.specs.Commands.{Form, enc, dec, pretty, item_type, get, cmp, arr, canon}
use Rattle.jsonb_cli.specs.Commands.{IsOfForm}
use Rattle.jsonb_cli.specs.declared.run.Commands.{Commands}

-- The answer to a line that does not have the form of a command.
abbrev pub IsBadCommand : List ℕ → Type 0
IsBadCommand answer = answer ≡ error_line (codes "BadCommand")

-- The word is hexadecimal of either case, two digits for each byte.
abbrev pub IsHexOf : List ℕ → List ℕ → Type 0
IsHexOf bytes word = decode_of word ≡ Ok bytes

-- The answer to `enc` is the canonical document of the tree that the text means, or why there is
-- none.
pub data IsEncAnswer (text answer : List ℕ) : Type 0 where
  not_text : (IsUtf8 text → ⊥) → answer ≡ error_line (name_of InvalidUtf8) → IsEncAnswer text answer
  no_tree : IsUtf8 text → ParsesTo text (Err InvalidJson)
      → answer ≡ error_line (name_of InvalidJson) → IsEncAnswer text answer
  too_large : IsUtf8 text → ParsesTo text (Err InvalidJsonb)
      → answer ≡ error_line (name_of InvalidJsonb) → IsEncAnswer text answer
  encoded : (bytes : List ℕ) → IsUtf8 text → ParsesTo text (Ok bytes)
      → answer ≡ ok_line (encode_lower bytes) → IsEncAnswer text answer

-- The answer to `dec` is the compact text of the document, or why there is none.
pub data IsDecAnswer (word answer : List ℕ) : Type 0 where
  bad_hex : ((bytes : List ℕ) → IsHexOf bytes word → ⊥) → answer ≡ error_line (codes "BadHex")
      → IsDecAnswer word answer
  no_document : (bytes : List ℕ) → IsHexOf bytes word → (IsDocument bytes → ⊥)
      → answer ≡ error_line (name_of InvalidJsonb) → IsDecAnswer word answer
  printed : (bytes : List ℕ) (t : Tree) → IsHexOf bytes word → Doc bytes t
      → answer ≡ ok_line (compact t) → IsDecAnswer word answer

-- The answer to `pretty` is the pretty text of the document in hexadecimal, or why there is none.
pub data IsPrettyAnswer (word answer : List ℕ) : Type 0 where
  bad_hex : ((bytes : List ℕ) → IsHexOf bytes word → ⊥) → answer ≡ error_line (codes "BadHex")
      → IsPrettyAnswer word answer
  no_document : (bytes : List ℕ) → IsHexOf bytes word → (IsDocument bytes → ⊥)
      → answer ≡ error_line (name_of InvalidJsonb) → IsPrettyAnswer word answer
  printed : (bytes : List ℕ) (t : Tree) → IsHexOf bytes word → Doc bytes t
      → answer ≡ ok_line (encode_lower (pretty_text t)) → IsPrettyAnswer word answer

-- The words for a kind.
abbrev pub kind_words : JsonbItemType → List ℕ
kind_words Null = codes "null"
kind_words Boolean = codes "boolean"
kind_words Number = codes "number"
kind_words String = codes "string"
kind_words Extension = codes "extension"
kind_words (Array count) = codes "array" ++ 32 ∷ decimal count
kind_words (Object count) = codes "object" ++ 32 ∷ decimal count

-- The line of a kind, or of the error of reading it.
abbrev pub kind_line : Result JsonbItemType Error → List ℕ
kind_line (Ok k) = ok_line (kind_words k)
kind_line (Err e) = error_line (name_of e)

-- The answer to `type` is the kind read from the bytes, or why there is none.
pub data IsTypeAnswer (word answer : List ℕ) : Type 0 where
  bad_hex : ((bytes : List ℕ) → IsHexOf bytes word → ⊥) → answer ≡ error_line (codes "BadHex")
      → IsTypeAnswer word answer
  answered : (bytes : List ℕ) → IsHexOf bytes word → answer ≡ kind_line (kind bytes)
      → IsTypeAnswer word answer

-- The JSON text of the key means this name.
abbrev pub IsName : List ℕ → List ℕ → Type 0
IsName name key = IsUtf8 key × Json (chars key) (trees.text name)

-- The answer to `get` is the value of the key as a document of its own, with the type and payload
-- of its entry, or why there is none.
pub data IsGetAnswer (word key answer : List ℕ) : Type 0 where
  bad_hex : ((bytes : List ℕ) → IsHexOf bytes word → ⊥) → answer ≡ error_line (codes "BadHex")
      → IsGetAnswer word key answer
  not_text : (bytes : List ℕ) → IsHexOf bytes word → (IsUtf8 key → ⊥)
      → answer ≡ error_line (name_of InvalidUtf8) → IsGetAnswer word key answer
  no_name : (bytes : List ℕ) → IsHexOf bytes word → IsUtf8 key
      → ((name : List ℕ) → IsName name key → ⊥) → answer ≡ error_line (name_of InvalidJson)
      → IsGetAnswer word key answer
  no_document : (bytes name : List ℕ) → IsHexOf bytes word → IsName name key
      → (IsDocument bytes → ⊥) → answer ≡ error_line (name_of InvalidJsonb)
      → IsGetAnswer word key answer
  none : (bytes name : List ℕ) (t : Tree) → IsHexOf bytes word → IsName name key → Doc bytes t
      → value_of_key name t ≡ None → answer ≡ ok_line (codes "none")
      → IsGetAnswer word key answer
  found : (bytes name : List ℕ) (t u : Tree) (x : ItemView) → IsHexOf bytes word → IsName name key
      → Doc bytes t → value_of_key name t ≡ Some u → IsItemOf u x
      → IsFoundIn (pointwise nat_eq name) (length name) bytes t (Some x)
      → answer ≡ ok_line (encode_lower (item_document x)) → IsGetAnswer word key answer

-- The words for an order.
abbrev pub order_words : Ordering → List ℕ
order_words Less = codes "less"
order_words Equal = codes "equal"
order_words Greater = codes "greater"

-- The answer to `cmp` is the order of the two byte strings by meaning, or why there is none.
pub data IsCmpAnswer (left right answer : List ℕ) : Type 0 where
  bad_left : ((bytes : List ℕ) → IsHexOf bytes left → ⊥) → answer ≡ error_line (codes "BadHex")
      → IsCmpAnswer left right answer
  bad_right : ((bytes : List ℕ) → IsHexOf bytes right → ⊥) → answer ≡ error_line (codes "BadHex")
      → IsCmpAnswer left right answer
  answered : (x y : List ℕ) → IsHexOf x left → IsHexOf y right
      → answer ≡ ok_line (order_words (meaning_cmp (meaning_of x) (meaning_of y)))
      → IsCmpAnswer left right answer

-- The answer to `arr` is the array of the documents, in order, or why there is none.
pub data IsArrAnswer (words : List (List ℕ)) (answer : List ℕ) : Type 0 where
  bad_hex : (before after : List (List ℕ)) (word : List ℕ) → words ≡ before ++ word ∷ after
      → ((bytes : List ℕ) → IsHexOf bytes word → ⊥)
      → answer ≡ error_line (codes "BadHex") → IsArrAnswer words answer
  no_array : (inputs : List (List ℕ)) → Each IsHexOf inputs words
      → (FitArray (map owned inputs) → ⊥) → answer ≡ error_line (name_of InvalidJsonb)
      → IsArrAnswer words answer
  built : (inputs : List (List ℕ)) (bytes : List ℕ) → Each IsHexOf inputs words
      → IsArrayOf (map owned inputs) bytes → answer ≡ ok_line (encode_lower bytes)
      → IsArrAnswer words answer

-- The answer to `canon` is the canonical document of the tree, or why there is none.
pub data IsCanonAnswer (word answer : List ℕ) : Type 0 where
  bad_hex : ((bytes : List ℕ) → IsHexOf bytes word → ⊥) → answer ≡ error_line (codes "BadHex")
      → IsCanonAnswer word answer
  no_tree : (bytes : List ℕ) → IsHexOf bytes word → RewritesTo bytes (Err InvalidJsonb)
      → answer ≡ error_line (name_of InvalidJsonb) → IsCanonAnswer word answer
  written : (bytes document : List ℕ) → IsHexOf bytes word → RewritesTo bytes (Ok document)
      → answer ≡ ok_line (encode_lower document) → IsCanonAnswer word answer

-- The answer to a command.
abbrev pub IsFormAnswer : Form → List ℕ → Type 0
IsFormAnswer (enc text) = IsEncAnswer text
IsFormAnswer (dec word) = IsDecAnswer word
IsFormAnswer (pretty word) = IsPrettyAnswer word
IsFormAnswer (item_type word) = IsTypeAnswer word
IsFormAnswer (get word key) = IsGetAnswer word key
IsFormAnswer (cmp left right) = IsCmpAnswer left right
IsFormAnswer (arr words) = IsArrAnswer words
IsFormAnswer (canon word) = IsCanonAnswer word

-- The answer to a line is that of its command, or `error BadCommand` if it does not have the form
-- of one.
pub data IsAnswer (line answer : List ℕ) : Type 0 where
  of_form : (form : Form) → IsOfForm form line → IsFormAnswer form answer → IsAnswer line answer
  of_none : ((form : Form) → IsOfForm form line → ⊥) → IsBadCommand answer → IsAnswer line answer

-- The line has an answer, which does not report lack of memory, and it has no other.
pub record OneAnswer (line : List ℕ) : Type 0 where
  pub answer : List ℕ
  pub is : IsAnswer line answer
  pub no_refusal : IsNoMemoryReply answer → ⊥
  pub only : (other : List ℕ) → IsAnswer line other → other ≡ answer

-- The reply is an answer, or reports that there was not enough memory.
abbrev pub IsAnswerOrRefusal : {A : Type 0} → (A → List ℕ → Type 0) → A → List ℕ → Type 0
IsAnswerOrRefusal Answers asked reply = Answers asked reply ⊎ IsNoMemoryReply reply

-- The possible replies to a line.
abbrev pub IsLineReply : List ℕ → List ℕ → Type 0
IsLineReply = IsAnswerOrRefusal IsAnswer

-- The reply to a line is its one answer, or reports that there was not enough memory. A line
-- without the form of a command is refused whatever memory there is.
pub record IsExactReply (line reply : List ℕ) : Type 0 where
  pub one : OneAnswer line
  pub possible : IsLineReply line reply
  pub exact : (reply ≡ one.answer) ⊎ IsNoMemoryReply reply
  pub bad : ((form : Form) → IsOfForm form line → ⊥) → IsBadCommand reply

-- The state of the program, which is empty.
abbrev pub commands : Commands
commands = record {}

-- The answer to a line, whatever the state.
abbrev pub line_rule : Commands → List ℕ → List ℕ → Commands → Type 0
line_rule state line answer next = IsAnswer line answer
