-- The outcomes of the commands.
use Rattle.std.proofs.Common.{◌≡◌, ◌⊎◌, ◌∷◌, ◌++◌, [], ℕ, List, map, append_assoc}
use Rattle.std.proofs.Common.{sym, Option, Some, None, Result, Ok, Err, refl, inl, inr, ap}
use Rattle.std.proofs.Common.{chars}
use Rattle.std.specs.Prelude.{IfErr, IfOk, OnOk}
use Rattle.std.specs.String.{string_bytes}
use Rattle.std.specs.declared.string.String.{String}
use Rattle.std.proofs.lemmas.List.{append-nil, map-append}
use Rattle.std.specs.Str.{IsUtf8}
use Rattle.jsonb_value.specs.ErrorName.{name_of}
use Rattle.jsonb_value.specs.declared.error.Error.{Error}
use Rattle.jsonb_value.specs.declared.error.Error.TheVariants.{InvalidJson, InvalidJsonb}
use Rattle.jsonb_value.specs.declared.error.Error.TheVariants.{OutOfMemory}
use Rattle.jsonb_value.specs.Json.Syntax.{Json}
use Rattle.jsonb_value.specs.Tree.{Tree}
use Rattle.jsonb_value.specs.Tree as trees
use Rattle.jsonb_value.specs.Value.{cow_bytes}
use Rattle.std.specs.Cow.{cow_str_bytes}
use Rattle.std.specs.declared.alloc.Global.{Global}
use Rattle.std.specs.declared.borrow.CowStr.{CowStr}
use Rattle.std.specs.declared.borrow.CowStr.TheVariants.{Borrowed, Owned}
use Rattle.jsonb_codec.specs.Doc.{Doc}
use Rattle.jsonb.specs.Lookup.{IsItemFound}
use Rattle.jsonb.specs.ItemView.{ItemView, owned}
use Rattle.jsonb.specs.DocumentWalk.{IsItemOf}
use Rattle.jsonb.specs.Canonical.{RewritesTo}
use Rattle.jsonb.specs.Parsing.{ParsesTo}
use Rattle.answer_lines.specs.Session as session
use Rattle.jsonb_cli.specs.declared.answer.Answer.{Answer}
use Rattle.jsonb_cli.specs.declared.answer.Refusal.{Refusal}
use Rattle.jsonb_cli.specs.declared.answer.Refusal.TheVariants.{BadHex, TooDeep, Call}
use Rattle.jsonb_cli.specs.Each as each
use Rattle.jsonb_cli.specs.Each.{Each}
use Rattle.jsonb_cli.specs.AnswerLine.{error_line, refusal_name, outcome_line}
use Rattle.jsonb_cli.specs.declared.run.Commands.{Commands}
use Rattle.jsonb_cli.specs.Answers.{IsAnswerOrRefusal, IsLineReply, line_rule}
use Rattle.jsonb_cli.specs.Answers as answers
use Rattle.jsonb_cli.specs.Answers.{IsArrAnswer, IsCanonAnswer, IsEncAnswer, no_tree, too_large}
use Rattle.jsonb_cli.specs.Answers.{IsName, bad_hex}
use Rattle.jsonb_cli.specs.Answers.{IsHexOf}

abbrev pub said_of : Error → List ℕ
said_of e = error_line (name_of e)

-- A call fails with one error, which the answer reports, or for lack of memory.
pub failed : {IsAnswered : Type 0} {e wrong : Error} → (e ≡ wrong) ⊎ (e ≡ OutOfMemory)
    → (e ≡ wrong → IsAnswered) → IsAnswered ⊎ session.IsNoMemoryReply (said_of e)
failed (inl is) answered = inl (answered is)
failed (inr is) answered = inr (ap said_of is)

-- a text that is not encoded
pub enc_refused : (text : List ℕ) (e : Error) → IsUtf8 text → ParsesTo text (Err e)
    → IsAnswerOrRefusal IsEncAnswer text (said_of e)
enc_refused text InvalidJson utf8 none = inl (no_tree utf8 none refl)
enc_refused text InvalidJsonb utf8 past = inl (too_large utf8 past refl)
enc_refused text OutOfMemory utf8 any = inr refl
enc_refused text e utf8 never = absurd never

-- bytes that are not brought to canonical form
pub canon_refused : (word bytes : List ℕ) (e : Error) → IsHexOf bytes word
    → RewritesTo bytes (Err e) → IsAnswerOrRefusal IsCanonAnswer word (said_of e)
canon_refused word bytes InvalidJsonb hex none = inl (answers.no_tree bytes hex none refl)
canon_refused word bytes OutOfMemory hex any = inr refl
canon_refused word bytes e hex never = absurd never

-- an outcome that is this line, or lack of memory
pub come_out : {IsAnswered : Type 0} {line : List ℕ} (r : Result Answer Refusal)
    → OnOk r (outcome_line r ≡ line) → IfErr r (λ refusal. refusal ≡ Call OutOfMemory)
    → (outcome_line r ≡ line → IsAnswered) → IsAnswered ⊎ session.IsNoMemoryReply (outcome_line r)
come_out (Ok answer) ok refused answered = inl (answered ok)
come_out (Err refusal) ok refused answered = inr (rw refused)

-- a text of the document's tree is one of the tree that the bytes mean
pub text_of_tree : (r : Result (String Global) Error) (line : Tree → List ℕ) (bytes : List ℕ)
    (t : Tree) → Doc bytes t → IfOk r (λ text. string_bytes text ≡ line t)
    → IfOk r (λ text. (u : Tree) × (Doc bytes u × (string_bytes text ≡ line u)))
text_of_tree (Ok text) line bytes t means is = (t, (means, is))
text_of_tree (Err e) line bytes t means is = tt

-- the name that a key means
pub key_named : {json key slice : List ℕ} (name : CowStr Global) → json ≡ key → IsUtf8 key
    → slice ≡ cow_str_bytes name → Json (chars json) (trees.text (cow_bytes name))
    → IsName slice key
key_named (Borrowed s) same utf8 is means = (utf8, rw (is, ← same) means)
key_named (Owned s) same utf8 is means = (utf8, rw (is, ← same) means)

-- what a look-up finds is an item of a value, or no value
pub item_found : {value : Option Tree} {x : ItemView} → IsItemFound value (Some x)
    → (u : Tree) × ((value ≡ Some u) × IsItemOf u x)
item_found {value = Some u} item = (u, (refl, item))
item_found {value = None} none = absurd none

Each-append : {A B : Type 0} {R : A → B → Type 0} {xs xs' : List A} {ys ys' : List B}
    → Each R xs ys → Each R xs' ys' → Each R (xs ++ xs') (ys ++ ys')
Each-append each.none later = later
Each-append (each.more r rs) later = each.more r (Each-append rs later)

-- the words that were read, the bytes that they encode, and the items of the builder
pub record IsRead (words rest : List (List ℕ)) (held : List ItemView) : Type 0 where
  pub inputs : List (List ℕ)
  pub before : List (List ℕ)
  pub parts : words ≡ before ++ rest
  pub hex : Each IsHexOf inputs before
  pub holds : held ≡ map owned inputs

pub nothing_read : {words rest : List (List ℕ)} {held : List ItemView} → rest ≡ words → held ≡ []
    → IsRead words rest held
nothing_read same empty =
    record { inputs = []; before = []; parts = sym same; hex = each.none; holds = empty }

pub one_more_read : {words rest left : List (List ℕ)} {held new : List ItemView}
    (word bytes : List ℕ) → IsRead words rest held → rest ≡ word ∷ left → IsHexOf bytes word
    → new ≡ held ++ owned bytes ∷ [] → IsRead words left new
one_more_read word bytes read is hex pushed = record {
  inputs = read.inputs ++ bytes ∷ [];
  before = read.before ++ word ∷ [];
  parts = simp append_assoc (rw is at read.parts);
  hex = Each-append read.hex (each.more hex each.none);
  holds = simp map-append (rw read.holds at pushed);
}

pub arr_unread : {words rest : List (List ℕ)} (left : List (List ℕ)) {held : List ItemView}
    (word : List ℕ) {refusal : Refusal} → IsRead words rest held → rest ≡ word ∷ left
    → (refusal ≡ BadHex) ⊎ ((refusal ≡ TooDeep) ⊎ (refusal ≡ Call OutOfMemory))
    → (refusal ≡ BadHex → (bytes : List ℕ) → IsHexOf bytes word → ⊥)
    → IsAnswerOrRefusal IsArrAnswer words (error_line (refusal_name refusal))
arr_unread left word read is (inl bad) none =
    inl (bad_hex read.before left word (rw is at read.parts) (none bad) (rw bad))
arr_unread left word read is (inr (inl deep)) none = inr (rw deep)
arr_unread left word read is (inr (inr memory)) none = inr (rw memory)

pub all_read : {words : List (List ℕ)} {held : List ItemView} (read : IsRead words [] held)
    → Each IsHexOf read.inputs words
all_read read = rw (read.parts, append-nil) read.hex

-- the answer to a line, with its line feed
pub replied : {E : Type 0} (r : Result (String Global) E) (state : Commands) (line outcome : List ℕ)
    → IsLineReply line outcome → IfOk r (λ text. string_bytes text ≡ outcome ++ 10 ∷ [])
    → IfOk r (λ text. (reply : List ℕ)
    × (session.IsReply line_rule state line reply state × (string_bytes text ≡ reply ++ 10 ∷ [])))
replied (Ok text) state line outcome (inl answer) is = (outcome, (inl answer, is))
replied (Ok text) state line outcome (inr refused) is = (outcome, (inr (refused, refl), is))
replied (Err e) state line outcome reply is = tt
