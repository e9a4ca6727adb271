-- The answer to a line is unique.
use Rattle.std.proofs.Common.{◌≡◌, ℕ, List, [], ◌∷◌, ◌++◌, length, map, refl, sym, ap, ap₂, subst}
use Rattle.std.proofs.Common.{◌∙◌}
use Rattle.std.proofs.Common.{chars, Some}
use Rattle.std.specs.Prelude.{nat_eq, codes, ⊤}
use Rattle.std.specs.Cmp.Lexicographic.{pointwise}
use Rattle.std.specs.Str.{IsUtf8}
use Rattle.hex.specs.Hex.{encode_lower}
use Rattle.jsonb_value.specs.declared.error.Error.TheVariants.{InvalidJson, InvalidJsonb}
use Rattle.jsonb_value.specs.declared.error.Error.TheVariants.{InvalidUtf8}
use Rattle.jsonb_value.specs.Json.Syntax.{Json}
use Rattle.jsonb_value.specs.Meaning.{meaning_cmp}
use Rattle.jsonb_value.specs.Text.{compact, pretty as pretty_text}
use Rattle.jsonb_value.specs.Tree.{Tree}
use Rattle.jsonb_value.specs.Tree as trees
use Rattle.jsonb_value.proofs.Json.SpelledLaws.{one_meaning}
use Rattle.jsonb_codec.specs.Canon.{canon as canonical, Fits}
use Rattle.jsonb_codec.specs.Doc.{Doc}
use Rattle.jsonb_codec.proofs.Unique.{Doc-unique}
use Rattle.jsonb.specs.Building.{IsArrayOf}
use Rattle.jsonb.specs.Kind.{kind}
use Rattle.jsonb.specs.ItemMeaning.{meaning_of}
use Rattle.jsonb.specs.Code.{item_document}
use Rattle.jsonb.specs.ItemView.{ItemView, owned}
use Rattle.jsonb.specs.Node.{value_of_key}
use Rattle.jsonb.specs.StoredEntries.{IsFoundIn}
use Rattle.jsonb.proofs.ResultLaws.{array_of-IsArrayOf}
use Rattle.jsonb.proofs.StoredEntryLaws.{IsFoundIn-one}
use Rattle.jsonb_cli.specs.AnswerLine.{ok_line, error_line}
use Rattle.jsonb_cli.specs.Answers as answers
use Rattle.answer_lines.specs.Session.{AreAnswers}
use Rattle.answer_lines.proofs.OneOutput as session
use Rattle.jsonb_cli.specs.Answers.{line_rule, commands, IsHexOf, IsName}
use Rattle.jsonb_cli.specs.Answers.{order_words, kind_line, IsEncAnswer, IsDecAnswer}
use Rattle.jsonb_cli.specs.Answers.{IsPrettyAnswer, IsTypeAnswer, IsGetAnswer, IsCmpAnswer}
use Rattle.jsonb_cli.specs.Answers.{IsArrAnswer, IsCanonAnswer, IsFormAnswer, IsAnswer}
use Rattle.jsonb_cli.specs.Answers.{not_text, no_tree, too_large, encoded, bad_hex, no_document}
use Rattle.jsonb_cli.specs.Answers.{printed, answered, no_name, found, bad_left, bad_right}
use Rattle.jsonb_cli.specs.Answers.{no_array}
use Rattle.jsonb_cli.specs.Answers.{built, written, of_form, of_none}
use Rattle.jsonb_cli.specs.Commands.{Form, enc, dec, pretty, item_type, get, cmp, arr, canon}
use Rattle.jsonb_cli.specs.Commands.{IsOfForm}
use Rattle.jsonb_cli.specs.Each as each
use Rattle.jsonb_cli.specs.Each.{Each}
use Rattle.jsonb_cli.proofs.Answering.{said_of}
use Rattle.jsonb_cli.proofs.Forms.{one_form}

-- ---- answers are chosen in steps

-- The answer is this line if nothing satisfies P; otherwise what satisfies P determines the
-- answers.
data Choice {A : Type 0} (P : A → Type 0) (line : List ℕ) (Then : A → List ℕ → Type 0)
    (answer : List ℕ) : Type 0 where
  refused : ((x : A) → P x → ⊥) → answer ≡ line → Choice P line Then answer
  chosen : {x : A} → P x → Then x answer → Choice P line Then answer

-- at most one element satisfies P
abbrev IsUnique : {A : Type 0} → (A → Type 0) → Type 0
IsUnique {A} P = (x y : A) → P x → P y → x ≡ y

one_line : {line : List ℕ} → IsUnique (λ answer. answer ≡ line)
one_line a b is also = is ∙ sym also

one_choice : {A : Type 0} {P : A → Type 0} {line : List ℕ} {Then : A → List ℕ → Type 0}
    → IsUnique P → ((x : A) → IsUnique (Then x)) → IsUnique (Choice P line Then)
one_choice one others a b (refused none is) (refused never also) = is ∙ sym also
one_choice one others a b (refused none is) (chosen {x = x} p then) = absurd (none x p)
one_choice one others a b (chosen {x = x} p then) (refused none is) = absurd (none x p)
one_choice {Then = Then} one others a b (chosen {x = x} p first) (chosen {x = y} q second) =
    others y a b (subst (λ z. Then z a) (one x y p q) first) second

-- answers that are such choices
one_by : {Answers Choices : List ℕ → Type 0} → ((a : List ℕ) → Answers a → Choices a)
    → IsUnique Choices → IsUnique Answers
one_by choices one a b first second = one a b (choices a first) (choices b second)

-- ---- each command

-- a word encodes only one byte string
one_hex : (word : List ℕ) → IsUnique (λ bytes. IsHexOf bytes word)
one_hex word a b first second = let same = sym first ∙ second in cc

abbrev OfBytes : (List ℕ → List ℕ → Type 0) → List ℕ → List ℕ → Type 0
OfBytes Then word = Choice (λ bytes. IsHexOf bytes word) (error_line (codes "BadHex")) Then

enc_choices : {text a : List ℕ} → IsEncAnswer text a
    → Choice (λ (u : ⊤). IsUtf8 text) (said_of InvalidUtf8)
    (λ u. Choice (λ t. Json (chars text) t) (said_of InvalidJson)
    (λ t. Choice (λ (v : ⊤). Fits t) (said_of InvalidJsonb)
    (λ v answer. answer ≡ ok_line (encode_lower (canonical t))))) a
enc_choices (not_text cannot is) = refused (λ u utf8. cannot utf8) is
enc_choices (no_tree utf8 none is) = chosen {x = tt} utf8 (refused none is)
enc_choices (too_large utf8 (t, (means, past)) is) =
    chosen {x = tt} utf8 (chosen means (refused (λ u fits. past fits) is))
enc_choices (encoded bytes utf8 (t, (means, (fits, same))) is) =
    chosen {x = tt} utf8 (chosen means
    (chosen {x = tt} fits (is ∙ ap (λ b. ok_line (encode_lower b)) same)))

-- the answers that the tree of the word's bytes determines
abbrev OfTree : (List ℕ → Tree → Type 0) → (Tree → List ℕ) → List ℕ → List ℕ → Type 0
OfTree Means line = OfBytes
    (λ bytes. Choice (Means bytes) (said_of InvalidJsonb) (λ t answer. answer ≡ line t))

one_of_tree : {Means : List ℕ → Tree → Type 0} {line : Tree → List ℕ} (word : List ℕ)
    → ((bytes : List ℕ) → IsUnique (Means bytes)) → IsUnique (OfTree Means line word)
one_of_tree word one = one_choice (one_hex word)
    (λ bytes. one_choice (one bytes) (λ t. one_line))

dec_choices : {word a : List ℕ} → IsDecAnswer word a
    → OfTree Doc (λ t. ok_line (compact t)) word a
dec_choices (bad_hex cannot is) = refused cannot is
dec_choices (no_document bytes hex none is) =
    chosen hex (refused (λ t means. none (t, means)) is)
dec_choices (printed bytes t hex means is) = chosen hex (chosen means is)

pretty_choices : {word a : List ℕ} → IsPrettyAnswer word a
    → OfTree Doc (λ t. ok_line (encode_lower (pretty_text t))) word a
pretty_choices (bad_hex cannot is) = refused cannot is
pretty_choices (no_document bytes hex none is) =
    chosen hex (refused (λ t means. none (t, means)) is)
pretty_choices (printed bytes t hex means is) = chosen hex (chosen means is)

canon_choices : {word a : List ℕ} → IsCanonAnswer word a
    → OfTree (λ bytes t. Doc bytes t × Fits t) (λ t. ok_line (encode_lower (canonical t))) word a
canon_choices (bad_hex cannot is) = refused cannot is
canon_choices (no_tree bytes hex none is) =
    chosen hex (refused (λ t means. none t means.0 means.1) is)
canon_choices (written bytes document hex (t, (means, (fits, same))) is) =
    chosen hex (chosen {x = t} (means, fits) (is ∙ ap (λ b. ok_line (encode_lower b)) same))

type_choices : {word a : List ℕ} → IsTypeAnswer word a
    → OfBytes (λ bytes answer. answer ≡ kind_line (kind bytes)) word a
type_choices (bad_hex cannot is) = refused cannot is
type_choices (answered bytes hex is) = chosen hex is

-- a text means only one name
one_name : (key : List ℕ) → IsUnique (λ name. IsName name key)
one_name key a b first second = let same : trees.text a
    ≡ trees.text b = one_meaning (chars key) (trees.text a) (trees.text b) first.1 second.1 in cc

-- the item of the entry at the value of the name
abbrev IsItemAt : List ℕ → List ℕ → Tree → ItemView → Type 0
IsItemAt name bytes t x = (u : Tree) × ((value_of_key name t ≡ Some u)
    × IsFoundIn (pointwise nat_eq name) (length name) bytes t (Some x))

one_stored : (name bytes : List ℕ) (t : Tree) → IsUnique (IsItemAt name bytes t)
one_stored name bytes t x y first second =
    IsFoundIn-one (pointwise nat_eq name) (length name) bytes t t x y first.1.1 second.1.1

get_choices : {word key a : List ℕ} → IsGetAnswer word key a
    → OfBytes (λ bytes. Choice (λ (u : ⊤). IsUtf8 key) (said_of InvalidUtf8)
    (λ u. Choice (λ name. IsName name key) (said_of InvalidJson)
    (λ name. Choice (Doc bytes) (said_of InvalidJsonb)
    (λ t. Choice (IsItemAt name bytes t) (ok_line (codes "none"))
    (λ x answer. answer ≡ ok_line (encode_lower (item_document x))))))) word a
get_choices (bad_hex cannot is) = refused cannot is
get_choices (not_text bytes hex other is) =
    chosen hex (refused (λ u utf8. other utf8) is)
get_choices (no_name bytes hex utf8 nameless is) =
    chosen hex (chosen {x = tt} utf8 (refused nameless is))
get_choices (no_document bytes name hex named none is) =
    chosen hex (chosen {x = tt} named.0 (chosen named
    (refused (λ t means. none (t, means)) is)))
get_choices (answers.none bytes name t hex named means missing is) =
    chosen hex (chosen {x = tt} named.0 (chosen named (chosen means
    (refused (λ x stored. let there = stored.1.0 in cc) is))))
get_choices (found bytes name t u x hex named means there item stored is) =
    chosen hex (chosen {x = tt} named.0 (chosen named (chosen means
    (chosen {x = x} (u, (there, stored)) is))))

cmp_choices : {left right a : List ℕ} → IsCmpAnswer left right a
    → Choice (λ (both : List ℕ × List ℕ). IsHexOf both.0 left × IsHexOf both.1 right)
    (error_line (codes "BadHex"))
    (λ both answer. answer
    ≡ ok_line (order_words (meaning_cmp (meaning_of both.0) (meaning_of both.1)))) a
cmp_choices (bad_left cannot is) = refused (λ both hex. cannot both.0 hex.0) is
cmp_choices (bad_right cannot is) = refused (λ both hex. cannot both.1 hex.1) is
cmp_choices (answered x y hex again is) = chosen {x = (x, y)} (hex, again) is

-- words encode only one list of byte strings
one_inputs : (words : List (List ℕ)) → IsUnique (λ inputs. Each IsHexOf inputs words)
one_inputs words xs ys each.none each.none = refl
one_inputs words xs ys (each.more {x = x} {y = word} first others)
    (each.more {x = y} second rest) =
    let same = one_hex word x y first second in
    let later = one_inputs _ _ _ others rest in cc

-- a word that encodes nothing is not among them
no_bad_hex : (xs before after : List (List ℕ)) (word : List ℕ)
    → ((bytes : List ℕ) → IsHexOf bytes word → ⊥) → Each IsHexOf xs (before ++ word ∷ after) → ⊥
no_bad_hex xs [] after word cannot (each.more first others) = cannot _ first
no_bad_hex xs (one ∷ before) after word cannot (each.more first others) =
    no_bad_hex _ before after word cannot others

arr_choices : {words : List (List ℕ)} {a : List ℕ} → IsArrAnswer words a
    → Choice (λ inputs. Each IsHexOf inputs words) (error_line (codes "BadHex"))
    (λ inputs. Choice (IsArrayOf (map owned inputs)) (said_of InvalidJsonb)
    (λ bytes answer. answer ≡ ok_line (encode_lower bytes))) a
arr_choices (bad_hex before after word parts cannot is) = refused
    (λ inputs each. no_bad_hex inputs before after word cannot (rw parts at each)) is
arr_choices (no_array inputs each unfit is) =
    chosen each (refused (λ bytes array. unfit array.fit) is)
arr_choices (built inputs bytes each array is) = chosen each (chosen array is)

one_array : (xs : List ItemView) → IsUnique (IsArrayOf xs)
one_array xs a b first second =
    array_of-IsArrayOf xs a first ∙ sym (array_of-IsArrayOf xs b second)

-- ---- a line

one_form_answer : (form : Form) → IsUnique (IsFormAnswer form)
one_form_answer (enc text) = one_by (λ a. enc_choices)
    (one_choice (λ x y p q. refl)
    (λ u. one_choice (one_meaning (chars text))
    (λ t. one_choice (λ x y p q. refl) (λ v. one_line))))
one_form_answer (dec word) = one_by (λ a. dec_choices) (one_of_tree word Doc-unique)
one_form_answer (pretty word) = one_by (λ a. pretty_choices) (one_of_tree word Doc-unique)
one_form_answer (item_type word) = one_by (λ a. type_choices)
    (one_choice (one_hex word) (λ bytes. one_line))
one_form_answer (get word key) = one_by (λ a. get_choices)
    (one_choice (one_hex word)
    (λ bytes. one_choice (λ x y p q. refl)
    (λ u. one_choice (one_name key)
    (λ name. one_choice (Doc-unique bytes)
    (λ t. one_choice (one_stored name bytes t) (λ x. one_line))))))
one_form_answer (cmp left right) = one_by (λ a. cmp_choices)
    (one_choice
    (λ x y first second. ap₂ (λ (v w : List ℕ). (v, w)) (one_hex left x.0 y.0 first.0 second.0)
    (one_hex right x.1 y.1 first.1 second.1))
    (λ both. one_line))
one_form_answer (arr words) = one_by (λ a. arr_choices)
    (one_choice (one_inputs words)
    (λ inputs. one_choice (one_array (map owned inputs)) (λ bytes. one_line)))
one_form_answer (canon word) = one_by (λ a. canon_choices)
    (one_of_tree word (λ bytes t u first second. Doc-unique bytes t u first.0 second.0))

line_choices : {line a : List ℕ} → IsAnswer line a
    → Choice (λ form. IsOfForm form line) (error_line (codes "BadCommand")) IsFormAnswer a
line_choices (of_form form of answer) = chosen of answer
line_choices (of_none cannot is) = refused cannot is

pub one_answer : (line a b : List ℕ) → IsAnswer line a → IsAnswer line b → a ≡ b
one_answer line = one_by (λ a. line_choices) (one_choice (one_form line) one_form_answer)

-- ---- an input

pub one_output : (input a b : List ℕ) → AreAnswers line_rule commands input a
    → AreAnswers line_rule commands input b → a ≡ b
one_output = session.one_output line_rule
    (λ state x y line a b first second given also. (one_answer line a b first second, refl))
    commands
