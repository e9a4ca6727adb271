-- The texts of documents and of other bytes.
use Rattle.std.proofs.Common.{◌≡◌, ℕ, List, [], ◌∷◌, codes, length, Result, Ok, Err, refl}
use Rattle.std.proofs.Common.{arith, String, string_bytes, ◌++◌}
use Rattle.std.proofs.lemmas.Fmt.{contents_after_writes}
use Rattle.std.specs.declared.fmt.Formatter.{Formatter}
use Rattle.std.specs.declared.alloc.Global.{Global}
use Rattle.std.specs.declared.fmt.Error as fmt
use Rattle.std.specs.Prelude.{IsOk, IfOk, OnOk, All, ◌≢◌, ◌≤◌}
use Rattle.jsonb_value.specs.declared.error.Error.{Error}
use Rattle.std.specs.Fmt.{HasWrittenStyled, formatter_writer}
use Rattle.jsonb_value.specs.Tree.{Tree}
use Rattle.jsonb_value.specs.Text.{compact, pretty}
use Rattle.jsonb_codec.specs.Doc.{Doc, IsDocument}
use Rattle.jsonb_codec.proofs.ZeroLaws.{Doc-least}
use Rattle.bstr.proofs.lemmas.EncodeLemmas.{lossy_chars-utf8}
use Rattle.std.specs.Str.{IsUtf8}
use Rattle.jsonb.specs.Texts.{lossy_text, other_text, display_text}
use Rattle.jsonb.specs.Texts.{pretty_display_text}
use Rattle.jsonb.specs.declared.written.Written.{Written}
use Rattle.jsonb.specs.Written.{written_text}
use Rattle.jsonb.proofs.ItemMeaningLaws.{meaning_of-document, meaning_of-other}

pub display_text-Doc : (b : List ℕ) (t : Tree) → Doc b t → display_text b ≡ compact t
display_text-Doc b t doc = cc (meaning_of-document b t doc)

pub display_text-other : (b : List ℕ) → (IsDocument b → ⊥) → display_text b ≡ other_text b
display_text-other b none = cc (meaning_of-other b none)

pub pretty_display_text-Doc : (b : List ℕ) (t : Tree) → Doc b t → pretty_display_text b ≡ pretty t
pretty_display_text-Doc b t doc = cc (meaning_of-document b t doc)

pub pretty_display_text-other : (b : List ℕ) → (IsDocument b → ⊥)
    → pretty_display_text b ≡ codes "null"
pretty_display_text-other b none = cc (meaning_of-other b none)

pub other_text-empty : (b : List ℕ) → length b ≡ 0 → other_text b ≡ codes "null"
other_text-empty [] e = refl
other_text-empty (x ∷ xs) e = absurd (omega arith)

pub other_text-some : (b : List ℕ) → (length b ≡ 0 → ⊥) → other_text b ≡ lossy_text b
other_text-some [] some = absurd (some refl)
other_text-some (x ∷ xs) some = refl

-- what was written to a formatter over no text is the whole returned string
pub string_written : (empty : Written) (f g : Formatter Written) (bs : List ℕ)
    (answer : Result (Unit {0}) fmt.Error) (r : Result (String Global) Error)
    → (IsOk answer → HasWrittenStyled (λ s xs t. written_text t ≡ written_text s ++ xs) f bs g)
    → written_text empty ≡ [] → formatter_writer f ≡ empty → OnOk r (IsOk answer)
    → IfOk r (λ text. string_bytes text ≡ written_text (formatter_writer g))
    → IfOk r (λ text. string_bytes text ≡ bs)
string_written empty f g bs answer (Ok text) all none start on is =
    let appended =
    contents_after_writes (λ s xs t. written_text t ≡ written_text s ++ xs) written_text
    (λ s xs t h. h) (formatter_writer f) bs (formatter_writer g) (all on).wrote in
    cc (is, appended, start, none)
string_written empty f g bs answer (Err e) all none start on is = tt

pub prints_as : (r : Result (String Global) Error) (a b : List ℕ)
    → IfOk r (λ text. string_bytes text ≡ a) → a ≡ b → IfOk r (λ text. string_bytes text ≡ b)
prints_as r a b h same = rw same at h

-- a text that is not a document
pub other_text-short : (b : List ℕ) → IsUtf8 b → (b ≡ [] → ⊥) → other_text b ≡ b
other_text-short [] utf8 some = absurd (some refl)
other_text-short (x ∷ xs) utf8 some = lossy_chars-utf8 (x ∷ xs) utf8

pub short_text : (b : List ℕ) → All (λ x. x ≢ 0) b → length b ≤ 4294967296 → IsDocument b → ⊥
short_text b zeros short d = let long = Doc-least b d.0 d.1 zeros in omega arith
