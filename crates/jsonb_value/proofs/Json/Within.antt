-- Each step of the reader says of the rest what was said before it: whether it nests within a depth.
use Rattle.std.proofs.Common.{◌≡◌, ◌↔◌, ℕ, suc, ◌<◌, ◌≤◌, refl, sym, ap, ◌∙◌, List, [], ◌∷◌, length}
use Rattle.std.proofs.Common.{arith, Some, Bool, true, false, ◌⊎◌}
use Rattle.std.specs.Prelude.{IsTrue, chars}
use Rattle.std.specs.Str.{IsUtf8}
use Rattle.jsonb_value.specs.declared.parser.open_kinds.OpenKinds.{OpenKinds}
use Rattle.jsonb_value.specs.declared.text_depth.ScanState.TheVariants.{Outside}
use Rattle.jsonb_value.specs.TextDepth.{text_depth}
use Rattle.jsonb_value.specs.Reader.IsWithin.{IsWithin}
use Rattle.jsonb_value.specs.Reader.OpenKinds.{kinds_held}
use Rattle.jsonb_value.specs.declared.parser.number.Exponents.{Exponents}
use Rattle.jsonb_value.specs.Depth.{depth}
use Rattle.jsonb_value.specs.Tree.{Tree}
use Rattle.jsonb_value.specs.Json.Characters.{quote, colon, comma}
use Rattle.jsonb_value.specs.Reader.Reading.{skip_blank, expect, read_text, read_value}
use Rattle.jsonb_value.specs.Reader.Resume.{innermost}
use Rattle.jsonb_value.proofs.DepthLaws.{bytes_scanned}
use Rattle.jsonb_value.proofs.ScanLaws.{level_within}
use Rattle.jsonb_value.proofs.Json.Levels.{Levels, begun_level, closed_level, empty_level}
use Rattle.jsonb_value.proofs.Json.Levels.{comma_level, end_level, key_level, scalar_level}
use Rattle.jsonb_value.proofs.Json.Levels.{skip_level}
use Rattle.jsonb_value.proofs.Json.Tests.{no_error}
use Rattle.std.proofs.lemmas.List.{length-reverse}

pub both_ways : {A B C : Type 0} → A ↔ B → B ↔ C → A ↔ C
both_ways ab bc = (λ a. bc.0 (ab.0 a), λ c. ab.1 (bc.1 c))

abbrev open_count : OpenKinds → ℕ
open_count ks = length (kinds_held ks)

no_more : (ks : OpenKinds) → open_count ks ≤ ks.limit
no_more ks = omega (arith, length-reverse ks.kinds.items, ks.within)

pub stays_within : (ks : OpenKinds) (s next : List ℕ)
    → Levels (open_count ks) s ≡ Levels (open_count ks) next → IsWithin ks s ↔ IsWithin ks next
stays_within ks s next e = (
  λ h. record { is = omega (arith, h.is, e) },
  λ h. record { is = omega (arith, h.is, e) },
)

pub member_comma_within : (ks : OpenKinds) (s rest : List ℕ) (c : ℕ) (more : List ℕ)
    → rest ≡ skip_blank s → rest ≡ c ∷ more → c ≡ comma → IsWithin ks s ↔ IsWithin ks more
member_comma_within ks s rest c more skipped e mark =
    stays_within ks s more (comma_level s rest c more (open_count ks) skipped e mark)

pub item_comma_within : (ks : OpenKinds) (s rest : List ℕ) (c : ℕ) (more next : List ℕ)
    → rest ≡ skip_blank s → rest ≡ c ∷ more → c ≡ comma → next ≡ skip_blank more
    → IsWithin ks s ↔ IsWithin ks next
item_comma_within ks s rest c more next skipped e mark after =
    stays_within ks s next
    (comma_level s rest c more (open_count ks) skipped e mark
    ∙ skip_level (open_count ks) more ∙ ap (Levels (open_count ks)) (sym after))

pub key_within : (ks : OpenKinds) (s inside opened key after within later next : List ℕ)
    → inside ≡ skip_blank s → Some opened ≡ expect quote inside
    → ((n : ℕ) → length opened < n → read_text n [] opened ≡ Some (key, after))
    → within ≡ skip_blank after → Some later ≡ expect colon within → next ≡ skip_blank later
    → IsWithin ks s ↔ IsWithin ks next
key_within ks s inside opened key after within later next skipped quoted reads skipped_after
    coloned skipped_later =
    stays_within ks s next
    (key_level s inside opened key after within later next (open_count ks) skipped quoted reads
    skipped_after coloned skipped_later)

pub scalar_within : (ks : OpenKinds) (rule : Exponents) (s : List ℕ) (t : Tree) (after : List ℕ)
    → ((n : ℕ) → length s < n → read_value rule n s ≡ Some (t, after)) → depth t ≡ 0
    → IsWithin ks s ↔ IsWithin ks after
scalar_within ks rule s t after reads shallow =
    stays_within ks s after (scalar_level rule s t after (open_count ks) reads shallow)

pub ends_within : (ks : OpenKinds) (s rest : List ℕ) → rest ≡ skip_blank s → rest ≡ []
    → IsWithin ks s
ends_within ks s rest skipped e =
    let level = end_level s rest (open_count ks) skipped e in
    record { is = omega (arith, level, no_more ks) }

inner_some : (held left : List Bool) (b : Bool) → innermost held ≡ Some b
    → ((c : Bool) (bs : List Bool) → held ≡ c ∷ bs → left ≡ bs) → length held ≡ suc (length left)
inner_some [] left b some pops = no_error some
inner_some (c ∷ bs) left b some pops = ap suc (ap length (sym (pops c bs refl)))

pub closes_within : (old new : OpenKinds) (s rest : List ℕ) (c : ℕ) (more : List ℕ) (b : Bool)
    → innermost (kinds_held old) ≡ Some b
    → ((c : Bool) (bs : List Bool) → kinds_held old ≡ c ∷ bs → kinds_held new ≡ bs)
    → new.limit ≡ old.limit → rest ≡ skip_blank s → rest ≡ c ∷ more → (c ≡ 93) ⊎ (c ≡ 125)
    → IsWithin old s ↔ IsWithin new more
closes_within old new s rest c more b some pops limit skipped e is =
    let count = inner_some (kinds_held old) (kinds_held new) b some pops in
    let level = ap (λ n. Levels n s) count
    ∙ closed_level s rest c more (open_count new) skipped e is in (
      λ h. record { is = omega (arith, h.is, level, limit) },
      λ h. record { is = omega (arith, h.is, level, limit, count, no_more old) },
    )

pub opens_within : (old new : OpenKinds) (s : List ℕ) (c : ℕ) (rest inside : List ℕ) (b : Bool)
    → kinds_held new ≡ b ∷ kinds_held old → new.limit ≡ old.limit → s ≡ c ∷ rest
    → (c ≡ 91) ⊎ (c ≡ 123) → inside ≡ skip_blank rest → IsWithin old s ↔ IsWithin new inside
opens_within old new s c rest inside b push limit e is skipped =
    let level = begun_level s c rest inside (open_count old) e is skipped
    ∙ ap (λ ks. Levels (length ks) inside) (sym push) in (
      λ h. record { is = omega (arith, h.is, level, limit) },
      λ h. record { is = omega (arith, h.is, level, limit) },
    )

pub opens_unskipped_within : (old new : OpenKinds) (s : List ℕ) (c : ℕ) (rest : List ℕ) (b : Bool)
    → kinds_held new ≡ b ∷ kinds_held old → new.limit ≡ old.limit → s ≡ c ∷ rest
    → (c ≡ 91) ⊎ (c ≡ 123) → IsWithin old s ↔ IsWithin new rest
opens_unskipped_within old new s c rest b push limit e is =
    let inside = opens_within old new s c rest (skip_blank rest) b push limit e is refl in
    let level = skip_level (open_count new) rest in (
      λ h. let more = inside.0 h in record { is = omega (arith, more.is, level) },
      λ h. inside.1 (record { is = omega (arith, h.is, level) }),
    )

pub room : (ks : OpenKinds) (is_full : Bool) → (IsTrue is_full ↔ (ks.limit ≡ open_count ks))
    → is_full ≡ false → open_count ks < ks.limit
room ks true test e = absurd (let h : ⊥ = cc in h)
room ks false test e =
    let other : ks.limit ≡ open_count ks → ⊥ = λ full. let no = test.1 full in let h : ⊥ = cc in h in
    omega (arith, no_more ks, other)

pub empty_within : (ks : OpenKinds) (s : List ℕ) (c : ℕ) (rest inside : List ℕ) (k : ℕ)
    (after : List ℕ) → open_count ks < ks.limit → s ≡ c ∷ rest → (c ≡ 91) ⊎ (c ≡ 123)
    → inside ≡ skip_blank rest → Some after ≡ expect k inside → (k ≡ 93) ⊎ (k ≡ 125)
    → IsWithin ks s ↔ IsWithin ks after
empty_within ks s c rest inside k after most e is skipped some closing =
    let level = empty_level s c rest inside k after (open_count ks) e is skipped some closing in (
      λ h. record { is = omega (arith, h.is, level) },
      λ h. record { is = omega (arith, h.is, level, most) },
    )

pub full_is_deeper : (ks : OpenKinds) (s : List ℕ) (c : ℕ) (rest : List ℕ)
    → ks.limit ≡ open_count ks → s ≡ c ∷ rest → (c ≡ 91) ⊎ (c ≡ 123) → IsWithin ks s → ⊥
full_is_deeper ks s c rest full e is h =
    let level = begun_level s c rest (skip_blank rest) (open_count ks) e is refl in
    let low = level_within Outside (suc (open_count ks)) (skip_blank rest) in
    omega (arith, h.is, level, low, full)

-- the whole text, where no container is open
pub begins_within : (ks : OpenKinds) (text inside : List ℕ) (limit : ℕ) → IsUtf8 text
    → kinds_held ks ≡ [] → ks.limit ≡ limit → inside ≡ skip_blank (chars text)
    → (text_depth text ≤ limit) ↔ IsWithin ks inside
begins_within ks text inside limit utf8 none most skipped =
    let level = bytes_scanned text utf8 ∙ skip_level 0 (chars text)
    ∙ ap (λ held. Levels (length held) (skip_blank (chars text))) (sym none)
    ∙ ap (Levels (open_count ks)) (sym skipped) in (
      λ h. record { is = omega (arith, h, level, most) },
      λ h. omega (arith, h.is, level, most),
    )
