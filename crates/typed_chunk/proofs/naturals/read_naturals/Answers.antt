use Rattle.std.proofs.Common.{◌≡◌, ◌+◌, ◌-◌, ◌<◌, ◌*◌, ◌^◌, ◌∙◌, ℕ, List, ap, ap₂, arith, map}
use Rattle.std.proofs.Common.{pos, refl, subst, sym}
use Rattle.std.proofs.lemmas.Bool.{false≢true}
use Rattle.std.proofs.lemmas.List.{length-map}
use Rattle.byteorder.specs.Numbers.{length-bytes_high_first}
use Rattle.typed_chunk.specs.Frame.{IsFrame, range_fault, unsigned_word}
use Rattle.typed_chunk.specs.Headed.{greatest}
use Rattle.typed_chunk.proofs.HeadedLaws.{some_not_none}
use Rattle.typed_chunk.proofs.NaturalLaws.{natural_parts, natural_read, raised, size_kept}
use Rattle.typed_chunk.proofs.NaturalLaws.{sum_within_64, within_64}
use Rattle.typed_chunk.proofs.PackedLaws.{bytes-bits}
use Rattle.typed_chunk.proofs.naturals.read_naturals.Goals as goal

pub returns-in_err-read_headed-clause-back : goal.returns-in_err-read_headed-clause-back
returns-in_err-read_headed-clause-back c = λ items count fit are.
    let size = c.args.size in
    let p = natural_parts size items c.args.bytes.now fit are in
    let codes = map (λ (number : ℕ). number - p.least) items in
    let top : p.least + greatest codes < 256 ^ size = p.top in
    let low : greatest codes < 2 ^ 64 = within_64 size (greatest codes) c.requires.short
    (omega (arith, top)) in
    let back = c.in_err-read_headed.ensures.back (unsigned_word size (pos p.least)) codes
    (length-bytes_high_first size p.least)
    (length-map items (λ (number : ℕ). number - p.least) ∙ count) low p.codes in
    absurd (false≢true back.0)

pub returns-in_err-check_sum-clause-back : goal.returns-in_err-check_sum-clause-back
returns-in_err-check_sum-clause-back c = λ items count fit are.
    let size = c.args.size in
    let p = natural_parts size items c.args.bytes.now fit are in
    let codes = map (λ (number : ℕ). number - p.least) items in
    let top : p.least + greatest codes < 256 ^ size = p.top in
    let low : greatest codes < 2 ^ 64 = within_64 size (greatest codes) c.requires.short
    (omega (arith, top)) in
    let back = c.in_ok-read_headed.ensures.back (unsigned_word size (pos p.least)) codes
    (length-bytes_high_first size p.least)
    (length-map items (λ (number : ℕ). number - p.least) ∙ count) low p.codes in
    let is : c.least_in-least.result ≡ p.least = c.least_in-least.ensures ∙ p.read in
    absurd (some_not_none (c.in_err-check_sum.ensures
    ∙ ap₂ (λ (n : ℕ) (cs : List ℕ). range_fault (8 * size) (pos n) cs) is back.1
    ∙ size_kept (8 * size) p.least codes
    (subst (λ n. p.least + greatest codes < n) (bytes-bits size) top)))

pub raise-requires : goal.raise-requires
raise-requires c =
    sum_within_64 c.args.size c.least_in-least.result c.read_headed.new.codes c.requires.short
    (sym c.in_ok-check_sum.ensures)

pub returns-clause-ok : goal.returns-clause-ok
returns-clause-ok c =
    let size = c.args.size in
    let bytes = c.args.bytes.now in
    let codes = c.read_headed.new.codes in
    subst (λ ns. IsFrame (unsigned_word size) (map pos ns) bytes)
    (sym (c.raise.ensures
    ∙ ap (λ (n : ℕ). map (λ (code : ℕ). n + code) codes) c.least_in-least.ensures))
    (natural_read size codes bytes (λ i. omega (arith, c.type_inv.bytes i))
    c.in_ok-read_headed.ensures.long c.in_ok-read_headed.ensures.ok)

pub returns-clause-back : goal.returns-clause-back
returns-clause-back c = λ items count fit are.
    let size = c.args.size in
    let p = natural_parts size items c.args.bytes.now fit are in
    let codes = map (λ (number : ℕ). number - p.least) items in
    let top : p.least + greatest codes < 256 ^ size = p.top in
    let low : greatest codes < 2 ^ 64 = within_64 size (greatest codes) c.requires.short
    (omega (arith, top)) in
    let back = c.in_ok-read_headed.ensures.back (unsigned_word size (pos p.least)) codes
    (length-bytes_high_first size p.least)
    (length-map items (λ (number : ℕ). number - p.least) ∙ count) low p.codes in
    let is : c.least_in-least.result ≡ p.least = c.least_in-least.ensures ∙ p.read in (
      refl,
      c.raise.ensures
          ∙ ap₂ (λ (n : ℕ) (cs : List ℕ). map (λ (code : ℕ). n + code) cs) is back.1
          ∙ raised p.least items p.low,
    )

pub returns-clause-behind : goal.returns-clause-behind
returns-clause-behind c =
    c.raise.ensures
    ∙ ap₂ (λ (n : ℕ) (cs : List ℕ). map (λ (code : ℕ). n + code) cs) c.least_in-least.ensures
    c.in_ok-read_headed.ensures.behind
