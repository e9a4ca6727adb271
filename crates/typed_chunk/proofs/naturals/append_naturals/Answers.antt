use Rattle.std.proofs.Common.{◌≡◌, ◌++◌, ◌∙◌, ℕ, List, ap, arith, if◌then◌else◌, is_ok, map, pos}
use Rattle.typed_chunk.specs.Frame.{least_value, unsigned_word}
use Rattle.typed_chunk.specs.Headed.{headed}
use Rattle.typed_chunk.proofs.NaturalLaws.{frame_pos, least_below, least_pos}
use Rattle.typed_chunk.proofs.naturals.append_naturals.Goals as goal

pub lower-requires : goal.lower-requires
lower-requires c =
    least_below c.least_number-least.result c.args.numbers.now
    (ap (λ (n : ℕ). pos n) c.least_number-least.ensures ∙ least_pos c.args.numbers.now)

pub append_behind-requires-clause-fits : goal.append_behind-requires-clause-fits
append_behind-requires-clause-fits c =
    let numbers = c.args.numbers.now in
    let low = least_below c.least_number-least.result numbers
    (ap (λ (n : ℕ). pos n) c.least_number-least.ensures ∙ least_pos numbers) 0 0 c.requires.some in
    let fit = c.requires.fit 0 0 c.requires.some in
    omega (arith, low, fit)

pub returns : goal.returns
returns c =
    let least = c.least_number-least.result in
    let numbers = c.args.numbers.now in
    let out = c.args.out.now.items in
    let is : pos least ≡ least_value (map pos numbers) =
    ap (λ (n : ℕ). pos n) c.least_number-least.ensures ∙ least_pos numbers in
    c.append_behind.ensures
    ∙ ap (λ (bytes : List ℕ). if is_ok c.append_behind.result then out ++ bytes else out)
    (ap (λ (codes : List ℕ). headed (unsigned_word c.args.size (pos least)) codes) c.lower.ensures
    ∙ frame_pos c.args.size least numbers is)
