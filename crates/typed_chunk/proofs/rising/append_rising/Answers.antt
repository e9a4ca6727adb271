use Rattle.std.proofs.Common.{◌++◌, ◌∙◌, ◌<◌, ℕ, List, ap, ap₂, append_assoc, arith, get_or, length}
use Rattle.std.proofs.Common.{map}
use Rattle.std.proofs.Common.{pos, sym}
use Rattle.std.specs.Int.{w64}
use Rattle.typed_chunk.specs.Frame.{frame, signed_word, unsigned_word}
use Rattle.typed_chunk.specs.Rising.{steps_of}
use Rattle.typed_chunk.proofs.RisingLaws.{rising_is}
use Rattle.typed_chunk.proofs.rising.append_rising.Goals as goal

pub returns-in-Ok : goal.returns-in-Ok
returns-in-Ok c =
    let out = c.args.out.now.items in
    let values = c.args.values.now in
    let word = signed_word w64 (get_or values 0 (pos 0)) in
    let body = frame (unsigned_word 8) (map pos (steps_of values)) in
    let some : 0 < length values = omega (arith, c.requires.two) in
    c.in-Ok.ensures
    ∙ ap₂ (λ (xs ys : List ℕ). xs ++ ys) c.in_ok-append_first.ensures
    (ap (λ (ns : List ℕ). frame (unsigned_word 8) (map pos ns)) c.write_steps.ensures)
    ∙ append_assoc out word body
    ∙ ap (λ (bytes : List ℕ). out ++ bytes) (sym (rising_is values some))
