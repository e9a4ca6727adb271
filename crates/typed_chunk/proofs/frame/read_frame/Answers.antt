use Rattle.std.proofs.Common.{◌≡◌, ◌∙◌, ℕ, ℤ, Err, FitsSigned, List, None, Some, ap, ap₂}
use Rattle.std.proofs.Common.{arith, length, map, of_z, refl, rules, subst, sym, to_z}
use Rattle.std.specs.Int.{cast_unsigned, w64}
use Rattle.std.proofs.lemmas.Bool.{false≢true}
use Rattle.std.proofs.lemmas.Int.{to_z-of_z}
use Rattle.std.proofs.lemmas.List.{length-map}
use Rattle.byteorder.specs.Numbers.{length-bytes_high_first}
use Rattle.typed_chunk.specs.Frame.{IsFrame, height, heights, least_in, least_value, range_fault}
use Rattle.typed_chunk.specs.Frame.{signed_word, value_at_height}
use Rattle.typed_chunk.specs.Headed.{codes_behind, headed_fault}
use Rattle.typed_chunk.proofs.FrameLaws.{frame_fault_behind, frame_headed, frame_parts, frame_read}
use Rattle.typed_chunk.proofs.FrameLaws.{least_bounds, range_codes, range_kept, values-heights}
use Rattle.typed_chunk.proofs.HeadedLaws.{some_not_none}
use Rattle.typed_chunk.proofs.frame.read_frame.Goals as goal

long_word : (items : List ℤ) → length (signed_word w64 (least_value items)) ≡ 8
long_word items = length-bytes_high_first 8 (cast_unsigned w64 (least_value items))

many : (items : List ℤ) (count room : ℕ) → length items ≡ count → room ≡ count
    → length (heights items) ≡ room
many items count room are same = length-map items (height (least_value items)) ∙ are ∙ sym same

pub returns-in_err-read_headed-clause-back : goal.returns-in_err-read_headed-clause-back
returns-in_err-read_headed-clause-back c = λ items count fit are.
    let p = frame_parts w64 items c.args.bytes.now fit are in
    let back = c.in_err-read_headed.ensures.back (signed_word w64 (least_value items))
    (heights items) (long_word items) (many items _ _ count c.requires.room) p.codes
    (frame_headed (signed_word w64) items c.args.bytes.now are) in
    absurd (false≢true back.0)

pub returns-in_err-check_range-clause-fault : goal.returns-in_err-check_range-clause-fault
returns-in_err-check_range-clause-fault c =
    let bytes = c.args.bytes.now in
    let count = length c.args.values.now in
    let codes = c.read_headed.new.codes in
    let least = c.least_in-least.result in
    let fits : FitsSigned w64 least = search rules in
    let handed : c.from_residual-in_err-check_range.result ≡ Err c.in_err-check_range.field-0.0 =
    search rules in
    let none : headed_fault 8 count bytes ≡ None =
    ap (λ (n : ℕ). headed_fault 8 n bytes) (sym c.requires.room)
    ∙ sym c.in_ok-read_headed.ensures.fault in
    rw handed (frame_fault_behind w64 count codes bytes (to_z w64 (of_z w64 least))
    (Some c.in_err-check_range.field-0.0) none
    (c.in_ok-read_headed.ensures.behind
    ∙ ap (λ (n : ℕ). codes_behind 8 n bytes) c.requires.room)
    (to_z-of_z w64 least fits ∙ c.least_in-least.ensures) c.in_err-check_range.ensures)

pub returns-in_err-check_range-clause-back : goal.returns-in_err-check_range-clause-back
returns-in_err-check_range-clause-back c = λ items count fit are.
    let least = c.least_in-least.result in
    let fits : FitsSigned w64 least = search rules in
    let p = frame_parts w64 items c.args.bytes.now fit are in
    let back = c.in_ok-read_headed.ensures.back (signed_word w64 (least_value items))
    (heights items) (long_word items) (many items _ _ count c.requires.room) p.codes
    (frame_headed (signed_word w64) items c.args.bytes.now are) in
    let is : to_z w64 (of_z w64 least) ≡ least_value items =
    to_z-of_z w64 least fits ∙ c.least_in-least.ensures ∙ p.least in
    absurd (some_not_none (c.in_err-check_range.ensures
    ∙ ap₂ (λ (z : ℤ) (cs : List ℕ). range_fault 63 z cs) is back.1
    ∙ range_kept w64 (least_value items) (heights items) p.top))

pub write_values-requires-clause-fit : goal.write_values-requires-clause-fit
write_values-requires-clause-fit c =
    let least = c.least_in-least.result in
    let fits : FitsSigned w64 least = search rules in
    range_codes w64 (to_z w64 (of_z w64 least)) c.read_headed.new.codes
    (subst (FitsSigned w64) (sym (to_z-of_z w64 least fits)) fits)
    (sym c.in_ok-check_range.ensures)

pub returns-clause-fault : goal.returns-clause-fault
returns-clause-fault c =
    let bytes = c.args.bytes.now in
    let count = length c.args.values.now in
    let codes = c.read_headed.new.codes in
    let least = c.least_in-least.result in
    let fits : FitsSigned w64 least = search rules in
    let none : headed_fault 8 count bytes ≡ None =
    ap (λ (n : ℕ). headed_fault 8 n bytes) (sym c.requires.room)
    ∙ sym c.in_ok-read_headed.ensures.fault in
    frame_fault_behind w64 count codes bytes (to_z w64 (of_z w64 least)) None none
    (c.in_ok-read_headed.ensures.behind
    ∙ ap (λ (n : ℕ). codes_behind 8 n bytes) c.requires.room)
    (to_z-of_z w64 least fits ∙ c.least_in-least.ensures) c.in_ok-check_range.ensures

pub returns-clause-ok : goal.returns-clause-ok
returns-clause-ok c =
    let bytes = c.args.bytes.now in
    let codes = c.read_headed.new.codes in
    let least = c.least_in-least.result in
    let fits : FitsSigned w64 least = search rules in
    let is : to_z w64 (of_z w64 least) ≡ least_in w64 bytes =
    to_z-of_z w64 least fits ∙ c.least_in-least.ensures in
    subst (λ vs. IsFrame (signed_word w64) vs bytes)
    (sym (c.write_values.ensures ∙ ap (λ (z : ℤ). map (value_at_height z) codes) is))
    (frame_read w64 codes bytes (λ i. omega (arith, c.type_inv.bytes i))
    c.in_ok-read_headed.ensures.long c.in_ok-read_headed.ensures.ok)

pub returns-clause-back : goal.returns-clause-back
returns-clause-back c = λ items count fit are.
    let least = c.least_in-least.result in
    let fits : FitsSigned w64 least = search rules in
    let p = frame_parts w64 items c.args.bytes.now fit are in
    let back = c.in_ok-read_headed.ensures.back (signed_word w64 (least_value items))
    (heights items) (long_word items) (many items _ _ count c.requires.room) p.codes
    (frame_headed (signed_word w64) items c.args.bytes.now are) in
    let is : to_z w64 (of_z w64 least) ≡ least_value items =
    to_z-of_z w64 least fits ∙ c.least_in-least.ensures ∙ p.least in (
      refl,
      c.write_values.ensures
          ∙ ap₂ (λ (z : ℤ) (cs : List ℕ). map (value_at_height z) cs) is back.1
          ∙ values-heights (least_value items) items (least_bounds items),
    )

pub returns-clause-told : goal.returns-clause-told
returns-clause-told c =
    let bytes = c.args.bytes.now in
    let least = c.least_in-least.result in
    let fits : FitsSigned w64 least = search rules in
    let is : to_z w64 (of_z w64 least) ≡ least_in w64 bytes =
    to_z-of_z w64 least fits ∙ c.least_in-least.ensures in
    c.write_values.ensures
    ∙ ap₂ (λ (z : ℤ) (cs : List ℕ). map (value_at_height z) cs) is
    (c.in_ok-read_headed.ensures.behind
    ∙ ap (λ (n : ℕ). codes_behind 8 n bytes) c.requires.room)
