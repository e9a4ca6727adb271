use Rattle.std.proofs.Common.{◌≡◌, ◌≤◌, ◌++◌, ◌∙◌, ℕ, Bool, Err, List, None, Some, ap}
use Rattle.std.proofs.Common.{ap₂, arith, cond, drop, length, refl, rules, subst, sym, take}
use Rattle.std.proofs.lemmas.Bool.{false≢true}
use Rattle.std.proofs.lemmas.List.{length-map}
use Rattle.typed_chunk.specs.Flags.{flag_bits, flags, rows_of, some_fault}
use Rattle.typed_chunk.specs.Packed.{ArePacked, codes_fault, packed_len}
use Rattle.typed_chunk.proofs.FlagLaws.{rows-bits}
use Rattle.typed_chunk.proofs.FlagReadLaws.{bits_parts, bits_read, bits_refused, some_refused}
use Rattle.typed_chunk.proofs.HeadedLaws.{some_not_none}
use Rattle.typed_chunk.proofs.flags.read_some.Goals as goal

bits_long : (items : List Bool) (count room : ℕ) → length items ≡ count → room ≡ count
    → length (flag_bits items) ≡ room
bits_long items count room many same =
    length-map items (λ flag. cond flag 1 0) ∙ many ∙ sym same

bits_in_part : (items : List Bool) (bytes part : List ℕ) (size : ℕ)
    → part ≡ take size bytes → size ≡ packed_len 1 (length items)
    → ArePacked 1 (flag_bits items) (take (packed_len 1 (length items)) bytes)
    → ArePacked 1 (flag_bits items) part
bits_in_part items bytes part size is same are =
    subst (λ bs. ArePacked 1 (flag_bits items) bs)
    (sym (is ∙ ap (λ (k : ℕ). take k bytes) same)) are

size_of : (items : List Bool) (count room size : ℕ) → length items ≡ count → room ≡ count
    → size ≡ packed_len 1 room → size ≡ packed_len 1 (length items)
size_of items count room size many same is = is ∙ ap (packed_len 1) (same ∙ sym many)

pub returns-then-bytes-size-clause-back : goal.returns-then-bytes-size-clause-back
returns-then-bytes-size-clause-back c = λ items rest many e.
    let p = bits_parts items c.args.bytes.now rest e in
    let same = size_of items _ _ c.packed_len-size.result many c.requires.room
    c.packed_len-size.ensures in
    absurd (omega (arith, p.long, same))

pub returns-in_err-read_codes-clause-fault : goal.returns-in_err-read_codes-clause-fault
returns-in_err-read_codes-clause-fault c =
    let bytes = c.args.bytes.now in
    let count = length c.args.has.now in
    let part = c.front.result.now in
    let same : c.packed_len-size.result ≡ packed_len 1 count =
    c.packed_len-size.ensures ∙ ap (packed_len 1) c.requires.room in
    let long : packed_len 1 count ≤ length bytes = omega (arith, same) in
    let handed : c.from_residual.result ≡ Err c.in_err-read_codes.field-0.0 = search rules in
    rw handed (bits_refused count bytes part c.in_err-read_codes.field-0.0 long
    (c.front.ensures ∙ ap (λ (k : ℕ). take k bytes) same)
    (c.in_err-read_codes.ensures.fault
    ∙ ap (λ (n : ℕ). codes_fault 1 n part) c.requires.room))

pub returns-in_err-read_codes-clause-back : goal.returns-in_err-read_codes-clause-back
returns-in_err-read_codes-clause-back c = λ items rest many e.
    let bytes = c.args.bytes.now in
    let p = bits_parts items bytes rest e in
    let same = size_of items _ _ c.packed_len-size.result many c.requires.room
    c.packed_len-size.ensures in
    let back = c.in_err-read_codes.ensures.back (flag_bits items)
    (bits_long items _ _ many c.requires.room)
    (bits_in_part items bytes c.front.result.now c.packed_len-size.result c.front.ensures same
    p.packed) in
    absurd (false≢true back.0)

pub returns-in_err-check_some-clause-fault : goal.returns-in_err-check_some-clause-fault
returns-in_err-check_some-clause-fault c =
    let bytes = c.args.bytes.now in
    let count = length c.args.has.now in
    let part = c.front.result.now in
    let codes = c.read_codes.new.codes in
    let same : c.packed_len-size.result ≡ packed_len 1 count =
    c.packed_len-size.ensures ∙ ap (packed_len 1) c.requires.room in
    let long : packed_len 1 count ≤ length bytes = omega (arith, same) in
    let handed : c.from_residual-in_err-check_some.result ≡ Err c.in_err-check_some.field-0.0 =
    search rules in
    rw handed (some_refused count codes bytes part (Some c.in_err-check_some.field-0.0) long
    (c.front.ensures ∙ ap (λ (k : ℕ). take k bytes) same)
    (c.read_codes.auto.codes ∙ c.requires.room)
    (c.in_ok-read_codes.ensures.fault
    ∙ ap (λ (n : ℕ). codes_fault 1 n part) c.requires.room)
    c.in_ok-read_codes.ensures.ok
    (c.in_err-check_some.ensures ∙ ap some_fault c.write_rows.ensures))

pub returns-in_err-check_some-clause-back : goal.returns-in_err-check_some-clause-back
returns-in_err-check_some-clause-back c = λ items rest many e.
    let bytes = c.args.bytes.now in
    let p = bits_parts items bytes rest e in
    let same = size_of items _ _ c.packed_len-size.result many c.requires.room
    c.packed_len-size.ensures in
    let back = c.in_ok-read_codes.ensures.back (flag_bits items)
    (bits_long items _ _ many c.requires.room)
    (bits_in_part items bytes c.front.result.now c.packed_len-size.result c.front.ensures same
    p.packed) in
    absurd (some_not_none (c.in_err-check_some.ensures
    ∙ ap some_fault (c.write_rows.ensures ∙ ap rows_of back.1 ∙ rows-bits items) ∙ p.some))

pub returns-clause-fault : goal.returns-clause-fault
returns-clause-fault c =
    let bytes = c.args.bytes.now in
    let count = length c.args.has.now in
    let part = c.front.result.now in
    let codes = c.read_codes.new.codes in
    let same : c.packed_len-size.result ≡ packed_len 1 count =
    c.packed_len-size.ensures ∙ ap (packed_len 1) c.requires.room in
    let long : packed_len 1 count ≤ length bytes = omega (arith, same) in
    some_refused count codes bytes part None long
    (c.front.ensures ∙ ap (λ (k : ℕ). take k bytes) same)
    (c.read_codes.auto.codes ∙ c.requires.room)
    (c.in_ok-read_codes.ensures.fault
    ∙ ap (λ (n : ℕ). codes_fault 1 n part) c.requires.room)
    c.in_ok-read_codes.ensures.ok (c.in_ok-check_some.ensures ∙ ap some_fault c.write_rows.ensures)

pub returns-clause-ok : goal.returns-clause-ok
returns-clause-ok c =
    let bytes = c.args.bytes.now in
    let codes = c.read_codes.new.codes in
    let size = c.packed_len-size.result in
    bits_read size codes bytes
    (subst (λ bs. ArePacked 1 codes bs) c.front.ensures c.in_ok-read_codes.ensures.ok)
    (ap some_fault (sym c.write_rows.ensures) ∙ sym c.in_ok-check_some.ensures)
    ∙ ap₂ (λ (has : List Bool) (bs : List ℕ). flags has ++ bs) (sym c.write_rows.ensures)
    (sym c.behind.ensures)

pub returns-clause-back : goal.returns-clause-back
returns-clause-back c = λ items rest many e.
    let bytes = c.args.bytes.now in
    let p = bits_parts items bytes rest e in
    let same = size_of items _ _ c.packed_len-size.result many c.requires.room
    c.packed_len-size.ensures in
    let back = c.in_ok-read_codes.ensures.back (flag_bits items)
    (bits_long items _ _ many c.requires.room)
    (bits_in_part items bytes c.front.result.now c.packed_len-size.result c.front.ensures same
    p.packed) in (
      refl,
      c.write_rows.ensures ∙ ap rows_of back.1 ∙ rows-bits items,
      c.behind.ensures ∙ ap (λ (k : ℕ). drop k bytes) same ∙ p.behind,
    )
