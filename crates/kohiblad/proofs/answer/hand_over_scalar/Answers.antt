use Rattle.std.proofs.Common.{◌≡◌, ℕ, List, ◌+◌, ◌++◌, length, drop, sym, refl, inl, inr, arith, ap}
use Rattle.std.proofs.Common.{◌∙◌}
use Rattle.std.proofs.lemmas.Grind.{common_steps}
use Rattle.kohiblad.proofs.Scalars.{length-scalar_bytes, word_there, scalar_written}
use Rattle.kohiblad.proofs.answer.hand_over_scalar.Goals as goal

pub returns-then-out-size : goal.returns-then-out-size
returns-then-out-size c =
    let long = length-scalar_bytes c.args.type_code c.args.payload.now in
    let short = c.if-out-size.true in
    (sym long, inr (refl, (omega arith, refl)))

pub returns : goal.returns
returns c =
    let payload = c.args.payload.now in
    let long = length-scalar_bytes c.args.type_code payload in
    let room = c.if-out-size.false in
    let header =
    word_there c.copy_from_slice.new.self c.to_be_bytes.result 536870912
    c.copy_from_slice.ensures.after c.to_be_bytes.ensures in
    let entry = word_there c.copy_from_slice-2.new.self c.to_be_bytes-2.result
    (c.args.type_code
    + length payload) c.copy_from_slice-2.ensures.after c.to_be_bytes-2.ensures in
    let rest = drop (length payload) c.split_at_mut-front.result.1.now in
    let later : drop (length payload) c.split_at_mut-front.result.1.now
    ≡ drop (8 + length payload) c.args.out.now = grind (arith, common_steps) in
    let copied = ap
    (λ (xs : List ℕ). (c.copy_from_slice.new.self ++ c.copy_from_slice-2.new.self)
    ++ (xs ++ rest)) c.copy_from_slice-3.ensures.after in (
      sym long,
      inl (
        refl,
        (
          omega arith,
          copied
              ∙ scalar_written c.args.type_code payload _ _ rest c.args.out.now header entry later,
        ),
      ),
    )
