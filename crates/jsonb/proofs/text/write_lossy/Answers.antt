use Rattle.std.proofs.Common.{rules, ◌≡◌, ◌++◌, ◌∷◌, encode_utf8, encode_utf8_all, refl}
use Rattle.std.proofs.Common.{sym, ap, ◌∙◌, append_assoc}
use Rattle.jsonb_value.proofs.Writing.{joins_two}
use Rattle.jsonb.proofs.text.write_lossy.Goals as goal

pub chars-preserved : goal.chars-preserved
chars-preserved g c =
    let x = c.in-Some.char in
    let rest = c.next.new.self in
    let parts : c.chars.char-iterator ≡ x ∷ rest = search rules in
    let (done, whole, writes) = c.chars.invariant in (
      done ++ encode_utf8 x,
      append_assoc done (encode_utf8 x) (encode_utf8_all rest)
          ∙ sym (ap (λ cs. done ++ encode_utf8_all cs) parts)
          ∙ whole,
      λ flush.
          let so_far = writes flush in
          joins_two _ _ _ _ _ _ _ so_far
          (c.write_char.ensures.styled so_far.flush (search rules)) refl,
    )
