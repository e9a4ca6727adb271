use Rattle.std.proofs.Common.{◌≡◌, ◌≤◌, ◌++◌, subst, sym, ap, ◌∙◌, length, take, IsUtf8, arith}
use Rattle.std.specs.Vec.{with_items}
use Rattle.std.proofs.lemmas.List.{with_items_is}
use Rattle.std.proofs.lemmas.Str.{IsUtf8-had, IsUtf8-append}
use Rattle.jsonb.proofs.written.Written.store.Goals as goal

pub invariant_of-self : goal.invariant_of-self
invariant_of-self c =
    let old = c.args.self.now in
    let new = c.store-self in
    let from = c.as_mut_slice.ensures in
    let text = c.as_bytes in
    let whole : (with_items old.bytes new.new.bytes).items ≡ new.new.bytes =
    with_items_is old.bytes new.new.bytes (omega (arith, new.ensures.len, from.len)) in
    let stored : take new.result new.new.bytes ≡ take old.at old.bytes.items ++ text.result.now =
    new.ensures.text ∙ ap (λ l. take old.at l ++ text.result.now) from.value in
    record {
      within = subst (λ l. new.result ≤ length l) (sym whole) new.ensures.within;
      utf8 = ∣ subst IsUtf8 (sym (ap (take new.result) whole ∙ stored))
          (IsUtf8-append _ _ (IsUtf8-had _ old.utf8) text.ensures.utf8) ∣₁;
    }
