use Rattle.std.proofs.Common.{subst, sym, take, length, ◌≤◌, ap, arith, rules, IsUtf8}
use Rattle.std.specs.Result.{is_ok}
use Rattle.jsonb.proofs.CopyLaws.{kept_in_use}
use Rattle.jsonb.proofs.written.Written.make_more_room.Goals as goal

pub invariant_of-self : goal.invariant_of-self
invariant_of-self c =
    let old = c.args.self.now in
    let same = sym c.reserve.ensures.items in
    record {
      within = subst (λ l. old.at ≤ length l) same old.within;
      utf8 = subst (λ l. ∥ IsUtf8 (take old.at l) ∥₁) same old.utf8;
    }

pub invariant_of-self-2 : goal.invariant_of-self-2
invariant_of-self-2 c =
    let old = c.args.self.now in
    let kept = kept_in_use (is_ok c.resize.result) old.at c.min-ready.result
    c.reserve.new.self.items _ _ (omega (arith, old.within, ap length c.reserve.ensures.items))
    (search rules) c.resize.ensures.items in
    record {
      within = kept.0;
      utf8 = subst (λ l. ∥ IsUtf8 l ∥₁)
          (sym kept.1) (subst (λ l. ∥ IsUtf8 (take old.at l) ∥₁) (sym c.reserve.ensures.items) old.utf8);
    }
