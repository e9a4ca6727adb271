use Rattle.std.proofs.Math.Logic.{∥∥₁_elim, ∥∥₁_map}
use Rattle.std.proofs.lemmas.Bool.{cases_eq}
use Rattle.jsonb_codec.proofs.Decision.{known}
use Rattle.jsonb_codec.proofs.Entries.{keys_of}
use Rattle.jsonb_codec.proofs.PairLaws.{first_pair, as_many_values, no_keys, children_of_keys}
use Rattle.jsonb_codec.proofs.parts.Members.split_first.Goals as goal

pub returns-in_default-clause-none : goal.returns-in_default-clause-none
returns-in_default-clause-none c ps h =
    no_keys ps (c.in_default.ensures.none (keys_of ps) (children_of_keys ps _ _ h.1.0))

pub unreachable-requires : goal.unreachable-requires
unreachable-requires c =
    let empty : IsProp ⊥ = Prim.hlevel in
    ∥∥₁_elim c.args.self.fact empty (λ (ps, h). as_many_values ps _ _ _ _ h c.in-Some.ensures.first
    c.in_default-split_first.ensures.none)

pub text-requires : goal.text-requires
text-requires c =
    known (cases_eq _ _) (∥∥₁_map c.args.self.fact (λ (ps, h).
    (first_pair ps _ _ _ _ h c.in-Some.ensures.first c.in-Some-split_first.ensures.first).is_text))

pub invariant_of-result : goal.invariant_of-result
invariant_of-result c = record {
  fact = ∥∥₁_map c.args.self.fact (λ (ps, h).
      let f =
      first_pair ps _ _ _ _ h c.in-Some.ensures.first c.in-Some-split_first.ensures.first in
      (f.others, f.later));
}

pub returns-clause-first : goal.returns-clause-first
returns-clause-first c ps h =
    let f = first_pair ps _ _ _ _ h c.in-Some.ensures.first c.in-Some-split_first.ensures.first in
    record {
      value = f.value;
      others = f.others;
      are = rw c.text.ensures.bytes f.are;
      is = f.is;
      left = f.later;
    }
