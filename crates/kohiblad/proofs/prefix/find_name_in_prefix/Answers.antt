use Rattle.std.proofs.Common.{ℕ, ◌++◌, length, sym, subst, ◌∙◌}
use Rattle.jsonb.specs.Prefix.{AsksAtMost, key_stops}
use Rattle.kohiblad.proofs.prefix.find_name_in_prefix.Goals as goal

pub returns : goal.returns
returns c =
    let found = c.find_key_in_prefix in
    let p = c.args.prefix.now in
    record {
      progress = found.result;
      is = c.prefix_answer.ensures;
      bytes = λ rest follow. found.ensures.bytes rest (follow ∙ sym c.max-len.ensures);
      asks = λ rest follow. subst (λ (n : ℕ). AsksAtMost 3 (length p) n (key_stops (p ++ rest)))
          c.max-len.ensures (found.ensures.asks rest (follow ∙ sym c.max-len.ensures));
      document = λ rest t follow doc. found.ensures.document rest t
          (follow ∙ sym c.max-len.ensures) doc;
    }
