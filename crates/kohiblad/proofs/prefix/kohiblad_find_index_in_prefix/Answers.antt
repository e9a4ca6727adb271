use Rattle.std.proofs.Common.{ℕ, ◌++◌, length, sym, subst, ◌∙◌}
use Rattle.jsonb.specs.Prefix.{AsksAtMost, index_stops}
use Rattle.kohiblad.proofs.PrefixLaws.{item_document}
use Rattle.kohiblad.proofs.prefix.kohiblad_find_index_in_prefix.Goals as goal

pub returns : goal.returns
returns c =
    let found = c.find_index_in_prefix in
    let p = c.args.prefix.now in
    record {
      progress = found.result;
      is = c.prefix_answer.ensures;
      bytes = λ rest follow. found.ensures.bytes rest (follow ∙ sym c.max-len.ensures);
      asks = λ rest follow. subst
          (λ (n : ℕ). AsksAtMost 2 (length p) n (index_stops c.args.index (p ++ rest)))
          c.max-len.ensures (found.ensures.asks rest (follow ∙ sym c.max-len.ensures));
      document = λ rest t follow doc. item_document c.args.index (p ++ rest) (length p) found.result
          t (found.ensures.bytes rest (follow ∙ sym c.max-len.ensures)) doc;
    }
