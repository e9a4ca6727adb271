use Rattle.std.proofs.Common.{◌∙◌, ◌*◌, ◌+◌, ℕ, sym, ap, [], ◌∷◌, inl, arith, length, ◌++◌}
use Rattle.jsonb.specs.Parts.{part_start}
use Rattle.jsonb.specs.Prefix.{next_stop}
use Rattle.jsonb.proofs.PrefixLaws.{at_hand, keys_end, keys_end-same, keys_held, next_needed}
use Rattle.jsonb.proofs.PrefixLaws.{next_others, next_skips}
use Rattle.jsonb.proofs.lookup.prefix.missing_of_pairs.Goals as goal

pub returns-in-Some-clause-end : goal.returns-in-Some-clause-end
returns-in-Some-clause-end c = λ rest whole.
    let n = c.args.count in
    sym (next_needed c.args.len (length c.args.prefix.now) (4 + 8 * n)
    (part_start (c.args.prefix.now ++ rest) n n ∷ []) c.in-Some.end c.in-Some.ensures)

-- All bytes are at hand.
pub returns-then-prefix-words-clause-end : goal.returns-then-prefix-words-clause-end
returns-then-prefix-words-clause-end c = λ rest whole.
    let n = c.args.count in
    let hand = length c.args.prefix.now in
    let keys = part_start (c.args.prefix.now ++ rest) n n in
    let held = at_hand c.args.len hand (4 + 8 * n) c.in_default.ensures in
    sym (next_skips c.args.len hand (4 + 8 * n) (keys ∷ []) held
    ∙ next_skips c.args.len hand keys [] (omega (arith, c.if-prefix-words.true)))

pub returns-then-prefix-words-clause-hand : goal.returns-then-prefix-words-clause-hand
returns-then-prefix-words-clause-hand c = λ none.
    let held = at_hand c.args.len (length c.args.prefix.now) (4 + 8 * c.args.count)
    c.in_default.ensures in
    inl (omega (arith, c.if-prefix-words.true, c.requires.len))

-- The entry words are at hand.
pub returns-clause-end : goal.returns-clause-end
returns-clause-end c = λ rest whole.
    let n = c.args.count in
    let p = c.args.prefix.now in
    let ends = keys_end p n _ (omega (arith, c.if-prefix-words.false))
    c.payloads_end_within.ensures.value ∙ keys_end-same p rest n c.if-prefix-words.false in
    c.missing-2.ensures
    ∙ ap (λ (k : ℕ). next_stop (length p) c.args.len (k ∷ [])) ends
    ∙ sym (next_others c.args.len (length p) (4 + 8 * n) (part_start (p ++ rest) n n ∷ [])
    c.in_default.ensures)

pub returns-clause-hand : goal.returns-clause-hand
returns-clause-hand c = λ none.
    let n = c.args.count in
    let p = c.args.prefix.now in
    let ends = keys_end p n _ (omega (arith, c.if-prefix-words.false))
    c.payloads_end_within.ensures.value in
    keys_held (length p) c.args.len (part_start p n n) c.requires.len
    (at_hand c.args.len (length p) (part_start p n n)
    (sym none ∙ c.missing-2.ensures
    ∙ ap (λ (k : ℕ). next_stop (length p) c.args.len (k ∷ [])) ends))
