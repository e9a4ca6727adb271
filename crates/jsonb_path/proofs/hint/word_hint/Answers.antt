use Rattle.std.proofs.Common.{◌∙◌, Some, None, chars, codes, sym}
use Rattle.std.specs.Prelude.{if◌then◌else◌}
use Rattle.jsonb_path.specs.declared.hint.Hint.TheVariants as hints
use Rattle.jsonb_path.specs.Hint.{begins_word}
use Rattle.jsonb_path.proofs.hint.word_hint.Goals as goal

pub returns-then-begins_word : goal.returns-then-begins_word
returns-then-begins_word c =
    let s = chars c.args.text.now in
    sym ((λ i. if (sym c.begins_with.ensures ∙ c.if-begins_with.false) i then Some hints.Quotes
    else if begins_word (chars (codes "and")) s then Some hints.And
    else if begins_word (chars (codes "or")) s then Some hints.Or else None)
    ∙ (λ i. if (sym c.begins_word.ensures ∙ c.if-begins_word.true) i then Some hints.And
    else if begins_word (chars (codes "or")) s then Some hints.Or else None))

pub returns-then-begins_word-2 : goal.returns-then-begins_word-2
returns-then-begins_word-2 c =
    let s = chars c.args.text.now in
    sym ((λ i. if (sym c.begins_with.ensures ∙ c.if-begins_with.false) i then Some hints.Quotes
    else if begins_word (chars (codes "and")) s then Some hints.And
    else if begins_word (chars (codes "or")) s then Some hints.Or else None)
    ∙ (λ i. if (sym c.begins_word.ensures ∙ c.if-begins_word.false) i then Some hints.And
    else if begins_word (chars (codes "or")) s then Some hints.Or else None)
    ∙ (λ i. if (sym c.begins_word-else-begins_word.ensures ∙ c.if-begins_word-2.true) i
    then Some hints.Or else None))

pub returns-else-begins_word-2 : goal.returns-else-begins_word-2
returns-else-begins_word-2 c =
    let s = chars c.args.text.now in
    sym ((λ i. if (sym c.begins_with.ensures ∙ c.if-begins_with.false) i then Some hints.Quotes
    else if begins_word (chars (codes "and")) s then Some hints.And
    else if begins_word (chars (codes "or")) s then Some hints.Or else None)
    ∙ (λ i. if (sym c.begins_word.ensures ∙ c.if-begins_word.false) i then Some hints.And
    else if begins_word (chars (codes "or")) s then Some hints.Or else None)
    ∙ (λ i. if (sym c.begins_word-else-begins_word.ensures ∙ c.if-begins_word-2.false) i
    then Some hints.Or else None))
