use Rattle.std.proofs.Common.{rules, ◌≡◌, ◌∙◌, Ok, Err, None, Some}
use Rattle.jsonb.proofs.PrefixLaws.{placed_in_all, word_found, word_past, word_placed, word_unread}
use Rattle.jsonb.proofs.lookup.prefix.find_at_hand.Goals as goal

pub returns-in_err-value : goal.returns-in_err-value
returns-in_err-value c = λ rest whole.
    let refused : c.from_residual.result ≡ Err c.in_err-value.field-0.0 = search rules in (
      0,
      rw refused (word_unread _ _ _ _ _ 0
          (word_found _ c.args.name.now c.args.prefix.now rest c.args.len c.args.count
          (λ key b says. search rules) whole c.requires.hand (Err c.in_err-value.field-0.0) 0
          c.in_err-value.ensures.found)),
    )

pub returns-in_default : goal.returns-in_default
returns-in_default c = λ rest whole. (
  _,
  word_found _ c.args.name.now c.args.prefix.now rest c.args.len c.args.count
      (λ key b says. search rules) whole c.requires.hand (Ok None) _
      (rw c.in_default.is at c.in_ok-value.ensures.found),
)

pub returns-in_err-within : goal.returns-in_err-within
returns-in_err-within c = λ rest whole.
    let value = c.in-Some.value in
    let refused : c.from_residual-in_err-within.result ≡ Err c.in_err-within.field-0.0 =
    search rules in (
      0,
      rw refused (word_past _ _ _ _ value _ _
          (word_found _ c.args.name.now c.args.prefix.now rest c.args.len c.args.count
          (λ key b says. search rules) whole c.requires.hand (Ok (Some value)) _
          (rw c.in-Some.is at c.in_ok-value.ensures.found))
          (c.in_err-within.ensures.value
          ∙ placed_in_all c.args.prefix.now rest c.args.len whole value.start value.jentry)),
    )

pub returns : goal.returns
returns c = λ rest whole.
    let value = c.in-Some.value in (
      _,
      word_placed _ _ _ _ value _ _
          (word_found _ c.args.name.now c.args.prefix.now rest c.args.len c.args.count
          (λ key b says. search rules) whole c.requires.hand (Ok (Some value)) _
          (rw c.in-Some.is at c.in_ok-value.ensures.found))
          (c.in_ok-within.ensures.value
          ∙ placed_in_all c.args.prefix.now rest c.args.len whole value.start value.jentry),
    )
