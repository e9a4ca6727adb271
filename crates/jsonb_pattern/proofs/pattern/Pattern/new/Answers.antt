use Rattle.std.proofs.Common.{rules, ◌≡◌, ◌∙◌, Some, ap, chars, string_bytes}
use Rattle.regex_syntax.specs.declared.error.Error.{Error}
use Rattle.jsonb_pattern.specs.Translated.{translated}
use Rattle.jsonb_pattern.proofs.PatternLaws.{no_pattern, pattern_finds, pattern_is}
use Rattle.jsonb_pattern.proofs.pattern.Pattern.new.Goals as goal

pub invariant_of-result : goal.invariant_of-result
invariant_of-result c =
    let owned : string_bytes c.push_str.new.self ≡ c.args.source.now = search rules in
    let text : translated c.args.flags (chars c.args.source.now) ≡ Some c.as_str.result.now =
    search rules in
    let boxed : c.in_ok-new-in-Ok.field-0.value ≡ c.in-Ok.regex = c.in_ok-new-in-Ok.ensures.ok in
    let made = c.in-Ok.ensures in record {
      finds = rw (owned, boxed) (pattern_finds _ c.as_str.result.now text c.in-Ok.regex
          made.source made.config made.read);
    }

pub returns-in-Ok : goal.returns-in-Ok
returns-in-Ok c =
    let owned : string_bytes c.push_str.new.self ≡ c.args.source.now = search rules in
    let text : translated c.args.flags (chars c.args.source.now) ≡ Some c.as_str.result.now =
    search rules in
    let made = c.in-Ok.ensures in
    rw owned (pattern_is _ c.as_str.result.now text c.in-Ok.regex made.source made.config made.read)

pub returns-in-Err-Syntax : goal.returns-in-Err-Syntax
returns-in-Err-Syntax c =
    let text : translated c.args.flags (chars c.args.source.now) ≡ Some c.as_str.result.now =
    search rules in
    no_pattern _ c.as_str.result.now text c.in-Err-Syntax.error.kind
    (c.in-Err-Syntax.ensures.refused c.in-Err-Syntax.error c.in-Err-Syntax.field-0-is)
    (λ memory. c.in_default.not-OutOfMemory
    (ap (λ (e : Error). e.kind) c.in-Err-Syntax.error-is ∙ memory))
