use Rattle.std.proofs.Common.{chars, subst, sym}
use Rattle.jsonb_value.specs.Reader.IsAt.{IsAtStep}
use Rattle.jsonb_value.specs.Reader.IsWithin.{IsStepWithin}
use Rattle.jsonb_value.specs.Reader.OpenKinds.{kinds_held}
use Rattle.jsonb_value.specs.Reader.Reading.{read_document}
use Rattle.jsonb_value.proofs.Json.ReaderSteps.{is_end, text_begins, text_ends}
use Rattle.jsonb_value.proofs.Json.Within.{begins_within}
use Rattle.jsonb_value.proofs.parser.reader.read_text_within.Goals as goal

pub values-init : goal.values-init
values-init g c = record {
  stands = text_begins c.args.exponents g.S.Sink.is _ _ _ _ c.skip_blank.ensures
      c.new-kinds.ensures.0 c.requires;
  deep = begins_within _ c.args.text.now _ c.args.depth c.utf8.text c.new-kinds.ensures.0
      c.new-kinds.ensures.1 c.skip_blank.ensures;
  ended = tt;
}

pub returns-clause-ok : goal.returns-clause-ok
returns-clause-ok g c =
    text_ends c.args.exponents g.S.Sink.is _ _
    (subst
    (λ x. IsAtStep c.args.exponents g.S.Sink.is
    (read_document c.args.exponents (chars c.args.text.now)) c.values.sink
    (kinds_held c.values.kinds) x)
    (is_end c.values.step c.values.invariant.ended c.in_default.not-Value)
    c.values.invariant.stands)

pub returns-clause-within : goal.returns-clause-within
returns-clause-within g c =
    c.values.invariant.deep.1 (subst (IsStepWithin c.values.kinds)
    (sym (is_end c.values.step c.values.invariant.ended c.in_default.not-Value)) tt)
