use Rattle.std.proofs.Common.{chars, ◌↔◌, ◌≤◌}
use Rattle.jsonb_value.specs.TextDepth.{text_depth}
use Rattle.jsonb_value.specs.Reader.OpenKinds.{kinds_held}
use Rattle.jsonb_value.specs.Reader.Reading.{read_document}
use Rattle.jsonb_value.specs.Reader.IsAt.{IsAtStep, left}
use Rattle.jsonb_value.specs.Reader.IsWithin.{IsStepWithin}
use Rattle.jsonb_value.proofs.Json.ReaderSteps.{IsNotAfter}
use Rattle.jsonb_value.proofs.parser.reader.read_text_within.Given as goal

abbrev pub invariant-values : goal.invariant-values
invariant-values g l = record {
  stands : IsAtStep l.exponents g.S.Sink.is (read_document l.exponents (chars l.fn.text)) l.sink
      (kinds_held l.kinds) l.step;
  deep : (text_depth l.fn.text ≤ l.depth) ↔ IsStepWithin l.kinds l.step;
  ended : IsNotAfter l.step;
}

abbrev pub decreases-values : goal.decreases-values
decreases-values g l = left l.step

abbrev pub invariant-after : goal.invariant-after
invariant-after g l = record {
  stands : IsAtStep l.exponents g.S.Sink.is (read_document l.exponents (chars l.fn.text)) l.sink
      (kinds_held l.kinds) l.step;
  deep : (text_depth l.fn.text ≤ l.depth) ↔ IsStepWithin l.kinds l.step;
  shorter : left l.step ≤ left l.initial.step;
}

abbrev pub decreases-after : goal.decreases-after
decreases-after g l = left l.step
