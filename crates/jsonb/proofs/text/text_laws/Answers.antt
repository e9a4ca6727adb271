use Rattle.jsonb_value.specs.Text.{in_one_line, on_lines}
use Rattle.jsonb_value.proofs.NormTexts.{laid_out-norm}
use Rattle.jsonb.proofs.text.text_laws.Goals as goal

pub returns-clause-compact : goal.returns-clause-compact
returns-clause-compact c = laid_out-norm in_one_line

pub returns-clause-pretty : goal.returns-clause-pretty
returns-clause-pretty c = laid_out-norm (on_lines 0)
