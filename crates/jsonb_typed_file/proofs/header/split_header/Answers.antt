use Rattle.std.proofs.Common.{rules, ◌++◌, ap, refl, ◌∙◌}
use Rattle.jsonb_typed_file.specs.Words.{magic}
use Rattle.jsonb_typed_file.proofs.header.split_header.Goals as goal

pub returns-then-version-ne-VERSION-clause-version :
    goal.returns-then-version-ne-VERSION-clause-version
returns-then-version-ne-VERSION-clause-version c = (
  λ refused. record {
    version = c.in-Some-split_u32.version;
    later = c.in-Some-split_u32.later.now;
    written = c.in-Some.ensures ∙ ap (λ b. magic ++ b) c.in-Some-split_u32.ensures.parts;
    few = c.in-Some-split_u32.ensures.few;
    other = search rules;
  },
  λ other. refl,
)
