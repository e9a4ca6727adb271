use Rattle.jsonb_value.proofs.ExtCodes.{date_after, timestamp_after, zoned_after}
use Rattle.jsonb_value.proofs.ExtCodes.{interval_after}
use Rattle.jsonb_value.proofs.extension.extension_of_tag.Goals as goal

pub returns-in-None-clause-none : goal.returns-in-None-clause-none
returns-in-None-clause-none c = λ e h.
    let found = date_after _ _ e c.in-16.is h in
    c.in-None.ensures.none found.0 found.1

pub returns-in-None-timestamp_of-clause-none : goal.returns-in-None-timestamp_of-clause-none
returns-in-None-timestamp_of-clause-none c = λ e h.
    let found = timestamp_after _ _ e c.in-32.is h in
    c.in-None-timestamp_of.ensures.none found.0 found.1

pub returns-in-None-timestamp_tz_of-clause-none : goal.returns-in-None-timestamp_tz_of-clause-none
returns-in-None-timestamp_tz_of-clause-none c = λ e h.
    let found = zoned_after _ _ e c.in-48.is h in
    c.in-None-timestamp_tz_of.ensures.none found.0 found.1

pub returns-in-None-interval_of-clause-none : goal.returns-in-None-interval_of-clause-none
returns-in-None-interval_of-clause-none c = λ e h.
    let found = interval_after _ _ e c.in-64.is h in
    c.in-None-interval_of.ensures.none found.0 found.1
