use Rattle.std.proofs.Common.{◌++◌, sym, subst, ◌∙◌}
use Rattle.std.specs.Str.{IsUtf8}
use Rattle.jsonb.specs.StoredRow.{row_bytes}
use Rattle.jsonb_typed_file.proofs.LayoutLaws.{after_head, goes_behind, no_true, same_head}
use Rattle.jsonb_typed_file.proofs.LayoutLaws.{same_row}
use Rattle.jsonb_typed_file.proofs.layout.split_column.Goals as goal

pub returns-in_err-flags-clause-begun : goal.returns-in_err-flags-clause-begun
returns-in_err-flags-clause-begun c p later column written =
    let (_, a) = after_head p later c.args.bytes.now c.in_ok-head.head.now c.in_ok-head.later.now
    column written c.in_ok-head.ensures.short c.in_ok-head.ensures.ok in
    absurd (no_true (c.in_err-flags.ensures.begun p.flags _ column.flags a))

pub returns-in_err-numbers-clause-begun : goal.returns-in_err-numbers-clause-begun
returns-in_err-numbers-clause-begun c p later column written =
    let (_, a) = after_head p later c.args.bytes.now c.in_ok-head.head.now c.in_ok-head.later.now
    column written c.in_ok-head.ensures.short c.in_ok-head.ensures.ok in
    let (_, b) = same_row c.in_ok-flags.flags.now p.flags c.in_ok-flags.later.now _
    c.in_ok-flags.ensures.short column.flags (sym c.in_ok-flags.ensures.ok ∙ a) in
    absurd (no_true (c.in_err-numbers.ensures.begun p.numbers _ column.numbers b))

pub returns-in_err-texts-clause-begun : goal.returns-in_err-texts-clause-begun
returns-in_err-texts-clause-begun c p later column written =
    let (_, a) = after_head p later c.args.bytes.now c.in_ok-head.head.now c.in_ok-head.later.now
    column written c.in_ok-head.ensures.short c.in_ok-head.ensures.ok in
    let (_, b) = same_row c.in_ok-flags.flags.now p.flags c.in_ok-flags.later.now _
    c.in_ok-flags.ensures.short column.flags (sym c.in_ok-flags.ensures.ok ∙ a) in
    let (_, d) = same_row c.in_ok-numbers.numbers.now p.numbers c.in_ok-numbers.later.now _
    c.in_ok-numbers.ensures.short column.numbers (sym c.in_ok-numbers.ensures.ok ∙ b) in
    absurd (no_true (c.in_err-texts.ensures.begun p.texts _ column.texts d))

pub returns-in_default-clause-begun : goal.returns-in_default-clause-begun
returns-in_default-clause-begun c p later column written =
    let (heads, _) = after_head p later c.args.bytes.now c.in_ok-head.head.now
    c.in_ok-head.later.now column written c.in_ok-head.ensures.short c.in_ok-head.ensures.ok in
    absurd (c.in_default.ensures p.type p.name heads)

pub returns-in_default-from_utf8-clause-begun : goal.returns-in_default-from_utf8-clause-begun
returns-in_default-from_utf8-clause-begun c p later column written =
    let (heads, _) = after_head p later c.args.bytes.now c.in_ok-head.head.now
    c.in_ok-head.later.now column written c.in_ok-head.ensures.short c.in_ok-head.ensures.ok in
    let (_, name) = same_head c.in-Some.column_type p.type c.in-Some.name.now p.name
    (sym c.in-Some.ensures ∙ heads) in
    absurd (c.in_default-from_utf8.ensures.cases.0 (subst IsUtf8 (sym name) column.name))

pub returns-in_default-clause-cut : goal.returns-in_default-clause-cut
returns-in_default-clause-cut c p more later column written =
    let (heads, _) = after_head p later (c.args.bytes.now ++ more) c.in_ok-head.head.now
    (c.in_ok-head.later.now ++ more) column written c.in_ok-head.ensures.short
    (goes_behind (row_bytes c.in_ok-head.head.now) c.in_ok-head.later.now c.args.bytes.now more
    c.in_ok-head.ensures.ok) in
    absurd (c.in_default.ensures p.type p.name heads)

pub returns-in_default-from_utf8-clause-cut : goal.returns-in_default-from_utf8-clause-cut
returns-in_default-from_utf8-clause-cut c p more later column written =
    let (heads, _) = after_head p later (c.args.bytes.now ++ more) c.in_ok-head.head.now
    (c.in_ok-head.later.now ++ more) column written c.in_ok-head.ensures.short
    (goes_behind (row_bytes c.in_ok-head.head.now) c.in_ok-head.later.now c.args.bytes.now more
    c.in_ok-head.ensures.ok) in
    let (_, name) = same_head c.in-Some.column_type p.type c.in-Some.name.now p.name
    (sym c.in-Some.ensures ∙ heads) in
    absurd (c.in_default-from_utf8.ensures.cases.0 (subst IsUtf8 (sym name) column.name))
