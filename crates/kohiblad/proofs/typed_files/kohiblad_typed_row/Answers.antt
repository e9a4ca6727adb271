use Rattle.std.proofs.Common.{ℕ, ◌<◌, ◌≤◌, Err, Option, inl, inr, ap, subst}
use Rattle.std.specs.Prelude.{IfSome, MatchOption}
use Rattle.jsonb_typed_file.specs.File.{row_count}
use Rattle.jsonb_typed_file.specs.Layout.{Contents}
use Rattle.jsonb_typed_file.specs.OneRow.{IsRowOf, IsRowWithin}
use Rattle.kohiblad.specs.Status.{IsRefused}
use Rattle.kohiblad.proofs.TypedFileLaws.{deep_refused, has_a_row, nests_alike, no_memory}
use Rattle.kohiblad.proofs.TypedFileLaws.{none_within, not_deep, row_handed}
use Rattle.kohiblad.proofs.typed_files.kohiblad_typed_row.Goals as goal

-- What is told of the row of a file.
abbrev Told : Contents → ℕ → Option Contents → Type 0
Told f index one = MatchOption one (row_count f ≤ index)
    (λ g. (index < row_count f) × IsRowOf f index g)

-- What is told of its depth.
abbrev Shallow : ℕ → Option Contents → Type 0
Shallow depth one = IfSome one (λ g. IsRowWithin depth g 0)

pub returns-in-Some : goal.returns-in-Some
returns-in-Some c =
    let (f, (layout, lengths)) = c.in-Ok-Some.ensures.laid_out in
    let one = subst (Told f c.args.index) c.in-Ok-Some.field-0-is
    (c.in-Ok-Some.ensures.row f layout lengths) in
    let within = subst (Shallow c.args.depth) c.in-Ok-Some.field-0-is
    c.in-Ok-Some.ensures.within in
    record {
      answered = inl (
        f,
        (
          (layout, lengths),
          (
            (
              c.in-Ok-Some.ensures.form f layout lengths,
              nests_alike c.args.depth c.args.index f c.in-Ok-Some.file one.1 within,
            ),
            row_handed f c.in-Ok-Some.file c.args.index c.in-Some.row c.args.out.now
                c.hand_over_made.new.out c.hand_over_made.new.size c.hand_over_made.result one.0
                one.1 c.in-Some.ensures.1 c.hand_over_made.ensures,
          ),
        ),
      );
      each = c.in-Ok-Some.ensures.each;
      row = λ g layout lengths formed rest.
          let one = subst (Told g c.args.index) c.in-Ok-Some.field-0-is
          (c.in-Ok-Some.ensures.row g layout lengths) in
          inl (row_handed g c.in-Ok-Some.file c.args.index c.in-Some.row c.args.out.now
          c.hand_over_made.new.out c.hand_over_made.new.size c.hand_over_made.result one.0 one.1
          c.in-Some.ensures.1 c.hand_over_made.ensures);
      deep = λ g layout lengths formed deeper.
          let one = subst (Told g c.args.index) c.in-Ok-Some.field-0-is
          (c.in-Ok-Some.ensures.row g layout lengths) in
          not_deep c.args.depth c.args.index g c.args.out.now c.hand_over_made.new.out
          c.hand_over_made.new.size c.hand_over_made.result
          (nests_alike c.args.depth c.args.index g c.in-Ok-Some.file one.1 within) deeper;
    }

pub returns-in-Ok-Some : goal.returns-in-Ok-Some
returns-in-Ok-Some c =
    let (f, (layout, lengths)) = c.in-Ok-Some.ensures.laid_out in
    let one = subst (Told f c.args.index) c.in-Ok-Some.field-0-is
    (c.in-Ok-Some.ensures.row f layout lengths) in
    absurd (has_a_row f c.in-Ok-Some.file c.args.index one.1 c.in-None.ensures)

pub returns-in-Ok-None : goal.returns-in-Ok-None
returns-in-Ok-None c =
    let (f, (layout, lengths)) = c.in-Ok-None.ensures.laid_out in
    let past = subst (Told f c.args.index) c.in-Ok-None.field-0-is
    (c.in-Ok-None.ensures.row f layout lengths) in
    record {
      answered = inl (
        f,
        (
          (layout, lengths),
          (
            (
              c.in-Ok-None.ensures.form f layout lengths,
              none_within c.args.depth c.args.index f past,
            ),
            inl (past, c.refuse-in-Ok-None.ensures),
          ),
        ),
      );
      each = c.in-Ok-None.ensures.each;
      row = λ g layout lengths formed rest. inl (inl (
        subst (Told g c.args.index) c.in-Ok-None.field-0-is
            (c.in-Ok-None.ensures.row g layout lengths),
        c.refuse-in-Ok-None.ensures,
      ));
      deep = λ g layout lengths formed deeper.
          let past = subst (Told g c.args.index) c.in-Ok-None.field-0-is
          (c.in-Ok-None.ensures.row g layout lengths) in
          not_deep c.args.depth c.args.index g c.args.out.now c.refuse-in-Ok-None.new.out
          c.refuse-in-Ok-None.new.size c.refuse-in-Ok-None.result
          (none_within c.args.depth c.args.index g past) deeper;
    }

pub returns : goal.returns
returns c =
    let refused = subst
    (λ (s : ℕ). IsRefused s c.args.out.now c.refuse-in-Err.new.out c.refuse-in-Err.new.size
    c.refuse-in-Err.result)
    c.file_code.ensures c.refuse-in-Err.ensures in
    record {
      answered = inr (
        c.in-Err.error,
        (
          record {
            layout = c.in-Err.ensures.layout;
            form = c.in-Err.ensures.refused;
            deep = λ is. c.in-Err.ensures.deep (ap Err is);
          },
          refused,
        ),
      );
      each = c.in-Err.ensures.each;
      row = λ f layout lengths formed rest. inr (no_memory c.in-Err.error c.args.out.now
          c.refuse-in-Err.new.out c.refuse-in-Err.new.size c.refuse-in-Err.result
          (c.in-Err.ensures.memory f layout lengths formed rest) refused);
      deep = λ f layout lengths formed deeper. deep_refused c.in-Err.error c.args.out.now
          c.refuse-in-Err.new.out c.refuse-in-Err.new.size c.refuse-in-Err.result
          (c.in-Err.ensures.refused f layout lengths formed) refused;
    }
