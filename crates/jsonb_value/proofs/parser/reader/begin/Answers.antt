use Rattle.std.proofs.Common.{true, false, refl}
use Rattle.jsonb_value.specs.Tree.{null, boolean}
use Rattle.jsonb_value.specs.Reader.Gives.{Fails}
use Rattle.jsonb_value.specs.Reader.Reading.{null_kind, true_kind, false_kind, string_kind}
use Rattle.jsonb_value.specs.Reader.Reading.{number_kind}
use Rattle.jsonb_value.proofs.Json.ValueSteps.{err_as, err_is, fails_if, fails_on, of_kind}
use Rattle.jsonb_value.proofs.Json.ValueSteps.{reads_kind}
use Rattle.jsonb_value.proofs.Json.ReaderSteps.{at_no_ascii, scalar_is_read, scalar_fails}
use Rattle.jsonb_value.proofs.Json.ReaderSteps.{past_scalar}
use Rattle.jsonb_value.proofs.Json.ReaderSteps.{number_reads, number_fails, string_reads}
use Rattle.jsonb_value.proofs.Json.ReaderSteps.{string_fails}
use Rattle.jsonb_value.proofs.Json.Within.{scalar_within}
use Rattle.jsonb_value.proofs.parser.reader.begin.Goals as goal

pub returns-in_default-clause-err : goal.returns-in_default-clause-err
returns-in_default-clause-err g c = λ target h within.
    at_no_ascii c.args.exponents g.S.Sink.is target _ _ _ h c.in_default.ensures

pub returns-in_err-give_null-in-Null-clause-err : goal.returns-in_err-give_null-in-Null-clause-err
returns-in_err-give_null-in-Null-clause-err g c =
    err_is _ _ _ c.from_residual.ensures.1
    (λ target h. fails_if _ _ _ (scalar_fails c.args.exponents g.S.Sink.is target _ _ _ _ h
    (of_kind c.args.exponents (Fails _) _ _ _ null_kind c.in-Some.ensures c.in-Null.ensures (λ _ _.
    c.in_err-give_null-in-Null.ensures.err))))

pub returns-in_ok-give_null-in-Null-clause-ok : goal.returns-in_ok-give_null-in-Null-clause-ok
returns-in_ok-give_null-in-Null-clause-ok g c = λ target h.
    scalar_is_read c.args.exponents g.S.Sink.is target _ _ _ _ null _ h
    (reads_kind c.args.exponents _ _ _ null_kind _ _ c.in-Some.ensures c.in-Null.ensures (λ _ _.
    c.in_ok-give_null-in-Null.ensures.ok.0)) c.in_ok-give_null-in-Null.ensures.ok.1

pub returns-in_ok-give_null-in-Null-clause-deep : goal.returns-in_ok-give_null-in-Null-clause-deep
returns-in_ok-give_null-in-Null-clause-deep g c =
    scalar_within _ c.args.exponents _ null _
    (reads_kind c.args.exponents _ _ _ null_kind _ _ c.in-Some.ensures c.in-Null.ensures (λ _ _.
    c.in_ok-give_null-in-Null.ensures.ok.0)) refl

pub returns-in_ok-give_null-in-Null-clause-shorter :
    goal.returns-in_ok-give_null-in-Null-clause-shorter
returns-in_ok-give_null-in-Null-clause-shorter g c =
    past_scalar c.args.exponents _ null _
    (reads_kind c.args.exponents _ _ _ null_kind _ _ c.in-Some.ensures c.in-Null.ensures (λ _ _.
    c.in_ok-give_null-in-Null.ensures.ok.0))

pub returns-in_err-give_truth-in-True-clause-err : goal.returns-in_err-give_truth-in-True-clause-err
returns-in_err-give_truth-in-True-clause-err g c =
    err_is _ _ _ c.from_residual-in_err-give_truth-in-True.ensures.1
    (λ target h. fails_if _ _ _ (scalar_fails c.args.exponents g.S.Sink.is target _ _ _ _ h
    (of_kind c.args.exponents (Fails _) _ _ _ true_kind c.in-Some.ensures c.in-True.ensures (λ _ _.
    c.in_err-give_truth-in-True.ensures.err))))

pub returns-in_ok-give_truth-in-True-clause-ok : goal.returns-in_ok-give_truth-in-True-clause-ok
returns-in_ok-give_truth-in-True-clause-ok g c = λ target h.
    scalar_is_read c.args.exponents g.S.Sink.is target _ _ _ _ (boolean true) _ h
    (reads_kind c.args.exponents _ _ _ true_kind _ _ c.in-Some.ensures c.in-True.ensures (λ _ _.
    c.in_ok-give_truth-in-True.ensures.ok.0)) c.in_ok-give_truth-in-True.ensures.ok.1

pub returns-in_ok-give_truth-in-True-clause-deep : goal.returns-in_ok-give_truth-in-True-clause-deep
returns-in_ok-give_truth-in-True-clause-deep g c =
    scalar_within _ c.args.exponents _ (boolean true) _
    (reads_kind c.args.exponents _ _ _ true_kind _ _ c.in-Some.ensures c.in-True.ensures (λ _ _.
    c.in_ok-give_truth-in-True.ensures.ok.0)) refl

pub returns-in_ok-give_truth-in-True-clause-shorter :
    goal.returns-in_ok-give_truth-in-True-clause-shorter
returns-in_ok-give_truth-in-True-clause-shorter g c =
    past_scalar c.args.exponents _ (boolean true) _
    (reads_kind c.args.exponents _ _ _ true_kind _ _ c.in-Some.ensures c.in-True.ensures (λ _ _.
    c.in_ok-give_truth-in-True.ensures.ok.0))

pub returns-in_err-give_truth-in-False-clause-err :
    goal.returns-in_err-give_truth-in-False-clause-err
returns-in_err-give_truth-in-False-clause-err g c =
    err_is _ _ _ c.from_residual-in_err-give_truth-in-False.ensures.1
    (λ target h. fails_if _ _ _ (scalar_fails c.args.exponents g.S.Sink.is target _ _ _ _ h
    (of_kind c.args.exponents (Fails _) _ _ _ false_kind c.in-Some.ensures c.in-False.ensures
    (λ _ _. c.in_err-give_truth-in-False.ensures.err))))

pub returns-in_ok-give_truth-in-False-clause-ok : goal.returns-in_ok-give_truth-in-False-clause-ok
returns-in_ok-give_truth-in-False-clause-ok g c = λ target h.
    scalar_is_read c.args.exponents g.S.Sink.is target _ _ _ _ (boolean false) _ h
    (reads_kind c.args.exponents _ _ _ false_kind _ _ c.in-Some.ensures c.in-False.ensures (λ _ _.
    c.in_ok-give_truth-in-False.ensures.ok.0)) c.in_ok-give_truth-in-False.ensures.ok.1

pub returns-in_ok-give_truth-in-False-clause-deep :
    goal.returns-in_ok-give_truth-in-False-clause-deep
returns-in_ok-give_truth-in-False-clause-deep g c =
    scalar_within _ c.args.exponents _ (boolean false) _
    (reads_kind c.args.exponents _ _ _ false_kind _ _ c.in-Some.ensures c.in-False.ensures (λ _ _.
    c.in_ok-give_truth-in-False.ensures.ok.0)) refl

pub returns-in_ok-give_truth-in-False-clause-shorter :
    goal.returns-in_ok-give_truth-in-False-clause-shorter
returns-in_ok-give_truth-in-False-clause-shorter g c =
    past_scalar c.args.exponents _ (boolean false) _
    (reads_kind c.args.exponents _ _ _ false_kind _ _ c.in-Some.ensures c.in-False.ensures (λ _ _.
    c.in_ok-give_truth-in-False.ensures.ok.0))

pub returns-in_err-give_string-in-String-clause-err :
    goal.returns-in_err-give_string-in-String-clause-err
returns-in_err-give_string-in-String-clause-err g c =
    err_is _ _ _ c.from_residual-in_err-give_string-in-String.ensures.1
    (λ target h. fails_if _ _ _ (scalar_fails c.args.exponents g.S.Sink.is target _ _ _ _ h
    (of_kind c.args.exponents (Fails _) _ _ _ string_kind c.in-Some.ensures c.in-String.ensures
    (λ n k. string_fails n _ _ (c.in_err-give_string-in-String.ensures.err n k)))))

pub returns-in_ok-give_string-in-String-clause-ok :
    goal.returns-in_ok-give_string-in-String-clause-ok
returns-in_ok-give_string-in-String-clause-ok g c = λ target h.
    let (value, (reads, adds)) = c.in_ok-give_string-in-String.ensures.ok in
    scalar_is_read c.args.exponents g.S.Sink.is target _ _ _ _ _ _ h
    (reads_kind c.args.exponents _ _ _ string_kind _ _ c.in-Some.ensures c.in-String.ensures (λ n k.
    string_reads n _ _ _ (reads n k))) adds

pub returns-in_ok-give_string-in-String-clause-deep :
    goal.returns-in_ok-give_string-in-String-clause-deep
returns-in_ok-give_string-in-String-clause-deep g c =
    let (value, (reads, adds)) = c.in_ok-give_string-in-String.ensures.ok in
    scalar_within _ c.args.exponents _ _ _
    (reads_kind c.args.exponents _ _ _ string_kind _ _ c.in-Some.ensures c.in-String.ensures (λ n k.
    string_reads n _ _ _ (reads n k))) refl

pub returns-in_ok-give_string-in-String-clause-shorter :
    goal.returns-in_ok-give_string-in-String-clause-shorter
returns-in_ok-give_string-in-String-clause-shorter g c =
    let (value, (reads, adds)) = c.in_ok-give_string-in-String.ensures.ok in
    past_scalar c.args.exponents _ _ _
    (reads_kind c.args.exponents _ _ _ string_kind _ _ c.in-Some.ensures c.in-String.ensures (λ n k.
    string_reads n _ _ _ (reads n k)))

pub returns-in_err-give_number-in-Number-clause-err :
    goal.returns-in_err-give_number-in-Number-clause-err
returns-in_err-give_number-in-Number-clause-err g c =
    err_is _ _ _ c.from_residual-in_err-give_number-in-Number.ensures.1
    (λ target h. fails_if _ _ _ (scalar_fails c.args.exponents g.S.Sink.is target _ _ _ _ h
    (of_kind c.args.exponents (Fails _) _ _ _ number_kind c.in-Some.ensures c.in-Number.ensures
    (λ _ _. fails_on _ _ _ (number_fails c.args.exponents _ _ _ c.in-Some.ensures)
    c.in_err-give_number-in-Number.ensures.err))))

pub returns-in_ok-give_number-in-Number-clause-ok :
    goal.returns-in_ok-give_number-in-Number-clause-ok
returns-in_ok-give_number-in-Number-clause-ok g c = λ target h.
    let (value, (reads, adds)) = c.in_ok-give_number-in-Number.ensures.ok in
    scalar_is_read c.args.exponents g.S.Sink.is target _ _ _ _ _ _ h
    (reads_kind c.args.exponents _ _ _ number_kind _ _ c.in-Some.ensures c.in-Number.ensures (λ _ _.
    number_reads c.args.exponents _ _ _ _ _ c.in-Some.ensures reads)) adds

pub returns-in_ok-give_number-in-Number-clause-deep :
    goal.returns-in_ok-give_number-in-Number-clause-deep
returns-in_ok-give_number-in-Number-clause-deep g c =
    let (value, (reads, adds)) = c.in_ok-give_number-in-Number.ensures.ok in
    scalar_within _ c.args.exponents _ _ _
    (reads_kind c.args.exponents _ _ _ number_kind _ _ c.in-Some.ensures c.in-Number.ensures (λ _ _.
    number_reads c.args.exponents _ _ _ _ _ c.in-Some.ensures reads)) refl

pub returns-in_ok-give_number-in-Number-clause-shorter :
    goal.returns-in_ok-give_number-in-Number-clause-shorter
returns-in_ok-give_number-in-Number-clause-shorter g c =
    let (value, (reads, adds)) = c.in_ok-give_number-in-Number.ensures.ok in
    past_scalar c.args.exponents _ _ _
    (reads_kind c.args.exponents _ _ _ number_kind _ _ c.in-Some.ensures c.in-Number.ensures (λ _ _.
    number_reads c.args.exponents _ _ _ _ _ c.in-Some.ensures reads))

pub returns-in-Object-clause-err : goal.returns-in-Object-clause-err
returns-in-Object-clause-err g c =
    err_as c.begin_object.result _ _ c.begin_object.ensures.err (λ e fails. fails c.args.exponents)
