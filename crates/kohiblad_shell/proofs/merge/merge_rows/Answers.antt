use Rattle.std.proofs.Common.{◌≡◌, ◌<◌, Err, None, Some, get_or, length, sym, arith, rules}
use Rattle.std.proofs.lemmas.List.{get_or_default}
use Rattle.std.proofs.KnownBytes.{Keeps-refl}
use Rattle.kohiblad_shell.specs.Merges.{first_of}
use Rattle.kohiblad_shell.specs.declared.merge.MergeEnd.TheVariants.{Halted}
use Rattle.kohiblad_shell.proofs.MergeSteps.{goes, input_low, merge_breaks, merge_ends}
use Rattle.kohiblad_shell.proofs.MergeSteps.{merge_faults, merge_goes_on, merge_stops, never_goes}
use Rattle.kohiblad_shell.proofs.merge.merge_rows.Goals as goal

pub returns-in_err-heads-clause-beginning : goal.returns-in_err-heads-clause-beginning
returns-in_err-heads-clause-beginning g c =
    let is : c.from_residual.result ≡ Err c.in_err-heads.field-0.0 = search rules in
    rw is
    (never_goes g.R.Read.remaining (g.L.LineWorker.rule c.args.worker.now) c.args.form
    c.args.readers.now
    (g.W.Write.contents c.args.writer.now) (g.W.Write.contents c.args.writer.now)
    c.in_err-heads.field-0.0 (Keeps-refl _) c.in_err-heads.ensures.fault)

pub merging-init : goal.merging-init
merging-init g c =
    goes g.R.Read.remaining (g.L.LineWorker.rule c.args.worker.now) c.args.form
    c.args.readers.now
    c.first_heads.new.readers c.in_ok-heads.heads.items (g.W.Write.contents c.args.writer.now)
    c.in_ok-heads.ensures.ok (omega (arith, c.first_heads.auto.readers))

pub returns-in_default-clause-done : goal.returns-in_default-clause-done
returns-in_default-clause-done g c =
    let none : first_of c.merging.heads.items ≡ None =
    sym (rw (c.in_default.is, c.deref.ensures.value) at c.first_head.ensures) in
    merge_ends g.R.Read.remaining (g.L.LineWorker.rule c.args.worker.now) c.args.form
    c.args.readers.now
    c.merging.readers c.merging.heads.items (g.W.Write.contents c.args.writer.now)
    (g.W.Write.contents c.merging.writer) c.merging.count c.merging.invariant none

pub returns-in_err-write_bytes-clause-beginning : goal.returns-in_err-write_bytes-clause-beginning
returns-in_err-write_bytes-clause-beginning g c =
    let first : first_of c.merging.heads.items ≡ Some c.in-Some.head.now =
    sym (rw (c.in-Some.is, c.deref.ensures.value) at c.first_head.ensures) in
    let is : c.from_residual-in_err-write_bytes.result
    ≡ Err (Halted c.in_err-write_bytes.field-0.0) = search rules in
    rw is
    (merge_breaks g.R.Read.remaining (g.L.LineWorker.rule c.args.worker.now) c.args.form
    c.args.readers.now
    c.merging.readers c.merging.heads.items (g.W.Write.contents c.args.writer.now)
    (g.W.Write.contents c.merging.writer) c.merging.count c.merging.invariant
    c.in-Some.head.now first c.in_err-write_bytes.field-0.0
    (g.W.Write.contents c.write_bytes.new.writer)
    (rw c.deref-in-merging.ensures.value at c.in_err-write_bytes.ensures.err))

pub prove-unreachable-requires : goal.prove-unreachable-requires
prove-unreachable-requires g c =
    let first : first_of c.merging.heads.items ≡ Some c.in-Some.head.now =
    sym (rw (c.in-Some.is, c.deref.ensures.value) at c.first_head.ensures) in
    let low : c.in-Some.head.now.input < length c.args.readers.now =
    input_low g.R.Read.remaining (g.L.LineWorker.rule c.args.worker.now) c.args.form
    c.args.readers.now
    c.merging.readers c.merging.heads.items (g.W.Write.contents c.args.writer.now)
    (g.W.Write.contents c.merging.writer) c.merging.count c.merging.invariant
    c.in-Some.head.now first in
    omega (arith, low)

pub returns-in_err-next-clause-beginning : goal.returns-in_err-next-clause-beginning
returns-in_err-next-clause-beginning g c =
    let first : first_of c.merging.heads.items ≡ Some c.in-Some.head.now =
    sym (rw (c.in-Some.is, c.deref.ensures.value) at c.first_head.ensures) in
    let low : c.in-Some.head.now.input < length c.merging.readers =
    omega (
      arith,
      c.merging.invariant.news_count,
      input_low g.R.Read.remaining (g.L.LineWorker.rule c.args.worker.now) c.args.form
          c.args.readers.now
          c.merging.readers c.merging.heads.items (g.W.Write.contents c.args.writer.now)
          (g.W.Write.contents c.merging.writer) c.merging.count c.merging.invariant
          c.in-Some.head.now first,
    ) in
    let x = get_or c.merging.readers c.in-Some.head.now.input c.index-readers-input.result in
    let is : c.from_residual-in_err-next.result ≡ Err c.in_err-next.field-0.0 = search rules in
    rw is
    (merge_faults g.R.Read.remaining (g.L.LineWorker.rule c.args.worker.now) c.args.form
    c.args.readers.now
    c.merging.readers c.merging.heads.items (g.W.Write.contents c.args.writer.now)
    (g.W.Write.contents c.merging.writer) c.merging.count c.merging.invariant
    c.in-Some.head.now first (g.W.Write.contents c.write_bytes.new.writer)
    (rw c.deref-in-merging.ensures.value at c.in_ok-write_bytes.ensures.ok)
    x
    (get_or_default c.merging.readers c.in-Some.head.now.input c.index-readers-input.result x low)
    c.in_err-next.field-0.0
    c.in_err-next.ensures.fault)

pub index_mut-requires : goal.index_mut-requires
index_mut-requires g c =
    let first : first_of c.merging.heads.items ≡ Some c.in-Some.head.now =
    sym (rw (c.in-Some.is, c.deref.ensures.value) at c.first_head.ensures) in
    let low : c.in-Some.head.now.input < length c.args.readers.now =
    input_low g.R.Read.remaining (g.L.LineWorker.rule c.args.worker.now) c.args.form
    c.args.readers.now
    c.merging.readers c.merging.heads.items (g.W.Write.contents c.args.writer.now)
    (g.W.Write.contents c.merging.writer) c.merging.count c.merging.invariant
    c.in-Some.head.now first in
    omega (arith, low, c.merging.invariant.heads_count, c.merging.heads.ok.0)

pub merging-preserved : goal.merging-preserved
merging-preserved g c =
    let first : first_of c.merging.heads.items ≡ Some c.in-Some.head.now =
    sym (rw (c.in-Some.is, c.deref.ensures.value) at c.first_head.ensures) in
    let low : c.in-Some.head.now.input < length c.merging.readers =
    omega (
      arith,
      c.merging.invariant.news_count,
      input_low g.R.Read.remaining (g.L.LineWorker.rule c.args.worker.now) c.args.form
          c.args.readers.now
          c.merging.readers c.merging.heads.items (g.W.Write.contents c.args.writer.now)
          (g.W.Write.contents c.merging.writer) c.merging.count c.merging.invariant
          c.in-Some.head.now first,
    ) in
    let x = get_or c.merging.readers c.in-Some.head.now.input c.index-readers-input.result in
    merge_goes_on g.R.Read.remaining (g.L.LineWorker.rule c.args.worker.now) c.args.form
    c.args.readers.now
    c.merging.readers c.merging.heads.items (g.W.Write.contents c.args.writer.now)
    (g.W.Write.contents c.merging.writer) c.merging.count c.merging.invariant
    c.in-Some.head.now first (g.W.Write.contents c.write_bytes.new.writer)
    (rw c.deref-in-merging.ensures.value at c.in_ok-write_bytes.ensures.ok)
    x
    (get_or_default c.merging.readers c.in-Some.head.now.input c.index-readers-input.result x low)
    c.next_head.new.reader c.in_ok-next.next
    c.in_ok-next.ensures.row c.in_ok-next.ensures.place

pub returns-clause-beginning : goal.returns-clause-beginning
returns-clause-beginning g c =
    merge_stops g.R.Read.remaining (g.L.LineWorker.rule c.args.worker.now) c.args.form
    c.args.readers.now
    c.merging.readers c.merging.heads.items (g.W.Write.contents c.args.writer.now)
    (g.W.Write.contents c.merging.writer) c.merging.count c.merging.invariant
    _ (g.W.Write.contents c.merging.writer) (Keeps-refl _)
