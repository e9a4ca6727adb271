use Rattle.std.proofs.Common.{rules, ◌≡◌, ◌⊎◌, ◌<◌, ◌∷◌, ◌++◌, [], inl, inr, length, map, refl, sym}
use Rattle.std.proofs.Common.{ap, arith, subst, ◌∙◌}
use Rattle.std.specs.Prelude.{All}
use Rattle.std.proofs.lemmas.List.{append-nil, length-map, map-append}
use Rattle.std.proofs.lemmas.List.Elements.{All-push}
use Rattle.jsonb_typed_file.specs.Layout.{IsColumn, columns_bytes}
use Rattle.jsonb_typed_file.specs.Views.{buffers_view}
use Rattle.jsonb_typed_file.specs.declared.error.FileError.TheVariants.{Cut, OutOfMemory}
use Rattle.jsonb_typed_file.proofs.LayoutLaws.{all_columns, columns-push, goes_behind, next_column}
use Rattle.jsonb_typed_file.proofs.LayoutLaws.{no_bytes, no_true, none_more, told_refusal}
use Rattle.jsonb_typed_file.proofs.layout.read_columns.Goals as goal

pub returns-in_err-column-clause-begun : goal.returns-in_err-column-clause-begun
returns-in_err-column-clause-begun c ps more all size written =
    let items = c.loop-index.columns.items in
    let few : length (map buffers_view items) < length ps =
    omega (arith, size, c.loop-index.invariant.count, length-map items buffers_view) in
    let (p, (column, (later, is))) = next_column ps (map buffers_view items) c.args.bytes.now
    c.loop-index.rest.now more c.loop-index.invariant.each all c.loop-index.invariant.read few
    written in
    absurd (no_true (c.in_err-column.ensures.begun p later column is))

pub loop-index-preserved : goal.loop-index-preserved
loop-index-preserved c =
    let items = c.loop-index.columns.items in let column = c.in_ok-column.column in
    let pushed : c.push.new.self.items ≡ items ++ column ∷ [] = search rules in
    let views : map buffers_view c.push.new.self.items
    ≡ map buffers_view items ++ buffers_view column ∷ [] =
    ap (map buffers_view) pushed ∙ map-append buffers_view items (column ∷ []) in
    record {
      read = columns-push (map buffers_view items) (buffers_view column) c.args.bytes.now
          c.loop-index.rest.now c.in_ok-column.later.now c.loop-index.invariant.read
          c.in_ok-column.ensures.ok
          ∙ ap (λ ps. columns_bytes ps ++ c.in_ok-column.later.now) (sym views);
      count = search rules;
      each = subst (All IsColumn) (sym views)
          (All-push IsColumn (map buffers_view items) (buffers_view column)
          c.loop-index.invariant.each c.in_ok-column.ensures.column);
    }

pub returns-then-is_empty-clause-same : goal.returns-then-is_empty-clause-same
returns-then-is_empty-clause-same c ps more all size written =
    let items = c.loop-index.columns.items in
    let none : length c.loop-index.rest.now ≡ 0 = search rules in
    let (columns, rest) = all_columns ps (map buffers_view items) c.args.bytes.now
    c.loop-index.rest.now more c.loop-index.invariant.each all c.loop-index.invariant.read
    (omega (arith, size, c.loop-index.invariant.count, length-map items buffers_view)) written in
    (columns, sym rest ∙ no_bytes c.loop-index.rest.now none)

pub returns-clause-begun : goal.returns-clause-begun
returns-clause-begun c ps more all size written =
    let items = c.loop-index.columns.items in
    let (columns, rest) = all_columns ps (map buffers_view items) c.args.bytes.now
    c.loop-index.rest.now more c.loop-index.invariant.each all c.loop-index.invariant.read
    (omega (arith, size, c.loop-index.invariant.count, length-map items buffers_view)) written in
    let some : 0 < length c.loop-index.rest.now = search rules in
    inr (refl, λ none. absurd (omega (arith, some, ap length (rest ∙ none))))

pub returns-in_err-column-clause-cut : goal.returns-in_err-column-clause-cut
returns-in_err-column-clause-cut c ps more all size written some =
    let items = c.loop-index.columns.items in let rest = c.loop-index.rest.now in
    let few : length (map buffers_view items) < length ps =
    omega (arith, size, c.loop-index.invariant.count, length-map items buffers_view) in
    let (p, (column, (later, is))) = next_column ps (map buffers_view items)
    (c.args.bytes.now ++ more) (rest ++ more) [] c.loop-index.invariant.each all
    (goes_behind (columns_bytes (map buffers_view items)) rest c.args.bytes.now more
    c.loop-index.invariant.read) few (written ∙ sym (append-nil (columns_bytes ps))) in
    told_refusal c.from_residual.result c.in_err-column.field-0.0
    (λ e. (e ≡ Cut) ⊎ (e ≡ OutOfMemory)) c.from_residual.ensures.1
    (inl (c.in_err-column.ensures.cut p more later column is))

pub returns-then-is_empty-clause-cut : goal.returns-then-is_empty-clause-cut
returns-then-is_empty-clause-cut c ps more all size written some =
    let items = c.loop-index.columns.items in let rest = c.loop-index.rest.now in
    let (_, none) = all_columns ps (map buffers_view items) (c.args.bytes.now ++ more)
    (rest ++ more) [] c.loop-index.invariant.each all
    (goes_behind (columns_bytes (map buffers_view items)) rest c.args.bytes.now more
    c.loop-index.invariant.read)
    (omega (arith, size, c.loop-index.invariant.count, length-map items buffers_view))
    (written ∙ sym (append-nil (columns_bytes ps))) in
    some (none_more rest more none)

pub returns-clause-cut : goal.returns-clause-cut
returns-clause-cut c ps more all size written some =
    let items = c.loop-index.columns.items in let rest = c.loop-index.rest.now in
    let (_, none) = all_columns ps (map buffers_view items) (c.args.bytes.now ++ more)
    (rest ++ more) [] c.loop-index.invariant.each all
    (goes_behind (columns_bytes (map buffers_view items)) rest c.args.bytes.now more
    c.loop-index.invariant.read)
    (omega (arith, size, c.loop-index.invariant.count, length-map items buffers_view))
    (written ∙ sym (append-nil (columns_bytes ps))) in
    absurd (some (none_more rest more none))
