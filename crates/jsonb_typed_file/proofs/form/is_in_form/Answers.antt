use Rattle.std.proofs.Common.{rules, map, None, subst}
use Rattle.std.specs.Prelude.{IsTrue}
use Rattle.jsonb_typed_file.specs.File.{AscendNames, HaveTexts, row_count}
use Rattle.jsonb_typed_file.specs.Views.{buffers_view, layout_view}
use Rattle.jsonb_typed_file.proofs.form.is_in_form.Goals as goal

pub returns : goal.returns
returns c =
    let held : IsTrue c.are_in_form.result = search rules in
    let columns = c.are_in_form.ensures.0 held in (
      λ told. record {
        names = subst (λ cs. AscendNames None (map buffers_view cs)) c.deref.ensures.value
            columns.0;
        texts = subst
            (λ cs. HaveTexts (row_count (layout_view c.args.layout.now)) (map buffers_view cs))
            c.deref.ensures.value columns.1;
        rests = c.are_documents.ensures.0 told;
      },
      λ form. c.are_documents.ensures.1 form.rests,
    )
