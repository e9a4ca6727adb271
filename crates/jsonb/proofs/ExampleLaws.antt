-- The examples, by computing.
use Rattle.std.proofs.Common.{refl, lit<, ◌∙◌}
use Rattle.std.specs.Str.{chars, is_utf8}
use Rattle.std.proofs.lemmas.Str.{IsUtf8-from_is_utf8}
use Rattle.std.specs.Fmt.{digits}
use Rattle.jsonb_value.specs.declared.parser.number.Exponents.TheVariants.{Forbidden}
use Rattle.jsonb_value.specs.Reader.Reading.{read_value, read_items, read_members}
use Rattle.jsonb_value.proofs.Json.ValueLaws.{document-found}
use Rattle.jsonb_value.proofs.Json.Documents.{nothing_read}
use Rattle.jsonb_codec.specs.WordBytes.{word}
use Rattle.jsonb_codec.proofs.ExampleLaws.{container_documents, no_documents, scalar_documents}
use Rattle.jsonb.specs.Kind.{kind}
use Rattle.jsonb.specs.Entry.{entry_at}
use Rattle.jsonb.specs.Item.{item_in, item_of, scalar_item}
use Rattle.jsonb.specs.Walk.{count_under}
use Rattle.jsonb.specs.Examples.{BuiltExamples, ItemExamples, KindExamples, LookupExamples}
use Rattle.jsonb.specs.Examples.{MeaningExamples}
use Rattle.jsonb.proofs.ItemMeaningLaws.{meaning_of-document, meaning_of-other}
use Rattle.jsonb.proofs.TextLaws.{display_text-Doc, display_text-other, other_text-short}
use Rattle.jsonb.proofs.TextLaws.{pretty_display_text-Doc, pretty_display_text-other}

pub kinds : KindExamples
unfolding kind
kinds = record {
  of_array = refl;
  of_object = refl;
  of_string = refl;
  of_text = refl;
  of_container = refl;
  of_no_kind = refl;
  of_no_bytes = refl;
  of_no_entry = refl;
  null_highest = refl;
  extension_lowest = refl;
  both_null = refl;
  both_arrays = refl;
}

pub items : ItemExamples
unfolding item_in item_of scalar_item entry_at count_under
items = record {
  of_true = refl;
  of_array = refl;
  past_the_end = refl;
  type_seven = refl;
  of_items = refl;
  error_last = refl;
  of_other_kind = refl;
}

pub look_ups : LookupExamples
look_ups = record {
  second = refl;
  first = refl;
  nothing = refl;
  of_length = refl;
  in_array = refl;
  reads_of_second = refl;
  reads_of_first = refl;
  reads_of_nothing = refl;
  reads_in_scalar = refl;
}

pub meanings : MeaningExamples
unfolding is_utf8 chars lib.Utf8.encode digits
meanings = record {
  of_document = meaning_of-document _ _ container_documents.of_no_items;
  of_other_bytes = meaning_of-other _ no_documents.entries_cut;
  document_first = rw (
    meaning_of-document _ _ container_documents.of_no_items,
    meaning_of-other _ no_documents.no_bytes,
  ) refl;
  text_of_document = display_text-Doc _ _ container_documents.of_two_members;
  text_of_text = display_text-other _ no_documents.text_of_digits
      ∙ other_text-short _ (IsUtf8-from_is_utf8 _ refl) (λ e. cc);
  text_of_no_bytes = display_text-other _ no_documents.no_bytes;
  lines_of_document = pretty_display_text-Doc _ _ container_documents.of_two_members;
  lines_of_text = pretty_display_text-other _ no_documents.text_of_digits;
}

pub built : BuiltExamples
unfolding word chars read_value read_items read_members
built = record {
  no_items = refl;
  two_items = refl;
  two_pairs = refl;
  by_keys = refl;
  rewritten = (_, (scalar_documents.of_old_decimal, (lit< tt, refl)));
  not_rewritten = λ t d fits. no_documents.entries_cut (t, d);
  parsed = (
    _,
    (
      document-found Forbidden _ _ refl,
      ((lit< tt, ((lit< tt, (tt, lit< tt)), ((lit< tt, (tt, lit< tt)), tt))), refl),
    ),
  );
  not_parsed = λ t. nothing_read Forbidden _ t refl;
}
